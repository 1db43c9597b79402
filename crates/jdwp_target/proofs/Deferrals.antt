-- What came was answered, is deferred, or was dropped; and no more are deferred than may be.
use Rattle.std.proofs.Common.{◌≡◌, ◌∙◌, ℕ, zero, suc, ◌+◌, ◌<◌, ◌≤◌, Bool, true, false, ◌&&◌, cond, Option, Some, None, List, [], ◌∷◌, ◌++◌, length, refl, sym, ap, subst, arith, append_assoc}
use Rattle.std.specs.Prelude.{IsPermutation, nat_lt}
use Rattle.std.specs.List.{AllByRecursion}
use Rattle.std.proofs.lemmas.Bool.{ltb-true}
use Rattle.std.proofs.lemmas.List.{length-append}
use Rattle.std.proofs.lemmas.List.Sorted.{IsPermutation-refl, IsPermutation-cons, IsPermutation-append_left, IsPermutation-append_right, IsPermutation-trans, IsPermutation-middle, IsPermutation-append_comm, length_permutation}
use Rattle.jdwp_wire.specs.Streams.{Message, Handshake, Packet}
use Rattle.jdwp_wire.specs.declared.packet.PacketKind.{PacketKind}
use Rattle.jdwp_wire.specs.declared.packet.PacketKind.TheVariants as kind
use Rattle.jdwp_end.specs.Ends.{is_established_phase}
use Rattle.jdwp_machine.specs.Meanings.{Meaning}
use Rattle.jdwp_debuggee.specs.Settings.{Settings}
use Rattle.jdwp_target.specs.ReleaseLaws.{deferred-ones}
use Rattle.jdwp_debuggee.specs.Deferring.{MOST_DEFERRED, beside, is_deferrable, released_at}
use Rattle.jdwp_target.specs.Standings.{Handles, Steps, Loses, Reaction, handled, react}
use Rattle.jdwp_target.specs.Deeds.{AnswersWhatCame, Deed, DefersFew, Does, FullStanding, MayBeDeferred, Performance, Releases, SetsDeferring, StaysFew, acts_in, after, answered, behind_reaction, defers, defers_kind, dropped, handles_where, perform, releases_by}

same-order : (xs ys : List Message) → xs ≡ ys → IsPermutation xs ys
same-order xs ys e = subst (IsPermutation xs) e (IsPermutation-refl xs)

-- what is dropped stands behind
dropped-behind : (b a c d : List Message) → IsPermutation (b ++ (a ++ (c ++ d))) (a ++ (c ++ (b ++ d)))
dropped-behind b a c d =
    IsPermutation-trans (b ++ (a ++ (c ++ d))) ((a ++ (c ++ d)) ++ b) (a ++ (c ++ (b ++ d))) (IsPermutation-append_comm b (a ++ (c ++ d)))
    (IsPermutation-trans ((a ++ (c ++ d)) ++ b) (a ++ (c ++ (d ++ b))) (a ++ (c ++ (b ++ d)))
    (same-order _ _ (append_assoc a (c ++ d) b ∙ ap (λ l. a ++ l) (append_assoc c d b)))
    (IsPermutation-append_right a (c ++ (d ++ b)) (c ++ (b ++ d)) (IsPermutation-append_right c (d ++ b) (b ++ d) (IsPermutation-append_comm d b))))

-- what is deferred stays so, or is dropped where the session is over
by-phase : (goes_on : Bool) (b off a c d : List Message) → IsPermutation (cond goes_on b [] ++ off) (a ++ (c ++ d)) → IsPermutation (b ++ off) (a ++ (c ++ (cond goes_on [] b ++ d)))
by-phase true b off a c d h = h
by-phase false b off a c d h =
    IsPermutation-trans (b ++ off) (b ++ (a ++ (c ++ d))) (a ++ (c ++ (b ++ d))) (IsPermutation-append_right b off (a ++ (c ++ d)) h) (dropped-behind b a c d)

-- the one that is released and the others are all of them
with-beside : (p : Message) (o : Option (Message × List Message)) (b : List Message) → ((x : Message) (rest : List Message) → o ≡ Some (x, rest) → IsPermutation b (x ∷ rest)) → (x : Message) (rest : List Message)
    → beside p o ≡ Some (x, rest) → IsPermutation (p ∷ b) (x ∷ rest)
with-beside p None b h x rest e = absurd (cc)
with-beside p (Some (q, qs)) b h x rest e =
    let y : (q, p ∷ qs) ≡ (x, rest) = cc in
    subst (λ (o : Message × List Message). IsPermutation (p ∷ b) (o.0 ∷ o.1)) y
    (IsPermutation-trans (p ∷ b) (p ∷ q ∷ qs) (q ∷ p ∷ qs) (IsPermutation-cons p b (q ∷ qs) (h q qs refl)) (IsPermutation-middle (p ∷ []) q qs))

released-one : (n : ℕ) (b : List Message) (x : Message) (rest : List Message) → released_at n b ≡ Some (x, rest) → IsPermutation b (x ∷ rest)
released-one zero [] x rest e = absurd (cc)
released-one (suc n) [] x rest e = absurd (cc)
released-one zero (p ∷ ps) x rest e =
    let y : (p, ps) ≡ (x, rest) = cc in
    subst (λ (o : Message × List Message). IsPermutation (p ∷ ps) (o.0 ∷ o.1)) y (IsPermutation-refl (p ∷ ps))
released-one (suc n) (p ∷ ps) x rest e = with-beside p (released_at n ps) ps (released-one n ps) x rest e

-- ---- what a deed adds

abbrev Adds : {S : Type 0} → List Message → List Message → Performance S → Type 0
Adds deferred came p = (off a c d : List Message) → IsPermutation (p.after.deferred ++ off) (a ++ (c ++ d)) → IsPermutation (deferred ++ (came ++ off)) ((p.answered ++ a) ++ (c ++ (p.dropped ++ d)))

adds-none : {S : Type 0} (now : FullStanding S) (r : Reaction S) → Adds now.deferred [] (behind_reaction now [] r)
adds-none now r off a c d h = by-phase (is_established_phase r.after.phase) now.deferred off a c d h

-- a message that came, or was deferred, is answered
adds-one : {S : Type 0} (now : FullStanding S) (whole came : List Message) (x : Message) (r : Reaction S) → ((off : List Message) → IsPermutation (whole ++ (came ++ off)) (x ∷ (now.deferred ++ off)))
    → Adds whole came (behind_reaction now (x ∷ []) r)
adds-one now whole came x r e off a c d h =
    let goes_on = is_established_phase r.after.phase in
    IsPermutation-trans (whole ++ (came ++ off)) (x ∷ (now.deferred ++ off)) (x ∷ (a ++ (c ++ (cond goes_on [] now.deferred ++ d)))) (e off)
    (IsPermutation-cons x (now.deferred ++ off) (a ++ (c ++ (cond goes_on [] now.deferred ++ d))) (by-phase goes_on now.deferred off a c d h))

adds-handled : {S : Type 0} (m : Meaning S) (settings : Settings) (now : FullStanding S) (x : Message) (b : Bool) → Adds now.deferred (x ∷ []) (handles_where m settings now x b)
adds-handled m settings now x true = λ off a c d h. subst (λ l. IsPermutation l (a ++ (c ++ d))) (append_assoc now.deferred (x ∷ []) off) h
adds-handled m settings now x false = adds-one now now.deferred (x ∷ []) x (react m settings now.standing (Handles x)) (λ off. IsPermutation-middle now.deferred x off)

adds-released : {S : Type 0} (m : Meaning S) (settings : Settings) (now : FullStanding S) (place : ℕ) (o : Option (Message × List Message)) → released_at place now.deferred ≡ o → Adds now.deferred [] (releases_by m settings now o)
adds-released m settings now place None e = λ off a c d h. h
adds-released m settings now place (Some (x, rest)) e =
    adds-one (record now { deferred = rest }) now.deferred [] x (react m settings now.standing (Handles x))
    (λ off. IsPermutation-append_left off now.deferred (x ∷ rest) (released-one place now.deferred x rest e))

abbrev came : Deed → List Message
came (Does (Handles message)) = message ∷ []
came deed = []

adds-done : {S : Type 0} (m : Meaning S) (settings : Settings) (now : FullStanding S) (deed : Deed) → Adds now.deferred (came deed) (perform m settings now deed)
adds-done m settings now (Does (Handles message)) = adds-handled m settings now message (defers now message)
adds-done m settings now (Does (Steps t)) = adds-none now (react m settings now.standing (Steps t))
adds-done m settings now (Does Loses) = adds-none now (react m settings now.standing Loses)
adds-done m settings now (SetsDeferring b) = λ off a c d h. h
adds-done m settings now (Releases place) = adds-released m settings now place (released_at place now.deferred) refl

came-first : (deed : Deed) (deeds : List Deed) → handled (acts_in (deed ∷ deeds)) ≡ came deed ++ handled (acts_in deeds)
came-first (Does (Handles message)) deeds = refl
came-first (Does (Steps t)) deeds = refl
came-first (Does Loses) deeds = refl
came-first (SetsDeferring b) deeds = refl
came-first (Releases place) deeds = refl

pub answers-what-came : {S : Type 0} (m : Meaning S) → AnswersWhatCame m
answers-what-came m settings now [] = same-order _ _ refl
answers-what-came m settings now (deed ∷ deeds) =
    let next = (perform m settings now deed).after in
    subst (λ l. IsPermutation (now.deferred ++ l) (answered m settings now (deed ∷ deeds) ++ ((after m settings now (deed ∷ deeds)).deferred ++ dropped m settings now (deed ∷ deeds)))) (sym (came-first deed deeds))
    (adds-done m settings now deed (handled (acts_in deeds)) (answered m settings next deeds) (after m settings next deeds).deferred (dropped m settings next deeds) (answers-what-came m settings next deeds))

-- ---- how many are deferred

few-behind : {S : Type 0} (now : FullStanding S) (answered : List Message) (r : Reaction S) → AllByRecursion MayBeDeferred now.deferred → length now.deferred ≤ MOST_DEFERRED → DefersFew (behind_reaction now answered r).after
few-behind now answered r all h =
    elim (is_established_phase r.after.phase) as (λ b. is_established_phase r.after.phase ≡ b → DefersFew (record now { standing = r.after; deferred = cond b now.deferred [] })) [
      | true ↦ λ e. record { commands = all; few = h; none = λ x. absurd (cc) }
      | false ↦ λ _. record { commands = tt; few = omega arith; none = λ _. refl }
    ] refl

all-more : (xs : List Message) (x : Message) → AllByRecursion MayBeDeferred xs → MayBeDeferred x → AllByRecursion MayBeDeferred (xs ++ x ∷ [])
all-more [] x all one = (one, tt)
all-more (y ∷ ys) x all one = (all.0, all-more ys x all.1 one)

and-parts : (a b c d : Bool) → (a && (b && (c && d))) ≡ true → (a ≡ true) × (c ≡ true) × (d ≡ true)
and-parts true true true d h = (refl, refl, h)
and-parts false b c d h = absurd (cc)
and-parts true false c d h = absurd (cc)
and-parts true true false d h = absurd (cc)

-- what is put off is a command that came in an established session, and there is a place left
pub record PutOff {S : Type 0} (now : FullStanding S) (k : PacketKind) : Type 0 where
  pub established : is_established_phase now.standing.phase ≡ true
  pub room : length now.deferred < 16
  pub command : (set : ℕ) × (number : ℕ) × (k ≡ kind.Command set number) × (is_deferrable set ≡ true)

pub put-off-kind : {S : Type 0} (now : FullStanding S) (k : PacketKind) → defers_kind now k ≡ true → PutOff now k
put-off-kind now (kind.Command set number) e =
    let p = and-parts (is_established_phase now.standing.phase) now.deferring (is_deferrable set) (nat_lt (length now.deferred) MOST_DEFERRED) e in
    record { established = p.0; room = ltb-true (length now.deferred) 16 p.2; command = (set, number, refl, p.1) }
put-off-kind now (kind.Reply error) e = absurd (cc)

pub put-off-in-session : {S : Type 0} (now : FullStanding S) (x : Message) → defers now x ≡ true → is_established_phase now.standing.phase ≡ true
put-off-in-session now Handshake e = absurd (cc)
put-off-in-session now (Packet header body) e = (put-off-kind now header.kind e).established

few-handled : {S : Type 0} (m : Meaning S) (settings : Settings) (now : FullStanding S) (x : Message) (b : Bool) → DefersFew now → defers now x ≡ b → DefersFew (handles_where m settings now x b).after
few-handled m settings now x false h e = few-behind now (x ∷ []) (react m settings now.standing (Handles x)) h.commands h.few
few-handled m settings now Handshake true h e = absurd (cc)
few-handled m settings now (Packet header body) true h e =
    let p = put-off-kind now header.kind e in
    let x = Packet header body in
    let room = p.room in
    let longer = length-append now.deferred (x ∷ []) in
    record { commands = all-more now.deferred x h.commands p.command; few = omega arith; none = λ z. let y = p.established in absurd (cc) }

length-released : (n : ℕ) (b : List Message) (x : Message) (rest : List Message) → released_at n b ≡ Some (x, rest) → length rest + 1 ≡ length b
length-released n b x rest e = let h = length_permutation b (x ∷ rest) (released-one n b x rest e) in omega arith

few-released : {S : Type 0} (m : Meaning S) (settings : Settings) (now : FullStanding S) (place : ℕ) (o : Option (Message × List Message)) → DefersFew now → released_at place now.deferred ≡ o → DefersFew (releases_by m settings now o).after
few-released m settings now place None h e = h
few-released m settings now place (Some (x, rest)) h e =
    let l : length rest + 1 ≡ length now.deferred = length-released place now.deferred x rest e in
    let f = h.few in
    let g : length rest ≤ 16 = omega arith in
    few-behind (record now { deferred = rest }) (x ∷ []) (react m settings now.standing (Handles x)) (deferred-ones place now.deferred x rest h.commands e).1 g

few-done : {S : Type 0} (m : Meaning S) (settings : Settings) (now : FullStanding S) (deed : Deed) → DefersFew now → DefersFew (perform m settings now deed).after
few-done m settings now (Does (Handles message)) h = few-handled m settings now message (defers now message) h refl
few-done m settings now (Does (Steps t)) h = few-behind now [] (react m settings now.standing (Steps t)) h.commands h.few
few-done m settings now (Does Loses) h = few-behind now [] (react m settings now.standing Loses) h.commands h.few
few-done m settings now (SetsDeferring b) h = record { commands = h.commands; few = h.few; none = h.none }
few-done m settings now (Releases place) h = few-released m settings now place (released_at place now.deferred) h refl

pub stays-few : {S : Type 0} (m : Meaning S) → StaysFew m
stays-few m settings now [] h = h
stays-few m settings now (deed ∷ deeds) h = stays-few m settings (perform m settings now deed).after deeds (few-done m settings now deed h)
