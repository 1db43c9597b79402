-- each ticket is settled once, from any world on where nothing waits: the model proves it from a link's opening (`settles_each_command_once`), and keeps
-- what leads there to itself
use Rattle.std.proofs.Common.{◌≡◌, ℕ, suc, ◌+◌, ◌-◌, ◌≤◌, inl, Bool, true, false, ◌||◌, cond, Option, Some, None, List, [], ◌∷◌, ◌++◌, refl, sym, ◌∙◌, ap, subst, arith, append_assoc}
use Rattle.std.proofs.lemmas.Bool.{cond_both, eqb-true}
use Rattle.std.proofs.lemmas.List.{append-nil}
use Rattle.jdwp_layout.specs.declared.answer.Answer.{Answer}
use Rattle.jdwp_end.specs.declared.phase.Phase.{Phase}
use Rattle.jdwp_end.specs.declared.phase.Phase.TheVariants.{Closed, AwaitingHandshake, Established}
use Rattle.jdwp_event.specs.Composites.{CompositeMeaning}
use Rattle.jdwp_event.specs.Told.{is_vm_death}
use Rattle.jdwp_machine.specs.Meanings.{Meaning}
use Rattle.jdwp_debuggee.specs.Settings.{Settings}
use Rattle.jdwp_debuggee.specs.State.{Moment}
use Rattle.jdwp_action.specs.Actions.{Command}
use Rattle.jdwp_debuggee.specs.Effects.{effect}
use Rattle.jdwp_debuggee.specs.Steps.{occurs}
use Rattle.jdwp_mirror.specs.Messages.{Ticket, same_ticket, Call, Greets, Asks, Handshake, Reply, Report, id_sizes}
use Rattle.jdwp_mirror.specs.Mirror.{ends, COUNT_MOST}
use Rattle.jdwp_mirror.specs.Faults.{Fault, is_waited_for, fault_of}
use Rattle.jdwp_model.specs.Events
use Rattle.jdwp_model.specs.Events.{LinkEvent, AskRefusal, Outcome}
use Rattle.jdwp_model.specs.World.{Measure, is_closed, Packet, World}
use Rattle.jdwp_model.specs.Next.{steps_now, attached, may_attach, attaches, ask_refusal, ask_by, target_loses, greets_by, dies_by, answers, carries_out, defers, defers_or, target_takes, target_handles, target_turn_at, releases_at, lost_tickets, debugger_closed, debugger_loses, closes_by, without_ticket, has_end, composites_of, answered, reads_handshake, reads_reply, reads_composite, reads, reader, debugger_handles, debugger_takes, debugger_turn_at, with_report, step_ends, next, run, outcomes}
use Rattle.jdwp_model.specs.Tickets.{settled, tickets, tickets_to, times}
use Rattle.jdwp_model.specs.Rests.{Rests}
use Rattle.jdwp_model.proofs.Session.{replies}
use Rattle.jdwp_model.proofs.Waiting.{In, waited}
use Rattle.jdwp_model.proofs.Fronts.{by_target_front, by_release_front, by_debugger_front}
use Rattle.jdwp_model.proofs.Keeps.{Inv, keeps}
use Rattle.jdwp_across.proofs.Served.{AreBounds}

settled-append : (xs ys : List Outcome) → settled (xs ++ ys) ≡ settled xs ++ settled ys
settled-append [] ys = refl
settled-append (Events.Answered k x ∷ xs) ys = ap (λ l. k ∷ l) (settled-append xs ys)
settled-append (Events.Lost k ∷ xs) ys = ap (λ l. k ∷ l) (settled-append xs ys)
settled-append (Events.Asked k ∷ xs) ys = settled-append xs ys
settled-append (Events.Refused r ∷ xs) ys = settled-append xs ys
settled-append (Events.Seen c ∷ xs) ys = settled-append xs ys

settled-lost : (ps : List (Ticket × Command)) → settled (lost_tickets ps) ≡ tickets ps
settled-lost [] = refl
settled-lost ((Some k, c) ∷ ps) = ap (λ l. k ∷ l) (settled-lost ps)
settled-lost ((None, c) ∷ ps) = settled-lost ps

settled-composites : {S : Type 0} (ps : List (Packet S)) → settled (composites_of ps) ≡ []
settled-composites [] = refl
settled-composites ((Report c, a) ∷ ps) = settled-composites ps
settled-composites ((Reply k c x, a) ∷ ps) = settled-composites ps
settled-composites ((Handshake, a) ∷ ps) = settled-composites ps

tickets-append : (xs ys : List (Ticket × Command)) → tickets (xs ++ ys) ≡ tickets xs ++ tickets ys
tickets-append [] ys = refl
tickets-append ((Some k, c) ∷ xs) ys = ap (λ l. k ∷ l) (tickets-append xs ys)
tickets-append ((None, c) ∷ xs) ys = tickets-append xs ys

tickets-more : (n : ℕ) → tickets_to (n + 1) ≡ tickets_to n ++ (n + 1) ∷ []
tickets-more n = let e : n + 1 ≡ suc n = omega arith in subst (λ k. tickets_to k ≡ tickets_to n ++ k ∷ []) (sym e) refl

times-append : (k : ℕ) (xs ys : List ℕ) → times k (xs ++ ys) ≡ times k xs + times k ys
times-append k [] ys = omega arith
times-append k (x ∷ xs) ys = omega (arith, times-append k xs ys)

-- ---- the same tickets, in order or as often

-- Two lists of tickets are alike by R.
pub record Likens (R : List ℕ → List ℕ → Type 0) : Type 0 where
  pub same : (xs ys : List ℕ) → xs ≡ ys → R xs ys
  pub along : (xs ys zs : List ℕ) → R xs ys → R ys zs → R xs zs
  pub behind : (xs ys zs : List ℕ) → R ys zs → R (xs ++ ys) (xs ++ zs)
  pub before : (xs ys zs : List ℕ) → R xs ys → R (xs ++ zs) (ys ++ zs)

abbrev AsOften : List ℕ → List ℕ → Type 0
AsOften xs ys = (k : ℕ) → times k xs ≡ times k ys

as-often : Likens AsOften
as-often = record {
  same = λ xs ys e k. ap (times k) e;
  along = λ xs ys zs d e k. d k ∙ e k;
  behind = λ xs ys zs e k. times-append k xs ys ∙ (ap (λ n. times k xs + n) (e k) ∙ sym (times-append k xs zs));
  before = λ xs ys zs e k. times-append k xs zs ∙ (ap (λ n. n + times k zs) (e k) ∙ sym (times-append k ys zs));
}

-- What an event settles, and which ticket it gives.
pub record Settles {S : Type 0} (R : List ℕ → List ℕ → Type 0) (w : World S) (r : World S × List Outcome) : Type 0 where
  pub new : List ℕ
  pub same : R (settled r.1 ++ tickets r.0.pending) (tickets w.pending ++ new)
  pub given : tickets_to r.0.asked ≡ tickets_to w.asked ++ new

-- A reply that is read settles the command of its ticket.
abbrev SettlesReplied : {S : Type 0} → (List ℕ → List ℕ → Type 0) → World S → Type 0
SettlesReplied {S} R w =
    (k : Ticket) (c : Command) (x : Answer) (a : Moment S) (rest : List (Packet S)) → is_closed w.debugger ≡ false → w.to_debugger ≡ (Reply k c x, a) ∷ rest →
    R (settled (answered k x) ++ tickets (without_ticket k w.pending)) (tickets w.pending)

-- nothing is asked and nothing is settled
pub record Stays {S : Type 0} (w v : World S) : Type 0 where
  pub pending : v.pending ≡ w.pending
  pub asked : v.asked ≡ w.asked

itself : {S : Type 0} (w : World S) → Stays w w
itself w = record { pending = refl; asked = refl }

-- no ticket is given
settles : {S : Type 0} (R : List ℕ → List ℕ → Type 0) → Likens R → (w : World S) (r : World S × List Outcome) → R (settled r.1 ++ tickets r.0.pending) (tickets w.pending) → r.0.asked ≡ w.asked → Settles R w r
settles R l w r s a = record { new = []; same = l.along _ _ _ s (l.same _ _ (sym (append-nil (tickets w.pending)))); given = ap tickets_to a ∙ sym (append-nil (tickets_to w.asked)) }

stays : {S : Type 0} (R : List ℕ → List ℕ → Type 0) → Likens R → (w v : World S) → Stays w v → Settles R w (v, [])
stays R l w v s = settles R l w (v, []) (l.same _ _ (ap tickets s.pending)) s.asked

stays-greets : {S : Type 0} (settings : Settings) (w : World S) (b : Bool) → Stays w (greets_by settings w b)
stays-greets settings w true = record { pending = refl; asked = refl }
stays-greets settings w false = record { pending = refl; asked = refl }

stays-dies : {S : Type 0} (w : World S) (b : Bool) → Stays w (dies_by w b)
stays-dies w true = record { pending = refl; asked = refl }
stays-dies w false = record { pending = refl; asked = refl }

stays-command : {S : Type 0} (m : Meaning S) (settings : Settings) (w v : World S) (k : Ticket) (c : Command) → v.pending ≡ w.pending → v.asked ≡ w.asked → Stays w (carries_out m settings v k c)
stays-command m settings w v k c p a =
    let s = stays-dies (answers v k c (effect m settings v.now c)) (effect m settings v.now c).dies in
    record { pending = s.pending ∙ p; asked = s.asked ∙ a }

stays-handles : {S : Type 0} (m : Meaning S) (settings : Settings) (measure : Measure) (w : World S) (rest : List Call) (phase : Phase) (call : Call) → Stays w (target_handles m settings measure w rest phase call)
stays-handles m settings measure w rest AwaitingHandshake Greets = let s = stays-greets settings (target_takes measure w Greets rest) w.now.state.handshaken in record { pending = s.pending; asked = s.asked }
stays-handles m settings measure w rest Established (Asks k c) =
    let v = target_takes measure w (Asks k c) rest in
    elim (defers w c) as (λ b. Stays w (defers_or m settings v k c b)) [ true ↦ record { pending = refl; asked = refl } | false ↦ stays-command m settings w v k c refl refl ]
stays-handles m settings measure w rest phase call = record { pending = refl; asked = refl }

stays-ends : {S : Type 0} (w : World S) (phase : Phase) (b : Bool) → Stays w (step_ends w phase b)
stays-ends w phase false = itself w
stays-ends w Established true = record { pending = refl; asked = refl }
stays-ends w AwaitingHandshake true = record { pending = refl; asked = refl }
stays-ends w Closed true = record { pending = refl; asked = refl }

stays-told : {S : Type 0} (w : World S) (after : Moment S) (o : Option CompositeMeaning) (phase : Phase) (b : Bool) → Stays w (step_ends (with_report w after o) phase b)
stays-told w after None phase b = let s = stays-ends (with_report w after None) phase b in record { pending = s.pending; asked = s.asked }
stays-told w after (Some c) phase b = let s = stays-ends (with_report w after (Some c)) phase b in record { pending = s.pending; asked = s.asked }

-- ---- the debugger's turn

closes : {S : Type 0} (R : List ℕ → List ℕ → Type 0) → Likens R → (w v : World S) (os : List Outcome) (b : Bool) → R (settled os ++ tickets v.pending) (tickets w.pending) → v.asked ≡ w.asked → Settles R w (closes_by v os b)
closes R l w v os false s a = settles R l w (v, os) s a
closes R l w v os true s a =
    settles R l w (debugger_closed v, os ++ lost_tickets v.pending)
    (l.along _ _ _ (l.same _ _ (append-nil _ ∙ (settled-append os (lost_tickets v.pending) ∙ ap (λ l. settled os ++ l) (settled-lost v.pending)))) s) a

settles-composite : {S : Type 0} (R : List ℕ → List ℕ → Type 0) → Likens R → (w : World S) (n : ℕ) (c : CompositeMeaning) (a : Moment S) (rest : List (Packet S)) (b : Bool) → Settles R w (reads_composite (record w { to_debugger = rest; at_debugger = n }) (Report c, a) c b)
settles-composite R l w n c a rest false = settles R l w (record w { to_debugger = rest; at_debugger = n; parked = w.parked ++ (Report c, a) ∷ [] }, []) (l.same _ _ refl) refl
settles-composite R l w n c a rest true = closes R l w (record w { to_debugger = rest; at_debugger = n; read = (Report c, a) ∷ w.read }) (Events.Seen c ∷ []) (is_vm_death c) (l.same _ _ refl) refl

settles-reads : {S : Type 0} (R : List ℕ → List ℕ → Type 0) → Likens R → (w : World S) (n : ℕ) (p : Packet S) (rest : List (Packet S)) → SettlesReplied R w → is_closed w.debugger ≡ false → w.to_debugger ≡ p ∷ rest → Settles R w (reads (record w { to_debugger = rest; at_debugger = n }) p)
settles-reads R l w n (Handshake, a) rest s o e =
    settles R l w (reads_handshake (record w { to_debugger = rest; at_debugger = n }) (Handshake, a), []) (l.same _ _ (tickets-append w.pending ((None, id_sizes) ∷ []) ∙ append-nil (tickets w.pending))) refl
settles-reads R l w n (Reply k c x, a) rest s o e =
    let f : settled (composites_of w.parked ++ answered k x) ≡ settled (answered k x) = settled-append (composites_of w.parked) (answered k x) ∙ ap (λ l. l ++ settled (answered k x)) (settled-composites w.parked) in
    closes R l w (reads_reply (record w { to_debugger = rest; at_debugger = n }) (Reply k c x, a) k) (composites_of w.parked ++ answered k x) (ends (Reply k c x) || has_end w.parked)
    (l.along _ _ _ (l.same _ _ (ap (λ l. l ++ tickets (without_ticket k w.pending)) f)) (s k c x a rest o e)) refl
settles-reads R l w n (Report c, a) rest s o e = settles-composite R l w n c a rest w.ready

settles-handles : {S : Type 0} (R : List ℕ → List ℕ → Type 0) → Likens R → (measure : Measure) (w : World S) (p : Packet S) (rest : List (Packet S)) (f : Option Fault) → SettlesReplied R w → is_closed w.debugger ≡ false → w.to_debugger ≡ p ∷ rest → Settles R w (debugger_handles (debugger_takes measure w p rest) p f)
settles-handles R l measure w p rest (Some f) s o e = settles R l w (debugger_loses (debugger_takes measure w p rest)) (l.same _ _ (append-nil _ ∙ settled-lost w.pending)) refl
settles-handles R l measure w p rest None s o e = settles-reads R l w (w.at_debugger - measure.message p.0) p rest s o e

-- ---- all events

settles-ask : {S : Type 0} (R : List ℕ → List ℕ → Type 0) → Likens R → (w : World S) (c : Command) (r : Option AskRefusal) → Settles R w (ask_by w c r)
settles-ask R l w c (Some r) = settles R l w (w, Events.Refused r ∷ []) (l.same _ _ refl) refl
settles-ask R l w c None = record { new = (w.asked + 1) ∷ []; same = l.same _ _ (tickets-append w.pending ((Some (w.asked + 1), c) ∷ [])); given = tickets-more w.asked }

settles_next : {S : Type 0} (R : List ℕ → List ℕ → Type 0) → Likens R → (m : Meaning S) (settings : Settings) (measure : Measure) (w : World S) (e : LinkEvent) → SettlesReplied R w → Settles R w (next m settings measure w e)
settles_next R l m settings measure w Events.Attach s = stays R l w (attaches w) (cond_both (may_attach w) (attached w) w (Stays w) (λ _. record { pending = refl; asked = refl }) (λ _. itself w))
settles_next R l m settings measure w (Events.Ask c) s = settles-ask R l w c (ask_refusal settings measure w c)
settles_next R l m settings measure w (Events.ToTarget n) s = stays R l w _ (cond_both (is_closed w.target) w _ (Stays w) (λ _. itself w) (λ _. record { pending = refl; asked = refl }))
settles_next R l m settings measure w (Events.ToDebugger n) s = stays R l w _ (cond_both (is_closed w.debugger) w _ (Stays w) (λ _. itself w) (λ _. record { pending = refl; asked = refl }))
settles_next R l m settings measure w Events.TargetTurn s =
    stays R l w _ (by_target_front settings measure w (λ o. Stays w (target_turn_at m settings measure w o)) (itself w) (λ call rest _ _. stays-handles m settings measure w rest w.target call))
settles_next R l m settings measure w Events.DebuggerTurn s =
    by_debugger_front settings measure w (λ o. Settles R w (debugger_turn_at measure w o)) (stays R l w w (itself w)) (λ p rest o e. settles-handles R l measure w p rest (fault_of (reader w) p.0) s o e)
settles_next R l m settings measure w (Events.Step t) s =
    stays R l w _ (cond_both (steps_now m settings measure w t) _ _ (Stays w) (λ _. stays-told w (occurs m w.now t).after (occurs m w.now t).sends w.target (occurs m w.now t).dies) (λ _. itself w))
settles_next R l m settings measure w Events.TargetLoses s = stays R l w (target_loses w) (record { pending = refl; asked = refl })
settles_next R l m settings measure w Events.DebuggerLoses s = settles R l w (debugger_loses w) (l.same _ _ (append-nil _ ∙ settled-lost w.pending)) refl
settles_next R l m settings measure w (Events.Defer deferring) s = stays R l w _ (record { pending = refl; asked = refl })
settles_next R l m settings measure w (Events.Release place) s =
    stays R l w _ (by_release_front settings measure w place (λ o. Stays w (releases_at m settings w o)) (itself w) (λ k c rest _ _. stays-command m settings w (record w { deferred = rest }) k c refl refl))

-- ---- whole runs

-- What has to hold of a link and the events to come, so that each reply that is read settles its command.
record Goes {S : Type 0} (R : List ℕ → List ℕ → Type 0) (m : Meaning S) (settings : Settings) (measure : Measure) (P : World S → List LinkEvent → Type 0) : Type 0 where
  replied : (w : World S) (e : LinkEvent) (es : List LinkEvent) → P w (e ∷ es) → SettlesReplied R w
  on : (w : World S) (e : LinkEvent) (es : List LinkEvent) → P w (e ∷ es) → P (next m settings measure w e).0 es

settles-run : {S : Type 0} (R : List ℕ → List ℕ → Type 0) → Likens R → (m : Meaning S) (settings : Settings) (measure : Measure) (P : World S → List LinkEvent → Type 0) → Goes R m settings measure P → (w : World S) (es : List LinkEvent) (before : List ℕ) → P w es → R (before ++ tickets w.pending) (tickets_to w.asked) → R (before ++ (settled (outcomes m settings measure w es) ++ tickets (run m settings measure w es).pending)) (tickets_to (run m settings measure w es).asked)
settles-run R l m settings measure P g w [] before p h = h
settles-run R l m settings measure P g w (e ∷ es) before p h =
    let s = settles_next R l m settings measure w e (g.replied w e es p) in
    let v = (next m settings measure w e).0 in
    let o : List Outcome = (next m settings measure w e).1 in
    let later : List Outcome = outcomes m settings measure v es in
    let left : List ℕ = tickets (run m settings measure w (e ∷ es)).pending in
    let moved : R (before ++ (settled o ++ tickets v.pending)) (before ++ (tickets w.pending ++ s.new)) = l.behind before _ _ s.same in
    let more : R ((before ++ tickets w.pending) ++ s.new) (tickets_to w.asked ++ s.new) = l.before _ _ s.new h in
    let here : R ((before ++ settled o) ++ tickets v.pending) (tickets_to v.asked) =
    l.along _ _ _ (l.same _ _ (append_assoc before (settled o) (tickets v.pending)))
    (l.along _ _ _ moved (l.along _ _ _ (l.same _ _ (sym (append_assoc before (tickets w.pending) s.new))) (l.along _ _ _ more (l.same _ _ (sym s.given))))) in
    let rest = settles-run R l m settings measure P g v es (before ++ settled o) (g.on w e es p) here in
    l.along _ _ _ (l.same _ _ (ap (λ l. before ++ (l ++ left)) (settled-append o later) ∙ (ap (λ l. before ++ l) (append_assoc (settled o) (settled later) left) ∙ sym (append_assoc before (settled o) (settled later ++ left))))) rest

-- ---- each once

same-is : (i k : Ticket) → same_ticket i k ≡ true → i ≡ k
same-is None None h = refl
same-is (Some i) (Some j) h = ap Some (eqb-true i j h)
same-is None (Some j) h = absurd (cc)
same-is (Some i) None h = absurd (cc)

ticket-first : (n : ℕ) (i : Ticket) (c : Command) (x : Answer) (ps : List (Ticket × Command)) → times n (tickets ((i, c) ∷ ps)) ≡ times n (settled (answered i x)) + times n (tickets ps)
ticket-first n None c x ps = omega arith
ticket-first n (Some i) c x ps = omega arith

-- a command under this ticket is settled
answered-one : (n : ℕ) (k : Ticket) (x : Answer) (ps : List (Ticket × Command)) → is_waited_for k ps ≡ true → times n (settled (answered k x)) + times n (tickets (without_ticket k ps)) ≡ times n (tickets ps)
answered-one n k x [] h = absurd (cc)
answered-one n k x ((i, c) ∷ ps) h =
    elim (same_ticket i k) as (λ b. same_ticket i k ≡ b → (b || is_waited_for k ps) ≡ true → times n (settled (answered k x)) + times n (tickets (cond b ps ((i, c) ∷ without_ticket k ps))) ≡ times n (tickets ((i, c) ∷ ps))) [
      | true ↦ λ e _. let f = ticket-first n k c x ps in let g : times n (tickets ((i, c) ∷ ps)) ≡ times n (tickets ((k, c) ∷ ps)) = ap (λ (j : Ticket). times n (tickets ((j, c) ∷ ps))) (same-is i k e) in omega arith
      | false ↦ λ _ l. let q = answered-one n k x ps l in let f = ticket-first n i c x ps in let g = ticket-first n i c x (without_ticket k ps) in omega arith
    ] refl h

once-goes : {S : Type 0} (m : Meaning S) → Rests m → (settings : Settings) → 1 ≤ settings.count_limit → settings.count_limit ≤ COUNT_MOST → (measure : Measure) → Goes AsOften m settings measure (λ w es. Inv m settings w)
once-goes m rests settings least most measure =
    record {
      replied = λ w e es i k c x a rest o q n.
          times-append n (settled (answered k x)) (tickets (without_ticket k w.pending))
          ∙ answered-one n k x w.pending (waited k c w.pending ((i.debugger.session o).waits.in_replied (k, c) (subst (λ l. In (replies l) (k, c)) (sym q) (inl refl))));
      on = λ w e es i. keeps m rests settings least most measure w e i;
    }

pub settles-on : {S : Type 0} (m : Meaning S) → Rests m → (settings : Settings) → AreBounds settings → (measure : Measure) (w : World S) (es : List LinkEvent) (k : ℕ) → Inv m settings w → w.pending ≡ []
    → times k (tickets_to w.asked ++ (settled (outcomes m settings measure w es) ++ tickets (run m settings measure w es).pending)) ≡ times k (tickets_to (run m settings measure w es).asked)
settles-on m rests settings b measure w es k i none =
    settles-run AsOften as-often m settings measure _ (once-goes m rests settings b.least b.most measure) w es (tickets_to w.asked) i
    (λ j. ap (λ ps. times j (tickets_to w.asked ++ tickets ps)) none ∙ ap (times j) (append-nil (tickets_to w.asked))) k
