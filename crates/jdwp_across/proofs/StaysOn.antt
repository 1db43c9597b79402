-- what was read of frames stays true, from any world on where a session begins: the model proves it from a link's opening (`frames_read_stay_true`), and
-- keeps what leads there to itself
use Rattle.std.proofs.Common.{◌≡◌, ℕ, ◌+◌, ◌-◌, ◌<◌, ◌≤◌, inl, inr, Bool, true, false, ◌||◌, ◌&&◌, not, cond, Option, Some, None, List, [], ◌∷◌, ◌++◌, refl, sym, ◌∙◌, ap, subst, arith, append_assoc}
use Rattle.std.proofs.lemmas.Bool.{cond_both}
use Rattle.jdwp_layout.specs.declared.answer.Answer.TheVariants.{Data}
use Rattle.jdwp_layout.specs.Meanings.{DatumMeaning}
use Rattle.jdwp_end.specs.declared.phase.Phase.{Phase}
use Rattle.jdwp_end.specs.declared.phase.Phase.TheVariants.{Closed, AwaitingHandshake, Established}
use Rattle.jdwp_end.specs.Ends.{is_established_phase}
use Rattle.jdwp_event.specs.Composites.{CompositeMeaning, vm_death}
use Rattle.jdwp_event.specs.Told.{is_vm_death}
use Rattle.jdwp_machine.specs.Meanings.{Meaning}
use Rattle.jdwp_debuggee.specs.Settings.{Settings}
use Rattle.jdwp_debuggee.specs.State.{Moment, count_or_zero, or_zero}
use Rattle.jdwp_action.specs.Actions.{Command, action_of}
use Rattle.jdwp_debuggee.specs.Effects.{effect}
use Rattle.jdwp_debuggee.specs.Steps.{occurs, may_step, start_event}
use Rattle.jdwp_debuggee.specs.Facts.{IsSound, Does, Told}
use Rattle.jdwp_mirror.specs.Messages.{Ticket, Call, Greets, Asks, Message, Handshake, Reply, Report}
use Rattle.jdwp_mirror.specs.Mirror.{ends}
use Rattle.jdwp_mirror.specs.Faults
use Rattle.jdwp_mirror.specs.Faults.{Fault, fault_of}
use Rattle.jdwp_model.specs.Events
use Rattle.jdwp_model.specs.Events.{LinkEvent, AskRefusal, Outcome}
use Rattle.jdwp_model.specs.World.{Measure, is_closed, Packet, World}
use Rattle.jdwp_model.specs.Next.{steps_now, attached, may_attach, attaches, ask_refusal, ask_by, target_loses, started, greets_by, after_death, dying, dies_by, answers, carries_out, defers, defers_or, target_takes, target_handles, target_turn_at, target_turn, releases_at, releases, closes_by, entered, has_end, composites_of, answered, reads_reply, reads_composite, reads, reader, debugger_handles, debugger_takes, debugger_turn_at, debugger_turn, with_report, step_ends, steps, next, run}
use Rattle.jdwp_model.specs.Seen.{seen_moment, unanswered, lowers, has_dispose}
use Rattle.jdwp_model.specs.Lasting.{asks_frames_of, writes, answers_write, has_write, IsAnswer, IsLasting, StaysTrue}
use Rattle.jdwp_model.specs.Rests.{Rests}
use Rattle.jdwp_model.proofs.Acts.{message_lowers}
use Rattle.jdwp_model.proofs.Fronts.{by_target_front, by_release_front, by_debugger_front}
use Rattle.jdwp_model.proofs.Waiting.{replied-most, replied-no-dispose, replied-no-write}
use Rattle.jdwp_model.proofs.Session.{Links, last, lowers_in, no_dispose_in, links_lower, alive_along, lowers_replies, replies, commands, no_dispose_replies, and-left, and-right}
use Rattle.jdwp_model.proofs.Keeps.{Inv, keeps, open-not-closed}
use Rattle.jdwp_model.proofs.Theorems.{all-replies, seen-base}
use Rattle.jdwp_model.proofs.Frames.{SameFrames, frames_refl, frames_trans, frames_action, frames_after, frames_same, frames_suspended, effect_frames, step_frames}
use Rattle.jdwp_across.proofs.Served.{AreBounds}

-- ---- from one moment to another

-- Nothing was told: each count stays, and what is answered of suspended threads' frames does.
pub record Still {S : Type 0} (m : Meaning S) (a b : Moment S) : Type 0 where
  pub same_count : (t : ℕ) → count_or_zero b.state t ≡ count_or_zero a.state t
  pub frames : (t : ℕ) → 0 < count_or_zero a.state t → SameFrames m t a.machine b.machine
  pub alive : b.state.alive ≡ true → a.state.alive ≡ true

still_refl : {S : Type 0} (m : Meaning S) (a : Moment S) → Still m a a
still_refl m a = record { same_count = λ t. refl; frames = λ t _. frames_refl m t a.machine a.machine refl; alive = λ h. h }

more-than-zero : (i j : ℕ) → j ≡ i → 0 < i → 0 < j
more-than-zero i j e h = omega arith

still_trans : {S : Type 0} (m : Meaning S) (a b c : Moment S) → Still m a b → Still m b c → Still m a c
still_trans m a b c p q =
    record {
      same_count = λ t. q.same_count t ∙ p.same_count t;
      frames = λ t h. frames_trans m t a.machine b.machine c.machine (p.frames t h) (q.frames t (more-than-zero _ _ (p.same_count t) h));
      alive = λ h. p.alive (q.alive h);
    }

-- A packet was sent: what is answered of suspended threads' frames stays, but for a SetValues and the machine's end.
pub record Passes {S : Type 0} (m : Meaning S) (a : Moment S) (p : Packet S) : Type 0 where
  pub frames : (t : ℕ) → 0 < count_or_zero a.state t → answers_write p.0 t ≡ false → p.1.state.alive ≡ true → SameFrames m t a.machine p.1.machine
  pub alive : p.1.state.alive ≡ true → a.state.alive ≡ true

still_passes : {S : Type 0} (m : Meaning S) (a b : Moment S) (p : Packet S) → Still m a b → Passes m b p → Passes m a p
still_passes m a b p s q =
    record {
      frames = λ t h w al. frames_trans m t a.machine b.machine p.1.machine (s.frames t h) (q.frames t (more-than-zero _ _ (s.same_count t) h) w al);
      alive = λ h. s.alive (q.alive h);
    }

same_passes : {S : Type 0} (m : Meaning S) (a : Moment S) (p : Packet S) → p.1.machine ≡ a.machine → p.1.state.alive ≡ a.state.alive → Passes m a p
same_passes m a p e f = record { frames = λ t _ _ _. frames_refl m t a.machine p.1.machine e; alive = λ h. sym f ∙ h }

-- ---- along packets

abbrev PassesFrom : {S : Type 0} → Meaning S → Option (Moment S) → Packet S → Type 0
PassesFrom m None p = Unit {0}
PassesFrom m (Some a) p = Passes m a p

abbrev StillFrom : {S : Type 0} → Meaning S → Option (Moment S) → Moment S → Type 0
StillFrom m None b = Unit {0}
StillFrom m (Some a) b = Still m a b

abbrev Chain : {S : Type 0} → Meaning S → Option (Moment S) → List (Packet S) → Type 0
Chain m o [] = Unit {0}
Chain m o (p ∷ ps) = PassesFrom m o p × Chain m (Some p.1) ps

abbrev last_of : {S : Type 0} → Option (Moment S) → List (Packet S) → Option (Moment S)
last_of o [] = o
last_of o (p ∷ ps) = last_of (Some p.1) ps

from-still : {S : Type 0} (m : Meaning S) (o : Option (Moment S)) (b : Moment S) (p : Packet S) → StillFrom m o b → Passes m b p → PassesFrom m o p
from-still m None b p s q = tt
from-still m (Some a) b p s q = still_passes m a b p s q

still-on : {S : Type 0} (m : Meaning S) (o : Option (Moment S)) (b c : Moment S) → StillFrom m o b → Still m b c → StillFrom m o c
still-on m None b c s q = tt
still-on m (Some a) b c s q = still_trans m a b c s q

chain-more : {S : Type 0} (m : Meaning S) (o : Option (Moment S)) (ps : List (Packet S)) (p : Packet S) → Chain m o ps → PassesFrom m (last_of o ps) p → Chain m o (ps ++ p ∷ [])
chain-more m o [] p c q = (q, tt)
chain-more m o (x ∷ xs) p c q = (c.0, chain-more m (Some x.1) xs p c.1 q)

last-of-more : {S : Type 0} (o : Option (Moment S)) (ps : List (Packet S)) (p : Packet S) → last_of o (ps ++ p ∷ []) ≡ Some p.1
last-of-more o [] p = refl
last-of-more o (x ∷ xs) p = last-of-more (Some x.1) xs p

-- each reply to a question about frames is what the target would answer at its moment
abbrev Said : {S : Type 0} → Meaning S → Settings → Message → Moment S → Type 0
Said m settings Handshake a = Unit {0}
Said m settings (Reply k c x) a = (t : ℕ) → asks_frames_of c t ≡ true → (effect m settings a c).answer ≡ x
Said m settings (Report c) a = Unit {0}

abbrev AllSaid : {S : Type 0} → Meaning S → Settings → List (Packet S) → Type 0
AllSaid m settings [] = Unit {0}
AllSaid m settings (p ∷ ps) = Said m settings p.0 p.1 × AllSaid m settings ps

said-more : {S : Type 0} (m : Meaning S) (settings : Settings) (ps : List (Packet S)) (p : Packet S) → AllSaid m settings ps → Said m settings p.0 p.1 → AllSaid m settings (ps ++ p ∷ [])
said-more m settings [] p h q = (q, tt)
said-more m settings (x ∷ xs) p h q = (h.0, said-more m settings xs p h.1 q)

-- ---- what was read

-- what lasts would be answered at the moment of the last packet read
abbrev ReadLasts : {S : Type 0} → Meaning S → Settings → List (Packet S) → Type 0
ReadLasts {S} m settings read =
    (t : ℕ) (c : Command) (content : List DatumMeaning) (then : Moment S) → asks_frames_of c t ≡ true → IsLasting read t c content → seen_moment read ≡ Some then → then.state.alive ≡ true →
    (effect m settings then c).answer ≡ Data content

-- What holds of what was read, and of the packets that were not, in order.
pub record Holds {S : Type 0} (m : Meaning S) (settings : Settings) (read ps : List (Packet S)) (lost : Bool) (now : Moment S) : Type 0 where
  pub chain : Chain m (seen_moment read) ps
  pub still : lost ≡ false → StillFrom m (last_of (seen_moment read) ps) now
  pub said : AllSaid m settings ps
  pub answers : ReadLasts m settings read

abbrev Goes : {S : Type 0} → Meaning S → Settings → World S → Type 0
Goes m settings w = is_closed w.debugger ≡ false → Holds m settings w.read (w.parked ++ w.to_debugger) w.lost w.now

-- a packet is sent
sent : {S : Type 0} (m : Meaning S) (settings : Settings) (read parked td : List (Packet S)) (lost : Bool) (now : Moment S) (p : Packet S) → Holds m settings read (parked ++ td) lost now → lost ≡ false → Passes m now p → Said m settings p.0 p.1 → Holds m settings read (parked ++ (td ++ p ∷ [])) lost p.1
sent m settings read parked td lost now p h l q s =
    let e : (parked ++ td) ++ p ∷ [] ≡ parked ++ (td ++ p ∷ []) = append_assoc parked td (p ∷ []) in
    subst (λ ps. Holds m settings read ps lost p.1) e (record {
      chain = chain-more m (seen_moment read) (parked ++ td) p h.chain (from-still m (last_of (seen_moment read) (parked ++ td)) now p (h.still l) q);
      still = λ _. subst (λ o. StillFrom m o p.1) (sym (last-of-more (seen_moment read) (parked ++ td) p)) (still_refl m p.1);
      said = said-more m settings (parked ++ td) p h.said s;
      answers = h.answers;
    })

-- nothing is sent
passed : {S : Type 0} (m : Meaning S) (settings : Settings) (read ps : List (Packet S)) (lost : Bool) (now after : Moment S) → Holds m settings read ps lost now → Still m now after → Holds m settings read ps lost after
passed m settings read ps lost now after h s =
    record { chain = h.chain; still = λ l. still-on m (last_of (seen_moment read) ps) now after (h.still l) s; said = h.said; answers = h.answers }

-- ---- a packet is read

answer-now : {S : Type 0} (m : Meaning S) (settings : Settings) (message : Message) (a : Moment S) (t : ℕ) (c : Command) (content : List DatumMeaning) → Said m settings message a → asks_frames_of c t ≡ true → IsAnswer message c content → (effect m settings a c).answer ≡ Data content
answer-now m settings Handshake a t c content s h i = absurd i
answer-now m settings (Reply k d x) a t c content s h i =
    ap (λ y. (effect m settings a y).answer) (sym i.0) ∙ (s t (subst (λ y. asks_frames_of y t ≡ true) (sym i.0) h) ∙ i.1)
answer-now m settings (Report r) a t c content s h i = absurd i

lasts-on : {S : Type 0} (m : Meaning S) (settings : Settings) (a : Moment S) (p : Packet S) (t : ℕ) (c : Command) (content : List DatumMeaning) → Passes m a p → asks_frames_of c t ≡ true → (effect m settings a c).answer ≡ Data content → 0 < count_or_zero p.1.state t → answers_write p.0 t ≡ false → p.1.state.alive ≡ true → (effect m settings p.1 c).answer ≡ Data content
lasts-on m settings a p t c content q h e n w al =
    let k : 0 < count_or_zero a.state t = frames_suspended m settings a c t content h e in
    frames_same m settings a p.1 c t h k n (q.frames t k w al) ∙ e

earlier : {S : Type 0} (m : Meaning S) (settings : Settings) (read : List (Packet S)) (o : Option (Moment S)) (p : Packet S) (t : ℕ) (c : Command) (content : List DatumMeaning) → seen_moment read ≡ o → PassesFrom m o p → ReadLasts m settings read → asks_frames_of c t ≡ true → IsLasting read t c content → 0 < count_or_zero p.1.state t → answers_write p.0 t ≡ false → p.1.state.alive ≡ true → (effect m settings p.1 c).answer ≡ Data content
earlier m settings [] None p t c content e q r h l n w al = absurd l
earlier m settings [] (Some a) p t c content e q r h l n w al = absurd l
earlier m settings (x ∷ xs) None p t c content e q r h l n w al = absurd (cc)
earlier m settings (x ∷ xs) (Some a) p t c content e q r h l n w al =
    lasts-on m settings a p t c content q h (r t c content a h l e (q.alive al)) n w al

read-one : {S : Type 0} (m : Meaning S) (settings : Settings) (read ps : List (Packet S)) (p : Packet S) (lost : Bool) (now : Moment S) → Holds m settings read (p ∷ ps) lost now → Holds m settings (p ∷ read) ps lost now
read-one m settings read ps p lost now h =
    record {
      chain = h.chain.1;
      still = h.still;
      said = h.said.1;
      answers = λ t c content then q l e al.
          let f : p.1 ≡ then = cc in
          elim l as (λ _. (effect m settings then c).answer ≡ Data content) [
            | inl i ↦ subst (λ x. (effect m settings x c).answer ≡ Data content) f (answer-now m settings p.0 p.1 t c content h.said.0 q i)
            | inr r ↦ subst (λ x. (effect m settings x c).answer ≡ Data content) f
                (earlier m settings read (seen_moment read) p t c content refl h.chain.0 h.answers q r.2 r.0 r.1 (subst (λ (x : Moment _). x.state.alive ≡ true) (sym f) al))
          ];
    }

read-all : {S : Type 0} (m : Meaning S) (settings : Settings) (xs read ps : List (Packet S)) (lost : Bool) (now : Moment S) → Holds m settings read (xs ++ ps) lost now → Holds m settings (entered xs read) ps lost now
read-all m settings [] read ps lost now h = h
read-all m settings (x ∷ xs) read ps lost now h = read-all m settings xs (x ∷ read) ps lost now (read-one m settings read (xs ++ ps) x lost now h)

-- ---- the target's turn

goes-greets : {S : Type 0} (m : Meaning S) (settings : Settings) (w : World S) (n : ℕ) (rest : List Call) (b : Bool) → Goes m settings w → w.lost ≡ false → Goes m settings (greets_by settings (record w { to_target = rest; at_target = n }) b)
goes-greets m settings w n rest true g l = λ o. sent m settings w.read w.parked w.to_debugger w.lost w.now (Handshake, w.now) (g o) l (same_passes m w.now (Handshake, w.now) refl refl) tt
goes-greets {S} m settings w n rest false g l = λ o.
    let first : Packet S = (Handshake, w.now) in
    let second : Packet S = (Report (start_event settings w.now.state), started settings w.now) in
    let one = sent m settings w.read w.parked w.to_debugger w.lost w.now first (g o) l (same_passes m w.now first refl refl) tt in
    let two = sent m settings w.read w.parked (w.to_debugger ++ first ∷ []) w.lost w.now second one l (same_passes m w.now second refl refl) tt in
    subst (λ ps. Holds m settings w.read (w.parked ++ ps) w.lost (started settings w.now)) (append_assoc w.to_debugger (first ∷ []) (second ∷ [])) two

goes-answers : {S : Type 0} (m : Meaning S) → Rests m → (settings : Settings) (w : World S) (k : Ticket) (c : Command) → Goes m settings w → w.lost ≡ false → IsSound m settings w.now → Does m settings w.now (action_of c) (effect m settings w.now c) → Goes m settings (answers w k c (effect m settings w.now c))
goes-answers m rests settings w k c g l s d = λ o.
    sent m settings w.read w.parked w.to_debugger w.lost w.now (Reply k c (effect m settings w.now c).answer, (effect m settings w.now c).after) (g o) l
    (record { frames = λ t _ x al. effect_frames m rests settings w.now c t s x al; alive = λ h. and-left w.now.state.alive (not (effect m settings w.now c).dies) (sym d.alive ∙ h) })
    (λ t h. ap (λ x. (effect m settings x c).answer) (frames_after m settings w.now c t (frames_action c t h)))

goes-dying : {S : Type 0} (m : Meaning S) (settings : Settings) (w : World S) → Goes m settings w → w.lost ≡ false → Goes m settings (dying w)
goes-dying m settings w g l = λ o.
    sent m settings w.read w.parked w.to_debugger w.lost w.now (Report vm_death, after_death w.now) (g o) l (same_passes m w.now (Report vm_death, after_death w.now) refl refl) tt

goes-dies : {S : Type 0} (m : Meaning S) (settings : Settings) (w : World S) (b : Bool) → Goes m settings w → w.lost ≡ false → Goes m settings (dies_by w b)
goes-dies m settings w true g l = goes-dying m settings w g l
goes-dies m settings w false g l = g

goes-command : {S : Type 0} (m : Meaning S) → Rests m → (settings : Settings) (v : World S) (k : Ticket) (c : Command) → IsSound m settings v.now → v.lost ≡ false → Goes m settings v → Goes m settings (carries_out m settings v k c)
goes-command m rests settings v k c s l g =
    goes-dies m settings (answers v k c (effect m settings v.now c)) (effect m settings v.now c).dies
    (goes-answers m rests settings v k c g l s ((rests.facts settings).does v.now c s)) l

goes-loses : {S : Type 0} (m : Meaning S) (settings : Settings) (w : World S) → Goes m settings w → Goes m settings (target_loses w)
goes-loses m settings w g = λ o. let h = g o in record { chain = h.chain; still = λ x. absurd (cc); said = h.said; answers = h.answers }

goes-target-handles : {S : Type 0} (m : Meaning S) → Rests m → (settings : Settings) (measure : Measure) (w : World S) (rest : List Call) (phase : Phase) (call : Call) → Inv m settings w → Goes m settings w → w.target ≡ phase → Goes m settings (target_handles m settings measure w rest phase call)
goes-target-handles m rests settings measure w rest AwaitingHandshake Greets i g p =
    goes-greets m settings w (w.at_target - measure.call Greets) rest w.now.state.handshaken g (i.target.unlost (ap is_closed p))
goes-target-handles m rests settings measure w rest Established (Asks k c) i g p =
    let v = target_takes measure w (Asks k c) rest in
    elim (defers w c) as (λ b. Goes m settings (defers_or m settings v k c b)) [
      | true ↦ g
      | false ↦ goes-command m rests settings v k c i.target.sound (i.target.unlost (ap is_closed p)) g
    ]
goes-target-handles m rests settings measure w rest phase call i g p = goes-loses m settings w g

goes-target-turn : {S : Type 0} (m : Meaning S) → Rests m → (settings : Settings) (measure : Measure) (w : World S) → Inv m settings w → Goes m settings w → Goes m settings (target_turn m settings measure w)
goes-target-turn m rests settings measure w i g =
    by_target_front settings measure w (λ o. Goes m settings (target_turn_at m settings measure w o)) g (λ call rest _ _. goes-target-handles m rests settings measure w rest w.target call i g refl)

-- ---- a deferred command is answered

goes-releases : {S : Type 0} (m : Meaning S) → Rests m → (settings : Settings) (measure : Measure) (w : World S) (place : ℕ) → Inv m settings w → Goes m settings w → Goes m settings (releases m settings measure w place)
goes-releases m rests settings measure w place i g =
    by_release_front settings measure w place (λ o. Goes m settings (releases_at m settings w o)) g
    (λ k c rest p _. goes-command m rests settings (record w { deferred = rest }) k c i.target.sound (i.target.unlost (ap is_closed p)) g)

-- ---- the debugger's turn

-- a packet that stands in front, where no composite waits
front-read : {S : Type 0} (m : Meaning S) (settings : Settings) (read parked td rest : List (Packet S)) (p : Packet S) (lost : Bool) (now : Moment S) → Holds m settings read (parked ++ td) lost now → td ≡ p ∷ rest → parked ≡ [] → Holds m settings (p ∷ read) (parked ++ rest) lost now
front-read m settings read parked td rest p lost now h e f =
    let x : Holds m settings read (p ∷ rest) lost now = subst (λ ps. Holds m settings read (ps ++ p ∷ rest) lost now) f (subst (λ ps. Holds m settings read (parked ++ ps) lost now) e h) in
    subst (λ ps. Holds m settings (p ∷ read) (ps ++ rest) lost now) (sym f) (read-one m settings read rest p lost now x)

goes-reply : {S : Type 0} (m : Meaning S) (settings : Settings) (w : World S) (n : ℕ) (k : Ticket) (p : Packet S) (rest : List (Packet S)) → Goes m settings w → w.to_debugger ≡ p ∷ rest → Goes m settings (reads_reply (record w { to_debugger = rest; at_debugger = n }) p k)
goes-reply m settings w n k p rest g e = λ o.
    read-one m settings (entered w.parked w.read) rest p w.lost w.now
    (read-all m settings w.parked w.read (p ∷ rest) w.lost w.now (subst (λ ps. Holds m settings w.read (w.parked ++ ps) w.lost w.now) e (g o)))

goes-closes : {S : Type 0} (m : Meaning S) (settings : Settings) (w : World S) (os : List Outcome) (b : Bool) → Goes m settings w → Goes m settings (closes_by w os b).0
goes-closes m settings w os true g = λ x. absurd (cc)
goes-closes m settings w os false g = g

goes-composite : {S : Type 0} (m : Meaning S) (settings : Settings) (w : World S) (n : ℕ) (c : CompositeMeaning) (a : Moment S) (rest : List (Packet S)) (b : Bool) → Inv m settings w → Goes m settings w → w.to_debugger ≡ (Report c, a) ∷ rest → w.ready ≡ b → Goes m settings (reads_composite (record w { to_debugger = rest; at_debugger = n }) (Report c, a) c b).0
goes-composite m settings w n c a rest false i g e r = λ o.
    subst (λ ps. Holds m settings w.read ps w.lost w.now) (sym (append_assoc w.parked ((Report c, a) ∷ []) rest))
    (subst (λ ps. Holds m settings w.read (w.parked ++ ps) w.lost w.now) e (g o))
goes-composite m settings w n c a rest true i g e r =
    goes-closes m settings (record w { to_debugger = rest; at_debugger = n; read = (Report c, a) ∷ w.read }) (Events.Seen c ∷ []) (is_vm_death c)
    (λ o. front-read m settings w.read w.parked w.to_debugger rest (Report c, a) w.lost w.now (g o) e (i.debugger.ready_parked r))

not-greeted : (b : Bool) → cond b (Some Faults.BadHandshake) None ≡ None → b ≡ false
not-greeted true h = absurd (cc)
not-greeted false h = refl

goes-reads : {S : Type 0} (m : Meaning S) (settings : Settings) (w : World S) (n : ℕ) (p : Packet S) (rest : List (Packet S)) → Inv m settings w → Goes m settings w → is_closed w.debugger ≡ false → w.to_debugger ≡ p ∷ rest → fault_of (reader w) p.0 ≡ None → Goes m settings (reads (record w { to_debugger = rest; at_debugger = n }) p).0
goes-reads m settings w n (Handshake, a) rest i g o e f = λ _.
    front-read m settings w.read w.parked w.to_debugger rest (Handshake, a) w.lost w.now (g o) e (i.debugger.unparked (not-greeted (is_established_phase w.debugger) f))
goes-reads m settings w n (Reply k c x, a) rest i g o e f =
    goes-closes m settings (reads_reply (record w { to_debugger = rest; at_debugger = n }) (Reply k c x, a) k) (composites_of w.parked ++ answered k x) (ends (Reply k c x) || has_end w.parked)
    (goes-reply m settings w n k (Reply k c x, a) rest g e)
goes-reads m settings w n (Report c, a) rest i g o e f = goes-composite m settings w n c a rest w.ready i g e refl

goes-debugger-handles : {S : Type 0} (m : Meaning S) (settings : Settings) (measure : Measure) (w : World S) (p : Packet S) (rest : List (Packet S)) (f : Option Fault) → Inv m settings w → Goes m settings w → is_closed w.debugger ≡ false → w.to_debugger ≡ p ∷ rest → fault_of (reader w) p.0 ≡ f → Goes m settings (debugger_handles (debugger_takes measure w p rest) p f).0
goes-debugger-handles m settings measure w p rest (Some f) i g o e h = λ x. absurd (cc)
goes-debugger-handles m settings measure w p rest None i g o e h = goes-reads m settings w (w.at_debugger - measure.message p.0) p rest i g o e h

goes-debugger-turn : {S : Type 0} (m : Meaning S) (settings : Settings) (measure : Measure) (w : World S) → Inv m settings w → Goes m settings w → Goes m settings (debugger_turn settings measure w).0
goes-debugger-turn m settings measure w i g =
    by_debugger_front settings measure w (λ o. Goes m settings (debugger_turn_at measure w o).0) g (λ p rest o e. goes-debugger-handles m settings measure w p rest (fault_of (reader w) p.0) i g o e refl)

-- ---- steps

-- what is answered of suspended threads' frames stays
abbrev FramesStay : {S : Type 0} → Meaning S → Moment S → Moment S → Type 0
FramesStay m a b = (t : ℕ) → 0 < count_or_zero a.state t → SameFrames m t a.machine b.machine

goes-died : {S : Type 0} (m : Meaning S) (settings : Settings) (w : World S) (phase : Phase) → Goes m settings w → (is_closed phase ≡ false → w.lost ≡ false) → Goes m settings (step_ends w phase true)
goes-died m settings w Established g l = goes-dying m settings w g (l refl)
goes-died m settings w AwaitingHandshake g l = g
goes-died m settings w Closed g l = g

goes-stepped : {S : Type 0} (m : Meaning S) (settings : Settings) (w : World S) (after : Moment S) (o : Option CompositeMeaning) (dies : Bool) → Inv m settings w → Goes m settings w → FramesStay m w.now after → Told m w.now after dies o → (w.now.state.requests ≡ [] → o ≡ None) → Goes m settings (step_ends (with_report w after o) w.target dies)
goes-stepped m settings w after None true i g f d silent =
    let still : Still m w.now after = record {
      same_count = λ t. ap or_zero (d.nobody_lives t) ∙ sym (d.nobody_suspended t);
      frames = λ t h. let z : count_or_zero w.now.state t ≡ 0 = d.nobody_suspended t in absurd (omega arith);
      alive = λ h. let z : after.state.alive ≡ false = d.alive in absurd (cc);
    } in
    goes-died m settings (record w { now = after }) w.target (λ x. passed m settings w.read (w.parked ++ w.to_debugger) w.lost w.now after (g x) still) i.target.unlost
goes-stepped m settings w after None false i g f d silent = λ x.
    passed m settings w.read (w.parked ++ w.to_debugger) w.lost w.now after (g x) (record { same_count = d.same_count; frames = f; alive = d.alive })
goes-stepped m settings w after (Some c) true i g f d silent = let x : true ≡ false = d.0 in absurd (cc)
goes-stepped m settings w after (Some c) false i g f d silent =
    let shut : is_closed w.target ≡ false = elim (is_established_phase w.target) as (λ b. is_established_phase w.target ≡ b → is_closed w.target ≡ false) [ true ↦ open-not-closed w.target | false ↦ λ x. let y = silent (i.target.idle x).0 in absurd (cc) ] refl in
    λ x. sent m settings w.read w.parked w.to_debugger w.lost w.now (Report c, after) (g x) (i.target.unlost shut)
    (record { frames = λ t h _ _. f t h; alive = λ h. d.1.quiet.alive (sym d.1.alive ∙ h) }) tt

goes-steps : {S : Type 0} (m : Meaning S) → Rests m → (settings : Settings) (measure : Measure) (w : World S) (u : ℕ) → Inv m settings w → Goes m settings w → Goes m settings (steps m settings measure w u)
goes-steps m rests settings measure w u i g =
    cond_both (steps_now m settings measure w u) _ _ (Goes m settings) (λ h.
    let may : may_step m settings w.now u ≡ true = and-left _ _ h in
    let d = (rests.facts settings).happens w.now u i.target.sound may in
    goes-stepped m settings w (occurs m w.now u).after (occurs m w.now u).sends (occurs m w.now u).dies i g (λ t k. step_frames m rests settings w.now u t i.target.sound may k) d.told d.silent) (λ _. g)

-- ---- all events

goes-attach : {S : Type 0} (m : Meaning S) (settings : Settings) (w : World S) → Goes m settings w → Goes m settings (attaches w)
goes-attach m settings w g =
    cond_both (may_attach w) (attached w) w (Goes m settings) (λ _ _. record { chain = tt; still = λ _. tt; said = tt; answers = λ t c content then q l e al. absurd l }) (λ _. g)

goes-ask : {S : Type 0} (m : Meaning S) (settings : Settings) (w : World S) (c : Command) (r : Option AskRefusal) → Goes m settings w → Goes m settings (ask_by w c r).0
goes-ask m settings w c (Some r) g = g
goes-ask m settings w c None g = g

goes : {S : Type 0} (m : Meaning S) → Rests m → (settings : Settings) (measure : Measure) (w : World S) (e : LinkEvent) → Inv m settings w → Goes m settings w → Goes m settings (next m settings measure w e).0
goes m rests settings measure w Events.Attach i g = goes-attach m settings w g
goes m rests settings measure w (Events.Ask c) i g = goes-ask m settings w c (ask_refusal settings measure w c) g
goes m rests settings measure w (Events.ToTarget n) i g = cond_both (is_closed w.target) _ _ (Goes m settings) (λ _. g) (λ _. g)
goes m rests settings measure w (Events.ToDebugger n) i g = cond_both (is_closed w.debugger) _ _ (Goes m settings) (λ _. g) (λ _. g)
goes m rests settings measure w Events.TargetTurn i g = goes-target-turn m rests settings measure w i g
goes m rests settings measure w Events.DebuggerTurn i g = goes-debugger-turn m settings measure w i g
goes m rests settings measure w (Events.Step t) i g = goes-steps m rests settings measure w t i g
goes m rests settings measure w Events.TargetLoses i g = goes-loses m settings w g
goes m rests settings measure w Events.DebuggerLoses i g = λ x. absurd (cc)
goes m rests settings measure w (Events.Defer deferring) i g = g
goes m rests settings measure w (Events.Release place) i g = goes-releases m rests settings measure w place i g

-- ---- now

abbrev writes_in : {S : Type 0} → List (Packet S) → ℕ → Bool
writes_in [] t = false
writes_in (p ∷ ps) t = answers_write p.0 t || writes_in ps t

writes-replies : {S : Type 0} (ps : List (Packet S)) (t : ℕ) → writes_in ps t ≡ has_write (replies ps) t
writes-replies [] t = refl
writes-replies ((Reply k c x, a) ∷ ps) t = ap (λ b. writes c t || b) (writes-replies ps t)
writes-replies ((Report c, a) ∷ ps) t = writes-replies ps t
writes-replies ((Handshake, a) ∷ ps) t = writes-replies ps t

or-left : (a b : Bool) → (a || b) ≡ false → a ≡ false
or-left true b h = h
or-left false b h = refl

or-right : (a b : Bool) → (a || b) ≡ false → b ≡ false
or-right true b h = absurd (cc)
or-right false b h = h

still-covered : (low more base next : ℕ) → low + more < base → base ≤ next + (low + 0) → more < next
still-covered low more base next h l = omega arith

stays-along : {S : Type 0} (m : Meaning S) (settings : Settings) (ps : List (Packet S)) (base : Moment S) (t : ℕ) (c : Command) (content : List DatumMeaning) → Links m base ps → Chain m (Some base) ps → no_dispose_in ps ≡ true → (last base ps).state.alive ≡ true → writes_in ps t ≡ false → lowers_in ps t < count_or_zero base.state t → asks_frames_of c t ≡ true → (effect m settings base c).answer ≡ Data content → (effect m settings (last base ps) c).answer ≡ Data content
stays-along m settings [] base t c content l k d al w n h e = e
stays-along m settings (p ∷ ps) base t c content l k d al w n h e =
    let live : p.1.state.alive ≡ true = alive_along m p.1 ps l.1 al in
    let low : count_or_zero base.state t ≤ count_or_zero p.1.state t + lowers_in (p ∷ []) t = links_lower m base (p ∷ []) t (l.0, tt) (ap (λ b. b && true) (and-left _ _ d)) live in
    let more : lowers_in ps t < count_or_zero p.1.state t = still-covered (message_lowers p.0 t) (lowers_in ps t) (count_or_zero base.state t) (count_or_zero p.1.state t) n low in
    let up : 0 < count_or_zero p.1.state t = omega arith in
    stays-along m settings ps p.1 t c content l.1 k.1 (and-right _ _ d) al (or-right (answers_write p.0 t) _ w) more h
    (lasts-on m settings base p t c content k.0 h e up (or-left (answers_write p.0 t) _ w) live)

last-of-last : {S : Type 0} (a : Moment S) (ps : List (Packet S)) → last_of (Some a) ps ≡ Some (last a ps)
last-of-last a [] = refl
last-of-last a (p ∷ ps) = last-of-last p.1 ps

stays-now : {S : Type 0} (m : Meaning S) (settings : Settings) (a now : Moment S) (t : ℕ) (c : Command) (content : List DatumMeaning) → Still m a now → asks_frames_of c t ≡ true → (effect m settings a c).answer ≡ Data content → (effect m settings now c).answer ≡ Data content
stays-now m settings a now t c content s h e =
    let k : 0 < count_or_zero a.state t = frames_suspended m settings a c t content h e in
    frames_same m settings a now c t h k (more-than-zero _ _ (s.same_count t) k) (s.frames t k) ∙ e

open-if-seen : {S : Type 0} (m : Meaning S) (settings : Settings) (w : World S) (then : Moment S) → Inv m settings w → seen_moment w.read ≡ Some then → is_closed w.debugger ≡ false
open-if-seen m settings w then i h =
    elim (is_closed w.debugger) as (λ b. is_closed w.debugger ≡ b → b ≡ false) [
      | true ↦ λ x. let y : seen_moment w.read ≡ None = ap seen_moment (i.debugger.closed x).0 in absurd (cc)
      | false ↦ λ _. refl
    ] refl

stays : {S : Type 0} (m : Meaning S) (settings : Settings) (w : World S) → Inv m settings w → Goes m settings w → StaysTrue m settings w
stays {S} m settings w i g t c content then h l u nw e n =
    let o = open-if-seen m settings w then i e in
    let s = i.debugger.session o in
    let k = g o in
    let ps : List (Packet S) = w.parked ++ w.to_debugger in
    let b : then ≡ s.base = seen-base w.read s.base then s.at_last e in
    let links : Links m then ps = subst (λ x. Links m x ps) (sym b) s.links in
    let chain : Chain m (Some then) ps = subst (λ x. Chain m x ps) e k.chain in
    let still : Still m (last then ps) w.now = subst (λ x. StillFrom m x w.now) (ap (λ x. last_of x ps) e ∙ last-of-last then ps) (k.still u.not_lost) in
    let live : (last then ps).state.alive ≡ true = still.alive u.alive in
    let all : replies ps ≡ replies w.to_debugger = all-replies w.parked w.to_debugger s.no_reply_waits in
    let none : has_dispose (replies w.to_debugger) ≡ false = replied-no-dispose w.pending (replies w.to_debugger) w.deferred (commands w.to_target) s.waits u.no_dispose in
    let spared : no_dispose_in ps ≡ true = no_dispose_replies ps (subst (λ x. has_dispose x ≡ false) (sym all) none) in
    let unwritten : has_write (replies w.to_debugger) t ≡ false = replied-no-write w.pending (replies w.to_debugger) w.deferred (commands w.to_target) t s.waits nw in
    let kept : writes_in ps t ≡ false = writes-replies ps t ∙ (ap (λ x. has_write x t) all ∙ unwritten) in
    let parts : unanswered lowers (replies w.to_debugger) t ≤ unanswered lowers w.pending t = replied-most lowers w.pending (replies w.to_debugger) w.deferred (commands w.to_target) t s.waits in
    let lowered : lowers_in ps t ≡ unanswered lowers (replies w.to_debugger) t = lowers_replies ps t ∙ ap (λ x. unanswered lowers x t) all in
    let fewer : lowers_in ps t < count_or_zero then.state t = omega arith in
    let was : (effect m settings then c).answer ≡ Data content = k.answers t c content then h l e (alive_along m then ps links live) in
    stays-now m settings (last then ps) w.now t c content still h (stays-along m settings ps then t c content links chain spared live kept fewer h was)

stays-run : {S : Type 0} (m : Meaning S) → Rests m → (settings : Settings) → AreBounds settings → (measure : Measure) (w : World S) (es : List LinkEvent) → Inv m settings w → Goes m settings w → StaysTrue m settings (run m settings measure w es)
stays-run m rests settings b measure w [] i g = stays m settings w i g
stays-run m rests settings b measure w (e ∷ es) i g =
    stays-run m rests settings b measure (next m settings measure w e).0 es (keeps m rests settings b.least b.most measure w e i) (goes m rests settings measure w e i g)

-- nothing was read yet
pub stays-on : {S : Type 0} (m : Meaning S) → Rests m → (settings : Settings) → AreBounds settings → (measure : Measure) (w : World S) (es : List LinkEvent) → Inv m settings w → w.read ≡ [] → w.parked ++ w.to_debugger ≡ []
    → StaysTrue m settings (run m settings measure w es)
stays-on m rests settings b measure w es i unread none =
    stays-run m rests settings b measure w es i
    (λ o. subst (λ r. Holds m settings r (w.parked ++ w.to_debugger) w.lost w.now) (sym unread)
    (subst (λ ps. Holds m settings [] ps w.lost w.now) (sym none) (record { chain = tt; still = λ x. tt; said = tt; answers = λ t c content then q l e al. absurd l })))
