-- each answer that is told was given, from any world on to whose debugger no reply is under way: the model proves it from a link's opening
-- (`tells_what_was_given`), and keeps what leads there to itself
use Rattle.std.proofs.Common.{◌≡◌, ℕ, ◌-◌, ◌⊎◌, inl, inr, Bool, true, false, ◌||◌, Option, Some, None, List, [], ◌∷◌, ◌++◌, refl, sym, ◌∙◌, ap, subst}
use Rattle.std.proofs.lemmas.Bool.{cond_both}
use Rattle.std.proofs.lemmas.List.{append-nil}
use Rattle.jdwp_layout.specs.declared.answer.Answer.{Answer}
use Rattle.jdwp_end.specs.declared.phase.Phase.{Phase}
use Rattle.jdwp_end.specs.declared.phase.Phase.TheVariants.{Closed, AwaitingHandshake, Established}
use Rattle.jdwp_event.specs.Composites.{CompositeMeaning}
use Rattle.jdwp_event.specs.Told.{is_vm_death}
use Rattle.jdwp_machine.specs.Meanings.{Meaning}
use Rattle.jdwp_debuggee.specs.Settings.{Settings}
use Rattle.jdwp_debuggee.specs.State.{Moment}
use Rattle.jdwp_action.specs.Actions.{Command}
use Rattle.jdwp_debuggee.specs.Effects.{Effect, effect}
use Rattle.jdwp_debuggee.specs.Steps.{occurs, start_event}
use Rattle.jdwp_mirror.specs.Messages.{Ticket, Call, Greets, Asks, Handshake, Reply, Report}
use Rattle.jdwp_mirror.specs.Mirror.{ends}
use Rattle.jdwp_mirror.specs.Faults.{Fault, fault_of}
use Rattle.jdwp_model.specs.Events
use Rattle.jdwp_model.specs.Events.{LinkEvent, AskRefusal, Outcome}
use Rattle.jdwp_model.specs.World.{Measure, is_closed, Packet, World}
use Rattle.jdwp_model.specs.Next.{steps_now, attached, may_attach, ask_refusal, ask_by, started, greets_by, dies_by, answers, carries_out, defers, defers_or, target_takes, target_handles, target_front, target_turn_at, target_turn, releases_at, releases, release_front, lost_tickets, debugger_closed, closes_by, composites_of, answered, has_end, reads_reply, reads_composite, reads, reader, debugger_handles, debugger_takes, debugger_turn_at, with_report, step_ends, next, outcomes}
use Rattle.jdwp_model.specs.Given.{gives_command, gives_or, gives_call, gives_front, gives_released, gives, given_answers, told_answers, IsIn}
use Rattle.jdwp_model.proofs.Fronts.{by_target_front, by_release_front, by_debugger_front}

-- the answers under way
abbrev replied : {S : Type 0} → List (Packet S) → List (ℕ × Answer)
replied [] = []
replied ((Reply (Some k) c x, a) ∷ ps) = (k, x) ∷ replied ps
replied (p ∷ ps) = replied ps

in-append : (xs ys : List (ℕ × Answer)) (p : ℕ × Answer) → IsIn (xs ++ ys) p → IsIn xs p ⊎ IsIn ys p
in-append [] ys p h = inr h
in-append (x ∷ xs) ys p (inl e) = inl (inl e)
in-append (x ∷ xs) ys p (inr h) = elim (in-append xs ys p h) [ inl k ↦ inl (inr k) | inr k ↦ inr k ]

in-front : (xs ys : List (ℕ × Answer)) (p : ℕ × Answer) → IsIn xs p → IsIn (xs ++ ys) p
in-front (x ∷ xs) ys p (inl e) = inl e
in-front (x ∷ xs) ys p (inr h) = inr (in-front xs ys p h)
in-front [] ys p h = absurd h

in-back : (xs ys : List (ℕ × Answer)) (p : ℕ × Answer) → IsIn ys p → IsIn (xs ++ ys) p
in-back [] ys p h = h
in-back (x ∷ xs) ys p h = inr (in-back xs ys p h)

replied-append : {S : Type 0} (xs ys : List (Packet S)) → replied (xs ++ ys) ≡ replied xs ++ replied ys
replied-append [] ys = refl
replied-append ((Reply (Some k) c x, a) ∷ xs) ys = ap (λ l. (k, x) ∷ l) (replied-append xs ys)
replied-append ((Reply None c x, a) ∷ xs) ys = replied-append xs ys
replied-append ((Report c, a) ∷ xs) ys = replied-append xs ys
replied-append ((Handshake, a) ∷ xs) ys = replied-append xs ys

told-append : (xs ys : List Outcome) → told_answers (xs ++ ys) ≡ told_answers xs ++ told_answers ys
told-append [] ys = refl
told-append (Events.Answered k x ∷ xs) ys = ap (λ l. (k, x) ∷ l) (told-append xs ys)
told-append (Events.Lost k ∷ xs) ys = told-append xs ys
told-append (Events.Asked k ∷ xs) ys = told-append xs ys
told-append (Events.Refused r ∷ xs) ys = told-append xs ys
told-append (Events.Seen c ∷ xs) ys = told-append xs ys

told-lost : (ps : List (Ticket × Command)) → told_answers (lost_tickets ps) ≡ []
told-lost [] = refl
told-lost ((Some k, c) ∷ ps) = told-lost ps
told-lost ((None, c) ∷ ps) = told-lost ps

told-composites : {S : Type 0} (ps : List (Packet S)) → told_answers (composites_of ps) ≡ []
told-composites [] = refl
told-composites ((Report c, a) ∷ ps) = told-composites ps
told-composites ((Reply k c x, a) ∷ ps) = told-composites ps
told-composites ((Handshake, a) ∷ ps) = told-composites ps

-- What an event tells was under way, and what is under way after it was so before it, or was given.
pub record Comes {S : Type 0} (w : World S) (new : List (ℕ × Answer)) (r : World S × List Outcome) : Type 0 where
  pub told : (p : ℕ × Answer) → IsIn (told_answers r.1) p → IsIn (replied w.to_debugger) p
  pub left : (p : ℕ × Answer) → IsIn (replied r.0.to_debugger) p → IsIn (replied w.to_debugger) p ⊎ IsIn new p

-- nothing is told, and the packets are the same, or more by these
same-comes : {S : Type 0} (w v : World S) (new : List (ℕ × Answer)) → replied v.to_debugger ≡ replied w.to_debugger → Comes w new (v, [])
same-comes w v new e = record { told = λ p h. absurd h; left = λ p h. inl (subst (λ l. IsIn l p) e h) }

more-comes : {S : Type 0} (w v : World S) (new : List (ℕ × Answer)) (ps : List (Packet S)) → v.to_debugger ≡ w.to_debugger ++ ps → replied ps ≡ new → Comes w new (v, [])
more-comes w v new ps e f =
    record {
      told = λ p h. absurd h;
      left = λ p h. in-append (replied w.to_debugger) new p (subst (λ l. IsIn l p) (ap replied e ∙ (replied-append w.to_debugger ps ∙ ap (λ l. replied w.to_debugger ++ l) f)) h);
    }

-- ---- the target's turn

dying-in : {S : Type 0} (v : World S) (p : ℕ × Answer) → IsIn (replied (dies_by v true).to_debugger) p → IsIn (replied v.to_debugger) p
dying-in v p h = elim (in-append (replied v.to_debugger) [] p (subst (λ l. IsIn l p) (replied-append v.to_debugger _) h)) [ inl k ↦ k | inr k ↦ absurd k ]

comes-dies : {S : Type 0} (w v : World S) (new : List (ℕ × Answer)) (b : Bool) → Comes w new (v, []) → Comes w new (dies_by v b, [])
comes-dies w v new false c = c
comes-dies w v new true c =
    record { told = λ p h. absurd h; left = λ p h. c.left p (dying-in v p h) }

comes-answers : {S : Type 0} (w v : World S) (k : Ticket) (c : Command) (e : Effect S) → v.to_debugger ≡ w.to_debugger → (new : List (ℕ × Answer)) → replied ((Reply k c e.answer, e.after) ∷ []) ≡ new → Comes w new (answers v k c e, [])
comes-answers w v k c e d new f = more-comes w (answers v k c e) new ((Reply k c e.answer, e.after) ∷ []) (ap (λ l. l ++ (Reply k c e.answer, e.after) ∷ []) d) f

comes-greets : {S : Type 0} (settings : Settings) (w v : World S) (b : Bool) → v.to_debugger ≡ w.to_debugger → Comes w [] (greets_by settings v b, [])
comes-greets settings w v true d = more-comes w (greets_by settings v true) [] _ (ap (λ l. l ++ (Handshake, v.now) ∷ []) d) refl
comes-greets settings w v false d = more-comes w (greets_by settings v false) [] _ (ap (λ l. l ++ (Handshake, v.now) ∷ (Report (start_event settings v.now.state), started settings v.now) ∷ []) d) refl

replied-one : {S : Type 0} (m : Meaning S) (settings : Settings) (w : World S) (k : Ticket) (c : Command) → replied ((Reply k c (effect m settings w.now c).answer, (effect m settings w.now c).after) ∷ []) ≡ gives_command m settings w k c
replied-one m settings w None c = refl
replied-one m settings w (Some k) c = refl

comes-command : {S : Type 0} (m : Meaning S) (settings : Settings) (w v : World S) (k : Ticket) (c : Command) → v.to_debugger ≡ w.to_debugger → v.now ≡ w.now → Comes w (gives_command m settings w k c) (carries_out m settings v k c, [])
comes-command m settings w v k c d n =
    comes-dies w _ _ (effect m settings v.now c).dies
    (comes-answers w v k c (effect m settings v.now c) d _ (ap (λ a. replied ((Reply k c (effect m settings a c).answer, (effect m settings a c).after) ∷ [])) n ∙ replied-one m settings w k c))

comes-handles : {S : Type 0} (m : Meaning S) (settings : Settings) (measure : Measure) (w : World S) (rest : List Call) (phase : Phase) (call : Call) → Comes w (gives_call m settings w phase call) (target_handles m settings measure w rest phase call, [])
comes-handles m settings measure w rest AwaitingHandshake Greets = comes-greets settings w (target_takes measure w Greets rest) w.now.state.handshaken refl
comes-handles m settings measure w rest Established (Asks k c) =
    let v = target_takes measure w (Asks k c) rest in
    elim (defers w c) as (λ b. Comes w (gives_or m settings w k c b) (defers_or m settings v k c b, [])) [ true ↦ same-comes w _ [] refl | false ↦ comes-command m settings w v k c refl refl ]
comes-handles m settings measure w rest phase call = same-comes w (target_handles m settings measure w rest phase call) _ refl

comes-turn : {S : Type 0} (m : Meaning S) (settings : Settings) (measure : Measure) (w : World S) → Comes w (gives_front m settings w (target_front settings measure w)) (target_turn m settings measure w, [])
comes-turn m settings measure w =
    by_target_front settings measure w (λ o. Comes w (gives_front m settings w o) (target_turn_at m settings measure w o, [])) (same-comes w w [] refl)
    (λ call rest _ _. comes-handles m settings measure w rest w.target call)

comes-release : {S : Type 0} (m : Meaning S) (settings : Settings) (measure : Measure) (w : World S) (place : ℕ) → Comes w (gives_released m settings w (release_front settings measure w place)) (releases m settings measure w place, [])
comes-release m settings measure w place =
    by_release_front settings measure w place (λ o. Comes w (gives_released m settings w o) (releases_at m settings w o, [])) (same-comes w w [] refl)
    (λ k c rest _ _. comes-command m settings w (record w { deferred = rest }) k c refl refl)

-- ---- the debugger's turn

front-comes : {S : Type 0} (w : World S) (q : Packet S) (rest : List (Packet S)) (r : World S × List Outcome) → w.to_debugger ≡ q ∷ rest → r.0.to_debugger ≡ rest → ((p : ℕ × Answer) → IsIn (told_answers r.1) p → IsIn (replied (q ∷ [])) p) → Comes w [] r
front-comes w q rest r e f h =
    let g : replied w.to_debugger ≡ replied (q ∷ []) ++ replied rest = ap replied e ∙ replied-append (q ∷ []) rest in
    record {
      told = λ p k. subst (λ l. IsIn l p) (sym g) (in-front (replied (q ∷ [])) (replied rest) p (h p k));
      left = λ p k. inl (subst (λ l. IsIn l p) (sym g) (in-back (replied (q ∷ [])) (replied rest) p (subst (λ l. IsIn l p) (ap replied f) k)));
    }

nothing-lost : (os : List Outcome) (ps : List (Ticket × Command)) (p : ℕ × Answer) → IsIn (told_answers (os ++ lost_tickets ps)) p → IsIn (told_answers os) p
nothing-lost os ps p h =
    elim (in-append (told_answers os) (told_answers (lost_tickets ps)) p (subst (λ l. IsIn l p) (told-append os (lost_tickets ps)) h)) [
      | inl k ↦ k
      | inr k ↦ absurd (subst (λ l. IsIn l p) (told-lost ps) k)
    ]

closes-comes : {S : Type 0} (w v : World S) (q : Packet S) (rest : List (Packet S)) (os : List Outcome) (b : Bool) → w.to_debugger ≡ q ∷ rest → v.to_debugger ≡ rest → ((p : ℕ × Answer) → IsIn (told_answers os) p → IsIn (replied (q ∷ [])) p) → Comes w [] (closes_by v os b)
closes-comes w v q rest os true e f h = front-comes w q rest (debugger_closed v, os ++ lost_tickets v.pending) e f (λ p k. h p (nothing-lost os v.pending p k))
closes-comes w v q rest os false e f h = front-comes w q rest (v, os) e f h

answered-in : {S : Type 0} (k : Ticket) (c : Command) (x : Answer) (a : Moment S) (parked : List (Packet S)) (p : ℕ × Answer) → IsIn (told_answers (composites_of parked ++ answered k x)) p → IsIn (replied ((Reply k c x, a) ∷ [])) p
answered-in (Some k) c x a parked p h = subst (λ l. IsIn l p) (told-append (composites_of parked) (answered (Some k) x) ∙ ap (λ l. l ++ told_answers (answered (Some k) x)) (told-composites parked)) h
answered-in None c x a parked p h = subst (λ l. IsIn l p) (told-append (composites_of parked) (answered None x) ∙ ap (λ l. l ++ told_answers (answered None x)) (told-composites parked)) h

comes-composite : {S : Type 0} (w : World S) (n : ℕ) (c : CompositeMeaning) (a : Moment S) (rest : List (Packet S)) (b : Bool) → w.to_debugger ≡ (Report c, a) ∷ rest → Comes w [] (reads_composite (record w { to_debugger = rest; at_debugger = n }) (Report c, a) c b)
comes-composite w n c a rest false e = front-comes w (Report c, a) rest _ e refl (λ p h. absurd h)
comes-composite w n c a rest true e = closes-comes w (record w { to_debugger = rest; at_debugger = n; read = (Report c, a) ∷ w.read }) (Report c, a) rest (Events.Seen c ∷ []) (is_vm_death c) e refl (λ p h. absurd h)

comes-reads : {S : Type 0} (w : World S) (n : ℕ) (q : Packet S) (rest : List (Packet S)) → w.to_debugger ≡ q ∷ rest → Comes w [] (reads (record w { to_debugger = rest; at_debugger = n }) q)
comes-reads w n (Handshake, a) rest e = front-comes w (Handshake, a) rest _ e refl (λ p h. absurd h)
comes-reads w n (Reply k c x, a) rest e =
    closes-comes w (reads_reply (record w { to_debugger = rest; at_debugger = n }) (Reply k c x, a) k) (Reply k c x, a) rest (composites_of w.parked ++ answered k x) (ends (Reply k c x) || has_end w.parked) e refl (answered-in k c x a w.parked)
comes-reads w n (Report c, a) rest e = comes-composite w n c a rest w.ready e

comes-handled : {S : Type 0} (measure : Measure) (w : World S) (q : Packet S) (rest : List (Packet S)) (f : Option Fault) → w.to_debugger ≡ q ∷ rest → Comes w [] (debugger_handles (debugger_takes measure w q rest) q f)
comes-handled measure w q rest (Some f) e = front-comes w q rest _ e refl (λ p h. absurd (subst (λ l. IsIn l p) (told-lost w.pending) h))
comes-handled measure w q rest None e = comes-reads w (w.at_debugger - measure.message q.0) q rest e

-- ---- all events

abbrev Comes-to : {S : Type 0} → World S → World S → Type 0
Comes-to w v = Comes w [] (v, [])

none-behind : (l : List (ℕ × Answer)) → l ++ [] ≡ l
none-behind l = append-nil l

comes-told : {S : Type 0} (w : World S) (after : Moment S) (o : Option CompositeMeaning) (phase : Phase) (b : Bool) → Comes w [] (step_ends (with_report w after o) phase b, [])
comes-told w after None phase false = same-comes w _ [] refl
comes-told w after None Established true = more-comes w _ [] _ refl refl
comes-told w after None AwaitingHandshake true = same-comes w _ [] refl
comes-told w after None Closed true = same-comes w _ [] refl
comes-told w after (Some c) phase false = more-comes w _ [] _ refl refl
comes-told w after (Some c) Established true = same-comes w _ [] (replied-append (w.to_debugger ++ (Report c, after) ∷ []) _ ∙ (none-behind _ ∙ (replied-append w.to_debugger _ ∙ none-behind _)))
comes-told w after (Some c) AwaitingHandshake true = more-comes w _ [] _ refl refl
comes-told w after (Some c) Closed true = more-comes w _ [] _ refl refl

comes-ask : {S : Type 0} (w : World S) (c : Command) (r : Option AskRefusal) → Comes w [] (ask_by w c r)
comes-ask w c (Some r) = record { told = λ p h. absurd h; left = λ p h. inl h }
comes-ask w c None = record { told = λ p h. absurd h; left = λ p h. inl h }

comes-next : {S : Type 0} (m : Meaning S) (settings : Settings) (measure : Measure) (w : World S) (e : LinkEvent) → Comes w (gives m settings measure w e) (next m settings measure w e)
comes-next m settings measure w Events.Attach = cond_both (may_attach w) (attached w) w (Comes-to w) (λ _. record { told = λ p h. absurd h; left = λ p h. absurd h }) (λ _. same-comes w w [] refl)
comes-next m settings measure w (Events.Ask c) = comes-ask w c (ask_refusal settings measure w c)
comes-next m settings measure w (Events.ToTarget n) = cond_both (is_closed w.target) w _ (Comes-to w) (λ _. same-comes w w [] refl) (λ _. same-comes w _ [] refl)
comes-next m settings measure w (Events.ToDebugger n) = cond_both (is_closed w.debugger) w _ (Comes-to w) (λ _. same-comes w w [] refl) (λ _. same-comes w _ [] refl)
comes-next m settings measure w Events.TargetTurn = comes-turn m settings measure w
comes-next m settings measure w Events.DebuggerTurn =
    by_debugger_front settings measure w (λ o. Comes w [] (debugger_turn_at measure w o)) (same-comes w w [] refl) (λ q rest _ e. comes-handled measure w q rest (fault_of (reader w) q.0) e)
comes-next m settings measure w (Events.Step t) =
    cond_both (steps_now m settings measure w t) _ _ (Comes-to w) (λ _. comes-told w (occurs m w.now t).after (occurs m w.now t).sends w.target (occurs m w.now t).dies) (λ _. same-comes w w [] refl)
comes-next m settings measure w Events.TargetLoses = same-comes w _ [] refl
comes-next m settings measure w (Events.Defer deferring) = same-comes w _ [] refl
comes-next m settings measure w (Events.Release place) = comes-release m settings measure w place
comes-next m settings measure w Events.DebuggerLoses = record { told = λ p h. absurd (subst (λ l. IsIn l p) (told-lost w.pending) h); left = λ p h. inl h }

comes-run : {S : Type 0} (m : Meaning S) (settings : Settings) (measure : Measure) (w : World S) (es : List LinkEvent) (p : ℕ × Answer) → IsIn (told_answers (outcomes m settings measure w es)) p → IsIn (replied w.to_debugger) p ⊎ IsIn (given_answers m settings measure w es) p
comes-run m settings measure w [] p h = absurd h
comes-run m settings measure w (e ∷ es) p h =
    let c = comes-next m settings measure w e in
    let v = (next m settings measure w e).0 in
    let now = gives m settings measure w e in
    let later = given_answers m settings measure v es in
    elim (in-append (told_answers (next m settings measure w e).1) (told_answers (outcomes m settings measure v es)) p (subst (λ l. IsIn l p) (told-append (next m settings measure w e).1 (outcomes m settings measure v es)) h)) [
      | inl k ↦ inl (c.told p k)
      | inr k ↦ elim (comes-run m settings measure v es p k) [
        | inl q ↦ elim (c.left p q) [ inl z ↦ inl z | inr z ↦ inr (in-front now later p z) ]
        | inr q ↦ inr (in-back now later p q)
      ]
    ]

pub tells-on : {S : Type 0} (m : Meaning S) (settings : Settings) (measure : Measure) (w : World S) (es : List LinkEvent) (p : ℕ × Answer) → w.to_debugger ≡ [] → IsIn (told_answers (outcomes m settings measure w es)) p
    → IsIn (given_answers m settings measure w es) p
tells-on m settings measure w es p none h = elim (comes-run m settings measure w es p h) [ inl k ↦ absurd (subst (λ ps. IsIn (replied ps) p) none k) | inr k ↦ k ]
