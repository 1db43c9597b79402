-- no ticket is answered twice
use Rattle.std.proofs.Common.{◌≡◌, ℕ, ◌==◌, ◌+◌, ◌<◌, ◌≤◌, Bool, true, false, ◌||◌, cond, Option, Some, None, List, [], ◌∷◌, ◌++◌, refl, ◌∙◌, ap, arith}
use Rattle.std.specs.Prelude.{nat_lt}
use Rattle.std.proofs.lemmas.Bool.{cond_both, eqb-true, ltb-true, ltb-false}
use Rattle.jdwp_layout.specs.declared.answer.Answer.{Answer}
use Rattle.jdwp_end.specs.declared.phase.Phase.{Phase}
use Rattle.jdwp_end.specs.declared.phase.Phase.TheVariants.{Closed, AwaitingHandshake, Established}
use Rattle.jdwp_event.specs.Composites.{CompositeMeaning}
use Rattle.jdwp_event.specs.Told.{is_vm_death}
use Rattle.jdwp_machine.specs.Meanings.{Meaning}
use Rattle.jdwp_debuggee.specs.Settings.{Settings}
use Rattle.jdwp_debuggee.specs.State.{Moment}
use Rattle.jdwp_action.specs.Actions.{Command}
use Rattle.jdwp_debuggee.specs.Effects.{Effect, effect}
use Rattle.jdwp_debuggee.specs.Steps.{occurs}
use Rattle.jdwp_debuggee.specs.Deferring.{released_at}
use Rattle.jdwp_mirror.specs.Messages.{Ticket, Call, Greets, Asks, Handshake, Reply, Report, id_sizes}
use Rattle.jdwp_mirror.specs.Mirror.{ends}
use Rattle.jdwp_mirror.specs.Faults.{Fault, fault_of}
use Rattle.jdwp_model.specs.Events
use Rattle.jdwp_model.specs.Events.{LinkEvent, AskRefusal, Outcome}
use Rattle.jdwp_model.specs.World.{Measure, is_closed, Packet, World, opening}
use Rattle.jdwp_model.specs.Next.{steps_now, attached, may_attach, ask_refusal, ask_by, asks, target_loses, greets_by, dies_by, answers, carries_out, defers, defers_or, target_takes, target_handles, target_turn_at, releases_at, closes_by, has_end, composites_of, answered, reads_reply, reads_composite, reads, reader, debugger_handles, debugger_takes, debugger_turn_at, with_report, step_ends, next}
use Rattle.jdwp_model.specs.Tickets.{times}
use Rattle.jdwp_model.specs.Given.{gives_command, gives_or, gives_call, gives_front, gives_released, gives, given_answers, answer_tickets, GivesOnce}
use Rattle.jdwp_model.specs.Places.{commands, tally, one_of}
use Rattle.jdwp_model.proofs.Session.{commands_append}
use Rattle.jdwp_model.proofs.Fronts.{by_target_front, by_release_front, by_debugger_front}
use Rattle.jdwp_model.proofs.Waiting.{tally-append, bit, released-parts}
use Rattle.jdwp_model.proofs.Apart.{asked-fresh}

-- how often a ticket is deferred, or under way to the target
abbrev places : {S : Type 0} → ℕ → World S → ℕ
places k w = tally (one_of (Some k)) w.deferred + tally (one_of (Some k)) (commands w.to_target)

-- no ticket is given, and those of the answers are at these places no more
record Once {S : Type 0} (w : World S) (new : List (ℕ × Answer)) (v : World S) : Type 0 where
  asked : v.asked ≡ w.asked
  less : (k : ℕ) → times k (answer_tickets new) + places k v ≤ places k w

once-same : {S : Type 0} (w v : World S) → v.asked ≡ w.asked → v.deferred ≡ w.deferred → v.to_target ≡ w.to_target → Once w [] v
once-same w v a d t =
    record {
      asked = a;
      less = λ k.
          let x : tally (one_of (Some k)) v.deferred ≡ tally (one_of (Some k)) w.deferred = ap (tally (one_of (Some k))) d in
          let y : tally (one_of (Some k)) (commands v.to_target) ≡ tally (one_of (Some k)) (commands w.to_target) = ap (λ l. tally (one_of (Some k)) (commands l)) t in
          omega arith;
    }

-- nothing is deferred any more
once-dropped : {S : Type 0} (w v : World S) → v.asked ≡ w.asked → v.deferred ≡ [] → v.to_target ≡ w.to_target → Once w [] v
once-dropped w v a d t =
    record {
      asked = a;
      less = λ k.
          let x : tally (one_of (Some k)) v.deferred ≡ 0 = ap (tally (one_of (Some k))) d in
          let y : tally (one_of (Some k)) (commands v.to_target) ≡ tally (one_of (Some k)) (commands w.to_target) = ap (λ l. tally (one_of (Some k)) (commands l)) t in
          omega arith;
    }

-- ---- an answer

given-one : {S : Type 0} (m : Meaning S) (settings : Settings) (w : World S) (t : Ticket) (c : Command) (k : ℕ) → times k (answer_tickets (gives_command m settings w t c)) ≡ one_of (Some k) (t, c)
given-one m settings w None c k = refl
given-one m settings w (Some j) c k = omega arith

asked-stays : {S : Type 0} (v : World S) (b : Bool) → (dies_by v b).asked ≡ v.asked
asked-stays v true = refl
asked-stays v false = refl

places-less : {S : Type 0} (v : World S) (t : Ticket) (c : Command) (e : Effect S) (dies closes : Bool) (k : ℕ) → e.closes ≡ closes → places k (dies_by (answers v t c e) dies) ≤ places k v
places-less v t c e true closes k q = omega arith
places-less v t c e false true k q =
    let z : tally (one_of (Some k)) (cond e.closes [] v.deferred) ≡ 0 = ap (λ b. tally (one_of (Some k)) (cond b [] v.deferred)) q in omega arith
places-less v t c e false false k q =
    let z : tally (one_of (Some k)) (cond e.closes [] v.deferred) ≡ tally (one_of (Some k)) v.deferred = ap (λ b. tally (one_of (Some k)) (cond b [] v.deferred)) q in omega arith

once-command : {S : Type 0} (m : Meaning S) (settings : Settings) (w v : World S) (t : Ticket) (c : Command) → v.asked ≡ w.asked → ((k : ℕ) → one_of (Some k) (t, c) + places k v ≤ places k w) → Once w (gives_command m settings w t c) (carries_out m settings v t c)
once-command m settings w v t c a h =
    record {
      asked = asked-stays (answers v t c (effect m settings v.now c)) (effect m settings v.now c).dies ∙ a;
      less = λ k.
          let x = given-one m settings w t c k in
          let y = places-less v t c (effect m settings v.now c) (effect m settings v.now c).dies (effect m settings v.now c).closes k refl in
          let z = h k in
          omega arith;
    }

-- ---- the target's turn

once-greets : {S : Type 0} (settings : Settings) (w v : World S) (b : Bool) → v.asked ≡ w.asked → ((k : ℕ) → places k v ≤ places k w) → Once w [] (greets_by settings v b)
once-greets settings w v true a h = record { asked = a; less = λ k. let x = h k in omega arith }
once-greets settings w v false a h = record { asked = a; less = λ k. let x = h k in omega arith }

once-handles : {S : Type 0} (m : Meaning S) (settings : Settings) (measure : Measure) (w : World S) (rest : List Call) (phase : Phase) (call : Call) → w.to_target ≡ call ∷ rest → Once w (gives_call m settings w phase call) (target_handles m settings measure w rest phase call)
once-handles m settings measure w rest AwaitingHandshake Greets e =
    once-greets settings w (target_takes measure w Greets rest) w.now.state.handshaken refl
    (λ k. let x : tally (one_of (Some k)) (commands w.to_target) ≡ tally (one_of (Some k)) (commands rest) = ap (λ l. tally (one_of (Some k)) (commands l)) e in omega arith)
once-handles m settings measure w rest Established (Asks t c) e =
    let v = target_takes measure w (Asks t c) rest in
    let all : (k : ℕ) → tally (one_of (Some k)) (commands w.to_target) ≡ one_of (Some k) (t, c) + tally (one_of (Some k)) (commands rest) = λ k. ap (λ l. tally (one_of (Some k)) (commands l)) e in
    elim (defers w c) as (λ b. Once w (gives_or m settings w t c b) (defers_or m settings v t c b)) [
      | true ↦ record { asked = refl; less = λ k. let x = all k in let y = tally-append (one_of (Some k)) w.deferred ((t, c) ∷ []) in omega arith }
      | false ↦ once-command m settings w v t c refl (λ k. let x = all k in omega arith)
    ]
once-handles m settings measure w rest phase call e = once-dropped w (target_loses w) refl refl refl

once-releases : {S : Type 0} (m : Meaning S) (settings : Settings) (w : World S) (place : ℕ) (k : Ticket) (c : Command) (rest : List (Ticket × Command)) → released_at place w.deferred ≡ Some ((k, c), rest) → Once w (gives_command m settings w k c) (carries_out m settings (record w { deferred = rest }) k c)
once-releases m settings w place k c rest e =
    let parts = released-parts place w.deferred (k, c) rest e in
    once-command m settings w (record w { deferred = rest }) k c refl (λ j. let x = parts.weighs (one_of (Some j)) in omega arith)

-- ---- the debugger's turn

abbrev Calm : {S : Type 0} → World S → World S × List Outcome → Type 0
Calm w r = Once w [] r.0

calm-closes : {S : Type 0} (w v : World S) (os : List Outcome) (b : Bool) → v.asked ≡ w.asked → v.deferred ≡ w.deferred → v.to_target ≡ w.to_target → Calm w (closes_by v os b)
calm-closes w v os true a d t = once-same w _ a d t
calm-closes w v os false a d t = once-same w v a d t

calm-composite : {S : Type 0} (w : World S) (n : ℕ) (p : Packet S) (c : CompositeMeaning) (rest : List (Packet S)) (b : Bool) → Calm w (reads_composite (record w { to_debugger = rest; at_debugger = n }) p c b)
calm-composite w n p c rest false = once-same w _ refl refl refl
calm-composite w n p c rest true = calm-closes w (record w { to_debugger = rest; at_debugger = n; read = p ∷ w.read }) (Events.Seen c ∷ []) (is_vm_death c) refl refl refl

calm-reads : {S : Type 0} (w : World S) (n : ℕ) (p : Packet S) (rest : List (Packet S)) → Calm w (reads (record w { to_debugger = rest; at_debugger = n }) p)
calm-reads w n (Handshake, a) rest =
    record {
      asked = refl;
      less = λ k.
          let x : tally (one_of (Some k)) (commands (w.to_target ++ Asks None id_sizes ∷ [])) ≡ tally (one_of (Some k)) (commands w.to_target ++ (None, id_sizes) ∷ []) = ap (tally (one_of (Some k))) (commands_append w.to_target (Asks None id_sizes ∷ [])) in
          let y : tally (one_of (Some k)) (commands w.to_target ++ (None, id_sizes) ∷ []) ≡ tally (one_of (Some k)) (commands w.to_target) + 0 = tally-append (one_of (Some k)) (commands w.to_target) ((None, id_sizes) ∷ []) in
          omega arith;
    }
calm-reads w n (Reply k c x, a) rest =
    calm-closes w (reads_reply (record w { to_debugger = rest; at_debugger = n }) (Reply k c x, a) k) (composites_of w.parked ++ answered k x) (ends (Reply k c x) || has_end w.parked) refl refl refl
calm-reads w n (Report c, a) rest = calm-composite w n (Report c, a) c rest w.ready

calm-handled : {S : Type 0} (measure : Measure) (w : World S) (p : Packet S) (rest : List (Packet S)) (f : Option Fault) → Calm w (debugger_handles (debugger_takes measure w p rest) p f)
calm-handled measure w p rest (Some f) = once-same w _ refl refl refl
calm-handled measure w p rest None = calm-reads w (debugger_takes measure w p rest).at_debugger p rest

once-ended : {S : Type 0} (w v : World S) (phase : Phase) (dies : Bool) → v.asked ≡ w.asked → v.deferred ≡ w.deferred → v.to_target ≡ w.to_target → Once w [] (step_ends v phase dies)
once-ended w v phase false a d t = once-same w v a d t
once-ended w v Established true a d t = once-dropped w _ a refl t
once-ended w v AwaitingHandshake true a d t = once-dropped w _ a refl t
once-ended w v Closed true a d t = once-dropped w _ a refl t

once-told : {S : Type 0} (w : World S) (after : Moment S) (o : Option CompositeMeaning) (phase : Phase) (dies : Bool) → Once w [] (step_ends (with_report w after o) phase dies)
once-told w after None phase dies = once-ended w (with_report w after None) phase dies refl refl refl
once-told w after (Some c) phase dies = once-ended w (with_report w after (Some c)) phase dies refl refl refl

-- ---- all events

-- of the tickets so far, each at most once; and none that was not given
record Few {S : Type 0} (before : ℕ → ℕ) (w : World S) : Type 0 where
  once : (k : ℕ) → before k + places k w ≤ 1
  fresh : (k : ℕ) → w.asked < k → before k + places k w ≡ 0

few-on : {S : Type 0} (before : ℕ → ℕ) (w v : World S) (new : List (ℕ × Answer)) → Few before w → Once w new v → Few (λ k. before k + times k (answer_tickets new)) v
few-on before w v new f o =
    record {
      once = λ k. let x = f.once k in let y = o.less k in omega arith;
      fresh = λ k l. let a = o.asked in let m : w.asked < k = omega arith in let x = f.fresh k m in let y = o.less k in omega arith;
    }

one-most : (k n : ℕ) (c : Command) → one_of (Some k) (Some n, c) ≤ 1
one-most k n c = elim (n == k) as (λ b. cond b 1 0 ≤ 1) [ true ↦ omega arith | false ↦ omega arith ]

one-none : (k n : ℕ) (c : Command) → k < n → one_of (Some k) (Some n, c) ≡ 0
one-none k n c l = elim (n == k) as (λ b. (n == k) ≡ b → bit b ≡ 0) [ true ↦ λ e. let y : n ≡ k = eqb-true n k e in absurd (omega arith) | false ↦ λ _. refl ] refl

few-asks : {S : Type 0} (before : ℕ → ℕ) (w : World S) (c : Command) → Few before w → Few (λ k. before k + 0) (asks w c)
few-asks before w c f =
    let sum : (k : ℕ) → tally (one_of (Some k)) (commands (w.to_target ++ Asks (Some (w.asked + 1)) c ∷ [])) ≡ tally (one_of (Some k)) (commands w.to_target) + (one_of (Some k) (Some (w.asked + 1), c) + 0) = λ k.
    ap (tally (one_of (Some k))) (commands_append w.to_target (Asks (Some (w.asked + 1)) c ∷ [])) ∙ tally-append (one_of (Some k)) (commands w.to_target) ((Some (w.asked + 1), c) ∷ []) in
    record {
      once = λ k.
          let s = sum k in
          elim (nat_lt w.asked k) as (λ b. nat_lt w.asked k ≡ b → (before k + 0) + places k (asks w c) ≤ 1) [
            | true ↦ λ l. let z = f.fresh k (ltb-true w.asked k l) in let y = one-most k (w.asked + 1) c in omega arith
            | false ↦ λ l.
                let u : k ≤ w.asked = ltb-false w.asked k l in
                let n : k < w.asked + 1 = omega arith in
                let z = f.once k in
                let y = one-none k (w.asked + 1) c n in
                omega arith
          ] refl;
      fresh = λ k l. let s = sum k in let n : w.asked < k = omega arith in let z = f.fresh k n in let y = asked-fresh (w.asked + 1) k l in omega arith;
    }

few-ask : {S : Type 0} (before : ℕ → ℕ) (w : World S) (c : Command) (r : Option AskRefusal) → Few before w → Few (λ k. before k + 0) (ask_by w c r).0
few-ask before w c (Some r) f = few-on before w w [] f (once-same w w refl refl refl)
few-ask before w c None f = few-asks before w c f

few-next : {S : Type 0} (m : Meaning S) (settings : Settings) (measure : Measure) (before : ℕ → ℕ) (w : World S) (e : LinkEvent) → Few before w → Few (λ k. before k + times k (answer_tickets (gives m settings measure w e))) (next m settings measure w e).0
few-next m settings measure before w Events.Attach f = few-on before w _ [] f (cond_both (may_attach w) (attached w) w (Once w []) (λ _. record { asked = refl; less = λ k. omega arith }) (λ _. once-same w w refl refl refl))
few-next m settings measure before w (Events.Ask c) f = few-ask before w c (ask_refusal settings measure w c) f
few-next m settings measure before w (Events.ToTarget n) f = few-on before w _ [] f (cond_both (is_closed w.target) w _ (Once w []) (λ _. once-same w w refl refl refl) (λ _. once-same w _ refl refl refl))
few-next m settings measure before w (Events.ToDebugger n) f = few-on before w _ [] f (cond_both (is_closed w.debugger) w _ (Once w []) (λ _. once-same w w refl refl refl) (λ _. once-same w _ refl refl refl))
few-next m settings measure before w Events.TargetTurn f =
    few-on before w _ _ f (by_target_front settings measure w (λ o. Once w (gives_front m settings w o) (target_turn_at m settings measure w o)) (once-same w w refl refl refl) (λ call rest _ e. once-handles m settings measure w rest w.target call e))
few-next m settings measure before w Events.DebuggerTurn f =
    few-on before w _ [] f (by_debugger_front settings measure w (λ o. Calm w (debugger_turn_at measure w o)) (once-same w w refl refl refl) (λ p rest _ _. calm-handled measure w p rest (fault_of (reader w) p.0)))
few-next m settings measure before w (Events.Step t) f =
    few-on before w _ [] f (cond_both (steps_now m settings measure w t) _ _ (Once w []) (λ _. once-told w (occurs m w.now t).after (occurs m w.now t).sends w.target (occurs m w.now t).dies) (λ _. once-same w w refl refl refl))
few-next m settings measure before w Events.TargetLoses f = few-on before w _ [] f (once-dropped w (target_loses w) refl refl refl)
few-next m settings measure before w Events.DebuggerLoses f = few-on before w _ [] f (once-same w _ refl refl refl)
few-next m settings measure before w (Events.Defer deferring) f = few-on before w _ [] f (once-same w _ refl refl refl)
few-next m settings measure before w (Events.Release place) f =
    few-on before w _ _ f (by_release_front settings measure w place (λ o. Once w (gives_released m settings w o) (releases_at m settings w o)) (once-same w w refl refl refl) (λ k c rest _ e. once-releases m settings w place k c rest e))

answers-append : (k : ℕ) (xs ys : List (ℕ × Answer)) → times k (answer_tickets (xs ++ ys)) ≡ times k (answer_tickets xs) + times k (answer_tickets ys)
answers-append k [] ys = omega arith
answers-append k (x ∷ xs) ys = omega (arith, answers-append k xs ys)

once-run : {S : Type 0} (m : Meaning S) (settings : Settings) (measure : Measure) (before : ℕ → ℕ) (w : World S) (es : List LinkEvent) (k : ℕ) → Few before w → before k + times k (answer_tickets (given_answers m settings measure w es)) ≤ 1
once-run m settings measure before w [] k f = let x = f.once k in omega arith
once-run m settings measure before w (e ∷ es) k f =
    let v = (next m settings measure w e).0 in
    let x = once-run m settings measure (λ k. before k + times k (answer_tickets (gives m settings measure w e))) v es k (few-next m settings measure before w e f) in
    let y = answers-append k (gives m settings measure w e) (given_answers m settings measure v es) in
    omega arith

pub gives_once : {S : Type 0} (m : Meaning S) → GivesOnce m
gives_once m settings measure s events k =
    let h = once-run m settings measure (λ k. 0) (opening m s) events k (record { once = λ k. omega arith; fresh = λ k l. omega arith }) in
    omega arith
