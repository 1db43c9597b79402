-- the few ways in which a link changes, whatever the event
use Rattle.std.proofs.Common.{◌≡◌, ℕ, ◌-◌, Bool, true, false, ◌||◌, ◌&&◌, Option, Some, None, List, [], ◌∷◌, ◌++◌, refl}
use Rattle.std.proofs.lemmas.Bool.{cond_both}
use Rattle.jdwp_layout.specs.declared.answer.Answer.{Answer}
use Rattle.jdwp_end.specs.declared.phase.Phase.{Phase}
use Rattle.jdwp_end.specs.declared.phase.Phase.TheVariants.{AwaitingHandshake, Established}
use Rattle.jdwp_end.specs.Ends.{is_established_phase}
use Rattle.jdwp_event.specs.Composites.{CompositeMeaning}
use Rattle.jdwp_event.specs.Told.{is_vm_death}
use Rattle.jdwp_machine.specs.Meanings.{Meaning}
use Rattle.jdwp_debuggee.specs.Settings.{Settings}
use Rattle.jdwp_debuggee.specs.State.{Moment}
use Rattle.jdwp_action.specs.Actions.{Command}
use Rattle.jdwp_debuggee.specs.Effects.{effect}
use Rattle.jdwp_debuggee.specs.Steps.{occurs, may_step}
use Rattle.jdwp_debuggee.specs.Deferring.{released_at}
use Rattle.jdwp_mirror.specs.Messages.{Ticket, Call, Greets, Asks, Handshake, Reply, Report}
use Rattle.jdwp_mirror.specs.Mirror.{ends}
use Rattle.jdwp_mirror.specs.Faults.{Fault, fault_of}
use Rattle.jdwp_model.specs.Events
use Rattle.jdwp_model.specs.Events.{LinkEvent, AskRefusal, Outcome}
use Rattle.jdwp_model.specs.World.{Measure, is_closed, Packet, World, way_to_target, way_to_debugger}
use Rattle.jdwp_model.specs.Next.{steps_now, attached, may_attach, ask_refusal, is_busy, asks, ask_by, delivered, target_loses, greets_by, dies_by, answers, carries_out, defers, defers_or, target_takes, target_handles, target_turn_at, releases_at, debugger_closed, closes_by, has_end, composites_of, answered, reads_handshake, reads_reply, reads_composite, reads, reader, debugger_handles, debugger_takes, debugger_turn_at, stepped, next}
use Rattle.jdwp_model.proofs.Session.{and-left, and-right}
use Rattle.jdwp_model.proofs.Fronts.{by_target_front, by_release_front, by_debugger_front}
use Rattle.jdwp_model.proofs.Keeps.{asked-ready, greeted-before, not-greeted}

-- What has to be shown of a link's changes for something to hold after each event.
pub record Kept {S : Type 0} (m : Meaning S) (settings : Settings) (w : World S) (P : World S → Type 0) : Type 0 where
  pub attach : is_closed w.target ≡ true → is_closed w.debugger ≡ true → P (attached w)
  pub ask : (c : Command) → is_established_phase w.debugger ≡ true → w.ready ≡ true → P (asks w c)
  pub to_target : (n : ℕ) → P (record w { at_target = n })
  pub to_debugger : (n : ℕ) → P (record w { at_debugger = n })
  pub greet : (n : ℕ) (rest : List Call) (b : Bool) → w.target ≡ AwaitingHandshake → w.to_target ≡ Greets ∷ rest → w.now.state.handshaken ≡ b → P (greets_by settings (record w { to_target = rest; at_target = n }) b)
  pub command : (n : ℕ) (rest : List Call) (k : Ticket) (c : Command) → w.target ≡ Established → w.to_target ≡ Asks k c ∷ rest → P (dies_by (answers (record w { to_target = rest; at_target = n }) k c (effect m settings w.now c)) (effect m settings w.now c).dies)
  pub deferral : (n : ℕ) (rest : List Call) (k : Ticket) (c : Command) → w.target ≡ Established → w.to_target ≡ Asks k c ∷ rest → defers w c ≡ true → P (record w { to_target = rest; at_target = n; deferred = w.deferred ++ (k, c) ∷ [] })
  pub release : (place : ℕ) (k : Ticket) (c : Command) (rest : List (Ticket × Command)) → w.target ≡ Established → released_at place w.deferred ≡ Some ((k, c), rest) → P (carries_out m settings (record w { deferred = rest }) k c)
  pub lose : P (target_loses w)
  pub close : P (debugger_closed w)
  pub end : (n : ℕ) (p : Packet S) (rest : List (Packet S)) → is_closed w.debugger ≡ false → w.to_debugger ≡ p ∷ rest → P (debugger_closed (record w { to_debugger = rest; at_debugger = n }))
  pub handshake : (n : ℕ) (a : Moment S) (rest : List (Packet S)) → is_closed w.debugger ≡ false → is_established_phase w.debugger ≡ false → w.to_debugger ≡ (Handshake, a) ∷ rest → P (reads_handshake (record w { to_debugger = rest; at_debugger = n }) (Handshake, a))
  pub reply : (n : ℕ) (k : Ticket) (c : Command) (x : Answer) (a : Moment S) (rest : List (Packet S)) → is_established_phase w.debugger ≡ true → w.to_debugger ≡ (Reply k c x, a) ∷ rest → P (reads_reply (record w { to_debugger = rest; at_debugger = n }) (Reply k c x, a) k)
  pub park : (n : ℕ) (c : CompositeMeaning) (a : Moment S) (rest : List (Packet S)) → is_established_phase w.debugger ≡ true → w.to_debugger ≡ (Report c, a) ∷ rest → P (record w { to_debugger = rest; at_debugger = n; parked = w.parked ++ (Report c, a) ∷ [] })
  pub see : (n : ℕ) (c : CompositeMeaning) (a : Moment S) (rest : List (Packet S)) → is_established_phase w.debugger ≡ true → w.ready ≡ true → w.to_debugger ≡ (Report c, a) ∷ rest → P (record w { to_debugger = rest; at_debugger = n; read = (Report c, a) ∷ w.read })
  pub step : (t : ℕ) → may_step m settings w.now t ≡ true → P (stepped w (occurs m w.now t))

-- ---- asking

ask-by : {S : Type 0} (m : Meaning S) (settings : Settings) (measure : Measure) (w : World S) (P : World S → Type 0) (c : Command) (r : Option AskRefusal) → P w → Kept m settings w P → ask_refusal settings measure w c ≡ r → P (ask_by w c r).0
ask-by m settings measure w P c (Some r) p k e = p
ask-by m settings measure w P c None p k e =
    let both : (is_established_phase w.debugger && w.ready) ≡ true = asked-ready (is_closed w.debugger) (is_established_phase w.debugger && w.ready) (is_busy settings measure w) (measure.unfit c) e in
    k.ask c (and-left _ _ both) (and-right (is_established_phase w.debugger) _ both)

-- ---- the target's turn

handled : {S : Type 0} (m : Meaning S) (settings : Settings) (measure : Measure) (w : World S) (P : World S → Type 0) (rest : List Call) (phase : Phase) (call : Call) → Kept m settings w P → w.target ≡ phase → w.to_target ≡ call ∷ rest → P (target_handles m settings measure w rest phase call)
handled m settings measure w P rest AwaitingHandshake Greets k p e = k.greet (w.at_target - measure.call Greets) rest w.now.state.handshaken p e refl
handled m settings measure w P rest Established (Asks t c) k p e =
    elim (defers w c) as (λ b. defers w c ≡ b → P (defers_or m settings (target_takes measure w (Asks t c) rest) t c b)) [
      | true ↦ λ d. k.deferral (w.at_target - measure.call (Asks t c)) rest t c p e d
      | false ↦ λ _. k.command (w.at_target - measure.call (Asks t c)) rest t c p e
    ] refl
handled m settings measure w P rest phase call k p e = k.lose

-- ---- the debugger's turn

closed-by : {S : Type 0} (v : World S) (P : World S → Type 0) (outcomes : List Outcome) (b : Bool) → P (debugger_closed v) → P v → P (closes_by v outcomes b).0
closed-by v P outcomes true p q = p
closed-by v P outcomes false p q = q

composite-read : {S : Type 0} (m : Meaning S) (settings : Settings) (w : World S) (P : World S → Type 0) (n : ℕ) (c : CompositeMeaning) (a : Moment S) (rest : List (Packet S)) (b : Bool) → Kept m settings w P → is_closed w.debugger ≡ false → is_established_phase w.debugger ≡ true → w.to_debugger ≡ (Report c, a) ∷ rest → w.ready ≡ b → P (reads_composite (record w { to_debugger = rest; at_debugger = n }) (Report c, a) c b).0
composite-read m settings w P n c a rest false k o g e h = k.park n c a rest g e
composite-read m settings w P n c a rest true k o g e h =
    closed-by (record w { to_debugger = rest; at_debugger = n; read = (Report c, a) ∷ w.read }) P (Events.Seen c ∷ []) (is_vm_death c) (k.end n (Report c, a) rest o e) (k.see n c a rest g h e)

was-read : {S : Type 0} (m : Meaning S) (settings : Settings) (w : World S) (P : World S → Type 0) (n : ℕ) (p : Packet S) (rest : List (Packet S)) → Kept m settings w P → is_closed w.debugger ≡ false → w.to_debugger ≡ p ∷ rest → fault_of (reader w) p.0 ≡ None → P (reads (record w { to_debugger = rest; at_debugger = n }) p).0
was-read m settings w P n (Handshake, a) rest k o e f = k.handshake n a rest o (not-greeted (is_established_phase w.debugger) f) e
was-read m settings w P n (Reply t c x, a) rest k o e f =
    let g = greeted-before (is_established_phase w.debugger) _ None f in
    closed-by (reads_reply (record w { to_debugger = rest; at_debugger = n }) (Reply t c x, a) t) P (composites_of w.parked ++ answered t x) (ends (Reply t c x) || has_end w.parked) (k.end n (Reply t c x, a) rest o e) (k.reply n t c x a rest g e)
was-read m settings w P n (Report c, a) rest k o e f = composite-read m settings w P n c a rest w.ready k o (greeted-before (is_established_phase w.debugger) _ None f) e refl

packet-handled : {S : Type 0} (m : Meaning S) (settings : Settings) (measure : Measure) (w : World S) (P : World S → Type 0) (p : Packet S) (rest : List (Packet S)) (f : Option Fault) → Kept m settings w P → is_closed w.debugger ≡ false → w.to_debugger ≡ p ∷ rest → fault_of (reader w) p.0 ≡ f → P (debugger_handles (debugger_takes measure w p rest) p f).0
packet-handled m settings measure w P p rest (Some f) k o e h = k.end (w.at_debugger - measure.message p.0) p rest o e
packet-handled m settings measure w P p rest None k o e h = was-read m settings w P (w.at_debugger - measure.message p.0) p rest k o e h

-- ---- all events

pub kept_next : {S : Type 0} (m : Meaning S) (settings : Settings) (measure : Measure) (w : World S) (P : World S → Type 0) (e : LinkEvent) → P w → Kept m settings w P → ((deferring : Bool) → e ≡ Events.Defer deferring → P (record w { deferring = deferring })) → P (next m settings measure w e).0
kept_next m settings measure w P Events.Attach p k d =
    cond_both (may_attach w) (attached w) w P (λ h. k.attach (and-left _ _ h) (and-left _ _ (and-right (is_closed w.target) _ h))) (λ _. p)
kept_next m settings measure w P (Events.Ask c) p k d = ask-by m settings measure w P c (ask_refusal settings measure w c) p k refl
kept_next m settings measure w P (Events.ToTarget n) p k d = cond_both (is_closed w.target) _ _ P (λ _. p) (λ _. k.to_target (delivered settings n (way_to_target measure w) w.at_target))
kept_next m settings measure w P (Events.ToDebugger n) p k d = cond_both (is_closed w.debugger) _ _ P (λ _. p) (λ _. k.to_debugger (delivered settings n (way_to_debugger measure w) w.at_debugger))
kept_next m settings measure w P Events.TargetTurn p k d =
    by_target_front settings measure w (λ o. P (target_turn_at m settings measure w o)) p (λ call rest _ e. handled m settings measure w P rest w.target call k refl e)
kept_next m settings measure w P Events.DebuggerTurn p k d =
    by_debugger_front settings measure w (λ o. P (debugger_turn_at measure w o).0) p (λ q rest o e. packet-handled m settings measure w P q rest (fault_of (reader w) q.0) k o e refl)
kept_next m settings measure w P (Events.Step t) p k d =
    cond_both (steps_now m settings measure w t) _ _ P (λ h. k.step t (and-left _ _ h)) (λ _. p)
kept_next m settings measure w P Events.TargetLoses p k d = k.lose
kept_next m settings measure w P Events.DebuggerLoses p k d = k.close
kept_next m settings measure w P (Events.Defer deferring) p k d = d deferring refl
kept_next m settings measure w P (Events.Release place) p k d =
    by_release_front settings measure w place (λ o. P (releases_at m settings w o)) p (λ j c rest t e. k.release place j c rest t e)
