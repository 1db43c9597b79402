-- nobody was suspended as a target's handshake was sent
use Rattle.std.proofs.Common.{◌≡◌, ℕ, Bool, true, false, List, [], ◌∷◌, ◌++◌, Option, Some, None, ap, subst}
use Rattle.jdwp_end.specs.declared.phase.Phase.{Phase}
use Rattle.jdwp_end.specs.declared.phase.Phase.TheVariants.{Closed, AwaitingHandshake, Established}
use Rattle.jdwp_end.specs.Ends.{is_established_phase}
use Rattle.jdwp_event.specs.Composites.{CompositeMeaning, vm_death}
use Rattle.jdwp_machine.specs.Meanings.{Meaning}
use Rattle.jdwp_debuggee.specs.Settings.{Settings}
use Rattle.jdwp_debuggee.specs.State.{Moment, count_or_zero}
use Rattle.jdwp_debuggee.specs.Effects.{Effect, effect}
use Rattle.jdwp_debuggee.specs.Steps.{occurs, start_event}
use Rattle.jdwp_action.specs.Actions.{Command}
use Rattle.jdwp_mirror.specs.Messages.{Ticket, Handshake, Reply, Report}
use Rattle.jdwp_model.specs.World.{Packet, World}
use Rattle.jdwp_model.specs.Next.{started, greets_by, after_death, answers, dies_by, with_report, step_ends}
use Rattle.jdwp_model.proofs.Keeps.{Inv}
use Rattle.jdwp_model.proofs.Cases.{Kept}

abbrev pub GreetsIdle : {S : Type 0} → List (Packet S) → Type 0
GreetsIdle [] = Unit {0}
GreetsIdle ((Handshake, a) ∷ ps) = ((t : ℕ) → count_or_zero a.state t ≡ 0) × GreetsIdle ps
GreetsIdle ((Reply k c x, a) ∷ ps) = GreetsIdle ps
GreetsIdle ((Report c, a) ∷ ps) = GreetsIdle ps

idle-append : {S : Type 0} (ps qs : List (Packet S)) → GreetsIdle ps → GreetsIdle qs → GreetsIdle (ps ++ qs)
idle-append [] qs h k = k
idle-append ((Handshake, a) ∷ ps) qs h k = (h.0, idle-append ps qs h.1 k)
idle-append ((Reply i c x, a) ∷ ps) qs h k = idle-append ps qs h k
idle-append ((Report c, a) ∷ ps) qs h k = idle-append ps qs h k

idle-rest : {S : Type 0} (p : Packet S) (ps : List (Packet S)) → GreetsIdle (p ∷ ps) → GreetsIdle ps
idle-rest (Handshake, a) ps h = h.1
idle-rest (Reply k c x, a) ps h = h
idle-rest (Report c, a) ps h = h

idle-taken : {S : Type 0} (sent rest : List (Packet S)) (p : Packet S) → sent ≡ p ∷ rest → GreetsIdle sent → GreetsIdle rest
idle-taken sent rest p e h = idle-rest p rest (subst GreetsIdle e h)

idle-greeted : {S : Type 0} (settings : Settings) (w : World S) (b : Bool) → GreetsIdle w.to_debugger → ((t : ℕ) → count_or_zero w.now.state t ≡ 0) → GreetsIdle (greets_by settings w b).to_debugger
idle-greeted settings w true h z = idle-append w.to_debugger ((Handshake, w.now) ∷ []) h (z, tt)
idle-greeted settings w false h z = idle-append w.to_debugger ((Handshake, w.now) ∷ (Report (start_event settings w.now.state), started settings w.now) ∷ []) h (z, tt)

idle-answered : {S : Type 0} (w : World S) (k : Ticket) (c : Command) (e : Effect S) (dies : Bool) → GreetsIdle w.to_debugger → GreetsIdle (dies_by (answers w k c e) dies).to_debugger
idle-answered w k c e false h = idle-append w.to_debugger ((Reply k c e.answer, e.after) ∷ []) h tt
idle-answered w k c e true h =
    idle-append (w.to_debugger ++ (Reply k c e.answer, e.after) ∷ []) ((Report vm_death, after_death e.after) ∷ []) (idle-append w.to_debugger ((Reply k c e.answer, e.after) ∷ []) h tt) tt

idle-told : {S : Type 0} (w : World S) (after : Moment S) (sends : Option CompositeMeaning) → GreetsIdle w.to_debugger → GreetsIdle (with_report w after sends).to_debugger
idle-told w after None h = h
idle-told w after (Some c) h = idle-append w.to_debugger ((Report c, after) ∷ []) h tt

idle-ended : {S : Type 0} (w : World S) (phase : Phase) (dies : Bool) → GreetsIdle w.to_debugger → GreetsIdle (step_ends w phase dies).to_debugger
idle-ended w phase false h = h
idle-ended w Established true h = idle-append w.to_debugger ((Report vm_death, after_death w.now) ∷ []) h tt
idle-ended w AwaitingHandshake true h = h
idle-ended w Closed true h = h

pub idle_kept : {S : Type 0} (m : Meaning S) (settings : Settings) (w : World S) → Inv m settings w → GreetsIdle w.to_debugger → Kept m settings w (λ v. GreetsIdle v.to_debugger)
idle_kept m settings w i h =
    record {
      attach = λ _ _. tt;
      ask = λ _ _ _. h;
      to_target = λ _. h;
      to_debugger = λ _. h;
      greet = λ n rest b p _ _. idle-greeted settings (record w { to_target = rest; at_target = n }) b h (i.target.idle (ap is_established_phase p)).1;
      command = λ n rest k c _ _. idle-answered (record w { to_target = rest; at_target = n }) k c (effect m settings w.now c) (effect m settings w.now c).dies h;
      deferral = λ _ _ _ _ _ _ _. h;
      release = λ _ k c rest _ _. idle-answered (record w { deferred = rest }) k c (effect m settings w.now c) (effect m settings w.now c).dies h;
      lose = h;
      close = h;
      end = λ _ p rest _ e. idle-taken w.to_debugger rest p e h;
      handshake = λ _ a rest _ _ e. idle-taken w.to_debugger rest (Handshake, a) e h;
      reply = λ _ k c x a rest _ e. idle-taken w.to_debugger rest (Reply k c x, a) e h;
      park = λ _ c a rest _ e. idle-taken w.to_debugger rest (Report c, a) e h;
      see = λ _ c a rest _ _ e. idle-taken w.to_debugger rest (Report c, a) e h;
      step = λ t _. idle-ended (with_report w (occurs m w.now t).after (occurs m w.now t).sends) w.target (occurs m w.now t).dies (idle-told w (occurs m w.now t).after (occurs m w.now t).sends h);
    }
