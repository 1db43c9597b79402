-- either end refuses a packet that is too long
use Rattle.std.proofs.Common.{◌≡◌, ℕ, cond, List, ◌∙◌, ap, subst}
use Rattle.jdwp_wire.specs.Streams.{Fault, More, NextMessage}
use Rattle.jdwp_wire.specs.declared.frame.FrameFault.TheVariants.{TooLong}
use Rattle.jdwp_end.specs.declared.phase.Phase.{Phase}
use Rattle.jdwp_end.specs.declared.phase.Phase.TheVariants.{Established}
use Rattle.jdwp_end.specs.Ends.{End, front_of, next_at}
use Rattle.jdwp_machine.specs.Meanings.{Meaning}
use Rattle.jdwp_target.specs.Turns as target
use Rattle.jdwp_debugger.specs.DebuggerTurns as debugger
use Rattle.jdwp_across.specs.OwnLimits.{HasLonger, RefusesLonger}
use Rattle.jdwp_across.proofs.LongerPackets.{finds-longer}

found : (end : End) → HasLonger end → front_of end ≡ Fault TooLong
found end h =
    ap (λ b. cond b More (next_at end.limits.packet end.phase end.incoming)) h.unpaused
    ∙ (ap (λ (p : Phase). next_at end.limits.packet p end.incoming) h.established
    ∙ (ap (λ (bytes : List ℕ). next_at end.limits.packet Established bytes) h.came ∙ finds-longer end.limits.packet h.header h.body h.rest h.counts h.fits h.longer))

pub refuses-longer : {S : Type 0} (m : Meaning S) → RefusesLonger m
refuses-longer m = record {
  target = λ t after result h so. subst (λ (f : NextMessage). target.TurnsAt m f t result after) (found t.end h) so;
  debugger = λ d after result h so. subst (λ (f : NextMessage). debugger.TurnsAt f d result after) (found d.end h) so;
}
