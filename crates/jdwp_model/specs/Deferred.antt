-- What a target defers.
use Rattle.std.specs.Prelude.{◌≡◌, ◌≤◌, true, false, ⊤, List, [], ◌∷◌, length}
use Rattle.jdwp_end.specs.Ends.{is_established_phase}
use Rattle.jdwp_action.specs.Actions.{Command}
use Rattle.jdwp_debuggee.specs.Deferring.{is_deferrable, MOST_DEFERRED}
use Rattle.jdwp_mirror.specs.Messages.{Ticket}
use Rattle.jdwp_model.specs.World.{World}

abbrev pub AreDeferrable : List (Ticket × Command) → Type 0
AreDeferrable [] = ⊤
AreDeferrable (p ∷ ps) = (is_deferrable p.1.set ≡ true) × AreDeferrable ps

-- No more than 16 commands are deferred, all of the sets ReferenceType and Method, and none but in an established session.
pub record DefersFew {S : Type 0} (w : World S) : Type 0 where
  pub few : length w.deferred ≤ MOST_DEFERRED
  pub deferrable : AreDeferrable w.deferred
  pub none : is_established_phase w.target ≡ false → w.deferred ≡ []
