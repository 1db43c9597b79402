-- What a link keeps inside.
use Rattle.std.specs.Prelude.{◌≡◌, ◌≤◌, ◌<◌, ◌^◌, ℕ, Bool, true, false, List, [], None, Some, length}
use Rattle.jdwp_wire.specs.Limits.{AreLimits}
use Rattle.jdwp_wire.specs.Widths.{Widths}
use Rattle.jdwp_end.specs.declared.phase.Phase.TheVariants.{AwaitingHandshake}
use Rattle.jdwp_end.specs.Ends.{End, is_open, is_paused, most_outgoing}
use Rattle.jdwp_machine.specs.Meanings.{Meaning}
use Rattle.jdwp_mirror.specs.Mirrors.{empty_mirror}
use Rattle.jdwp_debugger.specs.Debuggers.{AreDistinct, AreOwn, Begins, Debugger, IsSizesAlone}
use Rattle.jdwp_target.specs.Targets.{Target}
use Rattle.jdwp_link.specs.Links.{Link, way_to_target, way_to_debugger}
use Rattle.jdwp_link.specs.Stands.{IsLink}

abbrev pub link_of : {S : Type 0} → Target S → Debugger → List ℕ → List ℕ → Bool → Link S
link_of target debugger to_target to_debugger did =
    record { target = target; debugger = debugger; to_target = to_target; to_debugger = to_debugger; did = did }

-- It stands for a world, and there is room for all that an end that loses the connection has put.
pub record IsRightLink {S : Type 0} (m : Meaning S) (l : Link S) (to_target to_debugger : ℕ) : Type 0 where
  pub is_link : IsLink m l
  pub to_target_room : to_target ≡ most_outgoing l.target.settings.limits
  pub to_debugger_room : to_debugger ≡ most_outgoing l.target.settings.limits
  pub to_target_fits : length (way_to_target l) ≤ to_target
  pub to_debugger_fits : length (way_to_debugger l) ≤ to_debugger

-- ---- what both ends keep

-- an end that lost the connection has nothing to send, and one that has nothing to send is not paused
pub record TargetKeeps (end : End) : Type 0 where
  pub most : length end.outgoing ≤ most_outgoing end.limits
  pub emptied : end.session.lost ≡ true → end.outgoing ≡ []
  pub flows : end.outgoing ≡ [] → is_paused end ≡ false

pub record DebuggerKeeps (d : Debugger) : Type 0 where
  pub most : length d.end.outgoing ≤ most_outgoing d.end.limits
  pub limits : AreLimits d.end.limits.packet d.end.limits.live d.end.limits.requests d.end.limits.pending
  pub distinct : AreDistinct d.pending
  pub own : AreOwn d.pending
  pub begins : d.end.phase ≡ AwaitingHandshake → Begins d
  pub alone : is_open d.end ≡ true → d.sizes ≡ None → IsSizesAlone d.pending
  pub unlearned : d.sizes ≡ None → d.mirror ≡ empty_mirror
  pub unparked : (w : Widths) → d.sizes ≡ Some w → d.parked ≡ []
  pub id : d.next_id < 2 ^ 32
