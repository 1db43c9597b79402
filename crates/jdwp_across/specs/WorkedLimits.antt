-- Two programs whose limits differ, over the machine of the model's worked sessions.
use Rattle.std.specs.Prelude.{◌≡◌, [], ◌∷◌, List}
use Rattle.jdwp_wire.specs.Limits.{Limits}
use Rattle.jdwp_end.specs.declared.phase.Phase.TheVariants.{AwaitingHandshake}
use Rattle.jdwp_model.specs.WorkedMachine.{Small, settings, small, small_opening, widths}
use Rattle.jdwp_across.specs.Merges.{Merged}
use Rattle.jdwp_across.specs.OwnLimits.{AllFit, MayStartWithin, programs_within}
use Rattle.jdwp_across.specs.Programs.{Act, Connects, DebuggerAsks, Programs}
use Rattle.jdwp_across.specs.Worked.{breakpoint, first_ticket}

-- a debugger that takes longer packets than the target sends, and has less room for all that the target alone counts
abbrev pub roomy : Limits
roomy = record { packet = 1048576; live = 1; requests = 1; pending = 1024 }

-- the acts of a session that begins, in which breakpoints are asked for
abbrev pub asks_breakpoints : List Act
asks_breakpoints = Connects ∷ DebuggerAsks breakpoint first_ticket ∷ []

-- The two may start, a session begins, and the command fits the target.
pub record StartsAsWorked : Type 0 where
  pub start : MayStartWithin small settings roomy small_opening 1
  pub connects : (programs : Programs Small) × Merged small (programs_within small settings roomy small_opening 1) (Connects ∷ []) programs × (programs.debugger.end.phase ≡ AwaitingHandshake)
  pub fits : AllFit widths settings.limits.packet asks_breakpoints
