-- A target that had a session with one debugger, and a new debugger, over the machine of the model's worked sessions.
use Rattle.std.specs.Prelude.{◌≡◌, List, [], ◌∷◌, ◌++◌}
use Rattle.jdwp_wire.specs.Handshake.{handshake_bytes}
use Rattle.jdwp_wire.specs.Streams.{Handshake}
use Rattle.jdwp_end.specs.declared.phase.Phase.TheVariants.{Established}
use Rattle.jdwp_event.specs.Composites.{vm_start}
use Rattle.jdwp_target.specs.declared.target.Turn.TheVariants as turning
use Rattle.jdwp_debugger.specs.Debuggers.{new_debugger}
use Rattle.jdwp_debugger.specs.DebuggerTurns.{Sizes, read_meaning}
use Rattle.jdwp_debugger.specs.declared.turning.Read.{Read}
use Rattle.jdwp_debugger.specs.declared.turning.Read.TheVariants as reading
use Rattle.jdwp_model.specs.WorkedMachine.{Small, settings, small, small_opening}
use Rattle.jdwp_across.specs.Meeting.{begun}
use Rattle.jdwp_across.specs.Merges.{Merged}
use Rattle.jdwp_across.specs.Others.{MayMeet}
use Rattle.jdwp_across.specs.Programs.{Act, ComesToTarget, DebuggerTurns, LeavesDebugger, Programs, TargetTurns, new_programs}
use Rattle.jdwp_across.specs.Worked.{lost, to_debugger}

-- both handshakes come
abbrev pub greets_anew : List Act
greets_anew =
    LeavesDebugger handshake_bytes ∷ ComesToTarget handshake_bytes ∷ TargetTurns turning.Hello ∷ (to_debugger (Handshake ∷ []) ++ DebuggerTurns reading.Hello [] ∷ [])

-- These acts are a merge of the two from where their session begins, and lead both into it.
abbrev pub Greets : Programs Small → Type 0
Greets old = (programs : Programs Small) × Merged small (begun old) greets_anew programs × (programs.target.end.phase ≡ Established) × (programs.debugger.end.phase ≡ Established)

-- Where the acts up to a loss led a target and its debugger (`lost`), a new debugger may meet that target; and the next request of the target's
-- life has the id 2.
abbrev pub Meets : Programs Small → Type 0
Meets before = MayMeet small settings small_opening 1 (record before { debugger = new_debugger settings.limits 1 }) × Greets (record before { debugger = new_debugger settings.limits 1 }) × (before.target.moment.state.next_request ≡ 2)

abbrev pub MeetsAsWorked : Type 0
MeetsAsWorked = (sizes : Read) → read_meaning sizes ≡ Sizes (vm_start 0 1 ∷ []) → (before : Programs Small) × Merged small (new_programs small settings small_opening 1) (lost sizes) before × Meets before
