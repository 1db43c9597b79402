-- What `serve` did to its target and `attach` to its debugger, as lists of acts.
use Rattle.std.specs.Prelude.{◌≡◌, ◌≢◌, false, List, ◌++◌, Err}
use Rattle.jdwp_wire.specs.Streams.{IsFront}
use Rattle.jdwp_end.specs.Ends.{front_of, is_open}
use Rattle.jdwp_machine.specs.Meanings.{Meaning}
use Rattle.jdwp_target.specs.Targets.{Target}
use Rattle.jdwp_debugger.specs.Debuggers.{Debugger, lost_debugger}
use Rattle.jdwp_debugger.specs.DebuggerTurns.{TurnsAt}
use Rattle.jdwp_debugger.specs.declared.faults.DebuggerFault.{DebuggerFault}
use Rattle.jdwp_debugger.specs.declared.faults.DebuggerFault.TheVariants as code
use Rattle.jdwp_end.specs.Story.{Story}
use Rattle.jdwp_across.specs.Acting.{DebuggerRuns, Move, TargetRuns, bytes_of, from_debugger, from_target, to_debugger, to_target}

-- All that was done to a target from the first to the last one, between two stories of its pipe: acts of a target. The bytes that came by them
-- are those that were read; and where no write failed, those that left by them are those that were written.
pub record TargetActs {S : Type 0} (m : Meaning S) (first : Target S) (before : Story) (last : Target S) (after : Story) : Type 0 where
  pub moves : List (Move (Target S))
  pub runs : TargetRuns m first moves last
  pub read : after.read ≡ before.read ++ bytes_of to_target moves
  pub written : after.failed_writes ≡ before.failed_writes → after.written ≡ before.written ++ bytes_of from_target moves

-- the debugger's next turn refuses what came
abbrev pub RefusesNext : Debugger → Type 0
RefusesNext d = (fault : DebuggerFault) × (after : Debugger) × TurnsAt (front_of d.end) d (Err fault) after × (fault ≢ code.NoMemory)

-- What a debugger is that a program has, where its acts lead to the last one: that one; or its end closed, and the last one lost its tickets at
-- once, as it will; or it closed as it refused what came next.
pub data IsAs (last d : Debugger) : Type 0 where
  Same : d ≡ last → IsAs last d
  Closed : is_open d.end ≡ false → last ≡ lost_debugger d → IsAs last d
  Refused : is_open d.end ≡ false → RefusesNext last → IsAs last d

-- All that was done to a debugger from the first one on, between two stories of its pipe: acts of a debugger, up to a turn that refused what came,
-- where one did. The bytes that came by them are those that were read; and where no write failed, those that left by them are a beginning of
-- those that were written.
pub record DebuggerActs {S : Type 0} (m : Meaning S) (first : Debugger) (before : Story) (d : Debugger) (after : Story) : Type 0 where
  pub moves : List (Move Debugger)
  pub last : Debugger
  pub runs : DebuggerRuns m first moves last
  pub is : IsAs last d
  pub read : after.read ≡ before.read ++ bytes_of to_debugger moves
  pub written : after.failed_writes ≡ before.failed_writes → IsFront (before.written ++ bytes_of from_debugger moves) after.written
