-- How a run of both ends is told.
use Rattle.std.specs.Prelude.{◌≡◌, List, Option, map}
use Rattle.std.specs.declared.io.Error.{Error}
use Rattle.jdwp_wire.specs.Limits.{Limits}
use Rattle.jdwp_end.specs.declared.pipes.ended.Ended.TheVariants as session
use Rattle.jdwp_attach.specs.declared.plans.plan_line.PlanLine.{PlanLine}
use Rattle.jdwp_attach.specs.PlanLines.{said_by}
use Rattle.jdwp_attach.specs.declared.attached.Attached.TheVariants.{Ended, RefusedLine}
use Rattle.jdwp_pair.specs.declared.ended.PairEnded.{PairEnded}
use Rattle.jdwp_pair.specs.declared.ended.PairEnded.TheVariants as pair
use Rattle.jdwp_program.specs.declared.outcome.Outcome.{Outcome}
use Rattle.jdwp_program.specs.declared.outcome.Outcome.TheVariants.{Standstill}
use Rattle.jdwp_program.specs.Awaiting.{awaited_at}
use Rattle.jdwp_program.specs.Losses.{IsEndWithoutFiles}

-- A run by this plan within these limits that ended so, and printed on an output that failed so, if it did, is told as that of a plan over
-- no files; where nothing more could happen, it is told which line of the plan waits, and for what. Of a connection that failed more is told.
abbrev pub IsEndOfPair : PairEnded → List PlanLine → Limits → Option Error → Outcome → Type 0
IsEndOfPair pair.Done plan limits output outcome = IsEndWithoutFiles (Ended session.Done) limits output outcome
IsEndOfPair (pair.RefusedLine line number) plan limits output outcome = IsEndWithoutFiles (RefusedLine line number) limits output outcome
IsEndOfPair pair.LostByWrite plan limits output outcome = IsEndWithoutFiles (Ended session.LostByWrite) limits output outcome
IsEndOfPair pair.LostConnection plan limits output outcome = ⊥
IsEndOfPair pair.NoMemory plan limits output outcome = IsEndWithoutFiles (Ended session.NoMemory) limits output outcome
IsEndOfPair pair.TurnLimit plan limits output outcome = IsEndWithoutFiles (Ended session.TurnLimit) limits output outcome
IsEndOfPair (pair.Standstill line) plan limits output outcome = outcome ≡ Standstill line (awaited_at (map said_by plan) line)
