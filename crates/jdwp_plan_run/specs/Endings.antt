-- What runs of plans come to.
use Rattle.std.specs.Prelude.{ℕ, Bool, true, false}
use Rattle.jdwp_client.specs.declared.errors.ClientError.{ClientError}
use Rattle.jdwp_client.specs.declared.errors.ClientError.TheVariants as error
use Rattle.jdwp_plan_run.specs.declared.ended.PlanEnded.{PlanEnded}
use Rattle.jdwp_plan_run.specs.declared.ended.PlanEnded.TheVariants.{Done, At}
use Rattle.jdwp_plan_run.specs.declared.ended.PlanVerdict.{PlanVerdict}
use Rattle.jdwp_plan_run.specs.declared.ended.PlanVerdict.TheVariants as verdict
use Rattle.jdwp_plan_run.specs.declared.stop.Stop.{Stop}
use Rattle.jdwp_plan_run.specs.declared.stop.Stop.TheVariants as stop

-- the session was over before a line was carried out
abbrev pub verdict_of_end : Bool → PlanVerdict
verdict_of_end true = verdict.Met
verdict_of_end false = verdict.NotMet

-- a call of the client failed so, where a line `may end` stood before, or none did
abbrev pub verdict_of_error : Bool → ClientError → PlanVerdict
verdict_of_error may_end error.Closed = verdict_of_end may_end
verdict_of_error may_end (error.Lost loss) = verdict_of_end may_end
verdict_of_error may_end (error.TooLate awaited loss) = verdict_of_end may_end
verdict_of_error may_end (error.Refused refused) = verdict.Refused
verdict_of_error may_end (error.Fault fault) = verdict.Refused
verdict_of_error may_end error.NoMemory = verdict.NoMemory
verdict_of_error may_end error.TooManyEvents = verdict.TooMuch
verdict_of_error may_end error.TooManySteps = verdict.TooMuch
verdict_of_error may_end (error.NotWaiting ticket) = verdict.TooMuch

abbrev pub verdict_of_stop : Bool → Stop → PlanVerdict
verdict_of_stop may_end (stop.Differs expected found) = verdict.NotMet
verdict_of_stop may_end (stop.Refused refusal) = verdict.Refused
verdict_of_stop may_end (stop.Client e) = verdict_of_error may_end e
verdict_of_stop may_end stop.NoMemory = verdict.NoMemory
verdict_of_stop may_end stop.NotPrinted = verdict.NotPrinted

abbrev pub verdict_of : PlanEnded → PlanVerdict
verdict_of Done = verdict.Met
verdict_of (At line may_end s) = verdict_of_stop may_end s

-- the exit status
abbrev pub status_of : PlanVerdict → ℕ
status_of verdict.Met = 0
status_of verdict.Refused = 1
status_of verdict.NotPrinted = 2
status_of verdict.NoMemory = 3
status_of verdict.TooMuch = 4
status_of verdict.NotMet = 5
