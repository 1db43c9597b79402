-- Runs of plans in words with the target in this process.
use Rattle.std.specs.Prelude.{◌≡◌, ◌+◌, ℕ, Bool, true, List, length, Option, None, Ok}
use Rattle.std.specs.declared.io.Error.{Error}
use Rattle.jdwp_end.specs.declared.pipes.ended.Ended.TheVariants as session
use Rattle.jdwp_end.specs.Story.{Story, empty_story}
use Rattle.jdwp_machine.specs.Meanings.{Meaning}
use Rattle.jdwp_partner.specs.declared.standing.Standing.{Standing}
use Rattle.jdwp_partner.specs.declared.standing.Standing.TheVariants.{Goes, Still, AllUsed, Refused, NoMemory}
use Rattle.jdwp_partner.specs.Partners.{IsPartner, Partner, new_partner}
use Rattle.jdwp_plan.specs.declared.plan_line.PlanLine.{PlanLine}
use Rattle.jdwp_plan_run.specs.declared.ended.PlanEnded.{PlanEnded}
use Rattle.jdwp_plan_run.specs.declared.ended.PlanEnded.TheVariants.{Done, At}
use Rattle.jdwp_plan_run.specs.declared.ended.PlanVerdict.{PlanVerdict}
use Rattle.jdwp_plan_run.specs.declared.ended.PlanVerdict.TheVariants as verdict
use Rattle.jdwp_plan_run.specs.Endings.{verdict_of}
use Rattle.jdwp_program.specs.Awaiting.{awaited_at_written}
use Rattle.jdwp_program.specs.declared.outcome.Outcome.{Outcome}
use Rattle.jdwp_program.specs.declared.outcome.Outcome.TheVariants.{Session, Unreached, UsedUp}
use Rattle.jdwp_program.specs.declared.words.Pair.{Pair}
use Rattle.jdwp_script_machine.specs.Machines.{read_machine_as}
use Rattle.jdwp_script_machine.specs.ScriptMeaning.{script_meaning}
use Rattle.jdwp_script_machine.specs.States.{State}
use Rattle.jdwp_files.specs.Written.{IsPlanOf, IsToldOf, RunsNew}

-- ---- what is told

-- the line at which a run ended so, counted from 1, or one more than there are
abbrev pub line_of : List PlanLine → PlanEnded → ℕ
line_of plan Done = length plan + 1
line_of plan (At number may_end why) = number

-- that nothing more can happen, which line was not reached, and what it waits for
abbrev pub unreached : List PlanLine → PlanEnded → Outcome
unreached plan ended = Unreached (line_of plan ended) (awaited_at_written plan (line_of plan ended))

-- that all rounds were used, and the same
abbrev pub used_up : List PlanLine → PlanEnded → Outcome
used_up plan ended = UsedUp (line_of plan ended) (awaited_at_written plan (line_of plan ended))

-- what is told where the target goes on no more: of a run that was not carried out, that it waits; of one that ended for another reason, that
abbrev pub told_where_waiting : PlanVerdict → Outcome → Outcome → Outcome
told_where_waiting verdict.Met told waits = told
told_where_waiting verdict.Refused told waits = told
told_where_waiting verdict.NotPrinted told waits = told
told_where_waiting verdict.NoMemory told waits = told
told_where_waiting verdict.TooMuch told waits = told
told_where_waiting verdict.NotMet told waits = waits

-- What is told of a run that ended so and of which else this is told, by how the target stands.
abbrev pub IsToldOfPair : Standing → List PlanLine → PlanEnded → Outcome → Outcome → Type 0
IsToldOfPair Goes plan ended told outcome = outcome ≡ told
IsToldOfPair Still plan ended told outcome = outcome ≡ told_where_waiting (verdict_of ended) told (unreached plan ended)
IsToldOfPair AllUsed plan ended told outcome = outcome ≡ told_where_waiting (verdict_of ended) told (used_up plan ended)
IsToldOfPair (Refused number) plan ended told outcome = outcome ≡ Session (session.Refused number)
IsToldOfPair NoMemory plan ended told outcome = outcome ≡ Session session.NoMemory

-- ---- runs

-- A new client ran these lines, as the words say, over a pipe to a new target over this machine. What went through that pipe is what the target
-- at its end was fed, and what was taken from it (`IsPartner`). And this is told of the run.
pub record PairsWritten {S : Type 0} (m : Meaning S) (words : Pair) (machine : S) (plan : List PlanLine) (outcome : Outcome) : Type 0 where
  pub ended : PlanEnded
  pub left : Partner S
  pub printed : Story
  pub ran : RunsNew (λ (p : Partner S). p.story) words.settings.limits words.order plan (new_partner m words.settings words.defer machine words.turns) empty_story ended left printed
  pub is_partner : IsPartner m left
  pub are_written : Bool
  pub need_not : words.junit ≡ None → are_written ≡ true
  pub output : Option Error
  pub told : Outcome
  pub told_of : IsToldOf are_written words.settings.limits output (verdict_of ended) told
  pub outcome_is : IsToldOfPair left.standing plan ended told outcome

-- The same of the machine of the script of these bytes, and of the plan in words of this text.
pub record PairsWrittenScript (words : Pair) (script text : List ℕ) (outcome : Outcome) : Type 0 where
  pub machine : State
  pub reads : read_machine_as words.settings.profile words.settings.limits.live script ≡ Ok machine
  pub plan : List PlanLine
  pub says : IsPlanOf text None plan
  pub paired : PairsWritten script_meaning words machine plan outcome
