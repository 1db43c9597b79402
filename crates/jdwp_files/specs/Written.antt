-- Runs of plans in words.
use Rattle.std.specs.Prelude.{◌≡◌, ℕ, Bool, true, false, List, [], ◌∷◌, Option, Some, None, map}
use Rattle.std.specs.Borrow.{Bor}
use Rattle.std.specs.declared.io.Error.{Error}
use Rattle.std.specs.Str.Lines.{lines}
use Rattle.jdwp_attach.specs.declared.attached.Attached.TheVariants as run
use Rattle.jdwp_client.specs.Clients.{Client}
use Rattle.jdwp_debugger.specs.declared.order.Order.{Order}
use Rattle.jdwp_debugger.specs.Debuggers.{attached, new_debugger_in}
use Rattle.jdwp_end.specs.declared.pipes.ended.Ended.TheVariants as session
use Rattle.jdwp_end.specs.Story.{Story, empty_story}
use Rattle.jdwp_plan.specs.declared.plan_fault.PlanFault.{PlanFault}
use Rattle.jdwp_plan.specs.declared.plan_line.PlanLine.{PlanLine}
use Rattle.jdwp_plan.specs.declared.plan_line.PlanLine.TheVariants.{Timeout}
use Rattle.jdwp_plan.specs.Meanings.{said_by}
use Rattle.jdwp_plan.specs.Plans.{IsFirstFault, Says}
use Rattle.jdwp_plan_run.specs.declared.ended.PlanEnded.{PlanEnded}
use Rattle.jdwp_plan_run.specs.declared.ended.PlanVerdict.{PlanVerdict}
use Rattle.jdwp_plan_run.specs.declared.ended.PlanVerdict.TheVariants.{Met, NotPrinted}
use Rattle.jdwp_plan_run.specs.Endings.{verdict_of}
use Rattle.jdwp_plan_run.specs.Runs.{Ends, begun}
use Rattle.jdwp_program.specs.declared.fault.Fault.{Fault}
use Rattle.jdwp_program.specs.declared.outcome.Outcome.{Outcome}
use Rattle.jdwp_program.specs.declared.outcome.Outcome.TheVariants.{Planned}
use Rattle.jdwp_program.specs.declared.words.Attach.{Attach}
use Rattle.jdwp_program.specs.Files.{fault_of_written}
use Rattle.jdwp_program.specs.Losses.{IsEndWithoutFiles}
use Rattle.jdwp_wire.specs.Limits.{Limits}

-- ---- the lines that are run

-- a limit of time, where one is set, stands in place of the first line, which says nothing else than that the plan is in words
abbrev pub within : Option ℕ → List PlanLine → List PlanLine
within None plan = plan
within (Some milliseconds) [] = []
within (Some milliseconds) (first ∷ later) = Timeout milliseconds ∷ later

-- these lines are those of a text, within this limit
pub record IsPlanOf (text : List ℕ) (timeout : Option ℕ) (plan : List PlanLine) : Type 0 where
  pub said : List PlanLine
  pub says : Says (lines text) (map said_by said)
  pub is : plan ≡ within timeout said

-- no session began of the plan in words of a file: it has this fault, the first, or memory was refused
abbrev pub RefusesWritten : Bor (List ℕ) → List ℕ → Fault → Type 0
RefusesWritten file text told = (refused : PlanFault) × (told ≡ fault_of_written file refused) × IsFirstFault (lines text) refused

-- ---- runs

-- a client within these limits, of a target that sends in this order, whose session begins over this pipe
abbrev pub new_client : {P : Type 0} → Limits → Order → P → Client P
new_client limits order pipe = record {
  debugger = attached (new_debugger_in order limits 1);
  pipe = pipe;
  events = [];
  answers = [];
  sent = None;
  lost = None;
  most_events = 1024;
}

-- A new client ran these lines over this pipe, and the run ended so, with this pipe behind it; this went to the output before it, and this is
-- there behind it.
pub record RunsNew {P : Type 0} (story : P → Story) (limits : Limits) (order : Order) (plan : List PlanLine) (pipe : P) (out : Story) (ended : PlanEnded) (left : P) (new_out : Story) : Type 0 where
  pub last : Client P
  pub ends : Ends story (begun (new_client limits order pipe) out) plan ended last new_out
  pub pipe_is : left ≡ last.pipe

-- ---- what is told of them

-- What is told of a run that came to this, where its test cases were written, need not be, or could not, and which printed on an output that
-- failed so, if it did: what it came to, and want of test cases where all else went well; where not all could be printed, why.
abbrev pub IsToldOf : Bool → Limits → Option Error → PlanVerdict → Outcome → Type 0
IsToldOf are_written limits output NotPrinted outcome = IsEndWithoutFiles (run.Ended session.LostByWrite) limits output outcome
IsToldOf false limits output Met outcome = outcome ≡ Planned NotPrinted
IsToldOf are_written limits output verdict outcome = outcome ≡ Planned verdict

-- A new client ran these lines over this pipe, as the words say, and this is told of that.
pub record AttachesWritten {P : Type 0} (story : P → Story) (words : Attach) (plan : List PlanLine) (pipe : P) (outcome : Outcome) : Type 0 where
  pub ended : PlanEnded
  pub left : P
  pub printed : Story
  pub ran : RunsNew story words.limits words.order plan pipe empty_story ended left printed
  pub are_written : Bool
  pub need_not : words.junit ≡ None → are_written ≡ true
  pub output : Option Error
  pub told : IsToldOf are_written words.limits output (verdict_of ended) outcome
