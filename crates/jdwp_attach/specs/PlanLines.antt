-- What lines in memory say, and what a call answers of a line.
use Rattle.std.specs.Prelude.{◌≡◌, ℕ, List, map, Result, Ok, Err}
use Rattle.std.specs.Borrow.{Bor}
use Rattle.std.specs.Global.{Vec}
use Rattle.jdwp_attach.specs.declared.plans.plan_fault.LineFault.{LineFault}
use Rattle.jdwp_attach.specs.declared.plans.plan_fault.Refusal.{Refusal}
use Rattle.jdwp_attach.specs.declared.plans.plan_fault.Refusal.TheVariants as refusal
use Rattle.jdwp_attach.specs.declared.plans.plan_line.PlanLine.{PlanLine}
use Rattle.jdwp_attach.specs.declared.plans.plan_line.PlanLine.TheVariants as line
use Rattle.jdwp_attach.specs.declared.plans.reading.ProgramCommand.{ProgramCommand}
use Rattle.jdwp_attach.specs.declared.plans.reading.ProgramCommand.TheVariants as command
use Rattle.jdwp_attach.specs.Lines.{Said, attach_line_of, line_of}
use Rattle.jdwp_attach.specs.Lines.Said.{Ask, Answers, Events, Mirror, LoseTarget, LoseDebugger, Attach}

abbrev pub said_by : PlanLine → Said
said_by (line.Ask set number bytes) = Ask set number bytes.items
said_by line.Answers = Answers
said_by (line.Events count) = Events count
said_by line.Mirror = Mirror
said_by line.LoseTarget = LoseTarget
said_by line.LoseDebugger = LoseDebugger
said_by line.Attach = Attach

-- what a line of a plan for this command says
abbrev pub line_for : ProgramCommand → List ℕ → Result Said LineFault
line_for command.Attach line = attach_line_of line
line_for command.Pair line = line_of line

abbrev pub bytes_of : Vec ℕ → List ℕ
bytes_of bytes = bytes.items

abbrev pub texts : List (Bor (List ℕ)) → List (List ℕ)
texts words = map (λ word. word.now) words

-- A call answered what is to be read, or why nothing is; want of memory says nothing.
abbrev pub Gives : {X Y : Type 0} → (X → Y) → Result X Refusal → Result Y LineFault → Type 0
Gives meaning (Ok x) read = read ≡ Ok (meaning x)
Gives meaning (Err (refusal.Fault fault)) read = read ≡ Err fault
Gives meaning (Err refusal.NoMemory) read = Unit {0}
