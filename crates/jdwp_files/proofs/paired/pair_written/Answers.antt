use Rattle.std.proofs.Common.{◌≡◌, List, ℕ, IfOk, None, Result, Ok, Err}
use Rattle.jdwp_plan.specs.declared.plan_line.PlanLine.{PlanLine}
use Rattle.jdwp_program.specs.declared.fault.Fault.{Fault}
use Rattle.jdwp_program.specs.declared.outcome.Outcome.{Outcome}
use Rattle.jdwp_program.specs.declared.words.Pair.{Pair}
use Rattle.jdwp_script_machine.specs.Machines.{read_machine_as}
use Rattle.jdwp_script_machine.specs.ScriptMeaning.{script_meaning}
use Rattle.jdwp_script_machine.specs.States.{State}
use Rattle.jdwp_files.specs.Paired.{PairsWritten, PairsWrittenScript}
use Rattle.jdwp_files.specs.Written.{IsPlanOf}
use Rattle.jdwp_files.proofs.paired.pair_written.Goals as goal

of_script : (words : Pair) (script text : List ℕ) (machine : State) (plan : List PlanLine)
    → read_machine_as words.settings.profile words.settings.limits.live script ≡ Ok machine → IsPlanOf text None plan
    → (result : Result Outcome Fault) → IfOk result (PairsWritten script_meaning words machine plan) → IfOk result (PairsWrittenScript words script text)
of_script words script text machine plan reads says (Ok outcome) paired = record { machine = machine; reads = reads; plan = plan; says = says; paired = paired }
of_script words script text machine plan reads says (Err fault) paired = paired

pub returns-clause-ran : goal.returns-clause-ran
returns-clause-ran g c =
    of_script c.args.words.now c.args.script.now c.args.text.now c.in_ok-machine.machine c.in_ok-plan.plan.items c.in_ok-machine.ensures.machine.1 c.in_ok-plan.ensures.plan c.pair_lines.result (rw c.deref.ensures.value at c.pair_lines.ensures.ran)
