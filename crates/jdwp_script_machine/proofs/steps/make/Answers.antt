use Rattle.std.proofs.Common.{◌∙◌, ap, map}
use Rattle.jdwp_script.specs.Meanings.{step_part}
use Rattle.jdwp_script_machine.specs.StateMeanings.{thread_now}
use Rattle.jdwp_script_machine.specs.Steps.{with_started}
use Rattle.jdwp_script_machine.proofs.Changes.{made_then_started}
use Rattle.jdwp_script_machine.proofs.steps.make.Goals as goal

pub returns-clause-threads : goal.returns-clause-threads
returns-clause-threads c =
    let step = step_part c.args.step.now in
    c.start_by.ensures ∙ (ap (with_started step) c.in_ok-advance.ensures.ok ∙ made_then_started c.args.place step c.args.thread.0 (map thread_now c.args.threads.now) c.requires)
