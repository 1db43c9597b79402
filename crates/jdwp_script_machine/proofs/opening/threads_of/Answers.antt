use Rattle.std.proofs.lemmas.Grind.{common_steps}
use Rattle.std.proofs.Common.{◌∙◌, ap, Bool, arith}
use Rattle.jdwp_script.specs.declared.script.Thread.{Thread}
use Rattle.jdwp_script.specs.Meanings.{thread_part, script_part}
use Rattle.jdwp_script_machine.specs.States.{opening_thread}
use Rattle.jdwp_script_machine.specs.StateMeanings.{thread_now}
use Rattle.jdwp_script_machine.specs.Sought.{thread_at_opening}
use Rattle.jdwp_script_machine.proofs.Changes.{pushed}
use Rattle.jdwp_script_machine.proofs.opening.threads_of.Goals as goal

pub loop-thread-preserved : goal.loop-thread-preserved
loop-thread-preserved c =
    let script = script_part c.args.script.now in
    let items = c.deref-thread-items.ensures.value in
    let lt = rw items at c.loop-thread-test.true in
    let is = rw items at c.thread-item.is in
    let id = c.thread-item.result.id.0 in
    let waits = c.contains-is_started.ensures ∙ c.requires id in
    let here = c.opening_thread.ensures ∙ (ap (λ (b : Bool). thread_at_opening id b) waits ∙ ap (λ (x : Thread). opening_thread script (thread_part x)) is) in
    pushed thread_now (opening_thread script) thread_part c.loop-thread.threads.items c.push.new.self.items c.args.script.now.threads.items c.loop-thread.thread-index c.opening_thread.result c.thread-item.result lt c.loop-thread.invariant here c.in_ok-push.ensures.items

pub returns : goal.returns
returns c = grind (arith, common_steps)
