use Rattle.std.proofs.lemmas.Grind.{common_steps}
use Rattle.std.proofs.Common.{◌∙◌, ◌<◌, List, length, map, refl, ap, arith}
use Rattle.std.proofs.lemmas.Result.{err_from_is_err_and}
use Rattle.jdwp_script.specs.Meanings.{step_part}
use Rattle.jdwp_script_machine.specs.declared.state.ThreadState.{ThreadState}
use Rattle.jdwp_script_machine.specs.States.{ThreadNow}
use Rattle.jdwp_script_machine.specs.StateMeanings.{thread_now}
use Rattle.jdwp_script_machine.specs.Steps.{after_step}
use Rattle.jdwp_script_machine.proofs.Changes.{put_first, put_back}
use Rattle.jdwp_script_machine.proofs.steps.advance.Goals as goal

pub returns-in_err-change_frames-clause-err : goal.returns-in_err-change_frames-clause-err
returns-in_err-change_frames-clause-err c =
    let p = err_from_is_err_and c.from_residual.result c.from_residual.ensures.1 in
    let lt : c.loop-entry.entry-index < length c.loop-entry.threads = omega arith in
    rw p.1 (put_back thread_now c.loop-entry.threads c.loop-entry.entry-index _ c.entry-item.result lt (rw c.in_err-change_frames.ensures.err refl) ∙ ap (λ (es : List ThreadState). map thread_now es) c.loop-entry.invariant.same)

pub returns-then-entry-thread-clause-ok : goal.returns-then-entry-thread-clause-ok
returns-then-entry-thread-clause-ok c =
    let lt : c.loop-entry.entry-index < length c.loop-entry.threads = omega arith in
    put_first thread_now (λ (e : ThreadNow). e.id) c.args.thread.0 (after_step c.args.place (step_part c.args.step.now)) c.loop-entry.threads c.loop-entry.entry-index _ c.entry-item.result lt c.if-entry-thread.true (rw c.in_ok-change_frames.ensures.ok refl)
    ∙ c.loop-entry.invariant.first

pub loop-entry-preserved : goal.loop-entry-preserved
loop-entry-preserved c = grind (arith, common_steps)

pub returns : goal.returns
returns c = grind (arith, common_steps)
