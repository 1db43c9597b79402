use Rattle.std.proofs.lemmas.Grind.{common_steps}
use Rattle.std.proofs.Common.{◌≡◌, List, map, drop, not, ap, ◌∙◌, arith}
use Rattle.std.specs.List.{count_by}
use Rattle.std.proofs.lemmas.List.{drop_all}
use Rattle.jdwp_script.specs.declared.script.Thread.{Thread}
use Rattle.jdwp_script.specs.Parts.{ThreadPart}
use Rattle.jdwp_script.specs.Meanings.{thread_part}
use Rattle.jdwp_script.specs.IdSets.{has}
use Rattle.jdwp_script.proofs.Sets.{living_count}
use Rattle.jdwp_script.proofs.limits.living.Goals as goal

pub returns : goal.returns
returns c =
    let set = c.in_ok-started.started in
    let counted = λ (threads : List Thread). count_by (λ (t : ThreadPart). not (has set t.id)) (map thread_part threads) in
    let none : counted (drop c.loop-thread.thread-index c.args.threads.now) ≡ 0 = ap counted (drop_all c.loop-thread.thread-index c.args.threads.now c.loop-thread-test.false) in
    let same = c.loop-thread.invariant.same in
    let all : c.loop-thread.count ≡ counted c.args.threads.now = omega (arith, none, same) in
    all ∙ living_count set (map thread_part c.args.threads.now) c.in_ok-started.ensures

pub loop-thread-preserved : goal.loop-thread-preserved
loop-thread-preserved c = grind (arith, common_steps)
