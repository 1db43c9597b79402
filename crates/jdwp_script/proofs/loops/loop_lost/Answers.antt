use Rattle.std.proofs.Common.{sym}
use Rattle.jdwp_script.proofs.Again.{loop_from}
use Rattle.jdwp_script.proofs.loops.loop_lost.Goals as goal

pub returns-else-has_bad : goal.returns-else-has_bad
returns-else-has_bad c =
    loop_from c.args.steps.now c.in-Some.last.now c.has_bad.result c.last_lost.result (sym c.in-Some.ensures.value) c.has_bad.ensures c.if-has_bad.false c.last_lost.ensures
