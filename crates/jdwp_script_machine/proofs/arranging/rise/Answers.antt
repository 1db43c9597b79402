use Rattle.std.proofs.Common.{◌-◌, arith}
use Rattle.jdwp_script_machine.proofs.Rising.{risen}
use Rattle.jdwp_script_machine.proofs.arranging.rise.Goals as goal

pub loop-first-preserved : goal.loop-first-preserved
loop-first-preserved g c =
    risen g.T.Numbered.meaning g.T.Numbered.key c.args.parts.now c.loop-first.parts c.put_first.new.parts c.loop-first.first (c.loop-first.first - 1)
    (omega arith) (omega arith) (omega arith) c.loop-first.invariant c.put_first.ensures
