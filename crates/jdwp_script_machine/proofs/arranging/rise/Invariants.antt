use Rattle.std.proofs.Common.{◌≡◌, ◌++◌, map, take, drop}
use Rattle.jdwp_value.specs.Rising.{rising}
use Rattle.jdwp_script_machine.proofs.arranging.rise.Given as goal

abbrev pub invariant-loop-first : goal.invariant-loop-first
invariant-loop-first g l = map g.T.Numbered.meaning l.parts ≡ map g.T.Numbered.meaning (take l.first l.fn.parts) ++ rising g.T.Numbered.key (map g.T.Numbered.meaning (drop l.first l.fn.parts))
