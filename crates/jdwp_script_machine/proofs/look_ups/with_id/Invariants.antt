use Rattle.std.proofs.Common.{◌≡◌, drop, map}
use Rattle.jdwp_script_machine.specs.LookUps.{with_id}
use Rattle.jdwp_script_machine.proofs.look_ups.with_id.Given as goal

abbrev pub invariant-loop-part : goal.invariant-loop-part
invariant-loop-part g l = with_id g.T.Numbered.key l.id (map g.T.Numbered.meaning (drop l.part-index l.parts)) ≡ with_id g.T.Numbered.key l.id (map g.T.Numbered.meaning l.parts)
