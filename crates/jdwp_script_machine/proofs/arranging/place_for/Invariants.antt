use Rattle.std.proofs.Common.{◌≡◌, ◌+◌, map, drop}
use Rattle.jdwp_script_machine.specs.LookUps.{place_for}
use Rattle.jdwp_script_machine.proofs.arranging.place_for.Given as goal

abbrev pub invariant-loop-place : goal.invariant-loop-place
invariant-loop-place g l = l.place + place_for g.T.Numbered.key l.id (map g.T.Numbered.meaning (drop l.place l.parts)) ≡ place_for g.T.Numbered.key l.id (map g.T.Numbered.meaning l.parts)
