use Rattle.std.proofs.Common.{arith, refl, rules, append_assoc}
use Rattle.std.proofs.lemmas.Str.{IsUtf8-string_bytes}
use Rattle.std.proofs.lemmas.Grind.{common_steps}
use Rattle.jdwp_wire.proofs.basic.StringWire.put.Goals as goal
use Rattle.jdwp_wire.proofs.basic.StringWire.put.Goals.{in-Ok, in-Err}

pub returns-clause-ok : goal.returns-clause-ok
returns-clause-ok c = elim c.match-extend_from_slice.branch [
  | in-Ok w ↦ rw (c.all_or_nothing.ensures.same, w.done-is) ((IsUtf8-string_bytes c.args.self.now, (let small = c.in_ok-put_count.ensures.ok.0.0 in omega (arith, small)), refl), search (rules, append_assoc))
  | in-Err w ↦ rw (c.all_or_nothing.ensures.same, w.done-is) tt
]

pub returns-clause-err : goal.returns-clause-err
returns-clause-err c = grind (arith, common_steps)
