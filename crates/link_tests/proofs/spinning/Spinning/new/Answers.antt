use Rattle.std.proofs.Common.{◌≡◌, [], ◌∷◌, arith}
use Rattle.std.proofs.lemmas.Grind.{common_steps}
use Rattle.jdwp_machine.specs.Meanings.{numbers}
use Rattle.link_tests.specs.SpinningLaws.{all_live}
use Rattle.link_tests.proofs.spinning.Spinning.new.Goals as goal

pub invariant_of-result : goal.invariant_of-result
invariant_of-result c =
    let same : numbers c.push-2.new.self.items ≡ 1 ∷ 2 ∷ [] = grind (arith, common_steps) in
    record { state = rw same all_live; sizes = c.in-Ok.ensures.widths }
