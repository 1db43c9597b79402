use Rattle.std.proofs.Common.{◌≡◌, [], ◌∷◌, arith}
use Rattle.std.proofs.lemmas.Grind.{common_steps}
use Rattle.jdwp_machine.specs.Meanings.{numbers}
use Rattle.target_tests.specs.FallingLaws.{all_live}
use Rattle.target_tests.proofs.targets.falling.Falling.new.Goals as goal

pub invariant_of-result : goal.invariant_of-result
invariant_of-result c =
    let same : numbers c.push-3.new.self.items ≡ 18_446_744_073_709_551_615 ∷ 9_223_372_036_854_775_808 ∷ 2 ∷ [] = grind (arith, common_steps) in
    record { state = rw same all_live; sizes = c.in-Ok.ensures.widths }
