use Rattle.std.proofs.Common.{◌≡◌, [], arith}
use Rattle.std.proofs.lemmas.Grind.{common_steps}
use Rattle.jdwp_judge.specs.Standing.{kept_in}
use Rattle.jdwp_judge.proofs.TellingLaws.{told_empty}
use Rattle.jdwp_judge.proofs.rulings.Rulings.release.Goals as goal

pub returns-then-is_empty-clause-told : goal.returns-then-is_empty-clause-told
returns-then-is_empty-clause-told c = λ front are.
    let empty : kept_in c.args.self.now.kept ≡ [] = grind (arith, common_steps) in
    told_empty _ front _ _ c.args.lines.now empty c.requires
