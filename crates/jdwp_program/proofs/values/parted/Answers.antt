use Rattle.std.proofs.lemmas.Str.Pattern.{split_after, split_parts}
use Rattle.std.proofs.Common.{arith}
use Rattle.jdwp_program.proofs.Numbers.{first-comma}
use Rattle.jdwp_program.proofs.values.parted.Goals as goal

pub returns-clause-some : goal.returns-clause-some
returns-clause-some c =
    first-comma c.args.text.now c.split_once.result (split_parts 44 _ _ c.split_once.ensures.cases (omega arith))

pub returns-clause-only : goal.returns-clause-only
returns-clause-only c before behind is =
    split_after 44 _ before behind _ c.split_once.ensures.cases (omega arith) is.0 is.1
