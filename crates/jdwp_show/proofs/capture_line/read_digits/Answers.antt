use Rattle.std.proofs.lemmas.Grind.{common_steps}
use Rattle.std.proofs.Common.{refl, arith}
use Rattle.jdwp_show.proofs.LineLemmas.{few_digits}
use Rattle.jdwp_show.proofs.capture_line.read_digits.Goals as goal

pub returns-then-count-eq0 : goal.returns-then-count-eq0
returns-then-count-eq0 c = (few_digits c.args.digits.now c.args.sender c.if-count-eq0.true, refl)

pub returns-then-not-decode_into : goal.returns-then-not-decode_into
returns-then-not-decode_into c = grind (arith, common_steps)

pub returns : goal.returns
returns c = grind (arith, common_steps)
