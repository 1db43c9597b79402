use Rattle.std.proofs.Common.{arith}
use Rattle.std.proofs.lemmas.List.{length-map}
use Rattle.jdwp_layout.specs.Meanings.{datum_meaning, meanings}
use Rattle.jdwp_mirror.proofs.JudgingLemmas.{not-five}
use Rattle.jdwp_mirror.proofs.judging.widths_in_items.Goals as goal

pub returns-then-items-ne5 : goal.returns-then-items-ne5
returns-then-items-ne5 c = not-five (meanings c.args.items.now) (λ e. omega (arith, length-map c.args.items.now datum_meaning))
