use Rattle.std.proofs.Common.{take}
use Rattle.jdwp_layout.specs.Meanings.{scalar_meaning}
use Rattle.jdwp_show.specs.DataText.{listed, scalar_text}
use Rattle.jdwp_show.specs.Telling.{Grows}
use Rattle.jdwp_show.proofs.data_text.push_scalars.Given as goal

abbrev pub invariant-loop-index : goal.invariant-loop-index
invariant-loop-index l = Grows l.fn.text (listed (λ x. scalar_text (scalar_meaning x)) (take l.index l.entry)) l.text
