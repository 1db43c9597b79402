use Rattle.std.proofs.Common.{take}
use Rattle.jdwp_show.specs.DataText.{listed, element_text}
use Rattle.jdwp_show.specs.Telling.{Grows}
use Rattle.jdwp_show.proofs.data_text.push_elements.Given as goal

abbrev pub invariant-loop-index : goal.invariant-loop-index
invariant-loop-index l = Grows l.fn.text (listed element_text (take l.index l.elements)) l.text
