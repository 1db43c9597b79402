use Rattle.std.proofs.Common.{take}
use Rattle.jdwp_layout.specs.Meanings.{meanings}
use Rattle.jdwp_show.specs.DataText.{data_text}
use Rattle.jdwp_show.specs.Telling.{Grows}
use Rattle.jdwp_show.proofs.data_text.push_data.Given as goal

abbrev pub invariant-loop-datum : goal.invariant-loop-datum
invariant-loop-datum l = Grows l.fn.text (data_text (meanings (take l.datum-index l.«data»))) l.text
