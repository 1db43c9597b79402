use Rattle.std.proofs.Common.{take}
use Rattle.jdwp_show.specs.DataText.{listed, entry_text}
use Rattle.jdwp_show.specs.Telling.{Grows}
use Rattle.jdwp_show.proofs.composite_text.push_all_events.Given as goal

abbrev pub invariant-loop-index : goal.invariant-loop-index
invariant-loop-index l = Grows l.fn.text (listed entry_text (take l.index l.events)) l.text
