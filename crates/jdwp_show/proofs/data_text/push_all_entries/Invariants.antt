use Rattle.std.proofs.Common.{take}
use Rattle.jdwp_layout.specs.Meanings.{entry_meaning}
use Rattle.jdwp_show.specs.DataText.{listed, entry_text}
use Rattle.jdwp_show.specs.Telling.{Grows}
use Rattle.jdwp_show.proofs.data_text.push_all_entries.Given as goal

abbrev pub invariant-loop-index : goal.invariant-loop-index
invariant-loop-index l = Grows l.fn.text (listed (λ x. entry_text (entry_meaning x)) (take l.index l.entries)) l.text
