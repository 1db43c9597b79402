use Rattle.std.proofs.Common.{arith}
use Rattle.jdwp_layout.specs.Meanings.{entry_meaning}
use Rattle.jdwp_show.specs.DataText.{entry_text}
use Rattle.jdwp_show.proofs.TextLemmas.{grows_none, grown, listed_item, listed_end}
use Rattle.jdwp_show.proofs.data_text.push_all_entries.Goals as goal

pub loop-index-init : goal.loop-index-init
loop-index-init c = grows_none _

pub loop-index-preserved : goal.loop-index-preserved
loop-index-preserved c = grown (listed_item (λ x. entry_text (entry_meaning x)) c.args.entries.now c.loop-index.index c.index-entries-index.result (omega arith) c.index-entries-index.is) c.loop-index.invariant c.push_separator.ensures (rw c.deref.ensures.value at c.push_entry.ensures)

pub returns : goal.returns
returns c = listed_end entry_text entry_meaning c.args.entries.now c.loop-index.index (omega arith) c.loop-index.invariant
