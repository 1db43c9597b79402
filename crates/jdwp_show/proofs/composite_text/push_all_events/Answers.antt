use Rattle.std.proofs.Common.{List, ap, arith}
use Rattle.std.proofs.lemmas.List.{take_all}
use Rattle.jdwp_layout.specs.Meanings.{ScalarMeaning}
use Rattle.jdwp_show.specs.DataText.{listed, entry_text}
use Rattle.jdwp_show.proofs.TextLemmas.{grows_none, grows_as, grown, listed_item}
use Rattle.jdwp_show.proofs.composite_text.push_all_events.Goals as goal

pub loop-index-init : goal.loop-index-init
loop-index-init c = grows_none _

pub loop-index-preserved : goal.loop-index-preserved
loop-index-preserved c = grown (listed_item entry_text c.args.events.now c.loop-index.index c.index-events-index.result (omega arith) c.index-events-index.is) c.loop-index.invariant c.push_separator.ensures (rw c.fields.ensures at c.push_entry.ensures)

pub returns : goal.returns
returns c = grows_as (ap (λ (l : List (List ScalarMeaning)). listed entry_text l) (take_all c.loop-index.index c.args.events.now (omega arith))) c.loop-index.invariant
