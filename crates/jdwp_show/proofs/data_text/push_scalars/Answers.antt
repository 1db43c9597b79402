use Rattle.std.proofs.Common.{arith}
use Rattle.jdwp_layout.specs.Meanings.{scalar_meaning}
use Rattle.jdwp_show.specs.DataText.{scalar_text}
use Rattle.jdwp_show.proofs.TextLemmas.{grows_none, grown, listed_item, listed_end}
use Rattle.jdwp_show.proofs.data_text.push_scalars.Goals as goal

pub loop-index-init : goal.loop-index-init
loop-index-init c = grows_none _

pub loop-index-preserved : goal.loop-index-preserved
loop-index-preserved c = grown (listed_item (λ x. scalar_text (scalar_meaning x)) c.args.entry.now c.loop-index.index c.index-entry-index.result (omega arith) c.index-entry-index.is) c.loop-index.invariant c.push_separator.ensures c.push_scalar.ensures

pub returns : goal.returns
returns c = listed_end scalar_text scalar_meaning c.args.entry.now c.loop-index.index (omega arith) c.loop-index.invariant
