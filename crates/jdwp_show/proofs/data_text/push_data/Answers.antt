use Rattle.std.proofs.Common.{arith}
use Rattle.jdwp_show.proofs.TextLemmas.{grows_none, data_more, data_end}
use Rattle.jdwp_show.proofs.data_text.push_data.Goals as goal

pub loop-datum-init : goal.loop-datum-init
loop-datum-init c = grows_none _

pub loop-datum-preserved : goal.loop-datum-preserved
loop-datum-preserved c = data_more c.args.data.now c.loop-datum.datum-index c.datum-item.result (omega arith) c.datum-item.is c.loop-datum.invariant c.push_str.ensures.grows c.push_datum.ensures

pub returns : goal.returns
returns c = data_end c.args.data.now c.loop-datum.datum-index (omega arith) c.loop-datum.invariant
