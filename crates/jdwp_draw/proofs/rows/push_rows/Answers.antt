use Rattle.jdwp_draw.proofs.TextLemmas.{row_more}
use Rattle.jdwp_draw.proofs.rows.push_rows.Goals as goal

pub loop-index-preserved : goal.loop-index-preserved
loop-index-preserved c = row_more _ _ c.loop-index.index _ _ _ _ _ c.loop-index-test.true c.index-rows-index.is c.in_ok-push_row.ensures c.loop-index.invariant
