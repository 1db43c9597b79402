use Rattle.jdwp_script.proofs.Sets.{holds_push}
use Rattle.jdwp_script.proofs.id_set.set_of.Goals as goal

pub loop-id-preserved : goal.loop-id-preserved
loop-id-preserved c = holds_push c.loop-id.set c.insert.new.self c.args.ids.now c.loop-id.id-index c.loop-id-test.true c.in_ok-insert.ensures.updates c.loop-id.invariant
