use Rattle.jdwp_script.specs.Meanings.{method_part}
use Rattle.jdwp_script.specs.IdSets.{last_by}
use Rattle.jdwp_script.specs.References.{with_methods}
use Rattle.std.proofs.Common.{map}
use Rattle.jdwp_script.proofs.Maps.{methods_more}
use Rattle.jdwp_script.proofs.known.add_methods.Goals as goal

pub loop-method-preserved : goal.loop-method-preserved
loop-method-preserved c = methods_more c.loop-method.lasts c.insert.new.self c.args.class.0 c.args.methods.now c.loop-method.method-index c.method-item.result (with_methods c.args.class.0 (map method_part c.args.methods.now) (last_by c.args.lasts.now)) c.loop-method-test.true c.method-item.is c.in_ok-_before.ensures.updates c.loop-method.invariant
