use Rattle.std.proofs.Common.{refl}
use Rattle.jdwp_client.proofs.client.Client.put.Goals as goal

pub returns-clause-err : goal.returns-clause-err
returns-clause-err g c = (refl, (c.write_and_flush.new.self, c.write_and_flush.ensures.fails c.if-write_and_flush.false, c.end.ensures))
