use Rattle.jdwp_client.proofs.Lists.{if-err}
use Rattle.jdwp_client.proofs.Steps.{stops-wait, waits-not}
use Rattle.jdwp_client.proofs.client.Client.wait.Goals as goal

pub returns-in-Err-clause-err : goal.returns-in-Err-clause-err
returns-in-Err-clause-err g c = waits-not g.P.Pipe.story c.args.ticket c.args.self.now c.in-Err.error c.in-Err.ensures

pub returns-in-Ok-clause-err : goal.returns-in-Ok-clause-err
returns-in-Ok-clause-err g c = if-err c.wait_on.result (λ e h. stops-wait g.P.Pipe.story c.args.ticket c.args.self.now e c.wait_on.new.self h) c.wait_on.ensures.err
