use Rattle.std.proofs.Common.{subst}
use Rattle.std.specs.Prelude.{IfErr, IfOk}
use Rattle.jdwp_action.specs.Actions.{Command}
use Rattle.jdwp_client.specs.Clients.{AsksFor, FailsToAsk}
use Rattle.jdwp_client.proofs.client.Client.dispose.Goals as goal

pub returns : goal.returns
returns g c =
    let old = c.args.self.now in
    let new = c.ask.new.self in
    let is = c.dispose.ensures.is in
    record {
      ok = subst (λ (m : Command). IfOk c.ask.result (λ answer. AsksFor g.P.Pipe.story m old answer new)) is c.ask.ensures.ok;
      err = subst (λ (m : Command). IfErr c.ask.result (λ e. FailsToAsk g.P.Pipe.story m old e new)) is c.ask.ensures.err;
    }
