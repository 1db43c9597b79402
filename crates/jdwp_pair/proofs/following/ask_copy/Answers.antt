use Rattle.std.proofs.Common.{OnOk, subst}
use Rattle.jdwp_action.specs.Actions.{Command}
use Rattle.jdwp_pair.specs.Followers.{MayAsk}
use Rattle.jdwp_pair.proofs.following.ask_copy.Goals as goal

pub returns-in-Ok : goal.returns-in-Ok
returns-in-Ok c = subst (λ (q : Command). OnOk c.ask_follower.result (MayAsk q c.args.debugger.now c.ask_follower.new.debugger)) c.in-Ok.ensures c.ask_follower.ensures
