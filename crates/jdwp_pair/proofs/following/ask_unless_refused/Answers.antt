use Rattle.std.proofs.Common.{◌∙◌, Option, refl, subst, sym}
use Rattle.jdwp_debugger.specs.declared.asking.Refused.{Refused}
use Rattle.jdwp_pair.specs.Followers.{AsksToo}
use Rattle.jdwp_pair.proofs.Leading.{on-ok}
use Rattle.jdwp_pair.proofs.following.ask_unless_refused.Goals as goal

pub returns-in-Some : goal.returns-in-Some
returns-in-Some c = subst (λ (o : Option Refused). AsksToo o c.args.command c.args.follower.now c.args.follower.now) (sym c.in-Some.is ∙ c.refusal_in.ensures) refl

pub returns-in-None : goal.returns-in-None
returns-in-None c =
    on-ok c.ask_follower.result (λ a. subst (λ (o : Option Refused). AsksToo o c.args.command c.args.follower.now c.ask_follower.new.debugger) (sym c.in-None.is ∙ c.refusal_in.ensures) a) c.ask_follower.ensures
