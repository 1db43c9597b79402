use Rattle.std.proofs.Common.{subst, sym}
use Rattle.std.specs.Prelude.{OnOk}
use Rattle.jdwp_mirror.specs.Messages.{Reply, Ticket}
use Rattle.jdwp_debugger.specs.declared.order.Order.{Order}
use Rattle.jdwp_debugger.specs.Orders.{LearnedIn}
use Rattle.jdwp_debugger.proofs.order.Order.learn_reply.Goals as goal

pub returns-in-One-clause-ok : goal.returns-in-One-clause-ok
returns-in-One-clause-ok c =
    subst (λ (o : Order). OnOk c.learn_reply.result ((ticket : Ticket) → LearnedIn o c.args.mirror.now (Reply ticket c.args.command.now c.args.answer.now) c.learn_reply.new.self)) (sym c.in-One.is) c.learn_reply.ensures.ok

pub returns-in-Apart-clause-ok : goal.returns-in-Apart-clause-ok
returns-in-Apart-clause-ok c =
    subst (λ (o : Order). OnOk c.learn_requests.result ((ticket : Ticket) → LearnedIn o c.args.mirror.now (Reply ticket c.args.command.now c.args.answer.now) c.learn_requests.new.mirror)) (sym c.in-Apart.is)
    c.learn_requests.ensures.ok
