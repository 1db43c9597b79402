use Rattle.std.proofs.Common.{◌∙◌, ap, sym}
use Rattle.jdwp_watch.specs.Ledgers.{is_thread_kind}
use Rattle.jdwp_debugger.proofs.Ordering.{learned-where, threads-apart}
use Rattle.jdwp_debugger.proofs.order.learn_requests.Goals as goal

pub returns-clause-ok : goal.returns-clause-ok
returns-clause-ok c =
    let other = sym (c.tells_of_threads.ensures ∙ ap is_thread_kind c.kind.ensures) ∙ c.if-tells_of_threads.false in
    learned-where c.learn_reply.result c.args.command.now c.args.answer.now c.args.mirror.now c.learn_reply.new.self c.requires other c.learn_reply.ensures.ok

pub returns-then-tells_of_threads-clause-ok : goal.returns-then-tells_of_threads-clause-ok
returns-then-tells_of_threads-clause-ok c =
    let is = sym (c.tells_of_threads.ensures ∙ ap is_thread_kind c.kind.ensures) ∙ c.if-tells_of_threads.true in
    λ k. threads-apart k c.args.command.now c.args.answer.now c.args.mirror.now c.requires is
