use Rattle.std.proofs.Common.{sym, ◌∙◌}
use Rattle.jdwp_debuggee.proofs.CountLimits.{none-raised}
use Rattle.jdwp_debuggee.proofs.steps.suspend_by.Goals as goal

pub returns-else-policy-byte-2-clause-list : goal.returns-else-policy-byte-2-clause-list
returns-else-policy-byte-2-clause-list c =
    none-raised c.args.policy c.args.event_thread.0 c.args.threads.now.list (λ e. c.if-policy-byte.false (e ∙ sym c.byte.ensures)) (λ e. c.if-policy-byte-2.false (e ∙ sym c.byte-else-policy-byte.ensures))
