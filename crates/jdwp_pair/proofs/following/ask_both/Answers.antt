use Rattle.std.proofs.Common.{[], inl, inr, ◌∙◌}
use Rattle.jdwp_attach.specs.OwnCounts.{suspend_count}
use Rattle.jdwp_pair.proofs.Keeping.{asks-both, asks-so}
use Rattle.jdwp_pair.proofs.Leading.{always-err, on-ok, ran-none}
use Rattle.jdwp_pair.proofs.following.ask_both.Goals as goal

pub returns-in-Err-clause-stops : goal.returns-in-Err-clause-stops
returns-in-Err-clause-stops g c = inl ([], ran-none g.M.Machine.meaning c.args.link.now)

pub returns-in-Err-copied-clause-stops : goal.returns-in-Err-copied-clause-stops
returns-in-Err-copied-clause-stops g c = inl ([], ran-none g.M.Machine.meaning c.args.link.now)

pub returns-in-Err-ask_link-clause-stops : goal.returns-in-Err-ask_link-clause-stops
returns-in-Err-ask_link-clause-stops g c = inl c.in-Err-ask_link.ensures.stays

pub returns-clause-asks : goal.returns-clause-asks
returns-clause-asks g c =
    on-ok c.ask_unless_refused.result
    (λ a. asks-both g.M.Machine.meaning (suspend_count c.args.thread.0) c.in-Ok.command c.in-Ok-copied.copy c.args.link.now c.ask_link.new.link c.args.follower.now c.ask_unless_refused.new.follower c.in-Ok-ask_link.told.items c.deref.result.now
    c.in-Ok.ensures c.in-Ok-copied.ensures c.deref.ensures.value c.in-Ok-ask_link.ensures.asks a)
    c.ask_unless_refused.ensures

pub returns-clause-stops : goal.returns-clause-stops
returns-clause-stops g c =
    always-err c.ask_unless_refused.result (inr (c.in-Ok-ask_link.told.items, asks-so g.M.Machine.meaning (suspend_count c.args.thread.0) c.in-Ok.command c.args.link.now c.ask_link.new.link c.in-Ok-ask_link.told.items c.in-Ok.ensures c.in-Ok-ask_link.ensures.asks))
