use Rattle.std.proofs.Common.{◌∙◌}
use Rattle.jdwp_debugger.specs.DebuggerTurns.{read_meaning}
use Rattle.jdwp_attach.specs.OwnCounts.{due_count}
use Rattle.jdwp_attach.proofs.Moves.{due-asked, due-refused, on-ok}
use Rattle.jdwp_attach.proofs.due_counts.ask_due_count.Goals as goal

pub returns-in-Ok-clause-ok : goal.returns-in-Ok-clause-ok
returns-in-Ok-clause-ok c =
    due-asked (due_count (read_meaning c.args.turn.now) c.args.debugger.now) c.due_count.result c.in-Some.thread c.in_ok-command.command c.args.debugger.now c.ask.new.self c.due_count.ensures c.in-Some.is
    c.in_ok-command.ensures.is c.in-Ok.ensures.ok.0 c.in-Ok.ensures.ok.2

pub returns-in-Err-clause-ok : goal.returns-in-Err-clause-ok
returns-in-Err-clause-ok c =
    on-ok c.pass_over.result (λ passes.
    due-refused (due_count (read_meaning c.args.turn.now) c.args.debugger.now) c.due_count.result c.in-Some.thread c.in_ok-command.command c.args.debugger.now c.ask.new.self c.due_count.ensures c.in-Some.is
    c.in_ok-command.ensures.is (passes _ c.in-Err.ensures.err.1) c.in-Err.ensures.err.0) c.pass_over.ensures
