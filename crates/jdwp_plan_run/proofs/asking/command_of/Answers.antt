use Rattle.jdwp_plan_run.proofs.AskLaws.{if-err, if-ok, raw-command, read-command, stops-raw, stops-read}
use Rattle.jdwp_plan_run.proofs.asking.command_of.Goals as goal

pub returns-in-Some-clause-ok : goal.returns-in-Some-clause-ok
returns-in-Some-clause-ok c =
    if-ok c.read_command.result (λ command h. read-command c.args.sizes.now c.in-Some.layouts c.args.values.now c.args.set c.args.number _ h.0 command c.in-Some.ensures h.2 h.1)
    c.read_command.ensures.ok

pub returns-in-Some-clause-err : goal.returns-in-Some-clause-err
returns-in-Some-clause-err c =
    if-err c.read_command.result (λ s h. stops-read c.in-Some.layouts c.args.values.now c.args.set c.args.number _ s c.in-Some.ensures h) c.read_command.ensures.err

pub returns-in-None-clause-ok : goal.returns-in-None-clause-ok
returns-in-None-clause-ok c =
    if-ok c.raw_command.result (λ command h. raw-command c.args.sizes.now c.args.values.now c.args.set c.args.number _ command c.in-None.ensures h.0 h.1) c.raw_command.ensures.ok

pub returns-in-None-clause-err : goal.returns-in-None-clause-err
returns-in-None-clause-err c =
    if-err c.raw_command.result (λ s h. stops-raw c.args.values.now c.args.set c.args.number _ s c.in-None.ensures h.0 h.1) c.raw_command.ensures.err
