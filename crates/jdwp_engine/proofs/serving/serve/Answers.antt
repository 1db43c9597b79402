use Rattle.std.proofs.Common.{◌≡◌, rules}
use Rattle.jdwp_target.specs.Targets.{opened_target}
use Rattle.jdwp_engine.proofs.Spending.{opened-spent}
use Rattle.jdwp_engine.proofs.serving.serve.Goals as goal

pub returns-clause-limit : goal.returns-clause-limit
returns-clause-limit g c = λ e. c.run_session-ended.ensures.limit e

pub returns-then-is_open-clause-refused : goal.returns-then-is_open-clause-refused
returns-then-is_open-clause-refused g c = search rules

pub returns-clause-at_most : goal.returns-clause-at_most
returns-clause-at_most g c = λ shut alive.
    let began : c.accept.new.self ≡ opened_target c.args.target.now = c.accept.ensures.opened (search rules) in
    opened-spent g.M.Machine.meaning c.args.rounds c.args.target.now c.accept.new.self c.run_session-ended.new.target (g.P.Pipe.story c.args.pipe.now) (g.P.Pipe.story c.run_session-ended.new.pipe)
    c.run_session-ended.result began c.run_session-ended.ensures.rounds
