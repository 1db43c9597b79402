use Rattle.jdwp_pair.proofs.Keeping.{keeps-begun-so}
use Rattle.jdwp_pair.proofs.happening.attach.Goals as goal

pub returns-clause-follows : goal.returns-clause-follows
returns-clause-follows g c =
    keeps-begun-so g.M.Machine.meaning c.args.link.now c.begin-begun.new.link c.is_debugger_open-before.result c.is_debugger_open-behind.result c.args.follower.now c.attach_where.new.follower c.is_debugger_open-before.ensures
    c.is_debugger_open-behind.ensures c.begin-begun.ensures.attaches c.attach_where.ensures
