use Rattle.std.proofs.Common.{rules, arith, sym}
use Rattle.jdwp_debugger.proofs.Admitting.{admitted}
use Rattle.jdwp_debugger.proofs.debugger.Debugger.admit.Goals as goal

pub returns-in-Some-size-clause-ok : goal.returns-in-Some-size-clause-ok
returns-in-Some-size-clause-ok c =
    admitted c.args.self.now c.args.command.now c.in-Some.sizes c.in-Some-of.body c.in-Some-size.size
    (search rules) (search rules) (search rules) (c.in-Some-of.ensures.0) (c.in-Some-of.ensures.1) (c.in-Some-of.ensures.2) (sym c.in-Some-size.ensures) (search (rules, arith)) (search (rules, arith))

pub returns-in-None-clause-err : goal.returns-in-None-clause-err
returns-in-None-clause-err c =
    search rules
