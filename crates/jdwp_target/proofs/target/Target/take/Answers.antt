use Rattle.std.proofs.Common.{◌≤◌, arith, drop, length, rules}
use Rattle.jdwp_target.proofs.RightTargets.{right-taken}
use Rattle.jdwp_target.proofs.TakenFirst.{taken-first}
use Rattle.jdwp_target.proofs.target.Target.take.Goals as goal

pub invariant_of-self : goal.invariant_of-self
invariant_of-self g c =
    let le : c.take.result ≤ length c.self.inside.end.outgoing = omega (arith, c.take.ensures.count) in
    rw c.take.ensures.taken (right-taken g.M.Machine.meaning c.self.inside.debuggee c.self.inside.deferral c.self.inside.began.items c.self.inside.phases.items (length c.self.inside.steps.items) c.self.inside.end c.take.result le c.self.invariant)

pub returns-clause-count : goal.returns-clause-count
returns-clause-count g c = search rules

pub returns-clause-first : goal.returns-clause-first
returns-clause-first g c =
    let out = c.self.inside.end.outgoing in
    let within : c.take.result ≤ length out = omega (arith, c.take.ensures.count) in
    rw (← c.self.view_is, c.take.ensures.bytes, c.take.ensures.taken) (taken-first c.take.result out (drop c.take.result c.args.out.now) within)
