use Rattle.std.proofs.Common.{arith}
use Rattle.jdwp_link.proofs.happening.keeps.Goals as goal

pub returns-clause-target : goal.returns-clause-target
returns-clause-target g c = record {
  most = omega (arith, c.waiting-from_target.ensures.count, c.waiting-from_target.ensures.bound);
  emptied = λ h. (c.session.ensures.ran.carries.after_loss h).1;
  flows = c.session.ensures.flows;
}

pub returns-clause-debugger : goal.returns-clause-debugger
returns-clause-debugger g c = record {
  most = omega (arith, c.waiting-from_debugger.ensures.count, c.waiting-from_debugger.ensures.bound);
  limits = c.session-2.ensures.limits;
  distinct = c.session-2.ensures.distinct;
  own = c.session-2.ensures.own;
  begins = c.session-2.ensures.begins;
  alone = c.session-2.ensures.alone;
  unlearned = c.session-2.ensures.unlearned;
  unparked = c.session-2.ensures.unparked;
  id = c.session-2.ensures.id;
}
