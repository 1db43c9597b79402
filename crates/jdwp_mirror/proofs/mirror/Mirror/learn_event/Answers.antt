use Rattle.std.proofs.Common.{rules}
use Rattle.jdwp_mirror.proofs.mirror.Mirror.learn_event.Goals as goal

pub returns-then-policy-byte-clause-ok : goal.returns-then-policy-byte-clause-ok
returns-then-policy-byte-clause-ok c = search rules

pub returns-in_err-meet-clause-err : goal.returns-in_err-meet-clause-err
returns-in_err-meet-clause-err c = search rules

pub returns-clause-ok : goal.returns-clause-ok
returns-clause-ok c = search rules
