use Rattle.std.proofs.lemmas.Grind.{common_steps}
use Rattle.std.proofs.Common.{arith}
use Rattle.jdwp_layout.proofs.writing.put_fields_of.Goals as goal

pub returns-in_err-push-in-Some-clause-err : goal.returns-in_err-push-in-Some-clause-err
returns-in_err-push-in-Some-clause-err c = grind (arith, common_steps)

pub returns-in-None-clause-err : goal.returns-in-None-clause-err
returns-in-None-clause-err c = grind (arith, common_steps)

pub returns-in_ok-push-in-Some-clause-ok : goal.returns-in_ok-push-in-Some-clause-ok
returns-in_ok-push-in-Some-clause-ok c = grind (arith, common_steps)

pub returns-in_ok-push-in-Some-clause-err : goal.returns-in_ok-push-in-Some-clause-err
returns-in_ok-push-in-Some-clause-err c = grind (arith, common_steps)
