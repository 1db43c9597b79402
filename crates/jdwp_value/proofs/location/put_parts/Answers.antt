use Rattle.std.proofs.Common.{arith}
use Rattle.std.proofs.lemmas.Grind.{common_steps}
use Rattle.jdwp_value.proofs.location.put_parts.Goals as goal

pub returns-in_err-put-2-clause-room : goal.returns-in_err-put-2-clause-room
returns-in_err-put-2-clause-room c = grind (arith, common_steps)

pub returns-clause-ok : goal.returns-clause-ok
returns-clause-ok c = grind (arith, common_steps)

pub returns-clause-room : goal.returns-clause-room
returns-clause-room c = grind (arith, common_steps)

pub returns-in_err-push : goal.returns-in_err-push
returns-in_err-push c = grind (arith, common_steps)

pub returns-in_err-put : goal.returns-in_err-put
returns-in_err-put c = grind (arith, common_steps)
