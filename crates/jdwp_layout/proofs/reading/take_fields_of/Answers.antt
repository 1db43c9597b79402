use Rattle.std.proofs.Common.{refl, rules}
use Rattle.jdwp_layout.proofs.reading.take_fields_of.Goals as goal

pub returns-in_err-push-in-Some-clause-memory : goal.returns-in_err-push-in-Some-clause-memory
returns-in_err-push-in-Some-clause-memory c = λ failed. (c.in-Some.fields.now, rw c.in-Some.is refl)

pub returns-in_err-rest-in-Some-clause-memory : goal.returns-in_err-rest-in-Some-clause-memory
returns-in_err-rest-in-Some-clause-memory c = λ failed. (c.in-Some.fields.now, rw c.in-Some.is refl)

pub returns-in-None-clause-memory : goal.returns-in-None-clause-memory
returns-in-None-clause-memory c = search rules
