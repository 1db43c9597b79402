use Rattle.std.proofs.Common.{rules}
use Rattle.jdwp_value.proofs.id.FieldIdWire.take_front.Goals as goal

pub returns-in_err-id-clause-value : goal.returns-in_err-id-clause-value
returns-in_err-id-clause-value c = search rules

pub returns-clause-value : goal.returns-clause-value
returns-clause-value c = search rules
