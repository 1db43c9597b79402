use Rattle.std.proofs.Common.{rules}
use Rattle.jdwp_layout.proofs.fitting.refusal_of_field.Goals as goal

pub returns-in-Value-Value : goal.returns-in-Value-Value
returns-in-Value-Value c = search rules
