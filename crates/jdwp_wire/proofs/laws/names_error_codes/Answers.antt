use Rattle.std.proofs.Common.{rules}
use Rattle.jdwp_wire.proofs.laws.names_error_codes.Goals as goal

pub returns-clause-invalid_thread : goal.returns-clause-invalid_thread
returns-clause-invalid_thread c = search rules
