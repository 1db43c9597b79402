use Rattle.std.proofs.Common.{rules}
use Rattle.jdwp_relay.proofs.relay.Relay.step.Goals as goal

pub returns-then-is_over-clause-over : goal.returns-then-is_over-clause-over
returns-then-is_over-clause-over g c = search rules
