use Rattle.std.proofs.Common.{rules}
use Rattle.jdwp_engine.proofs.live.serve_live.Goals as goal

pub returns-then-is_open-clause-refused : goal.returns-then-is_open-clause-refused
returns-then-is_open-clause-refused g c = search rules
