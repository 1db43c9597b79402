use Rattle.std.proofs.Common.{rules}
use Rattle.jdwp_layout.proofs.command.layout_of.Goals as goal

pub returns-in-64 : goal.returns-in-64
returns-in-64 c = search rules
