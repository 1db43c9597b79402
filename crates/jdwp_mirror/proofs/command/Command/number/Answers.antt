use Rattle.std.proofs.Common.{rules}
use Rattle.jdwp_mirror.proofs.command.Command.number.Goals as goal

pub returns : goal.returns
returns c = search rules
