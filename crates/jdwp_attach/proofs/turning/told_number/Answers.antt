use Rattle.std.proofs.Common.{rules}
use Rattle.jdwp_attach.proofs.turning.told_number.Goals as goal

pub returns-in-Frame : goal.returns-in-Frame
returns-in-Frame c = search rules
