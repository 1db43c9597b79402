use Rattle.jdwp_layout.specs.Meanings.{meanings}
use Rattle.jdwp_command.proofs.FitLaws.{asks}
use Rattle.jdwp_command.proofs.made.made.Goals as goal

pub returns : goal.returns
returns c = asks c.args.set c.args.number (meanings c.args.items.items) c.new.result c.requires c.new.ensures
