-- What commands in memory say.
use Rattle.jdwp_action.specs.Actions
use Rattle.jdwp_mirror.specs.declared.command.Carried.{Carried}
use Rattle.jdwp_mirror.specs.declared.command.Carried.TheVariants as carried

abbrev pub carried_meaning : Carried → Actions.Carried
carried_meaning (carried.Content content) = Actions.Content content
carried_meaning (carried.Raw bytes) = Actions.Raw bytes.items
