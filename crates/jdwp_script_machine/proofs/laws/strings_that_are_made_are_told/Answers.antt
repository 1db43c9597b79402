use Rattle.jdwp_script_machine.proofs.Strings.{made_new, made_told, made_typed, text_stays}
use Rattle.jdwp_script_machine.proofs.laws.strings_that_are_made_are_told.Goals as goal

pub returns-clause-new : goal.returns-clause-new
returns-clause-new c = made_new

pub returns-clause-told : goal.returns-clause-told
returns-clause-told c = made_told

pub returns-clause-stays : goal.returns-clause-stays
returns-clause-stays c = text_stays

pub returns-clause-typed : goal.returns-clause-typed
returns-clause-typed c = made_typed
