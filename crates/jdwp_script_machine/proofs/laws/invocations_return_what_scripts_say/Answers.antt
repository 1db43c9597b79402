use Rattle.jdwp_script_machine.proofs.InvocationsRefused.{objects_invoked, types_invoked}
use Rattle.jdwp_script_machine.proofs.laws.invocations_return_what_scripts_say.Goals as goal

pub returns-clause-types : goal.returns-clause-types
returns-clause-types c = types_invoked

pub returns-clause-objects : goal.returns-clause-objects
returns-clause-objects c = objects_invoked
