use Rattle.jdwp_script_machine.specs.ScriptLaws.{script_lawful}
use Rattle.jdwp_script_machine.proofs.laws.scripts_are_lawful.Goals as goal

pub returns : goal.returns
returns c = script_lawful
