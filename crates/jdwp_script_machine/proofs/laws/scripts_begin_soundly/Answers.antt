use Rattle.jdwp_script_machine.specs.OpeningLaws.{opening_sound}
use Rattle.jdwp_script_machine.proofs.laws.scripts_begin_soundly.Goals as goal

pub returns : goal.returns
returns c = opening_sound
