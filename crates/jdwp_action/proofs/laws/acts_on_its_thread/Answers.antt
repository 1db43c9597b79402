use Rattle.jdwp_action.specs.AboutLaws.{about_action}
use Rattle.jdwp_action.proofs.laws.acts_on_its_thread.Goals as goal

pub returns : goal.returns
returns g c = about_action c
