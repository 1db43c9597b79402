use Rattle.jdwp_client.proofs.Steps.{keeps-told}
use Rattle.jdwp_client.proofs.client.Client.keeps_what_is_told.Goals as goal

pub returns : goal.returns
returns g c = keeps-told g.P.Pipe.story
