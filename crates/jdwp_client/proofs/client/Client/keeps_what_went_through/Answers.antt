use Rattle.jdwp_client.proofs.Streams.{keeps-exact}
use Rattle.jdwp_client.proofs.client.Client.keeps_what_went_through.Goals as goal

pub returns : goal.returns
returns g c = keeps-exact g.P.Pipe.story
