use Rattle.jdwp_client.proofs.TicketLemmas.{keeps-given}
use Rattle.jdwp_client.proofs.client.Client.keeps_answers_of_given_tickets.Goals as goal

pub returns : goal.returns
returns g c = keeps-given g.P.Pipe.story
