use Rattle.jdwp_event_fields.proofs.Said.{events_have}
use Rattle.jdwp_event_fields.proofs.laws.events_have_their_fields.Goals as goal

pub returns : goal.returns
returns c = λ e. events_have e
