use Rattle.jdwp_event_fields.proofs.Encoded.{events_fit}
use Rattle.jdwp_event_fields.proofs.laws.read_composites_have_events.Goals as goal

pub returns : goal.returns
returns c = λ w x code (events, small, (count, items, all, e), is). events_fit w x.events items all
