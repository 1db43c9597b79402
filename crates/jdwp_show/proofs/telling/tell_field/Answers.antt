use Rattle.jdwp_show.proofs.telling.tell_field.Goals as goal

pub returns : goal.returns
returns c = record { thing = _; is = c.in_ok-scalar.ensures.value; grows = c.push_scalar.ensures }
