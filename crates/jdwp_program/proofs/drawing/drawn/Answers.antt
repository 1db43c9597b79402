use Rattle.jdwp_program.proofs.drawing.drawn.Goals as goal

pub returns-clause-text : goal.returns-clause-text
returns-clause-text c = record { picture = c.in_ok-picture.picture; rows = c.in_ok-picture.ensures.rows; lines = c.in_ok-picture.ensures.whole; fault = c.in_ok-picture.ensures.fault; is = c.in_ok-text.ensures }
