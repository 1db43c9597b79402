use Rattle.jdwp_pair.proofs.following.turn_follower.Goals as goal

pub returns-in-Ok : goal.returns-in-Ok
returns-in-Ok c = (c.turn-turned.result, c.turn-turned.new.self, c.turn-turned.ensures.turns, c.silence.ensures)

pub returns-in-Err : goal.returns-in-Err
returns-in-Err c = (c.turn-turned.result, c.turn-turned.new.self, c.turn-turned.ensures.turns, c.silence.ensures)
