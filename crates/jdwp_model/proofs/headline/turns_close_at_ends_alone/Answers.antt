use Rattle.jdwp_model.specs.Faultless.{TurnsLoseNothing, TurnsCloseAtEnds}
use Rattle.jdwp_model.proofs.Faultless.{at_each_turn, turns_lose_nothing, turns_close_at_ends}
use Rattle.jdwp_model.proofs.headline.turns_close_at_ends_alone.Goals as goal

pub returns : goal.returns
returns g c =
    let m = g.M.Machine.meaning in
    let rests = c.rests_on_laws.ensures in
    record {
      target = at_each_turn m rests (TurnsLoseNothing m) (turns_lose_nothing m);
      debugger = at_each_turn m rests TurnsCloseAtEnds (turns_close_at_ends m);
    }
