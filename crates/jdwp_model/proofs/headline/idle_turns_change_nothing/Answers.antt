use Rattle.jdwp_model.specs.Faultless.{IdlesUnchanged}
use Rattle.jdwp_model.proofs.Faultless.{at_each_turn, idles_unchanged}
use Rattle.jdwp_model.proofs.headline.idle_turns_change_nothing.Goals as goal

pub returns : goal.returns
returns g c =
    let m = g.M.Machine.meaning in
    at_each_turn m c.rests_on_laws.ensures (IdlesUnchanged m) (idles_unchanged m)
