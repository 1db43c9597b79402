use Rattle.jdwp_model.specs.Faultless.{AnswersOneWaiting}
use Rattle.jdwp_model.specs.Places.{EachAtOnePlace}
use Rattle.jdwp_model.proofs.Faultless.{always_whole, answers_one_waiting, each_at_one_place}
use Rattle.jdwp_model.proofs.headline.answers_one_that_waits.Goals as goal

pub returns : goal.returns
returns g c =
    let m = g.M.Machine.meaning in
    let rests = c.rests_on_laws.ensures in
    record { one = always_whole m rests AnswersOneWaiting (answers_one_waiting m); places = always_whole m rests EachAtOnePlace (each_at_one_place m) }
