use Rattle.jdwp_model.proofs.Gives.{tells_what_was_given}
use Rattle.jdwp_model.proofs.GivesOnce.{gives_once}
use Rattle.jdwp_model.proofs.headline.tells_what_was_given.Goals as goal

pub returns : goal.returns
returns g c =
    let m = g.M.Machine.meaning in
    record { told = tells_what_was_given m; once = gives_once m }
