use Rattle.jdwp_orders.proofs.Theorems.{always_suspended, always_covered, always_mirrored}
use Rattle.jdwp_orders.proofs.headline.is_sure_of_suspended_threads_only.Goals as goal

pub returns : goal.returns
returns g c =
    let m = g.M.Machine.meaning in
    let rests = c.rests_on_laws.ensures in
    let law = c.shows_only_suspended_threads.ensures.covered in
    record {
      suspended = always_suspended m rests law;
      covered = always_covered m rests law;
      mirrored = always_mirrored m rests law;
    }
