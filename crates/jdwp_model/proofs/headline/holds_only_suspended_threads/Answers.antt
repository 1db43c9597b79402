use Rattle.jdwp_model.specs.Headline.{HeldIsSuspended, HeldIsCovered}
use Rattle.jdwp_model.proofs.Theorems.{always, held_is_suspended, held_is_covered}
use Rattle.jdwp_model.proofs.headline.holds_only_suspended_threads.Goals as goal

pub returns : goal.returns
returns g c =
    let m = g.M.Machine.meaning in
    let rests = c.rests_on_laws.ensures in
    record {
      suspended = always m rests HeldIsSuspended (held_is_suspended m);
      covered = always m rests HeldIsCovered (held_is_covered m);
    }
