use Rattle.jdwp_model.specs.Headline.{KnowsAndHolds, HasTheCounts, HasTheRequests}
use Rattle.jdwp_model.proofs.Theorems.{always, knows_and_holds, has_the_counts, has_the_requests}
use Rattle.jdwp_model.proofs.headline.mirrors_what_was_seen.Goals as goal

pub returns : goal.returns
returns g c =
    let m = g.M.Machine.meaning in
    let rests = c.rests_on_laws.ensures in
    record {
      known_and_held = always m rests KnowsAndHolds (knows_and_holds m);
      counts = always m rests HasTheCounts (has_the_counts m);
      requests = always m rests HasTheRequests (has_the_requests m);
    }
