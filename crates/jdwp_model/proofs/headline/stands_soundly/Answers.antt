use Rattle.jdwp_model.specs.World.{opening}
use Rattle.jdwp_model.proofs.Keeps.{keeps_run}
use Rattle.jdwp_model.proofs.Theorems.{opening_inv}
use Rattle.jdwp_model.proofs.headline.stands_soundly.Goals as goal

pub returns : goal.returns
returns g c = λ settings measure s events begins.
    let m = g.M.Machine.meaning in
    let kept = keeps_run m c.rests_on_laws.ensures settings begins.limit_least begins.limit_most measure (opening m s) events (opening_inv m settings s begins) in
    record {
      sound = kept.target.sound;
      idle = λ h. (kept.target.idle h).0;
      unlost = kept.target.unlost;
      shut = λ h. (kept.debugger.closed h).1;
    }
