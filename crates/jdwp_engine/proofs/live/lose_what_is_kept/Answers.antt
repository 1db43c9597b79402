use Rattle.jdwp_end.specs.Story.{flushed}
use Rattle.jdwp_engine.proofs.Runs.{kept-by, kept-ends, lost-by, lost-ends, refused-ends}
use Rattle.jdwp_engine.proofs.live.lose_what_is_kept.Goals as goal

pub returns-in-Done-clause-ends : goal.returns-in-Done-clause-ends
returns-in-Done-clause-ends g c = λ base start now after o h e.
    let m = g.M.Machine.meaning in
    let kept = kept-by m c.args.ended start (flushed now) c.args.target.now c.in-Done.is h in
    rw c.lose.ensures.lost (kept-ends m base start now after c.args.target.now c.requires kept o e)

pub returns-in-LostByRead-clause-ends : goal.returns-in-LostByRead-clause-ends
returns-in-LostByRead-clause-ends g c = λ base start now after o h e.
    let m = g.M.Machine.meaning in
    lost-ends m base start now after c.args.target.now (lost-by m c.args.ended start (flushed now) c.args.target.now c.in-LostByRead.is h) o e

pub returns-in-Refused-clause-ends : goal.returns-in-Refused-clause-ends
returns-in-Refused-clause-ends g c = λ base start now after o h e.
    refused-ends g.M.Machine.meaning base start now after c.args.target.now c.in-Refused.number o (rw c.in-Refused.is at h) e
