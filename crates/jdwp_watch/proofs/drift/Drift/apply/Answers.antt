use Rattle.std.proofs.Common.{ap, sym, ◌∙◌}
use Rattle.jdwp_watch.specs.declared.bound.Bound.{Bound}
use Rattle.jdwp_watch.specs.declared.course.Counting.TheVariants.{Invocations}
use Rattle.jdwp_watch.specs.Courses.{ran}
use Rattle.jdwp_watch.specs.Drifts.{waiting}
use Rattle.jdwp_watch.proofs.Drifting.{same-standing}
use Rattle.jdwp_watch.proofs.drift.Drift.apply.Goals as goal

pub returns : goal.returns
returns c = λ moves follows.
    let s = c.args.standing in
    let k = c.in_ok-counting.counting in
    same-standing c.in_ok-told.told (ran k moves s.told) c.in_ok-recounted.recounted (ran k moves s.recounted) s.knows c.in_ok-invoked.invoked.value ((ran Invocations moves (waiting s.invoked)).value)
    (c.in_ok-told.ensures moves follows) (c.in_ok-recounted.ensures moves follows) (ap (λ (b : Bound). b.value) (c.in_ok-invoked.ensures moves follows))
    ∙ sym (follows.counts s k c.in_ok-counting.ensures)
