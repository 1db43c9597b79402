use Rattle.std.proofs.Common.{arith}
use Rattle.jdwp_watch.specs.declared.course.Course.{Course}
use Rattle.jdwp_watch.proofs.Coursing.{runs-both}
use Rattle.jdwp_watch.proofs.course.Course.then.Goals as goal

pub returns : goal.returns
returns c =
    let both : Course = record { least = c.max.result; greatest = c.min.result; most = c.min-2.result; depth = c.in_ok-depth.depth; rise = c.in_ok-rise.rise; fallen = c.in_ok-fallen.fallen } in
    λ counting first second one two beyond.
    runs-both counting first second c.args.self c.args.next both c.saturating_sub-deeper.result c.args.fallen
    (omega arith) (omega arith) (omega arith) (omega arith) (omega arith) (omega (arith, c.in_ok-most.ensures)) (omega arith) (omega (arith, c.in_ok-depth.ensures)) (omega (arith, c.in_ok-rise.ensures)) c.in_ok-fallen.ensures one two beyond
