use Rattle.jdwp_watch.specs.declared.course.Counting.TheVariants.{All, Replies, Nothing, Invocations}
use Rattle.jdwp_watch.proofs.Drifting.{counts-both, told-of-both}
use Rattle.jdwp_watch.proofs.drift.Drift.then.Goals as goal

pub returns : goal.returns
returns c =
    let d = c.args.self.now in
    let e = c.args.next.now in
    λ first second one two. record {
      counts = λ s k h. let both = c.then.ensures s.knows k h in counts-both first second d e s k one two both.0 both.1;
      early = told-of-both All first second d e c.joined-early.result c.joined-early.ensures one two;
      late = told-of-both All first second d e c.joined_past-late.result c.joined_past-late.ensures one two;
      past = told-of-both All first second d e c.joined_last-past.result c.joined_last-past.ensures one two;
      replies = told-of-both Replies first second d e c.joined.result c.joined.ensures one two;
      nothing = told-of-both Nothing first second d e c.joined-2.result c.joined-2.ensures one two;
      invocations = told-of-both Invocations first second d e c.joined-3.result c.joined-3.ensures one two;
    }
