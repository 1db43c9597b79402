use Rattle.std.proofs.Common.{◌≡◌, ◌<◌, ◌≤◌, ◌∙◌, ◌++◌, ℕ, List, length, take, ap, arith}
use Rattle.jdwp_end.proofs.Leaving.{first-of-piece, left-more, within-all}
use Rattle.jdwp_engine.proofs.Leaving.{live-more}
use Rattle.jdwp_engine.proofs.pipes.moving.write_out.Goals as goal

pub loop-pipe-preserved : goal.loop-pipe-preserved
loop-pipe-preserved g c =
    let i = c.loop-pipe.invariant in
    let waits : List ℕ = (g.E.SessionEnd.end c.loop-pipe.end).outgoing in
    let piece : List ℕ = c.waiting_slices.result.0.now in
    let rest : List ℕ = c.waiting_slices.result.1.now in
    let count = c.in-Ok.count in
    let within : count ≤ length piece = rw c.in-Ok.is at c.write.ensures.within in
    let more : List ℕ = take count waits in
    let same : take count piece ≡ more = first-of-piece waits piece rest count c.waiting_slices.ensures.all within in
    let some : 0 < count = omega arith in (
      i.0 ++ more,
      left-more (g.E.SessionEnd.end c.args.end.now).outgoing i.0 waits (g.E.SessionEnd.end c.leave.new.self).outgoing count i.1 (within-all waits piece rest count c.waiting_slices.ensures.all within)
          (ap (λ (e : g.row.E.Denot). (g.E.SessionEnd.end e).outgoing) c.leave.ensures ∙ ap (λ e. e.outgoing) (g.met.E.SessionEnd.taken_end more c.loop-pipe.end)),
      c.leave.ensures ∙ ap (λ (e : g.row.E.Denot). g.E.SessionEnd.with_taken more e) i.2 ∙ g.met.E.SessionEnd.taken_twice i.0 more c.args.end.now,
      live-more (g.P.LivePipe.story c.args.pipe.now) (g.P.LivePipe.story c.loop-pipe.pipe) (g.P.LivePipe.story c.write.new.self) i.0 piece more count i.3 some same (rw c.in-Ok.is at c.write.ensures.story),
    )
