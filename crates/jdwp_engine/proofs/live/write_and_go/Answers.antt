use Rattle.std.proofs.Common.{◌∙◌, ap, rules}
use Rattle.jdwp_target.specs.Targets.{Target, lost_target}
use Rattle.jdwp_engine.proofs.Runs.{fails-whole}
use Rattle.jdwp_engine.proofs.live.write_and_go.Goals as goal

pub returns-then-not-written-clause-fails : goal.returns-then-not-written-clause-fails
returns-then-not-written-clause-fails g c = λ _.
    let part = c.write_out-written.ensures.fails (search rules) in (
      record {
        through = fails-whole (g.P.LivePipe.story c.args.pipe.now).through (g.P.LivePipe.story c.write_out-written.new.pipe).through part.0 c.args.target.now.end.outgoing part.2 part.3.through;
        rooms = part.3.rooms;
        waits = part.3.waits;
      },
      (part.0, rw part.1 at c.session.ensures.ran, c.lose.ensures.lost ∙ ap (λ (t : Target g.row.M.Denot). lost_target t) part.1),
    )
