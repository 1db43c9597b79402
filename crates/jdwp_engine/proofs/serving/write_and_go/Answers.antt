use Rattle.std.proofs.Common.{◌∙◌, ap, rules}
use Rattle.jdwp_target.specs.Targets.{Target, lost_target}
use Rattle.jdwp_engine.proofs.Runs.{fails-whole}
use Rattle.jdwp_engine.proofs.serving.write_and_go.Goals as goal

pub returns-then-not-written-clause-fails : goal.returns-then-not-written-clause-fails
returns-then-not-written-clause-fails g c = λ _.
    let part = c.write_out-written.ensures.fails (search rules) in (
      fails-whole (g.P.Pipe.story c.args.pipe.now) (g.P.Pipe.story c.write_out-written.new.pipe) part.0 c.args.target.now.end.outgoing part.2 part.3,
      (part.0, rw part.1 at c.session.ensures.ran, c.lose.ensures.lost ∙ ap (λ (t : Target g.row.M.Denot). lost_target t) part.1),
      c.write_out-written.ensures.rooms,
    )
