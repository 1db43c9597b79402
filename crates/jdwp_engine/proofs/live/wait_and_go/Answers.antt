use Rattle.jdwp_engine.proofs.Living.{waited}
use Rattle.jdwp_engine.proofs.live.wait_and_go.Goals as goal

pub returns-in-Ok-clause-goes : goal.returns-in-Ok-clause-goes
returns-in-Ok-clause-goes g c = λ e.
    waited c.in-Ok.field-0 c.args.target.now c.read_and_feed.new.end (g.P.LivePipe.story c.args.pipe.now) (g.P.LivePipe.story c.read_and_feed.new.pipe) c.in-Ok.ensures.reads
