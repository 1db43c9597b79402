use Rattle.std.proofs.Common.{subst, w32}
use Rattle.std.specs.Prelude.{IfOk, ℤ}
use Rattle.std.proofs.lemmas.Int.{to_z-of_z}
use Rattle.jdwp_client.specs.Clients.{GivesEvent}
use Rattle.jdwp_client.specs.Keeping.{has_request}
use Rattle.jdwp_frames.proofs.client.FrameClient.wait_for.Goals as goal

pub returns-clause-ok : goal.returns-clause-ok
returns-clause-ok g c =
    rw (← c.self.view_is)
    (subst (λ (r : ℤ). IfOk c.wait_for-event.result (λ e. GivesEvent g.P.Pipe.story (has_request r) c.self.inside.client e c.wait_for-event.new.self))
    (to_z-of_z w32 c.args.request c.ranges.request) c.wait_for-event.ensures.ok)
