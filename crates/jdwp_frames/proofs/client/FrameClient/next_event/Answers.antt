use Rattle.jdwp_frames.proofs.client.FrameClient.next_event.Goals as goal

pub returns-clause-ok : goal.returns-clause-ok
returns-clause-ok g c = rw (← c.self.view_is) c.next_event-event.ensures.ok
