use Rattle.jdwp_frames.proofs.client.FrameClient.read_frames.Goals as goal

pub returns-clause-err : goal.returns-clause-err
returns-clause-err g c = rw (← c.self.view_is, ← c.forget.ensures) c.ask_for_frames.ensures.err
