use Rattle.std.proofs.Common.{refl}
use Rattle.jdwp_frames.proofs.Reading.{asked-so, fails-so}
use Rattle.jdwp_frames.proofs.client.FrameClient.ask_for_frames.Goals as goal

pub returns-in-Ok-clause-ok : goal.returns-in-Ok-clause-ok
returns-in-Ok-clause-ok g c =
    rw (← c.self.view_is)
    (asked-so g.P.Pipe.story c.args.thread _ c.keep.result _ c.in_ok-command.command c.in-Ok.answer c.forget_freed.new.kept.items c.is_lasting-keeps.result
    c.in_ok-command.ensures.is c.in-Ok.ensures.ok
    (rw (c.is_lasting-keeps.ensures, c.do_frames_last-lasted.ensures, c.debugger.ensures, c.do_frames_last-lasts.ensures, c.debugger-3.ensures) refl)
    (rw (c.forget_freed.ensures.items, c.debugger-2.ensures, c.in_ok-reserve.ensures.items) refl)
    c.keep.ensures)

pub returns-in-Err-clause-err : goal.returns-in-Err-clause-err
returns-in-Err-clause-err g c =
    rw (← c.self.view_is)
    (fails-so g.P.Pipe.story c.args.thread _ c.in-Err.error _ c.in_ok-command.command c.forget_freed.new.kept.items
    c.in_ok-command.ensures.is c.in-Err.ensures.err
    (rw (c.forget_freed.ensures.items, c.debugger-2.ensures, c.in_ok-reserve.ensures.items) refl))
