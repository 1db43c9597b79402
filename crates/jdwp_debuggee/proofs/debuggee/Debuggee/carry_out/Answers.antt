use Rattle.std.proofs.Common.{◌≡◌, true, ap, refl, rules, None}
use Rattle.jdwp_action.specs.Actions as action
use Rattle.jdwp_debuggee.specs.Askings.{Asking}
use Rattle.jdwp_debuggee.specs.Debuggees.{CarriesOut}
use Rattle.jdwp_debuggee.specs.Replies.{reply_meaning}
use Rattle.jdwp_debuggee.proofs.Encoded.{threads-told}
use Rattle.jdwp_debuggee.specs.Strings.{makes_string}
use Rattle.jdwp_debuggee.proofs.MadeStrings.{string-did, string-told}
use Rattle.jdwp_debuggee.proofs.Wanting.{both-wanted, short-wants}
use Rattle.jdwp_debuggee.proofs.Writable.{frames-did, short-did, short-fails, short-sent, short-stays, thread-did}
use Rattle.jdwp_debuggee.proofs.debuggee.Debuggee.carry_out.Goals as goal

pub returns-in-Exit-clause-ok : goal.returns-in-Exit-clause-ok
returns-in-Exit-clause-ok g c = rw (c.short.ensures, c.in-Exit.is) (short-sent g.M.Machine.meaning _ None _ _ c.exit.result c.exit.ensures.ok)

pub returns-in-Exit-clause-err : goal.returns-in-Exit-clause-err
returns-in-Exit-clause-err g c = rw c.short.ensures (short-stays _ c.exit.result c.exit.ensures.err)

pub returns-in-Exit-clause-memory : goal.returns-in-Exit-clause-memory
returns-in-Exit-clause-memory g c = rw (c.short.ensures, c.in-Exit.is) (short-fails _ c.exit.result refl)

pub returns-in-SetRequest-clause-ok : goal.returns-in-SetRequest-clause-ok
returns-in-SetRequest-clause-ok g c = rw (c.short-in-SetRequest.ensures, c.in-SetRequest.is) (short-sent g.M.Machine.meaning _ None _ _ c.set_request.result c.set_request.ensures.ok)

pub returns-in-SetRequest-clause-err : goal.returns-in-SetRequest-clause-err
returns-in-SetRequest-clause-err g c = rw c.short-in-SetRequest.ensures (short-stays _ c.set_request.result c.set_request.ensures.err)

pub returns-in-SetRequest-clause-memory : goal.returns-in-SetRequest-clause-memory
returns-in-SetRequest-clause-memory g c = rw (c.short-in-SetRequest.ensures, c.in-SetRequest.is) (short-fails _ c.set_request.result refl)

pub returns-in-SetSlots-clause-ok : goal.returns-in-SetSlots-clause-ok
returns-in-SetSlots-clause-ok g c = rw (c.short-in-SetSlots.ensures, c.in-SetSlots.is) (short-sent g.M.Machine.meaning _ None _ _ c.set_slots.result (rw c.deref.ensures.value at c.set_slots.ensures.ok))

pub returns-in-SetSlots-clause-err : goal.returns-in-SetSlots-clause-err
returns-in-SetSlots-clause-err g c = rw c.short-in-SetSlots.ensures (short-stays _ c.set_slots.result c.set_slots.ensures.err)

pub returns-in-SetSlots-clause-memory : goal.returns-in-SetSlots-clause-memory
returns-in-SetSlots-clause-memory g c = rw (c.short-in-SetSlots.ensures, c.in-SetSlots.is) (short-fails _ c.set_slots.result refl)

pub returns-in-Resume-clause-ok : goal.returns-in-Resume-clause-ok
returns-in-Resume-clause-ok g c = λ command e.
    let same = rw c.in-Resume.is at (ap (λ (x : Asking). x.action) e) in
    short-did g.M.Machine.meaning command _ _ _ c.resume.result same c.resume.ensures

pub returns-in-Dispose-clause-ok : goal.returns-in-Dispose-clause-ok
returns-in-Dispose-clause-ok g c = λ command e.
    let same = rw c.in-Dispose.is at (ap (λ (x : Asking). x.action) e) in
    short-did g.M.Machine.meaning command _ _ _ c.dispose.result same c.dispose.ensures

pub returns-in-HoldEvents-clause-ok : goal.returns-in-HoldEvents-clause-ok
returns-in-HoldEvents-clause-ok g c = λ command e.
    let same = rw c.in-HoldEvents.is at (ap (λ (x : Asking). x.action) e) in
    short-did g.M.Machine.meaning command _ _ _ c.hold_events.result same c.hold_events.ensures

pub returns-in-ReleaseEvents-clause-ok : goal.returns-in-ReleaseEvents-clause-ok
returns-in-ReleaseEvents-clause-ok g c = λ command e.
    let same = rw c.in-ReleaseEvents.is at (ap (λ (x : Asking). x.action) e) in
    short-did g.M.Machine.meaning command _ _ _ c.release_events.result same c.release_events.ensures

pub returns-in-ClearRequest-clause-ok : goal.returns-in-ClearRequest-clause-ok
returns-in-ClearRequest-clause-ok g c = λ command e.
    let same = rw c.in-ClearRequest.is at (ap (λ (x : Asking). x.action) e) in
    let carries : CarriesOut g.M.Machine.meaning (action.ClearRequest c.in-ClearRequest.kind c.in-ClearRequest.id) c.args.self.now c.clear_request.new.self (reply_meaning c.clear_request.result) = search rules in
    short-did g.M.Machine.meaning command _ _ _ c.clear_request.result same carries

pub returns-in-ClearBreakpoints-clause-ok : goal.returns-in-ClearBreakpoints-clause-ok
returns-in-ClearBreakpoints-clause-ok g c = λ command e.
    let same = rw c.in-ClearBreakpoints.is at (ap (λ (x : Asking). x.action) e) in
    short-did g.M.Machine.meaning command _ _ _ c.clear_breakpoints.result same c.clear_breakpoints.ensures

pub returns-in-ResumeThread-clause-ok : goal.returns-in-ResumeThread-clause-ok
returns-in-ResumeThread-clause-ok g c = λ command e.
    let same = rw c.in-ResumeThread.is at (ap (λ (x : Asking). x.action) e) in
    short-did g.M.Machine.meaning command _ _ _ c.resume_thread.result same c.resume_thread.ensures

pub returns-in-SuspendCount-clause-ok : goal.returns-in-SuspendCount-clause-ok
returns-in-SuspendCount-clause-ok g c = λ command e.
    let same = rw c.in-SuspendCount.is at (ap (λ (x : Asking). x.action) e) in
    short-did g.M.Machine.meaning command _ _ _ c.ask_suspend_count.result same c.ask_suspend_count.ensures

pub returns-in-ThreadStatus-clause-ok : goal.returns-in-ThreadStatus-clause-ok
returns-in-ThreadStatus-clause-ok g c = λ command e.
    let same = rw c.in-ThreadStatus.is at (ap (λ (x : Asking). x.action) e) in
    short-did g.M.Machine.meaning command _ _ _ c.ask_status.result same c.ask_status.ensures

pub returns-in-IdSizes-clause-ok : goal.returns-in-IdSizes-clause-ok
returns-in-IdSizes-clause-ok g c = λ command e.
    let same = rw c.in-IdSizes.is at (ap (λ (x : Asking). x.action) e) in
    short-did g.M.Machine.meaning command _ _ _ c.ask_sizes.result same c.ask_sizes.ensures

pub returns-in-AskFrames-clause-ok : goal.returns-in-AskFrames-clause-ok
returns-in-AskFrames-clause-ok g c = rw c.in-AskFrames.is (frames-did g.M.Machine.meaning _ c.in-AskFrames.thread.0 c.in-AskFrames.query _ c.ask_frames.ensures.value c.ask_frames.ensures.fits)

pub returns-in-AskThread-clause-ok : goal.returns-in-AskThread-clause-ok
returns-in-AskThread-clause-ok g c = rw c.in-AskThread.is (thread-did g.M.Machine.meaning _ c.in-AskThread.thread.0 c.in-AskThread.query _ c.ask_thread.ensures.value c.ask_thread.ensures.fits)

pub returns-in-AllThreads-clause-encoded : goal.returns-in-AllThreads-clause-encoded
returns-in-AllThreads-clause-encoded g c = rw c.in-AllThreads.is (threads-told g.M.Machine.meaning c.args.self.now None c.ask_all_threads.result c.ask_all_threads.ensures.encoded)

pub returns-in-Exit-clause-wants : goal.returns-in-Exit-clause-wants
returns-in-Exit-clause-wants g c = rw (c.short.ensures, c.in-Exit.is) (short-wants _ c.exit.result c.exit.ensures.memory)

pub returns-in-SetRequest-clause-wants : goal.returns-in-SetRequest-clause-wants
returns-in-SetRequest-clause-wants g c = rw (c.short-in-SetRequest.ensures, c.in-SetRequest.is) (short-wants _ c.set_request.result c.set_request.ensures.memory)

pub returns-in-SetSlots-clause-wants : goal.returns-in-SetSlots-clause-wants
returns-in-SetSlots-clause-wants g c =
    rw (c.short-in-SetSlots.ensures, c.in-SetSlots.is)
    (short-wants _ c.set_slots.result (both-wanted _ _ c.set_slots.result c.set_slots.ensures.suspended (rw c.deref.ensures.value at c.set_slots.ensures.memory)))

pub returns-in-AskFrames-clause-wants : goal.returns-in-AskFrames-clause-wants
returns-in-AskFrames-clause-wants g c = rw c.in-AskFrames.is (both-wanted _ _ c.ask_frames.result c.ask_frames.ensures.suspended c.ask_frames.ensures.memory)

pub returns-in-AskThread-clause-wants : goal.returns-in-AskThread-clause-wants
returns-in-AskThread-clause-wants g c = rw c.in-AskThread.is (both-wanted _ _ c.ask_thread.result c.ask_thread.ensures.lives c.ask_thread.ensures.memory)

pub returns-in-Ask-clause-ok : goal.returns-in-Ask-clause-ok
returns-in-Ask-clause-ok g c =
    let on : makes_string c.in-Ask.query ≡ true = search rules in
    let made = rw c.text_in.ensures at c.make_string.ensures in
    rw c.in-Ask.is (string-did g.M.Machine.meaning _ _ c.in-Ask.query c.make_string.result on made.after made.value made.fits)

pub returns-in-Ask-clause-encoded : goal.returns-in-Ask-clause-encoded
returns-in-Ask-clause-encoded g c =
    let on : makes_string c.in-Ask.query ≡ true = search rules in
    let made = rw c.text_in.ensures at c.make_string.ensures in
    rw c.in-Ask.is (string-told g.M.Machine.meaning c.args.self.now c.in-Ask.query c.make_string.result on made.encoded)
