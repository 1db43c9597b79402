use Rattle.std.proofs.Common.{rules, ◌≡◌, ◌∙◌, sym, None}
use Rattle.jdwp_debuggee.proofs.Kept.{most-of}
use Rattle.jdwp_debuggee.proofs.KeptSteps.{kept-death, kept-silent, steps-death}
use Rattle.jdwp_debuggee.proofs.debuggee.Debuggee.run_out.Goals as goal

pub suspend_by-requires : goal.suspend_by-requires
suspend_by-requires g c = most-of g.M.Machine.meaning _ c.self.invariant

pub invariant_of-self-in-Some : goal.invariant_of-self-in-Some
invariant_of-self-in-Some g c =
    let sends = rw (← c.self.view_is) at c.requires.sends in
    let stopped = rw (c.in-Some.is, c.make_stop_room.ensures.same, c.thread.ensures) at c.stop_for.ensures in
    rw (stopped, c.mark.ensures.list, c.suspend_by.ensures.list, c.count_gathered.ensures sends, c.policy.ensures, c.thread-in-Some.ensures)
    (kept-death g.M.Machine.meaning g.met.M.Machine.lawful _ c.args.thread.0 c.args.happening.now c.in-Some.composite c.self.invariant (rw (← c.self.view_is) at c.requires.may) (rw (← c.self.view_is) at c.requires.unmarked) (rw (← c.self.view_is) at c.requires.next) c.requires.runs_out (sym c.in-Some.is ∙ sends))

pub returns-in-Some-clause-ok : goal.returns-in-Some-clause-ok
returns-in-Some-clause-ok g c =
    let sends = rw (← c.self.view_is) at c.requires.sends in
    let stopped = rw (c.in-Some.is, c.make_stop_room.ensures.same, c.thread.ensures) at c.stop_for.ensures in
    rw (← c.self.view_is, stopped, c.mark.ensures.visits, c.suspend_by.ensures.visits, c.mark.ensures.list, c.suspend_by.ensures.list, c.count_gathered.ensures sends, c.policy.ensures, c.thread-in-Some.ensures)
    (steps-death g.M.Machine.meaning _ c.args.thread.0 c.args.happening.now c.in-Some.composite (rw (← c.self.view_is) at c.requires.may) (rw (← c.self.view_is) at c.requires.unmarked) (rw (← c.self.view_is) at c.requires.next) c.requires.runs_out (sym c.in-Some.is ∙ sends))

pub invariant_of-self-2 : goal.invariant_of-self-2
invariant_of-self-2 g c =
    let sends = rw (← c.self.view_is) at c.requires.sends in
    let none : c.args.sends ≡ None = search rules in
    let stopped = rw (none, c.make_stop_room.ensures.same) at c.stop_for.ensures in
    rw (stopped, c.end_thread-dies.ensures.machine)
    (kept-silent g.M.Machine.meaning g.met.M.Machine.lawful _ c.args.thread.0 c.args.happening.now _ _ c.end_thread-dies.result c.self.invariant (rw (← c.self.view_is) at c.requires.may) (rw (← c.self.view_is) at c.requires.unmarked) (rw (← c.self.view_is) at c.requires.next) c.requires.runs_out (sym none ∙ sends)
    c.end_thread-dies.ensures.threads c.end_thread-dies.ensures.last (rw (c.count_gathered.ensures sends) at c.end_thread-dies.ensures.requests))
