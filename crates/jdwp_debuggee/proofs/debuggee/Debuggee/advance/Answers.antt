use Rattle.std.proofs.Common.{rules, ◌≡◌, ◌<◌, ◌^◌, ◌∙◌, ap, arith}
use Rattle.jdwp_event.specs.Occurrences.{started}
use Rattle.jdwp_debuggee.specs.StepParts.{number_of, with_new}
use Rattle.jdwp_debuggee.proofs.KeptSteps.{few-started, kept-report, most-started}
use Rattle.jdwp_debuggee.proofs.debuggee.Debuggee.advance.Goals as goal

pub add_started-requires-clause-few : goal.add_started-requires-clause-few
add_started-requires-clause-few g c =
    let live : c.self.inside.settings.limits.live < 2 ^ 32 = omega (arith, rw c.limits.ensures at c.live-live.ensures.value, c.live-live.ensures.within) in
    let few = few-started g.M.Machine.meaning _ c.args.thread.0 c.args.happening.now c.self.invariant (rw (← c.self.view_is) at c.requires.may) (rw (← c.self.view_is) at c.requires.unmarked) (rw (← c.self.view_is) at c.requires.next) live in
    rw (c.thread_started-started.ensures, c.make_room.ensures.same) few

pub suspend_for-requires : goal.suspend_for-requires
suspend_for-requires g c =
    let threads : c.add_started.new.threads.list ≡ with_new (started c.args.happening.now) c.self.inside.threads.list =
    c.add_started.ensures.list ∙ (ap (λ l. with_new (number_of c.thread_started-started.result) l) c.make_room.ensures.same ∙ ap (λ o. with_new o c.self.inside.threads.list) c.thread_started-started.ensures) in
    rw threads (most-started g.M.Machine.meaning _ (started c.args.happening.now) c.self.invariant)

pub invariant_of-self-2 : goal.invariant_of-self-2
invariant_of-self-2 g c =
    let threads : c.add_started.new.threads.list ≡ with_new (started c.args.happening.now) c.self.inside.threads.list =
    c.add_started.ensures.list ∙ (ap (λ l. with_new (number_of c.thread_started-started.result) l) c.make_room.ensures.same ∙ ap (λ o. with_new o c.self.inside.threads.list) c.thread_started-started.ensures) in
    let machine : c.step.new.self ≡ g.M.Machine.meaning.stepped c.self.inside.machine c.args.thread.0 = search rules in
    let sends = rw (← c.self.view_is) at c.requires.sends in
    let stopped = rw (c.make_stop_room.ensures.same, c.thread-2.ensures) at c.stop_for.ensures in
    rw (stopped, c.suspend_for.ensures.list, threads, c.count_gathered.ensures sends, c.id_after-self-inside.ensures, c.thread.ensures, machine)
    (kept-report g.M.Machine.meaning g.met.M.Machine.lawful _ c.args.thread.0 c.args.happening.now c.args.sends.now c.self.invariant (rw (← c.self.view_is) at c.requires.may) (rw (← c.self.view_is) at c.requires.unmarked) (rw (← c.self.view_is) at c.requires.next) c.requires.runs_on sends)
