use Rattle.std.proofs.Common.{refl, sym}
use Rattle.std.proofs.lemmas.List.{length-map}
use Rattle.jdwp_script_machine.specs.States.{ThreadNow}
use Rattle.jdwp_script_machine.specs.StateMeanings.{thread_now, state_now}
use Rattle.jdwp_script_machine.specs.Sound.{ThreadNowIsSound}
use Rattle.jdwp_script_machine.specs.SoundLaws.{all_found}
use Rattle.jdwp_script_machine.proofs.happening.next.Goals as goal

pub occurrence-requires : goal.occurrence-requires
occurrence-requires c =
    let found = rw c.deref.ensures.value at c.in-Some.ensures in
    let s = state_now c.args.state.now in
    let own = all_found (λ (e : ThreadNow). e.id) (ThreadNowIsSound s.script.sizes) s.threads c.args.thread.0 (thread_now c.in-Some.entry.now) c.requires.each_thread (sym found) in
    rw c.deref-2.ensures.value (rw length-map at own.frames)

pub returns-in-None : goal.returns-in-None
returns-in-None c =
    let found = rw c.deref.ensures.value at c.in-Some.ensures in
    let step = c.in-Some-next_step.ensures.step in
    let occurrence = rw (c.in-None.is, c.deref-2.ensures.value) at c.in_ok-occurrence.ensures in
    rw (c.new-in-None.ensures, ← found, ← step, ← occurrence) refl

pub returns-in-Some-2 : goal.returns-in-Some-2
returns-in-Some-2 c =
    let found = rw c.deref.ensures.value at c.in-Some.ensures in
    let step = c.in-Some-next_step.ensures.step in
    let occurrence = rw (c.in-Some-2.is, c.deref-2.ensures.value) at c.in_ok-occurrence.ensures in
    rw (c.new-in-Some-2.ensures, c.named_by.ensures, ← found, ← step, ← occurrence) refl
