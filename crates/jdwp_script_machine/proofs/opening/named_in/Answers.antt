use Rattle.std.proofs.Common.{ℕ, ◌+◌, ◌||◌, ◌∙◌, sym, ap, map, take}
use Rattle.std.specs.List.{list_any}
use Rattle.jdwp_script.specs.Parts.{ThreadPart}
use Rattle.jdwp_script.specs.declared.script.Thread.{Thread}
use Rattle.jdwp_script.specs.Meanings.{thread_part}
use Rattle.jdwp_script_machine.specs.Sought.{names}
use Rattle.jdwp_script_machine.specs.Layers.{Gains}
use Rattle.jdwp_script_machine.proofs.Sets.{any_one_more, holds_more}
use Rattle.jdwp_script_machine.proofs.opening.named_in.Goals as goal

pub loop-thread-preserved : goal.loop-thread-preserved
loop-thread-preserved c =
    let items = c.deref-thread-items.ensures.value in
    let lt = rw items at c.loop-thread-test.true in
    let is = rw items at c.thread-item.is in
    let thread = c.thread-item.result in
    let threads = c.args.script.now.threads.items in
    let passes = λ (n : ℕ) (t : ThreadPart). list_any (names c.args.sought n) t.steps in
    let before = λ (i n : ℕ). list_any (passes n) (map thread_part (take i threads)) in
    let here = λ (n : ℕ). passes n (thread_part thread) in
    let gains : Gains c.loop-thread.found c.add_named.new.found here = rw c.deref.ensures.value at c.in_ok-add_named.ensures in
    holds_more c.loop-thread.found c.add_named.new.found (before c.loop-thread.thread-index) here (before (c.loop-thread.thread-index + 1)) c.loop-thread.invariant gains
    (λ n. any_one_more thread_part (passes n) threads c.loop-thread.thread-index thread lt ∙ ap (λ (x : Thread). before c.loop-thread.thread-index n || passes n (thread_part x)) (sym is))
