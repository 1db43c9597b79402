use Rattle.std.proofs.Common.{ℕ, ◌+◌, ◌||◌, Bool, ◌∙◌, sym, ap, map, take}
use Rattle.std.specs.List.{list_any}
use Rattle.jdwp_script.specs.declared.step.Step.{Step}
use Rattle.jdwp_script.specs.Meanings.{step_part}
use Rattle.jdwp_script_machine.specs.Sought.{names, is_that}
use Rattle.jdwp_script_machine.proofs.Sets.{any_one_more, gains_more}
use Rattle.jdwp_script_machine.proofs.opening.add_named.Goals as goal

pub loop-step-preserved : goal.loop-step-preserved
loop-step-preserved c =
    let step = c.step-item.result in
    let steps = c.args.steps.now in
    let i = c.loop-step.step-index in
    let before = λ (k n : ℕ). list_any (names c.args.sought n) (map step_part (take k steps)) in
    let here = λ (n : ℕ). is_that n c.named_by.result in
    gains_more c.args.found.now c.loop-step.found c.add.new.found (before i) here (before (i + 1)) c.loop-step.invariant c.in_ok-add.ensures
    (λ n. any_one_more step_part (names c.args.sought n) steps i step c.loop-step-test.true
    ∙ (ap (λ (x : Step). before i n || names c.args.sought n (step_part x)) (sym c.step-item.is) ∙ ap (λ (b : Bool). before i n || b) (c.named_by.ensures n)))
