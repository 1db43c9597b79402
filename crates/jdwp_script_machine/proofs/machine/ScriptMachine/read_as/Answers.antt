use Rattle.std.proofs.Common.{◌≡◌, ◌≤◌, ◌∙◌, length, sym, ap, subst, arith}
use Rattle.std.proofs.lemmas.List.{length-map, with_items_is}
use Rattle.jdwp_script.specs.Meanings.{script_part}
use Rattle.jdwp_script_machine.specs.States.{State, living}
use Rattle.jdwp_script_machine.specs.StateMeanings.{thread_now, state_now}
use Rattle.jdwp_script_machine.specs.Sound.{IsSound}
use Rattle.jdwp_script_machine.proofs.Machines.{machine_is, faultless_sound, faultless_widths}
use Rattle.jdwp_script_machine.proofs.Openings.{opening_lives}
use Rattle.jdwp_script_machine.proofs.machine.ScriptMachine.read_as.Goals as goal

pub id_sizes-sizes-requires : goal.id_sizes-sizes-requires
id_sizes-sizes-requires c = faultless_widths c.args.limits.now.live (script_part c.in_ok-script.script) c.in_ok-script.ensures.sound

pub invariant_of-result : goal.invariant_of-result
invariant_of-result c =
    let script = script_part c.in_ok-script.script in
    let places = c.list_living-count.new.places in
    let full : length places ≡ c.in_ok-live.live.len = omega arith in
    let kept : length places ≡ length c.in_ok-live.live.items = omega arith in
    let few = rw c.deref.ensures.value at c.in_ok-live.ensures in
    let widths = ap (λ (r : State). r.script.sizes) c.in_ok-state.ensures in
    machine_is (state_now c.in_ok-state.state) places _ c.list_living-count.result c.id_sizes-sizes.result (with_items_is c.in_ok-live.live places full)
    (subst (λ (r : State). IsSound r) (sym c.in_ok-state.ensures) (faultless_sound c.args.profile c.args.limits.now.live script c.in_ok-script.ensures.sound))
    (rw c.deref-2.ensures.value at c.list_living-count.ensures.value) c.list_living-count.ensures.within (kept ∙ (few ∙ sym (length-map c.in_ok-state.state.threads.items thread_now))) (c.id_sizes-sizes.ensures ∙ sym widths)

pub returns-clause-live : goal.returns-clause-live
returns-clause-live c =
    let script = script_part c.in_ok-script.script in
    let P : State → Type 0 = λ r. (1 ≤ length (living r.threads)) × (length (living r.threads) ≤ c.args.limits.now.live) in
    subst P (sym c.in_ok-state.ensures) (opening_lives c.args.limits.now.live script c.in_ok-script.ensures.sound)
