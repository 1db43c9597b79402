use Rattle.std.proofs.lemmas.Grind.{common_steps}
use Rattle.std.proofs.Common.{◌≡◌, ◌∙◌, length, sym, ap, subst, arith}
use Rattle.std.proofs.lemmas.List.{length-map, with_items_is}
use Rattle.jdwp_script_machine.specs.States.{State}
use Rattle.jdwp_script_machine.specs.StateMeanings.{state_now}
use Rattle.jdwp_script_machine.specs.Sound.{IsSound}
use Rattle.jdwp_script_machine.specs.SoundLaws.{ended_sound}
use Rattle.jdwp_script_machine.proofs.Machines.{machine_is}
use Rattle.jdwp_script_machine.proofs.machine.ScriptMachineMachine.end.Goals as goal

pub invariant_of-self : goal.invariant_of-self
invariant_of-self c =
    let s = state_now c.self.inside.state in
    let places = c.list_living-self-inside.new.places in
    let full : length places ≡ c.self.inside.live.len = omega arith in
    let kept : length places ≡ length c.self.inside.live.items = omega arith in
    let few : length (state_now c.end.new.state).threads ≡ length s.threads = ap (λ (r : State). length r.threads) c.end.ensures ∙ length-map s.threads _ in
    let widths = ap (λ (r : State). r.script.sizes) c.end.ensures in
    machine_is (state_now c.end.new.state) places _ c.list_living-self-inside.result c.self.inside.sizes (with_items_is c.self.inside.live places full)
    (subst (λ (r : State). IsSound r) (sym c.end.ensures) (ended_sound s c.args.thread.0 c.self.invariant.sound))
    (rw c.deref.ensures.value at c.list_living-self-inside.ensures.value) c.list_living-self-inside.ensures.within (kept ∙ (c.self.invariant.room ∙ sym few)) (c.self.invariant.sizes ∙ sym widths)

pub list_living-self-inside-requires : goal.list_living-self-inside-requires
list_living-self-inside-requires c = grind (arith, common_steps)
