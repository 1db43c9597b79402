use Rattle.std.proofs.Common.{◌≡◌, ◌∙◌, List, length, sym, ap, arith}
use Rattle.std.proofs.lemmas.List.{length-map, with_items_is}
use Rattle.jdwp_value.specs.declared.id.ObjectId.{ObjectId}
use Rattle.jdwp_script.specs.Parts.{ScriptPart}
use Rattle.jdwp_script_machine.specs.declared.state.ThreadState.{ThreadState}
use Rattle.jdwp_script_machine.specs.States.{State}
use Rattle.jdwp_script_machine.specs.StateMeanings.{thread_now, state_now}
use Rattle.jdwp_script_machine.specs.LiveLaws.{stepped_script}
use Rattle.jdwp_script_machine.proofs.Machines.{machine_is, stepped_length}
use Rattle.jdwp_script_machine.proofs.machine.ScriptMachineMachine.step.Goals as goal

pub invariant_of-self-2 : goal.invariant_of-self-2
invariant_of-self-2 c =
    let s = state_now c.self.inside.state in
    let places = c.list_living-self-inside.new.places in
    let full : length places ≡ c.self.inside.live.len = omega arith in
    let kept : length places ≡ length c.self.inside.live.items = omega arith in
    let few : length (state_now c.step.new.state).threads ≡ length s.threads = ap (λ (r : State). length r.threads) c.in_ok-step.ensures.ok ∙ stepped_length s c.args.thread.0 in
    let widths = ap (λ (r : State). r.script.sizes) c.in_ok-step.ensures.ok ∙ ap (λ (script : ScriptPart). script.sizes) (stepped_script s c.args.thread.0) in
    machine_is (state_now c.step.new.state) places _ c.list_living-self-inside.result c.self.inside.sizes (with_items_is c.self.inside.live places full)
    c.in_ok-step.ensures.sound
    (rw c.deref.ensures.value at c.list_living-self-inside.ensures.value) c.list_living-self-inside.ensures.within (kept ∙ (c.self.invariant.room ∙ sym few)) (c.self.invariant.sizes ∙ sym widths)

-- every thread keeps its place
pub list_living-self-inside-requires : goal.list_living-self-inside-requires
list_living-self-inside-requires c =
    let s = state_now c.self.inside.state in
    let few : length (state_now c.step.new.state).threads ≡ length s.threads = ap (λ (r : State). length r.threads) c.in_ok-step.ensures.ok ∙ stepped_length s c.args.thread.0 in
    ap (λ (places : List ObjectId). length places) c.deref_mut.ensures.value
    ∙ (c.self.invariant.room ∙ (sym few ∙ (length-map c.step.new.state.threads.items thread_now ∙ sym (ap (λ (es : List ThreadState). length es) c.deref.ensures.value))))
