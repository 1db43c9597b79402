use Rattle.jdwp_script_machine.specs.StateMeanings.{state_now}
use Rattle.jdwp_script_machine.proofs.Machines.{written_is}
use Rattle.jdwp_script_machine.proofs.machine.ScriptMachineMachine.write_slots.Goals as goal

pub invariant_of-self : goal.invariant_of-self
invariant_of-self c =
    written_is (state_now c.self.inside.state) (state_now c.write_slots_of.new.state) c.args.thread.0 c.args.frame.0 c.args.values.now c.self.inside.live.items c.self.inside.count c.self.inside.sizes c.write_slots_of.ensures.state c.self.invariant
