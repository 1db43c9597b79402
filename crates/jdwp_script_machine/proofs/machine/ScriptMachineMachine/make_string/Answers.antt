use Rattle.jdwp_script_machine.specs.StateMeanings.{state_now}
use Rattle.jdwp_script_machine.proofs.Machines.{made_or_same}
use Rattle.jdwp_script_machine.proofs.machine.ScriptMachineMachine.make_string.Goals as goal

pub invariant_of-self : goal.invariant_of-self
invariant_of-self c =
    made_or_same (state_now c.self.inside.state) (state_now c.make_string_of.new.state) c.args.text.now c.self.inside.live.items c.self.inside.count c.self.inside.sizes c.make_string_of.result
    c.make_string_of.ensures.ok c.make_string_of.ensures.err c.self.invariant
