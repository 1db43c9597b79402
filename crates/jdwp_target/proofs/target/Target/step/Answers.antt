use Rattle.std.proofs.Common.{Result, subst}
use Rattle.jdwp_target.specs.declared.target.Stepped.{Stepped}
use Rattle.jdwp_target.specs.declared.target.TargetFault.{TargetFault}
use Rattle.jdwp_target.specs.Turns.{StepsAt}
use Rattle.jdwp_target.proofs.ProtocolSteps.{stepped-all, stepped-frozen, stepped-none, stepped-one, stepped-quiet, stepped-reported, stepped-suspended, stepped-unless}
use Rattle.jdwp_target.proofs.target.Target.step.Goals as goal

pub returns-clause-suspended : goal.returns-clause-suspended
returns-clause-suspended g c n is some = stepped-suspended g.M.Machine.meaning c.args.thread.0 c.args.self.now c.make_step.new.self c.make_step.result n c.make_step.ensures.steps is some

pub returns-clause-frozen : goal.returns-clause-frozen
returns-clause-frozen g c is = stepped-frozen g.M.Machine.meaning c.args.thread.0 c.args.self.now c.make_step.new.self (subst (λ (r : Result Stepped TargetFault). StepsAt g.M.Machine.meaning c.args.thread.0 c.args.self.now r c.make_step.new.self) is c.make_step.ensures.steps)

pub returns-clause-no_memory : goal.returns-clause-no_memory
returns-clause-no_memory g c = stepped-unless g.M.Machine.meaning c.args.thread.0 c.args.self.now c.make_step.new.self c.make_step.result c.make_step.ensures.steps

pub returns-clause-reported : goal.returns-clause-reported
returns-clause-reported g c is = stepped-reported g.M.Machine.meaning c.args.thread.0 c.args.self.now c.make_step.new.self (subst (λ (r : Result Stepped TargetFault). StepsAt g.M.Machine.meaning c.args.thread.0 c.args.self.now r c.make_step.new.self) is c.make_step.ensures.steps)

pub returns-clause-policy_all : goal.returns-clause-policy_all
returns-clause-policy_all g c event told policy = stepped-all g.M.Machine.meaning c.args.thread.0 c.args.self.now c.make_step.new.self c.make_step.result event c.make_step.ensures.steps told policy

pub returns-clause-policy_event_thread : goal.returns-clause-policy_event_thread
returns-clause-policy_event_thread g c event told policy = stepped-one g.M.Machine.meaning c.args.thread.0 c.args.self.now c.make_step.new.self c.make_step.result event c.make_step.ensures.steps told policy

pub returns-clause-policy_none : goal.returns-clause-policy_none
returns-clause-policy_none g c event told policy = stepped-none g.M.Machine.meaning c.args.thread.0 c.args.self.now c.make_step.new.self c.make_step.result event c.make_step.ensures.steps told policy

pub returns-clause-quiet : goal.returns-clause-quiet
returns-clause-quiet g c is = stepped-quiet g.M.Machine.meaning c.args.thread.0 c.args.self.now c.make_step.new.self (subst (λ (r : Result Stepped TargetFault). StepsAt g.M.Machine.meaning c.args.thread.0 c.args.self.now r c.make_step.new.self) is c.make_step.ensures.steps)
