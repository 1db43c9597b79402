use Rattle.std.proofs.Common.{Result, inl, inr, subst}
use Rattle.jdwp_end.specs.Ends.{front_of}
use Rattle.jdwp_target.specs.declared.target.TargetFault.{TargetFault}
use Rattle.jdwp_target.specs.declared.target.Turn.{Turn}
use Rattle.jdwp_target.specs.Turns.{TurnsAt}
use Rattle.jdwp_target.proofs.ProtocolTurns.{Turned, turned-clear, turned-clear-breakpoints, turned-dispose, turned-fault, turned-nothing, turned-refused, turned-replied, turned-resume, turned-resume-thread, turned-set, turned-suspend, turned-suspend-thread, turned-wanting}
use Rattle.jdwp_target.proofs.target.Target.turn.Goals as goal

pub returns-clause-replies : goal.returns-clause-replies
returns-clause-replies g c id error is = turned-replied g.M.Machine.meaning c.args.self.now c.handle_next.new.self id error (subst (λ (r : Result Turn TargetFault). Turned g.M.Machine.meaning c.args.self.now c.handle_next.new.self r) is (c.handle_next.ensures.turns, c.handle_next.ensures.encoded))

pub returns-clause-refused : goal.returns-clause-refused
returns-clause-refused g c id error is some = turned-refused g.M.Machine.meaning c.args.self.now c.handle_next.new.self id error (subst (λ (r : Result Turn TargetFault). Turned g.M.Machine.meaning c.args.self.now c.handle_next.new.self r) is (c.handle_next.ensures.turns, c.handle_next.ensures.encoded)) some

pub returns-clause-unchanged : goal.returns-clause-unchanged
returns-clause-unchanged g c (inl is) = turned-nothing g.M.Machine.meaning c.args.self.now c.handle_next.new.self (front_of c.args.self.now.end) (subst (λ (r : Result Turn TargetFault). TurnsAt g.M.Machine.meaning (front_of c.args.self.now.end) c.args.self.now r c.handle_next.new.self) is c.handle_next.ensures.turns)
returns-clause-unchanged g c (inr is) = turned-wanting g.M.Machine.meaning c.args.self.now c.handle_next.new.self (front_of c.args.self.now.end) (subst (λ (r : Result Turn TargetFault). TurnsAt g.M.Machine.meaning (front_of c.args.self.now.end) c.args.self.now r c.handle_next.new.self) is c.handle_next.ensures.turns)

pub returns-clause-suspend : goal.returns-clause-suspend
returns-clause-suspend g c answers = turned-suspend g.M.Machine.meaning c.args.self.now c.handle_next.new.self c.handle_next.result (c.handle_next.ensures.turns, c.handle_next.ensures.encoded) answers

pub returns-clause-resume : goal.returns-clause-resume
returns-clause-resume g c answers = turned-resume g.M.Machine.meaning c.args.self.now c.handle_next.new.self c.handle_next.result (c.handle_next.ensures.turns, c.handle_next.ensures.encoded) answers

pub returns-clause-suspend_thread : goal.returns-clause-suspend_thread
returns-clause-suspend_thread g c t answers = turned-suspend-thread g.M.Machine.meaning c.args.self.now c.handle_next.new.self c.handle_next.result (c.handle_next.ensures.turns, c.handle_next.ensures.encoded) t answers

pub returns-clause-resume_thread : goal.returns-clause-resume_thread
returns-clause-resume_thread g c t answers = turned-resume-thread g.M.Machine.meaning c.args.self.now c.handle_next.new.self c.handle_next.result (c.handle_next.ensures.turns, c.handle_next.ensures.encoded) t answers

pub returns-clause-set : goal.returns-clause-set
returns-clause-set g c kind policy modifiers answers = turned-set g.M.Machine.meaning c.args.self.now c.handle_next.new.self c.handle_next.result (c.handle_next.ensures.turns, c.handle_next.ensures.encoded) kind policy modifiers answers

pub returns-clause-clear : goal.returns-clause-clear
returns-clause-clear g c kind id answers = turned-clear g.M.Machine.meaning c.args.self.now c.handle_next.new.self c.handle_next.result (c.handle_next.ensures.turns, c.handle_next.ensures.encoded) kind id answers

pub returns-clause-clear_all_breakpoints : goal.returns-clause-clear_all_breakpoints
returns-clause-clear_all_breakpoints g c answers = turned-clear-breakpoints g.M.Machine.meaning c.args.self.now c.handle_next.new.self c.handle_next.result (c.handle_next.ensures.turns, c.handle_next.ensures.encoded) answers

pub returns-clause-dispose : goal.returns-clause-dispose
returns-clause-dispose g c answers = turned-dispose g.M.Machine.meaning c.args.self.now c.handle_next.new.self c.handle_next.result (c.handle_next.ensures.turns, c.handle_next.ensures.encoded) answers

pub returns-clause-fault : goal.returns-clause-fault
returns-clause-fault g c fault is = turned-fault g.M.Machine.meaning c.args.self.now c.handle_next.new.self (front_of c.args.self.now.end) fault (subst (λ (r : Result Turn TargetFault). TurnsAt g.M.Machine.meaning (front_of c.args.self.now.end) c.args.self.now r c.handle_next.new.self) is c.handle_next.ensures.turns)
