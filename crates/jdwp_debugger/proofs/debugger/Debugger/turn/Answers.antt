use Rattle.std.proofs.Common.{Result, subst}
use Rattle.jdwp_end.specs.Ends.{front_of}
use Rattle.jdwp_debugger.specs.declared.faults.DebuggerFault.{DebuggerFault}
use Rattle.jdwp_debugger.specs.declared.turning.Read.{Read}
use Rattle.jdwp_debugger.specs.DebuggerTurns.{TurnsAt}
use Rattle.jdwp_debugger.proofs.ProtocolTurns.{answers-own, turned-count, turned-death, turned-dispose, turned-event-all, turned-event-thread, turned-nothing, turned-refused, turned-resume, turned-set, turned-suspend, turned-wanting}
use Rattle.jdwp_debugger.proofs.debugger.Debugger.turn.Goals as goal

pub returns-clause-nothing : goal.returns-clause-nothing
returns-clause-nothing c is = turned-nothing (front_of c.args.self.now.end) c.args.self.now c.handle_next.new.self (subst (λ (r : Result Read DebuggerFault). TurnsAt (front_of c.args.self.now.end) c.args.self.now r c.handle_next.new.self) is c.handle_next.ensures.turns)

pub returns-clause-no_memory : goal.returns-clause-no_memory
returns-clause-no_memory c is = turned-wanting (front_of c.args.self.now.end) c.args.self.now c.handle_next.new.self (subst (λ (r : Result Read DebuggerFault). TurnsAt (front_of c.args.self.now.end) c.args.self.now r c.handle_next.new.self) is c.handle_next.ensures.turns)

pub returns-clause-answered : goal.returns-clause-answered
returns-clause-answered c ticket answer told = answers-own c.args.self.now c.handle_next.new.self c.handle_next.result ticket answer c.handle_next.ensures.turns told

pub returns-clause-suspend : goal.returns-clause-suspend
returns-clause-suspend c content one hears t = turned-suspend c.args.self.now c.handle_next.new.self c.handle_next.result content c.handle_next.ensures.turns one hears t

pub returns-clause-resume : goal.returns-clause-resume
returns-clause-resume c content one hears t = turned-resume c.args.self.now c.handle_next.new.self c.handle_next.result content c.handle_next.ensures.turns one hears t

pub returns-clause-suspend_count : goal.returns-clause-suspend_count
returns-clause-suspend_count c t n one hears = turned-count c.args.self.now c.handle_next.new.self c.handle_next.result t n c.handle_next.ensures.turns one hears

pub returns-clause-event_thread : goal.returns-clause-event_thread
returns-clause-event_thread c event t one told some thread = turned-event-thread c.args.self.now c.handle_next.new.self c.handle_next.result event t c.handle_next.ensures.turns one told some thread

pub returns-clause-event_all : goal.returns-clause-event_all
returns-clause-event_all c event t one told all other = turned-event-all c.args.self.now c.handle_next.new.self c.handle_next.result event t c.handle_next.ensures.turns one told all other

pub returns-clause-set : goal.returns-clause-set
returns-clause-set c kind policy modifiers id hears = turned-set c.args.self.now c.handle_next.new.self c.handle_next.result kind policy modifiers id c.handle_next.ensures.turns hears

pub returns-clause-dispose : goal.returns-clause-dispose
returns-clause-dispose c content hears = turned-dispose c.args.self.now c.handle_next.new.self c.handle_next.result content c.handle_next.ensures.turns hears

pub returns-clause-vm_death : goal.returns-clause-vm_death
returns-clause-vm_death c event told death = turned-death c.args.self.now c.handle_next.new.self c.handle_next.result event c.handle_next.ensures.turns told death

pub returns-clause-refused : goal.returns-clause-refused
returns-clause-refused c fault is some = turned-refused c.args.self.now c.handle_next.new.self fault (subst (λ (r : Result Read DebuggerFault). TurnsAt (front_of c.args.self.now.end) c.args.self.now r c.handle_next.new.self) is c.handle_next.ensures.turns) some
