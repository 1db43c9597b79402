use Rattle.std.proofs.Common.{◌≡◌, ◌∙◌, ◌≤◌, ap, sym, subst, length, rules}
use Rattle.jdwp_wire.specs.Streams.{NextMessage, Packet, Whole}
use Rattle.jdwp_end.specs.Ends.{front_of}
use Rattle.jdwp_debugger.specs.Debuggers.{Debugger}
use Rattle.jdwp_debugger.specs.DebuggerTurns.{TurnsAt}
use Rattle.jdwp_mirror.specs.Faults.{PARKED_MOST}
use Rattle.jdwp_debugger.proofs.TurningLemmas.{turn-few, turn-memory}
use Rattle.jdwp_debugger.proofs.debugger.Debugger.handle_next.Goals as goal

pub handle_packet-requires-clause-front : goal.handle_packet-requires-clause-front
handle_packet-requires-clause-front c =
    let f = c.in-Packet.ensures.front in
    (f.0, sym (ap (λ (d : Debugger). front_of d.end) c.self.view_is) ∙ f.1)

pub returns-in-Packet : goal.returns-in-Packet
returns-in-Packet c =
    let old = c.args.self.now in
    let new = c.handle_packet.new.self in
    let result = c.handle_packet.result in
    let used = c.in-Packet.used in
    let f = c.in-Packet.ensures.front in
    let front : front_of old.end ≡ Whole (Packet c.in-Packet.header f.0) used = sym (ap (λ (d : Debugger). front_of d.end) c.self.view_is) ∙ f.1 in
    let turns : TurnsAt (front_of old.end) old result new = subst (λ (x : NextMessage). TurnsAt x old result new) (sym front) (c.handle_packet.ensures f.0 front) in
    let few_parked : length old.parked ≤ PARKED_MOST = subst (λ (d : Debugger). length d.parked ≤ PARKED_MOST) c.self.view_is c.self.invariant.few_parked in
    record { turns = turns; few = turn-few (front_of old.end) old new result few_parked turns; memory = turn-memory (front_of old.end) old new result turns }

pub returns-in-Fault-clause-turns : goal.returns-in-Fault-clause-turns
returns-in-Fault-clause-turns c = search rules
