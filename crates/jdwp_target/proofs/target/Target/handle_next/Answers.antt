use Rattle.std.proofs.lemmas.Grind.{common_steps}
use Rattle.std.proofs.Common.{◌≡◌, length, rules, refl, false, arith}
use Rattle.jdwp_wire.specs.Streams.{Handshake, Whole}
use Rattle.jdwp_end.specs.Ends.{front_of}
use Rattle.jdwp_target.specs.Insides.{target_of}
use Rattle.jdwp_target.proofs.AnswersEncoded.{encodes-start, encodes-whole}
use Rattle.jdwp_target.proofs.RightTurns.{greeted, handled-view, hello-stays, right-handled, sends-whole, turns-whole}
use Rattle.jdwp_target.proofs.Shrinking.{shrinks-if}
use Rattle.jdwp_target.proofs.target.Target.handle_next.Goals as goal

pub invariant_of-self : goal.invariant_of-self
invariant_of-self g c =
    let t = c.self.inside in
    let front : front_of t.end ≡ Whole Handshake 14 = search rules in
    let h = greeted g.M.Machine.meaning t.debuggee _ t.end _ _ (c.take_off.ensures Handshake front) c.greet.ensures.debuggee c.greet.ensures.end c.self.invariant.limits c.greet.ensures.packets in
    right-handled g.M.Machine.meaning t.debuggee _ t.deferral t.deferral t.began.items t.phases.items (length t.steps.items) t.end _ Handshake 14 c.self.invariant c.front.ensures.bytes front refl (hello-stays g.M.Machine.meaning t.debuggee t.deferral) h

pub returns-in-Handshake-clause-turns : goal.returns-in-Handshake-clause-turns
returns-in-Handshake-clause-turns g c =
    let t = c.self.inside in
    let front : front_of t.end ≡ Whole Handshake 14 = search rules in
    let h = greeted g.M.Machine.meaning t.debuggee _ t.end _ _ (c.take_off.ensures Handshake front) c.greet.ensures.debuggee c.greet.ensures.end c.self.invariant.limits c.greet.ensures.packets in
    rw (← c.self.view_is)
    (turns-whole g.M.Machine.meaning (target_of t.debuggee t.deferral t.began.items t.phases.items (length t.steps.items) t.end) _ Handshake 14 _ false front refl refl
    (handled-view g.M.Machine.meaning t.debuggee _ t.deferral t.deferral t.began.items t.phases.items (length t.steps.items) t.end _ Handshake 14 c.self.invariant refl (hello-stays g.M.Machine.meaning t.debuggee t.deferral) h))

pub returns-in-Handshake-clause-encoded : goal.returns-in-Handshake-clause-encoded
returns-in-Handshake-clause-encoded g c =
    let t = c.self.inside in
    let front : front_of t.end ≡ Whole Handshake 14 = search rules in
    let old = target_of t.debuggee t.deferral t.began.items t.phases.items (length t.steps.items) t.end in
    rw (← c.self.view_is) (encodes-whole g.M.Machine.meaning old Handshake 14 front refl (encodes-start g.M.Machine.meaning old t.debuggee.moment.state.handshaken c.greet.ensures.encoded))

pub returns-in-Handshake-clause-packets : goal.returns-in-Handshake-clause-packets
returns-in-Handshake-clause-packets g c =
    let t = c.self.inside in
    let front : front_of t.end ≡ Whole Handshake 14 = search rules in
    let h = greeted g.M.Machine.meaning t.debuggee _ t.end _ _ (c.take_off.ensures Handshake front) c.greet.ensures.debuggee c.greet.ensures.end c.self.invariant.limits c.greet.ensures.packets in
    rw (← c.self.view_is) (sends-whole g.M.Machine.meaning (target_of t.debuggee t.deferral t.began.items t.phases.items (length t.steps.items) t.end) Handshake 14 front refl h.sends)

pub greet-requires : goal.greet-requires
greet-requires c = grind (arith, common_steps)

pub returns-in-Fault-clause-turns : goal.returns-in-Fault-clause-turns
returns-in-Fault-clause-turns g c = search rules

pub take_packet-requires-clause-packet : goal.take_packet-requires-clause-packet
take_packet-requires-clause-packet g c = rw (← c.self.view_is) c.in-Packet.ensures.front

pub take_packet-requires-clause-bytes : goal.take_packet-requires-clause-bytes
take_packet-requires-clause-bytes g c = rw (← c.self.view_is) c.front.ensures.bytes

pub take_packet-requires-clause-least : goal.take_packet-requires-clause-least
take_packet-requires-clause-least g c = rw (← c.self.view_is) c.front.ensures.least

pub take_packet-requires-clause-most : goal.take_packet-requires-clause-most
take_packet-requires-clause-most g c = rw (← c.self.view_is) c.front.ensures.most

pub returns-in-Packet-clause-shrinks : goal.returns-in-Packet-clause-shrinks
returns-in-Packet-clause-shrinks g c =
    shrinks-if g.M.Machine.meaning c.args.self.now c.take_packet.new.self c.take_packet.result (rw (← c.self.view_is) c.front.ensures.bytes) c.take_packet.ensures.turns

pub returns-in-Handshake-clause-shrinks : goal.returns-in-Handshake-clause-shrinks
returns-in-Handshake-clause-shrinks g c =
    shrinks-if g.M.Machine.meaning c.args.self.now _ _ (rw (← c.self.view_is) c.front.ensures.bytes) (returns-in-Handshake-clause-turns g c)
