use Rattle.std.proofs.Common.{◌∙◌, List, ℕ, ap}
use Rattle.jdwp_wire.specs.Frames.{front}
use Rattle.jdwp_wire.specs.Handshake.{handshake_front}
use Rattle.jdwp_wire.specs.Limits.{standard_limits}
use Rattle.jdwp_draw.proofs.StreamLemmas.{rest_from, whole_hello, more_hello, faulty_hello, whole_packet, more_packet, faulty_packet}
use Rattle.jdwp_draw.proofs.streams.Stream.next_message.Goals as goal

pub returns-in-Whole : goal.returns-in-Whole
returns-in-Whole c =
    let s = c.args.self.now in
    let rest = rest_from c.deref.result.now s.bytes.items s.taken c.deref.ensures.value in
    rw c.if-not-self.true (whole_hello s.bytes.items s.taken (c.in-Whole.ensures.exact ∙ ap (λ (x : List ℕ). handshake_front x) rest))

pub returns-in-More : goal.returns-in-More
returns-in-More c =
    let s = c.args.self.now in
    let rest = rest_from c.deref.result.now s.bytes.items s.taken c.deref.ensures.value in
    rw c.if-not-self.true (more_hello _ (c.in-More.ensures.exact ∙ ap (λ (x : List ℕ). handshake_front x) rest))

pub returns-in-Fault : goal.returns-in-Fault
returns-in-Fault c =
    let s = c.args.self.now in
    let rest = rest_from c.deref.result.now s.bytes.items s.taken c.deref.ensures.value in
    rw c.if-not-self.true (faulty_hello _ _ (c.in-Fault.ensures.exact ∙ ap (λ (x : List ℕ). handshake_front x) rest))

pub returns-in_ok-packet-in-Whole-next_packet : goal.returns-in_ok-packet-in-Whole-next_packet
returns-in_ok-packet-in-Whole-next_packet c =
    let s = c.args.self.now in
    let rest = rest_from c.deref.result.now s.bytes.items s.taken c.deref.ensures.value in
    let found = whole_packet s.bytes.items s.taken c.in-Whole-next_packet.used _ _ (c.in-Whole-next_packet.ensures.exact ∙ ap (λ (x : List ℕ). front standard_limits.packet x) rest) in
    let copied = c.in_ok-packet-in-Whole-next_packet.ensures in
    rw (c.if-not-self.false, copied.header, copied.body) found

pub returns-in-More-next_packet : goal.returns-in-More-next_packet
returns-in-More-next_packet c =
    let s = c.args.self.now in
    let rest = rest_from c.deref.result.now s.bytes.items s.taken c.deref.ensures.value in
    rw c.if-not-self.false (more_packet _ (c.in-More-next_packet.ensures.exact ∙ ap (λ (x : List ℕ). front standard_limits.packet x) rest))

pub returns-in-Fault-next_packet : goal.returns-in-Fault-next_packet
returns-in-Fault-next_packet c =
    let s = c.args.self.now in
    let rest = rest_from c.deref.result.now s.bytes.items s.taken c.deref.ensures.value in
    rw c.if-not-self.false (faulty_packet _ _ (c.in-Fault-next_packet.ensures.exact ∙ ap (λ (x : List ℕ). front standard_limits.packet x) rest))
