use Rattle.std.proofs.Common.{◌≡◌, length, refl, false}
use Rattle.jdwp_wire.specs.Bytes.{IsBytes}
use Rattle.jdwp_wire.specs.Streams.{Packet, Whole}
use Rattle.jdwp_wire.specs.declared.packet.PacketKind.TheVariants as kind
use Rattle.jdwp_end.specs.Ends.{HasPacketWith, front_of}
use Rattle.jdwp_target.specs.Deeds.{defers}
use Rattle.jdwp_target.specs.Insides.{target_of}
use Rattle.jdwp_target.specs.Targets.{full_standing}
use Rattle.jdwp_target.proofs.AnswersEncoded.{encodes-ignored, encodes-whole}
use Rattle.jdwp_target.proofs.DeferredTurns.{never-deferred, told-ignored}
use Rattle.jdwp_target.proofs.RightTurns.{handled-view, packet-handshaken, reply-handled, reply-stays, right-handled, sends-whole, taken-off, turns-whole}
use Rattle.jdwp_target.proofs.target.Target.ignore.Goals as goal

pub take_off-requires : goal.take_off-requires
take_off-requires g c =
    let m = g.M.Machine.meaning in
    let t = c.self.inside in
    let old = target_of t.debuggee t.deferral t.began.items t.phases.items (length t.steps.items) t.end in
    let fits : IsBytes t.end.incoming = rw (← c.self.view_is) at c.requires.bytes in
    let packet : HasPacketWith c.args.header c.args.used t.end = rw (← c.self.view_is) at c.requires.packet in
    let header = c.args.header in
    let body = packet.0 in
    let used = c.args.used in
    let front : front_of t.end ≡ Whole (Packet header body) used = packet.1 in
    let error = c.requires.reply.0 in
    let is : header.kind ≡ kind.Reply error = c.requires.reply.1 in
    let at_once : defers (full_standing old) (Packet header body) ≡ false = never-deferred old header body used error fits front is in
    (Packet header body, front)

pub invariant_of-self : goal.invariant_of-self
invariant_of-self g c =
    let m = g.M.Machine.meaning in
    let t = c.self.inside in
    let old = target_of t.debuggee t.deferral t.began.items t.phases.items (length t.steps.items) t.end in
    let fits : IsBytes t.end.incoming = rw (← c.self.view_is) at c.requires.bytes in
    let packet : HasPacketWith c.args.header c.args.used t.end = rw (← c.self.view_is) at c.requires.packet in
    let header = c.args.header in
    let body = packet.0 in
    let used = c.args.used in
    let front : front_of t.end ≡ Whole (Packet header body) used = packet.1 in
    let error = c.requires.reply.0 in
    let is : header.kind ≡ kind.Reply error = c.requires.reply.1 in
    let at_once : defers (full_standing old) (Packet header body) ≡ false = never-deferred old header body used error fits front is in
    let shaken = packet-handshaken m t.debuggee t.deferral t.began.items t.phases.items (length t.steps.items) t.end header body used c.self.invariant fits front in
    let h = reply-handled m t.debuggee t.debuggee header body used error t.end _ is shaken refl (taken-off t.end t.end _ (Packet header body) used refl front c.take_off.ensures) in
    right-handled m t.debuggee _ t.deferral t.deferral t.began.items t.phases.items (length t.steps.items) t.end _ (Packet header body) used c.self.invariant fits front at_once (reply-stays m t.debuggee t.deferral header body error is) h

pub returns-clause-turns : goal.returns-clause-turns
returns-clause-turns g c =
    let m = g.M.Machine.meaning in
    let t = c.self.inside in
    let old = target_of t.debuggee t.deferral t.began.items t.phases.items (length t.steps.items) t.end in
    let fits : IsBytes t.end.incoming = rw (← c.self.view_is) at c.requires.bytes in
    let packet : HasPacketWith c.args.header c.args.used t.end = rw (← c.self.view_is) at c.requires.packet in
    let header = c.args.header in
    let body = packet.0 in
    let used = c.args.used in
    let front : front_of t.end ≡ Whole (Packet header body) used = packet.1 in
    let error = c.requires.reply.0 in
    let is : header.kind ≡ kind.Reply error = c.requires.reply.1 in
    let at_once : defers (full_standing old) (Packet header body) ≡ false = never-deferred old header body used error fits front is in
    let shaken = packet-handshaken m t.debuggee t.deferral t.began.items t.phases.items (length t.steps.items) t.end header body used c.self.invariant fits front in
    let h = reply-handled m t.debuggee t.debuggee header body used error t.end _ is shaken refl (taken-off t.end t.end _ (Packet header body) used refl front c.take_off.ensures) in
    rw (← c.self.view_is)
    (turns-whole m old _ (Packet header body) used _ false front at_once (told-ignored m old header body error is)
    (handled-view m t.debuggee _ t.deferral t.deferral t.began.items t.phases.items (length t.steps.items) t.end _ (Packet header body) used c.self.invariant at_once (reply-stays m t.debuggee t.deferral header body error is) h))

pub returns-clause-encoded : goal.returns-clause-encoded
returns-clause-encoded g c =
    let m = g.M.Machine.meaning in
    let t = c.self.inside in
    let old = target_of t.debuggee t.deferral t.began.items t.phases.items (length t.steps.items) t.end in
    let fits : IsBytes t.end.incoming = rw (← c.self.view_is) at c.requires.bytes in
    let packet : HasPacketWith c.args.header c.args.used t.end = rw (← c.self.view_is) at c.requires.packet in
    let header = c.args.header in
    let body = packet.0 in
    let used = c.args.used in
    let front : front_of t.end ≡ Whole (Packet header body) used = packet.1 in
    let error = c.requires.reply.0 in
    let is : header.kind ≡ kind.Reply error = c.requires.reply.1 in
    let at_once : defers (full_standing old) (Packet header body) ≡ false = never-deferred old header body used error fits front is in
    rw (← c.self.view_is) (encodes-whole m old (Packet header body) used front at_once (encodes-ignored m old header body error is))

pub returns-clause-packets : goal.returns-clause-packets
returns-clause-packets g c =
    let m = g.M.Machine.meaning in
    let t = c.self.inside in
    let old = target_of t.debuggee t.deferral t.began.items t.phases.items (length t.steps.items) t.end in
    let fits : IsBytes t.end.incoming = rw (← c.self.view_is) at c.requires.bytes in
    let packet : HasPacketWith c.args.header c.args.used t.end = rw (← c.self.view_is) at c.requires.packet in
    let header = c.args.header in
    let body = packet.0 in
    let used = c.args.used in
    let front : front_of t.end ≡ Whole (Packet header body) used = packet.1 in
    let error = c.requires.reply.0 in
    let is : header.kind ≡ kind.Reply error = c.requires.reply.1 in
    let at_once : defers (full_standing old) (Packet header body) ≡ false = never-deferred old header body used error fits front is in
    let shaken = packet-handshaken m t.debuggee t.deferral t.began.items t.phases.items (length t.steps.items) t.end header body used c.self.invariant fits front in
    let h = reply-handled m t.debuggee t.debuggee header body used error t.end _ is shaken refl (taken-off t.end t.end _ (Packet header body) used refl front c.take_off.ensures) in
    rw (← c.self.view_is) (sends-whole m old (Packet header body) used front at_once h.sends)
