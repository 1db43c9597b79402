use Rattle.std.proofs.Common.{◌≡◌, ◌≤◌, ◌+◌, ◌∙◌, length, rules, refl, subst, false, arith, ap}
use Rattle.jdwp_wire.specs.Bytes.{IsBytes}
use Rattle.jdwp_wire.specs.Limits.{Limits, least_packet_limit, most_packet_limit}
use Rattle.jdwp_wire.specs.Streams.{Packet, Whole}
use Rattle.jdwp_end.specs.Ends.{End, front_of}
use Rattle.jdwp_debuggee.specs.Sending.{sent_bytes}
use Rattle.jdwp_target.specs.Deeds.{defers}
use Rattle.jdwp_target.specs.Insides.{target_of}
use Rattle.jdwp_target.specs.Targets.{full_standing}
use Rattle.jdwp_target.specs.TurnParts.{HasAtOnce, IsAnswered, IsCarriedOut}
use Rattle.jdwp_target.proofs.AnswersEncoded.{encodes-command, encodes-whole}
use Rattle.jdwp_target.proofs.DeferredTurns.{needs-as-read}
use Rattle.jdwp_target.proofs.RightTurns.{command-room, command-taken, front-room, handled-view, left-deferred, packet-handshaken, right-handled, sends-whole, taken-off, told-command, turns-wanting, turns-whole}
use Rattle.jdwp_target.proofs.target.Target.answer.Goals as goal

pub handle_front-requires-clause-packet : goal.handle_front-requires-clause-packet
handle_front-requires-clause-packet g c =
    let m = g.M.Machine.meaning in
    let t = c.self.inside in
    let old = target_of t.debuggee t.deferral t.began.items t.phases.items (length t.steps.items) t.end in
    let fits : IsBytes t.end.incoming = rw (← c.self.view_is) at c.requires.bytes in
    let packet : HasAtOnce c.args.header c.args.used old = rw (← c.self.view_is) at c.requires.packet in
    let header = c.args.header in
    let body = packet.0 in
    let used = c.args.used in
    let front : front_of t.end ≡ Whole (Packet header body) used = packet.1 in
    let at_once : defers (full_standing old) (Packet header body) ≡ false = packet.2 in
    let w = c.sizes-sizes.result in
    (header, body, front)

pub handle_front-requires-clause-shaken : goal.handle_front-requires-clause-shaken
handle_front-requires-clause-shaken g c =
    let m = g.M.Machine.meaning in
    let t = c.self.inside in
    let old = target_of t.debuggee t.deferral t.began.items t.phases.items (length t.steps.items) t.end in
    let fits : IsBytes t.end.incoming = rw (← c.self.view_is) at c.requires.bytes in
    let packet : HasAtOnce c.args.header c.args.used old = rw (← c.self.view_is) at c.requires.packet in
    let header = c.args.header in
    let body = packet.0 in
    let used = c.args.used in
    let front : front_of t.end ≡ Whole (Packet header body) used = packet.1 in
    let at_once : defers (full_standing old) (Packet header body) ≡ false = packet.2 in
    let w = c.sizes-sizes.result in
    let shaken = packet-handshaken m t.debuggee t.deferral t.began.items t.phases.items (length t.steps.items) t.end header body used c.self.invariant fits front in
    shaken

pub reply-requires-clause-short : goal.reply-requires-clause-short
reply-requires-clause-short g c =
    let m = g.M.Machine.meaning in
    let t = c.self.inside in
    let old = target_of t.debuggee t.deferral t.began.items t.phases.items (length t.steps.items) t.end in
    let fits : IsBytes t.end.incoming = rw (← c.self.view_is) at c.requires.bytes in
    let packet : HasAtOnce c.args.header c.args.used old = rw (← c.self.view_is) at c.requires.packet in
    let header = c.args.header in
    let body = packet.0 in
    let used = c.args.used in
    let front : front_of t.end ≡ Whole (Packet header body) used = packet.1 in
    let at_once : defers (full_standing old) (Packet header body) ≡ false = packet.2 in
    let w = c.sizes-sizes.result in
    let off = taken-off t.end c.handle_front.new.end _ (Packet header body) used c.handle_front.ensures.same front c.take_off.ensures in
    let least : least_packet_limit ≤ t.end.limits.packet = rw (← c.self.view_is) at c.requires.least in
    let room = front-room t.end (Packet header body) used front in
    rw off (omega (arith, room, least))

pub reply-requires-clause-room : goal.reply-requires-clause-room
reply-requires-clause-room g c =
    let m = g.M.Machine.meaning in
    let t = c.self.inside in
    let old = target_of t.debuggee t.deferral t.began.items t.phases.items (length t.steps.items) t.end in
    let fits : IsBytes t.end.incoming = rw (← c.self.view_is) at c.requires.bytes in
    let packet : HasAtOnce c.args.header c.args.used old = rw (← c.self.view_is) at c.requires.packet in
    let header = c.args.header in
    let body = packet.0 in
    let used = c.args.used in
    let front : front_of t.end ≡ Whole (Packet header body) used = packet.1 in
    let at_once : defers (full_standing old) (Packet header body) ≡ false = packet.2 in
    let w = c.sizes-sizes.result in
    let done = c.in_ok-done.done in
    let did : IsCarriedOut m t.debuggee c.handle_front.new.debuggee c.args.set c.args.number body done = c.in_ok-done.ensures.ok header body front in
    let read : IsAnswered m t.debuggee c.handle_front.new.debuggee header.id header.kind body header.id done = (c.args.set, c.args.number, c.requires.command, refl, did) in
    let off = taken-off t.end c.handle_front.new.end _ (Packet header body) used c.handle_front.ensures.same front c.take_off.ensures in
    let least : least_packet_limit ≤ t.end.limits.packet = rw (← c.self.view_is) at c.requires.least in
    let room = front-room t.end (Packet header body) used front in
    rw off (command-room m t.debuggee c.handle_front.new.debuggee header body t.end done w header.id read c.sizes-sizes.ensures c.self.invariant.limits least room)

pub reply-requires-clause-small : goal.reply-requires-clause-small
reply-requires-clause-small g c =
    let m = g.M.Machine.meaning in
    let t = c.self.inside in
    let old = target_of t.debuggee t.deferral t.began.items t.phases.items (length t.steps.items) t.end in
    let packet : HasAtOnce c.args.header c.args.used old = rw (← c.self.view_is) at c.requires.packet in
    let header = c.args.header in
    let body = packet.0 in
    let used = c.args.used in
    let front : front_of t.end ≡ Whole (Packet header body) used = packet.1 in
    let done = c.in_ok-done.done in
    let did : IsCarriedOut m t.debuggee c.handle_front.new.debuggee c.args.set c.args.number body done = c.in_ok-done.ensures.ok header body front in
    let least : least_packet_limit ≤ t.end.limits.packet = rw (← c.self.view_is) at c.requires.least in
    let most : t.end.limits.packet ≤ most_packet_limit = rw (← c.self.view_is) at c.requires.most in
    let w = c.sizes-sizes.result in
    let fits : 11 + length (sent_bytes w done.sent) ≤ t.end.limits.packet =
    rw (c.sizes-sizes.ensures, c.self.invariant.limits) (did.becomes.fits (subst (λ (x : Limits). least_packet_limit ≤ x.packet) c.self.invariant.limits least)) in
    omega (arith, fits, most)

pub reply-requires-clause-bare : goal.reply-requires-clause-bare
reply-requires-clause-bare g c =
    let m = g.M.Machine.meaning in
    let t = c.self.inside in
    let old = target_of t.debuggee t.deferral t.began.items t.phases.items (length t.steps.items) t.end in
    let packet : HasAtOnce c.args.header c.args.used old = rw (← c.self.view_is) at c.requires.packet in
    let header = c.args.header in
    let body = packet.0 in
    let used = c.args.used in
    let front : front_of t.end ≡ Whole (Packet header body) used = packet.1 in
    let done = c.in_ok-done.done in
    let did : IsCarriedOut m t.debuggee c.handle_front.new.debuggee c.args.set c.args.number body done = c.in_ok-done.ensures.ok header body front in
    rw c.sizes-sizes.ensures did.becomes.bare

pub take_off-requires : goal.take_off-requires
take_off-requires g c =
    let m = g.M.Machine.meaning in
    let t = c.self.inside in
    let old = target_of t.debuggee t.deferral t.began.items t.phases.items (length t.steps.items) t.end in
    let fits : IsBytes t.end.incoming = rw (← c.self.view_is) at c.requires.bytes in
    let packet : HasAtOnce c.args.header c.args.used old = rw (← c.self.view_is) at c.requires.packet in
    let header = c.args.header in
    let body = packet.0 in
    let used = c.args.used in
    let front : front_of t.end ≡ Whole (Packet header body) used = packet.1 in
    let at_once : defers (full_standing old) (Packet header body) ≡ false = packet.2 in
    let w = c.sizes-sizes.result in
    (Packet header body, ap (λ (e : End). front_of e) c.handle_front.ensures.same ∙ front)

pub invariant_of-self : goal.invariant_of-self
invariant_of-self g c =
    let m = g.M.Machine.meaning in
    let t = c.self.inside in
    let old = target_of t.debuggee t.deferral t.began.items t.phases.items (length t.steps.items) t.end in
    let fits : IsBytes t.end.incoming = rw (← c.self.view_is) at c.requires.bytes in
    let packet : HasAtOnce c.args.header c.args.used old = rw (← c.self.view_is) at c.requires.packet in
    let header = c.args.header in
    let body = packet.0 in
    let used = c.args.used in
    let front : front_of t.end ≡ Whole (Packet header body) used = packet.1 in
    let at_once : defers (full_standing old) (Packet header body) ≡ false = packet.2 in
    let w = c.sizes-sizes.result in
    rw (c.in_err-done.ensures.err, c.handle_front.ensures.same) c.self.invariant

pub invariant_of-self-2 : goal.invariant_of-self-2
invariant_of-self-2 g c =
    let m = g.M.Machine.meaning in
    let t = c.self.inside in
    let old = target_of t.debuggee t.deferral t.began.items t.phases.items (length t.steps.items) t.end in
    let fits : IsBytes t.end.incoming = rw (← c.self.view_is) at c.requires.bytes in
    let packet : HasAtOnce c.args.header c.args.used old = rw (← c.self.view_is) at c.requires.packet in
    let header = c.args.header in
    let body = packet.0 in
    let used = c.args.used in
    let front : front_of t.end ≡ Whole (Packet header body) used = packet.1 in
    let at_once : defers (full_standing old) (Packet header body) ≡ false = packet.2 in
    let w = c.sizes-sizes.result in
    let shaken = packet-handshaken m t.debuggee t.deferral t.began.items t.phases.items (length t.steps.items) t.end header body used c.self.invariant fits front in
    let done = c.in_ok-done.done in
    let did : IsCarriedOut m t.debuggee c.handle_front.new.debuggee c.args.set c.args.number body done = c.in_ok-done.ensures.ok header body front in
    let read : IsAnswered m t.debuggee c.handle_front.new.debuggee header.id header.kind body header.id done = (c.args.set, c.args.number, c.requires.command, refl, did) in
    let off = taken-off t.end c.handle_front.new.end _ (Packet header body) used c.handle_front.ensures.same front c.take_off.ensures in
    let least : least_packet_limit ≤ t.end.limits.packet = rw (← c.self.view_is) at c.requires.least in
    let h =
    command-taken m t.debuggee c.handle_front.new.debuggee c.reply.new.debuggee header body used t.end c.take_off.new.self c.reply.new.end done w header.id read c.sizes-sizes.ensures
    shaken c.reply.ensures.debuggee off c.reply.ensures.end c.self.invariant.limits least c.fits_reply.ensures in
    let left = left-deferred m (Packet header body) t.debuggee c.reply.new.debuggee t.deferral c.keep_where.new.self _ c.reply.new.end c.is_established.result h c.is_established.ensures c.keep_where.ensures in
    right-handled m t.debuggee _ t.deferral _ t.began.items t.phases.items (length t.steps.items) t.end _ (Packet header body) used c.self.invariant fits front at_once left h

pub returns-clause-turns : goal.returns-clause-turns
returns-clause-turns g c =
    let m = g.M.Machine.meaning in
    let t = c.self.inside in
    let old = target_of t.debuggee t.deferral t.began.items t.phases.items (length t.steps.items) t.end in
    let fits : IsBytes t.end.incoming = rw (← c.self.view_is) at c.requires.bytes in
    let packet : HasAtOnce c.args.header c.args.used old = rw (← c.self.view_is) at c.requires.packet in
    let header = c.args.header in
    let body = packet.0 in
    let used = c.args.used in
    let front : front_of t.end ≡ Whole (Packet header body) used = packet.1 in
    let at_once : defers (full_standing old) (Packet header body) ≡ false = packet.2 in
    let w = c.sizes-sizes.result in
    let shaken = packet-handshaken m t.debuggee t.deferral t.began.items t.phases.items (length t.steps.items) t.end header body used c.self.invariant fits front in
    let done = c.in_ok-done.done in
    let did : IsCarriedOut m t.debuggee c.handle_front.new.debuggee c.args.set c.args.number body done = c.in_ok-done.ensures.ok header body front in
    let read : IsAnswered m t.debuggee c.handle_front.new.debuggee header.id header.kind body header.id done = (c.args.set, c.args.number, c.requires.command, refl, did) in
    let off = taken-off t.end c.handle_front.new.end _ (Packet header body) used c.handle_front.ensures.same front c.take_off.ensures in
    let least : least_packet_limit ≤ t.end.limits.packet = rw (← c.self.view_is) at c.requires.least in
    let h =
    command-taken m t.debuggee c.handle_front.new.debuggee c.reply.new.debuggee header body used t.end c.take_off.new.self c.reply.new.end done w header.id read c.sizes-sizes.ensures
    shaken c.reply.ensures.debuggee off c.reply.ensures.end c.self.invariant.limits least c.fits_reply.ensures in
    let left = left-deferred m (Packet header body) t.debuggee c.reply.new.debuggee t.deferral c.keep_where.new.self _ c.reply.new.end c.is_established.result h c.is_established.ensures c.keep_where.ensures in
    let tells = told-command m old header body header.id c.args.set c.args.number c.error_of.result c.requires.command refl (c.error_of.ensures ∙ did.becomes.sends.error) in
    rw (← c.self.view_is)
    (turns-whole m old _ (Packet header body) used _ false front at_once tells
    (handled-view m t.debuggee c.reply.new.debuggee t.deferral c.keep_where.new.self t.began.items t.phases.items (length t.steps.items) t.end c.reply.new.end (Packet header body) used c.self.invariant at_once left h))

pub returns-clause-encoded : goal.returns-clause-encoded
returns-clause-encoded g c =
    let m = g.M.Machine.meaning in
    let t = c.self.inside in
    let old = target_of t.debuggee t.deferral t.began.items t.phases.items (length t.steps.items) t.end in
    let fits : IsBytes t.end.incoming = rw (← c.self.view_is) at c.requires.bytes in
    let packet : HasAtOnce c.args.header c.args.used old = rw (← c.self.view_is) at c.requires.packet in
    let header = c.args.header in
    let body = packet.0 in
    let used = c.args.used in
    let front : front_of t.end ≡ Whole (Packet header body) used = packet.1 in
    let at_once : defers (full_standing old) (Packet header body) ≡ false = packet.2 in
    let w = c.sizes-sizes.result in
    let done = c.in_ok-done.done in
    let did : IsCarriedOut m t.debuggee c.handle_front.new.debuggee c.args.set c.args.number body done = c.in_ok-done.ensures.ok header body front in
    let read : IsAnswered m t.debuggee c.handle_front.new.debuggee header.id header.kind body header.id done = (c.args.set, c.args.number, c.requires.command, refl, did) in
    rw (← c.self.view_is) (encodes-whole m old (Packet header body) used front at_once (encodes-command m old header body c.args.set c.args.number c.requires.command did.encoded))

pub returns-clause-packets : goal.returns-clause-packets
returns-clause-packets g c =
    let m = g.M.Machine.meaning in
    let t = c.self.inside in
    let old = target_of t.debuggee t.deferral t.began.items t.phases.items (length t.steps.items) t.end in
    let fits : IsBytes t.end.incoming = rw (← c.self.view_is) at c.requires.bytes in
    let packet : HasAtOnce c.args.header c.args.used old = rw (← c.self.view_is) at c.requires.packet in
    let header = c.args.header in
    let body = packet.0 in
    let used = c.args.used in
    let front : front_of t.end ≡ Whole (Packet header body) used = packet.1 in
    let at_once : defers (full_standing old) (Packet header body) ≡ false = packet.2 in
    let w = c.sizes-sizes.result in
    let shaken = packet-handshaken m t.debuggee t.deferral t.began.items t.phases.items (length t.steps.items) t.end header body used c.self.invariant fits front in
    let done = c.in_ok-done.done in
    let did : IsCarriedOut m t.debuggee c.handle_front.new.debuggee c.args.set c.args.number body done = c.in_ok-done.ensures.ok header body front in
    let read : IsAnswered m t.debuggee c.handle_front.new.debuggee header.id header.kind body header.id done = (c.args.set, c.args.number, c.requires.command, refl, did) in
    let off = taken-off t.end c.handle_front.new.end _ (Packet header body) used c.handle_front.ensures.same front c.take_off.ensures in
    let least : least_packet_limit ≤ t.end.limits.packet = rw (← c.self.view_is) at c.requires.least in
    let h =
    command-taken m t.debuggee c.handle_front.new.debuggee c.reply.new.debuggee header body used t.end c.take_off.new.self c.reply.new.end done w header.id read c.sizes-sizes.ensures
    shaken c.reply.ensures.debuggee off c.reply.ensures.end c.self.invariant.limits least c.fits_reply.ensures in
    rw (← c.self.view_is) (sends-whole m old (Packet header body) used front at_once h.sends)

pub returns-in_err-done-clause-turns : goal.returns-in_err-done-clause-turns
returns-in_err-done-clause-turns g c =
    let m = g.M.Machine.meaning in
    let t = c.self.inside in
    let old = target_of t.debuggee t.deferral t.began.items t.phases.items (length t.steps.items) t.end in
    let fits : IsBytes t.end.incoming = rw (← c.self.view_is) at c.requires.bytes in
    let packet : HasAtOnce c.args.header c.args.used old = rw (← c.self.view_is) at c.requires.packet in
    let header = c.args.header in
    let body = packet.0 in
    let used = c.args.used in
    let front : front_of t.end ≡ Whole (Packet header body) used = packet.1 in
    let at_once : defers (full_standing old) (Packet header body) ≡ false = packet.2 in
    let w = c.sizes-sizes.result in
    let needs = needs-as-read m t.debuggee old header body c.args.set c.args.number at_once c.requires.command refl refl (rw c.sizes-sizes.ensures at (c.in_err-done.ensures.wants header body front)) in
    let same : target_of c.handle_front.new.debuggee t.deferral t.began.items t.phases.items (length t.steps.items) c.handle_front.new.end ≡ old = rw (c.in_err-done.ensures.err, c.handle_front.ensures.same) refl in
    rw (← c.self.view_is) (turns-wanting m old _ (Packet header body) used _ front (search rules) needs same)
