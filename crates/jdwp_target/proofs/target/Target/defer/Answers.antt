use Rattle.std.proofs.Common.{◌≡◌, ◌∙◌, ◌++◌, ◌∷◌, [], length, rules, true, refl, ap}
use Rattle.jdwp_wire.specs.Bytes.{IsBytes}
use Rattle.jdwp_wire.specs.Streams.{Message, Packet, Whole}
use Rattle.jdwp_end.specs.Ends.{End, front_of}
use Rattle.jdwp_target.specs.Deeds.{defers}
use Rattle.jdwp_target.specs.Insides.{target_of}
use Rattle.jdwp_target.specs.Targets.{full_standing}
use Rattle.jdwp_target.specs.TurnParts.{HasDeferred, IsCopied}
use Rattle.jdwp_target.specs.declared.deferral.DeferredCommand.{DeferredCommand}
use Rattle.jdwp_target.proofs.DeferredTurns.{put-off-came, put-off-view, right-put-off, room-left}
use Rattle.jdwp_target.proofs.RightTurns.{needs-to-defer, taken-off, turns-wanting, turns-whole}
use Rattle.jdwp_target.proofs.target.Target.defer.Goals as goal

pub copy_front-requires : goal.copy_front-requires
copy_front-requires g c =
    let m = g.M.Machine.meaning in
    let t = c.self.inside in
    let old = target_of t.debuggee t.deferral t.began.items t.phases.items (length t.steps.items) t.end in
    let packet : HasDeferred c.args.header c.args.used old = rw (← c.self.view_is) at c.requires.deferred in
    let header = c.args.header in
    let body = packet.0 in
    let used = c.args.used in
    let front : front_of t.end ≡ Whole (Packet header body) used = packet.1 in
    let deferred : defers (full_standing old) (Packet header body) ≡ true = packet.2 in
    (header, body, front)

pub take_off-requires : goal.take_off-requires
take_off-requires g c =
    let m = g.M.Machine.meaning in
    let t = c.self.inside in
    let old = target_of t.debuggee t.deferral t.began.items t.phases.items (length t.steps.items) t.end in
    let packet : HasDeferred c.args.header c.args.used old = rw (← c.self.view_is) at c.requires.deferred in
    let header = c.args.header in
    let body = packet.0 in
    let used = c.args.used in
    let front : front_of t.end ≡ Whole (Packet header body) used = packet.1 in
    let deferred : defers (full_standing old) (Packet header body) ≡ true = packet.2 in
    (Packet header body, ap (λ (e : End). front_of e) c.copy_front.ensures.same ∙ front)

pub push-requires : goal.push-requires
push-requires g c =
    let m = g.M.Machine.meaning in
    let t = c.self.inside in
    let old = target_of t.debuggee t.deferral t.began.items t.phases.items (length t.steps.items) t.end in
    let packet : HasDeferred c.args.header c.args.used old = rw (← c.self.view_is) at c.requires.deferred in
    let header = c.args.header in
    let body = packet.0 in
    let used = c.args.used in
    let front : front_of t.end ≡ Whole (Packet header body) used = packet.1 in
    let deferred : defers (full_standing old) (Packet header body) ≡ true = packet.2 in
    room-left (full_standing old) header.kind deferred

pub invariant_of-self-2 : goal.invariant_of-self-2
invariant_of-self-2 g c =
    let m = g.M.Machine.meaning in
    let t = c.self.inside in
    let old = target_of t.debuggee t.deferral t.began.items t.phases.items (length t.steps.items) t.end in
    let packet : HasDeferred c.args.header c.args.used old = rw (← c.self.view_is) at c.requires.deferred in
    let header = c.args.header in
    let body = packet.0 in
    let used = c.args.used in
    let front : front_of t.end ≡ Whole (Packet header body) used = packet.1 in
    let deferred : defers (full_standing old) (Packet header body) ≡ true = packet.2 in
    let fits : IsBytes t.end.incoming = rw (← c.self.view_is) at c.requires.bytes in
    let off = taken-off t.end c.copy_front.new.end _ (Packet header body) used c.copy_front.ensures.same front c.take_off.ensures in
    let command : DeferredCommand = record { id = header.id; set = c.args.set; number = c.args.number; body = c.in_ok-body.body } in
    let copied : IsCopied header body command = (c.requires.command, refl, c.in_ok-body.ensures.copy header body front) in
    let message = put-off-came t.end header body used command fits front copied in
    let left = c.push.ensures ∙ ap (λ (x : Message). record t.deferral { commands = t.deferral.commands ++ x ∷ [] }) message in
    right-put-off m t.debuggee t.deferral _ t.began.items t.phases.items (length t.steps.items) t.end _ header body used c.self.invariant fits front deferred left off

pub returns : goal.returns
returns g c =
    let m = g.M.Machine.meaning in
    let t = c.self.inside in
    let old = target_of t.debuggee t.deferral t.began.items t.phases.items (length t.steps.items) t.end in
    let packet : HasDeferred c.args.header c.args.used old = rw (← c.self.view_is) at c.requires.deferred in
    let header = c.args.header in
    let body = packet.0 in
    let used = c.args.used in
    let front : front_of t.end ≡ Whole (Packet header body) used = packet.1 in
    let deferred : defers (full_standing old) (Packet header body) ≡ true = packet.2 in
    let fits : IsBytes t.end.incoming = rw (← c.self.view_is) at c.requires.bytes in
    let off = taken-off t.end c.copy_front.new.end _ (Packet header body) used c.copy_front.ensures.same front c.take_off.ensures in
    let command : DeferredCommand = record { id = header.id; set = c.args.set; number = c.args.number; body = c.in_ok-body.body } in
    let copied : IsCopied header body command = (c.requires.command, refl, c.in_ok-body.ensures.copy header body front) in
    let message = put-off-came t.end header body used command fits front copied in
    let left = c.push.ensures ∙ ap (λ (x : Message). record t.deferral { commands = t.deferral.commands ++ x ∷ [] }) message in
    rw (← c.self.view_is)
    (turns-whole m old _ (Packet header body) used _ true front deferred refl
    (put-off-view m t.debuggee t.deferral _ t.began.items t.phases.items (length t.steps.items) t.end _ header body used fits front deferred left off))

pub returns-in_err-body : goal.returns-in_err-body
returns-in_err-body g c =
    let m = g.M.Machine.meaning in
    let t = c.self.inside in
    let old = target_of t.debuggee t.deferral t.began.items t.phases.items (length t.steps.items) t.end in
    let packet : HasDeferred c.args.header c.args.used old = rw (← c.self.view_is) at c.requires.deferred in
    let header = c.args.header in
    let body = packet.0 in
    let used = c.args.used in
    let front : front_of t.end ≡ Whole (Packet header body) used = packet.1 in
    let deferred : defers (full_standing old) (Packet header body) ≡ true = packet.2 in
    rw (← c.self.view_is) (turns-wanting m old _ (Packet header body) used _ front (search rules) (needs-to-defer m old (Packet header body) deferred (c.in_err-body.ensures.memory header body front)) (search rules))
