use Rattle.std.proofs.Common.{◌≡◌, ◌<◌, ◌+◌, ◌∙◌, length, rules, refl, true, false, cond, [], arith, ap, None, Some}
use Rattle.jdwp_wire.specs.declared.packet.Header.{Header}
use Rattle.jdwp_wire.specs.declared.packet.PacketKind.TheVariants as kind
use Rattle.jdwp_end.specs.Ends.{is_established, is_paused}
use Rattle.jdwp_debuggee.specs.Deferring.{released_at}
use Rattle.jdwp_target.specs.Insides.{Deferral, message_of, target_of}
use Rattle.jdwp_target.specs.Turns.{deferred_at}
use Rattle.jdwp_target.proofs.AnswersEncoded.{encodes-command}
use Rattle.jdwp_target.proofs.DeferredTurns.{deferred-done, deferred-needs, deferred-read, encodes-released, flowing-room, in-session, no-session, nothing-encoded, nothing-released, nothing-sendable, past-the-last, paused-end, released-view, releases-one, releases-wanting, right-released, sends-released, there}
use Rattle.jdwp_target.proofs.RightTurns.{command-came, command-room, left-deferred, told-command}
use Rattle.jdwp_target.proofs.target.Target.release.Goals as goal
use Rattle.jdwp_target.proofs.target.Target.release.Goals.{then-not-is_established-via-then-not-is_established, then-not-is_established-via-else-not-is_established+then-is_paused, then-not-is_established-via-else-not-is_established+else-is_paused+then-place-len}

pub command-command-requires : goal.command-command-requires
command-command-requires g c =
    omega (arith, c.len.ensures.count)

pub handle_command-requires-clause-shaken : goal.handle_command-requires-clause-shaken
handle_command-requires-clause-shaken g c =
    let m = g.M.Machine.meaning in
    let t = c.self.inside in
    let place = c.args.place in
    let old = target_of t.debuggee t.deferral t.began.items t.phases.items (length t.steps.items) t.end in
    let session : is_established t.end ≡ true = search rules in
    let flows : is_paused t.end ≡ false = search rules in
    c.self.invariant.handshaken (in-session t.end session)

pub reply-requires-clause-short : goal.reply-requires-clause-short
reply-requires-clause-short g c =
    let m = g.M.Machine.meaning in
    let t = c.self.inside in
    let place = c.args.place in
    let old = target_of t.debuggee t.deferral t.began.items t.phases.items (length t.steps.items) t.end in
    let session : is_established t.end ≡ true = search rules in
    let flows : is_paused t.end ≡ false = search rules in
    let room = flowing-room t.end flows in
    omega (arith, room, c.is_paused.ensures.least)

pub reply-requires-clause-room : goal.reply-requires-clause-room
reply-requires-clause-room g c =
    let m = g.M.Machine.meaning in
    let t = c.self.inside in
    let place = c.args.place in
    let old = target_of t.debuggee t.deferral t.began.items t.phases.items (length t.steps.items) t.end in
    let session : is_established t.end ≡ true = search rules in
    let flows : is_paused t.end ≡ false = search rules in
    let command = c.command-command.result.now in
    let others = c.command-command.ensures.0 in
    let found : released_at place t.deferral.commands ≡ Some (message_of command, others) = c.command-command.ensures.1 in
    let at = there old place (message_of command) others session flows found in
    let w = c.sizes-sizes.result in
    let header : Header = record { length = 11 + length command.body.items; id = command.id; kind = kind.Command command.set command.number } in
    let body = command.body.items in
    let did = deferred-done m t.debuggee c.handle_command.new.debuggee command c.deref.result.now c.in_ok-done.done c.deref.ensures.value c.in_ok-done.ensures.ok in
    let read = deferred-read m t.debuggee c.handle_command.new.debuggee command c.in_ok-done.done did in
    command-room m t.debuggee c.handle_command.new.debuggee header body t.end c.in_ok-done.done w command.id read c.sizes-sizes.ensures c.self.invariant.limits c.is_paused.ensures.least (flowing-room t.end flows)

pub remove-requires : goal.remove-requires
remove-requires g c =
    omega (arith, c.len.ensures.count)

pub invariant_of-self-2 : goal.invariant_of-self-2
invariant_of-self-2 g c =
    let m = g.M.Machine.meaning in
    let t = c.self.inside in
    let place = c.args.place in
    let old = target_of t.debuggee t.deferral t.began.items t.phases.items (length t.steps.items) t.end in
    let session : is_established t.end ≡ true = search rules in
    let flows : is_paused t.end ≡ false = search rules in
    let command = c.command-command.result.now in
    let others = c.command-command.ensures.0 in
    let found : released_at place t.deferral.commands ≡ Some (message_of command, others) = c.command-command.ensures.1 in
    let at = there old place (message_of command) others session flows found in
    let w = c.sizes-sizes.result in
    let header : Header = record { length = 11 + length command.body.items; id = command.id; kind = kind.Command command.set command.number } in
    let body = command.body.items in
    let did = deferred-done m t.debuggee c.handle_command.new.debuggee command c.deref.result.now c.in_ok-done.done c.deref.ensures.value c.in_ok-done.ensures.ok in
    let read = deferred-read m t.debuggee c.handle_command.new.debuggee command c.in_ok-done.done did in
    let shaken = c.self.invariant.handshaken (in-session t.end session) in
    let h =
    command-came m t.debuggee c.handle_command.new.debuggee c.reply.new.debuggee header body t.end c.reply.new.end c.in_ok-done.done w command.id read (in-session t.end session) c.sizes-sizes.ensures
    shaken c.reply.ensures.debuggee c.reply.ensures.end c.self.invariant.limits c.is_paused.ensures.least c.fits_reply.ensures in
    let rest = record t.deferral { commands = others; released = t.deferral.released + 1 } in
    let kept = c.keep_where.ensures ∙ ap (λ (x : Deferral). record x { commands = cond c.is_established-2.result x.commands [] }) (c.remove.ensures (message_of command) others found) in
    let left = left-deferred m (message_of command) t.debuggee c.reply.new.debuggee rest c.keep_where.new.self t.end c.reply.new.end c.is_established-2.result h c.is_established-2.ensures kept in
    let less : place < length t.deferral.commands = omega (arith, c.len.ensures.count) in
    right-released m t.debuggee c.reply.new.debuggee t.deferral c.keep_where.new.self t.began.items t.phases.items (length t.steps.items) t.end c.reply.new.end place (message_of command) others c.self.invariant session less found left h

pub returns-clause-releases : goal.returns-clause-releases
returns-clause-releases g c =
    let m = g.M.Machine.meaning in
    let t = c.self.inside in
    let place = c.args.place in
    let old = target_of t.debuggee t.deferral t.began.items t.phases.items (length t.steps.items) t.end in
    let session : is_established t.end ≡ true = search rules in
    let flows : is_paused t.end ≡ false = search rules in
    let command = c.command-command.result.now in
    let others = c.command-command.ensures.0 in
    let found : released_at place t.deferral.commands ≡ Some (message_of command, others) = c.command-command.ensures.1 in
    let at = there old place (message_of command) others session flows found in
    let w = c.sizes-sizes.result in
    let header : Header = record { length = 11 + length command.body.items; id = command.id; kind = kind.Command command.set command.number } in
    let body = command.body.items in
    let did = deferred-done m t.debuggee c.handle_command.new.debuggee command c.deref.result.now c.in_ok-done.done c.deref.ensures.value c.in_ok-done.ensures.ok in
    let read = deferred-read m t.debuggee c.handle_command.new.debuggee command c.in_ok-done.done did in
    let shaken = c.self.invariant.handshaken (in-session t.end session) in
    let h =
    command-came m t.debuggee c.handle_command.new.debuggee c.reply.new.debuggee header body t.end c.reply.new.end c.in_ok-done.done w command.id read (in-session t.end session) c.sizes-sizes.ensures
    shaken c.reply.ensures.debuggee c.reply.ensures.end c.self.invariant.limits c.is_paused.ensures.least c.fits_reply.ensures in
    let rest = record t.deferral { commands = others; released = t.deferral.released + 1 } in
    let kept = c.keep_where.ensures ∙ ap (λ (x : Deferral). record x { commands = cond c.is_established-2.result x.commands [] }) (c.remove.ensures (message_of command) others found) in
    let left = left-deferred m (message_of command) t.debuggee c.reply.new.debuggee rest c.keep_where.new.self t.end c.reply.new.end c.is_established-2.result h c.is_established-2.ensures kept in
    let tells =
    told-command m old header body command.id command.set command.number c.error_of.result refl refl (c.error_of.ensures ∙ did.becomes.sends.error) in
    rw (← c.self.view_is)
    (releases-one m old _ place (message_of command) others _ at tells (released-view m t.debuggee c.reply.new.debuggee t.deferral c.keep_where.new.self t.began.items t.phases.items (length t.steps.items) t.end c.reply.new.end place (message_of command) others c.self.invariant found left h))

pub returns-then-not-is_established-clause-releases : goal.returns-then-not-is_established-clause-releases
returns-then-not-is_established-clause-releases g c =
    let m = g.M.Machine.meaning in
    let t = c.self.inside in
    let place = c.args.place in
    let old = target_of t.debuggee t.deferral t.began.items t.phases.items (length t.steps.items) t.end in
    let none : deferred_at place c.args.self.now ≡ None =
    elim c.then-not-is_established.branch [
      | then-not-is_established-via-then-not-is_established w ↦ rw (← c.self.view_is) (no-session old place (search rules))
      | then-not-is_established-via-else-not-is_established+then-is_paused w ↦ rw (← c.self.view_is) (paused-end old place (search rules))
      | then-not-is_established-via-else-not-is_established+else-is_paused+then-place-len w ↦ rw (← c.self.view_is) (past-the-last old place (omega (arith, w.len.ensures.count)))
    ] in
    nothing-released m c.args.self.now c.args.self.now place none refl

pub returns-then-not-is_established-clause-encoded : goal.returns-then-not-is_established-clause-encoded
returns-then-not-is_established-clause-encoded g c =
    let m = g.M.Machine.meaning in
    let t = c.self.inside in
    let place = c.args.place in
    let old = target_of t.debuggee t.deferral t.began.items t.phases.items (length t.steps.items) t.end in
    let none : deferred_at place c.args.self.now ≡ None =
    elim c.then-not-is_established.branch [
      | then-not-is_established-via-then-not-is_established w ↦ rw (← c.self.view_is) (no-session old place (search rules))
      | then-not-is_established-via-else-not-is_established+then-is_paused w ↦ rw (← c.self.view_is) (paused-end old place (search rules))
      | then-not-is_established-via-else-not-is_established+else-is_paused+then-place-len w ↦ rw (← c.self.view_is) (past-the-last old place (omega (arith, w.len.ensures.count)))
    ] in
    nothing-encoded m c.args.self.now place none

pub returns-then-not-is_established-clause-packets : goal.returns-then-not-is_established-clause-packets
returns-then-not-is_established-clause-packets g c =
    let m = g.M.Machine.meaning in
    let t = c.self.inside in
    let place = c.args.place in
    let old = target_of t.debuggee t.deferral t.began.items t.phases.items (length t.steps.items) t.end in
    let none : deferred_at place c.args.self.now ≡ None =
    elim c.then-not-is_established.branch [
      | then-not-is_established-via-then-not-is_established w ↦ rw (← c.self.view_is) (no-session old place (search rules))
      | then-not-is_established-via-else-not-is_established+then-is_paused w ↦ rw (← c.self.view_is) (paused-end old place (search rules))
      | then-not-is_established-via-else-not-is_established+else-is_paused+then-place-len w ↦ rw (← c.self.view_is) (past-the-last old place (omega (arith, w.len.ensures.count)))
    ] in
    nothing-sendable m c.args.self.now place none

pub returns-clause-encoded : goal.returns-clause-encoded
returns-clause-encoded g c =
    let m = g.M.Machine.meaning in
    let t = c.self.inside in
    let place = c.args.place in
    let old = target_of t.debuggee t.deferral t.began.items t.phases.items (length t.steps.items) t.end in
    let session : is_established t.end ≡ true = search rules in
    let flows : is_paused t.end ≡ false = search rules in
    let command = c.command-command.result.now in
    let others = c.command-command.ensures.0 in
    let found : released_at place t.deferral.commands ≡ Some (message_of command, others) = c.command-command.ensures.1 in
    let at = there old place (message_of command) others session flows found in
    let w = c.sizes-sizes.result in
    let header : Header = record { length = 11 + length command.body.items; id = command.id; kind = kind.Command command.set command.number } in
    let body = command.body.items in
    let did = deferred-done m t.debuggee c.handle_command.new.debuggee command c.deref.result.now c.in_ok-done.done c.deref.ensures.value c.in_ok-done.ensures.ok in
    let read = deferred-read m t.debuggee c.handle_command.new.debuggee command c.in_ok-done.done did in
    rw (← c.self.view_is) (encodes-released m old place (message_of command) others at (encodes-command m old header body command.set command.number refl did.encoded))

pub returns-clause-packets : goal.returns-clause-packets
returns-clause-packets g c =
    let m = g.M.Machine.meaning in
    let t = c.self.inside in
    let place = c.args.place in
    let old = target_of t.debuggee t.deferral t.began.items t.phases.items (length t.steps.items) t.end in
    let session : is_established t.end ≡ true = search rules in
    let flows : is_paused t.end ≡ false = search rules in
    let command = c.command-command.result.now in
    let others = c.command-command.ensures.0 in
    let found : released_at place t.deferral.commands ≡ Some (message_of command, others) = c.command-command.ensures.1 in
    let at = there old place (message_of command) others session flows found in
    let w = c.sizes-sizes.result in
    let header : Header = record { length = 11 + length command.body.items; id = command.id; kind = kind.Command command.set command.number } in
    let body = command.body.items in
    let did = deferred-done m t.debuggee c.handle_command.new.debuggee command c.deref.result.now c.in_ok-done.done c.deref.ensures.value c.in_ok-done.ensures.ok in
    let read = deferred-read m t.debuggee c.handle_command.new.debuggee command c.in_ok-done.done did in
    let shaken = c.self.invariant.handshaken (in-session t.end session) in
    let h =
    command-came m t.debuggee c.handle_command.new.debuggee c.reply.new.debuggee header body t.end c.reply.new.end c.in_ok-done.done w command.id read (in-session t.end session) c.sizes-sizes.ensures
    shaken c.reply.ensures.debuggee c.reply.ensures.end c.self.invariant.limits c.is_paused.ensures.least c.fits_reply.ensures in
    rw (← c.self.view_is) (sends-released m old place (message_of command) others at found h.sends)

pub returns-in_err-done-clause-releases : goal.returns-in_err-done-clause-releases
returns-in_err-done-clause-releases g c =
    let m = g.M.Machine.meaning in
    let t = c.self.inside in
    let place = c.args.place in
    let old = target_of t.debuggee t.deferral t.began.items t.phases.items (length t.steps.items) t.end in
    let session : is_established t.end ≡ true = search rules in
    let flows : is_paused t.end ≡ false = search rules in
    let command = c.command-command.result.now in
    let others = c.command-command.ensures.0 in
    let found : released_at place t.deferral.commands ≡ Some (message_of command, others) = c.command-command.ensures.1 in
    let at = there old place (message_of command) others session flows found in
    let wants = rw c.deref.ensures.value at c.in_err-done.ensures.wants in
    let needs = deferred-needs m old c.sizes-sizes.result command c.sizes-sizes.ensures wants in
    rw (← c.self.view_is) (releases-wanting m old _ place (message_of command) others _ at (search rules) needs (search rules))
