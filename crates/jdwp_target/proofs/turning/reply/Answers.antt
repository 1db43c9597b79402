use Rattle.std.proofs.lemmas.Grind.{common_steps}
use Rattle.std.proofs.Common.{◌≡◌, ◌∙◌, ◌∷◌, ap, arith}
use Rattle.jdwp_wire.specs.Streams.{stream}
use Rattle.jdwp_end.specs.Ends.{with_enqueued}
use Rattle.jdwp_end.specs.Ends as ends
use Rattle.jdwp_target.specs.TurnParts.{deaths, reply_of}
use Rattle.jdwp_target.proofs.RightTurns.{put-alone, put-death}
use Rattle.jdwp_target.proofs.turning.reply.Goals as goal
use Rattle.jdwp_target.proofs.turning.reply.Goals.{then-done, else-done}

pub returns-then-done-2-clause-end : goal.returns-then-done-2-clause-end
returns-then-done-2-clause-end g c =
    let put : c.if-done.end ≡ with_enqueued (stream (reply_of c.args.sizes.now c.args.id c.args.done.now.sent ∷ deaths c.args.sizes.now c.args.debuggee.now.moment.state.next_packet c.args.done.now.dies)) c.args.end.now =
    elim c.if-done.branch [
      | then-done w ↦ w.end-is ∙ put-death c.args.end.now c.enqueue_reply.new.end w.enqueue_death.new.end c.args.sizes.now c.args.id c.args.debuggee.now.moment.state.next_packet w.take_packet_id.result c.args.done.now.sent c.args.done.now.dies w.if-done.true c.enqueue_reply.ensures w.enqueue_death.ensures w.take_packet_id.ensures.id
      | else-done w ↦ w.end-is ∙ put-alone c.args.end.now c.enqueue_reply.new.end c.args.sizes.now c.args.id c.args.debuggee.now.moment.state.next_packet c.args.done.now.sent c.args.done.now.dies w.if-done.false c.enqueue_reply.ensures
    ] in
    rw c.if-done-2.true (c.close.ensures ∙ ap ends.closed_end put)

pub returns-else-done-2-clause-end : goal.returns-else-done-2-clause-end
returns-else-done-2-clause-end g c =
    let put : c.if-done.end ≡ with_enqueued (stream (reply_of c.args.sizes.now c.args.id c.args.done.now.sent ∷ deaths c.args.sizes.now c.args.debuggee.now.moment.state.next_packet c.args.done.now.dies)) c.args.end.now =
    elim c.if-done.branch [
      | then-done w ↦ w.end-is ∙ put-death c.args.end.now c.enqueue_reply.new.end w.enqueue_death.new.end c.args.sizes.now c.args.id c.args.debuggee.now.moment.state.next_packet w.take_packet_id.result c.args.done.now.sent c.args.done.now.dies w.if-done.true c.enqueue_reply.ensures w.enqueue_death.ensures w.take_packet_id.ensures.id
      | else-done w ↦ w.end-is ∙ put-alone c.args.end.now c.enqueue_reply.new.end c.args.sizes.now c.args.id c.args.debuggee.now.moment.state.next_packet c.args.done.now.sent c.args.done.now.dies w.if-done.false c.enqueue_reply.ensures
    ] in
    rw c.if-done-2.false put

pub enqueue_death-requires : goal.enqueue_death-requires
enqueue_death-requires c = grind (arith, common_steps)
