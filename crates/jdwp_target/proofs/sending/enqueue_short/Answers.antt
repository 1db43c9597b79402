use Rattle.std.proofs.lemmas.Grind.{common_steps}
use Rattle.std.proofs.Common.{◌∙◌, ap, sym, refl, ℕ, pos, List, arith}
use Rattle.jdwp_end.specs.Ends.{with_enqueued}
use Rattle.jdwp_wire.specs.Basic.{int_canonical}
use Rattle.jdwp_wire.specs.Streams.{message_bytes}
use Rattle.jdwp_debuggee.specs.Replies.{reply_meaning}
use Rattle.jdwp_debuggee.specs.declared.reply.Reply.{Reply}
use Rattle.jdwp_target.specs.Sends.{reply_to}
use Rattle.jdwp_target.proofs.EnqueueLemmas.{two_enqueued}
use Rattle.jdwp_target.proofs.sending.enqueue_short.Goals as goal

abbrev int_bytes : ℕ → List ℕ
int_bytes n = int_canonical (pos n)

pub returns-in-Sizes : goal.returns-in-Sizes
returns-in-Sizes c =
    let field = ap int_bytes (c.from.ensures ∙ c.field.ensures.value) in
    let method = ap int_bytes (c.from-in-Sizes.ensures ∙ c.method.ensures.value) in
    let object = ap int_bytes (c.from-in-Sizes-2.ensures ∙ c.object.ensures.value) in
    let reference = ap int_bytes (c.from-in-Sizes-3.ensures ∙ c.reference.ensures.value) in
    let frame = ap int_bytes (c.from-in-Sizes-4.ensures ∙ c.frame.ensures.value) in
    two_enqueued _ _ _ _ _ _ _ refl refl c.enqueue_header-in-Sizes.ensures
    (two_enqueued _ _ _ _ _ _ _ field refl c.enqueue_int-in-Sizes.ensures
    (two_enqueued _ _ _ _ _ _ _ method refl c.enqueue_int-in-Sizes-2.ensures
    (two_enqueued _ _ _ _ _ _ _ object refl c.enqueue_int-in-Sizes-3.ensures
    (two_enqueued _ _ _ _ _ _ _ reference frame c.enqueue_int-in-Sizes-4.ensures c.enqueue_int-in-Sizes-5.ensures))))
    ∙ ap (λ (a : Reply). with_enqueued (message_bytes (reply_to c.args.sizes.now c.args.id (reply_meaning a))) c.args.end.now) (sym c.in-Sizes.is)

pub enqueue_int-requires : goal.enqueue_int-requires
enqueue_int-requires c = grind (arith, common_steps)

pub enqueue_int-requires-in-Status : goal.enqueue_int-requires-in-Status
enqueue_int-requires-in-Status c = grind (arith, common_steps)

pub enqueue_int-requires-in-Sizes : goal.enqueue_int-requires-in-Sizes
enqueue_int-requires-in-Sizes c = grind (arith, common_steps)

pub enqueue_int-requires-in-Sizes-2 : goal.enqueue_int-requires-in-Sizes-2
enqueue_int-requires-in-Sizes-2 c = grind (arith, common_steps)

pub enqueue_int-requires-in-Sizes-3 : goal.enqueue_int-requires-in-Sizes-3
enqueue_int-requires-in-Sizes-3 c = grind (arith, common_steps)

pub enqueue_int-requires-in-Sizes-4 : goal.enqueue_int-requires-in-Sizes-4
enqueue_int-requires-in-Sizes-4 c = grind (arith, common_steps)

pub enqueue_int-requires-in-Sizes-5 : goal.enqueue_int-requires-in-Sizes-5
enqueue_int-requires-in-Sizes-5 c = grind (arith, common_steps)

pub returns-after-count-eq0 : goal.returns-after-count-eq0
returns-after-count-eq0 c = grind (arith, common_steps)
