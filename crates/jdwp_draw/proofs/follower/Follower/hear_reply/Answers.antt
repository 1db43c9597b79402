use Rattle.std.proofs.Common.{Option, None, ap, option_map, sym}
use Rattle.jdwp_draw.specs.declared.follower.AskedCommand.{AskedCommand}
use Rattle.jdwp_draw.specs.Following.{asked_meaning, waits_in}
use Rattle.jdwp_draw.proofs.Follows.{reply_hears}
use Rattle.jdwp_draw.proofs.follower.Follower.hear_reply.Goals as goal

pub returns-clause-mirror : goal.returns-clause-mirror
returns-clause-mirror c =
    let waits = ap (λ (o : Option AskedCommand). option_map asked_meaning o) (sym c.in-Some.ensures.value) in
    let said = rw (c.set.ensures, c.number.ensures) at c.in_ok-answer.ensures in
    reply_hears c.args.sizes.now (waits_in c.args.self.now c.args.id) (asked_meaning c.in-Some.asked) c.args.error c.args.bytes.now c.in_ok-answer.answer _ _ waits said (c.in_ok-learn_reply.ensures.ok None)
