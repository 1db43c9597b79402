use Rattle.std.proofs.Common.{◌∙◌, ap, sym}
use Rattle.jdwp_draw.specs.declared.message_list.Message as kept
use Rattle.jdwp_draw.specs.Messages.{ShownMeaning}
use Rattle.jdwp_draw.specs.Reading.{message_in}
use Rattle.jdwp_draw.proofs.Follows.{on_ok}
use Rattle.jdwp_draw.proofs.follower.Follower.follow.Goals as goal

pub returns-in-Target-clause-waits : goal.returns-in-Target-clause-waits
returns-in-Target-clause-waits c =
    let sender = ap (λ (m : ShownMeaning). m.sender) (sym c.message.view_is) ∙ c.in-Target.is in
    let message = ap (λ (m : ShownMeaning). m.message) (sym c.message.view_is) ∙ ap (λ (m : kept.Message). message_in m) c.in-Packet.is in
    rw (sender, message) (on_ok c.hear.result (λ waits. waits c.args.place) c.hear.ensures.waits)
