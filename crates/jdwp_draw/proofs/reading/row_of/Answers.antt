use Rattle.std.proofs.Common.{◌∙◌, ap}
use Rattle.jdwp_draw.specs.Messages.{ShownMeaning}
use Rattle.jdwp_draw.specs.Sessions.{after}
use Rattle.jdwp_draw.proofs.Follows.{answers, goes, has_mirror}
use Rattle.jdwp_draw.proofs.reading.row_of.Goals as goal

pub returns-clause-row : goal.returns-clause-row
returns-clause-row c = λ s count at.
    let old = c.args.follower.now in
    let new = c.follow.new.self in
    let m = c.args.message.now in
    let then_at = goes c.args.sizes.now old new s m c.args.place count at c.in_ok-answers.ensures.waits c.in_ok-answers.ensures.mirror in
    record {
      sender = ap (λ (m : ShownMeaning). m.sender) c.message.view_is;
      line = c.in_ok-clone.ensures.cases ∙ ap (λ (m : ShownMeaning). m.line) c.message.view_is;
      answers = answers old s m c.in_ok-answers.answers at c.in_ok-answers.ensures.answers;
      mirror = has_mirror new (after c.args.sizes.now s m) _ then_at c.in_ok-threads.ensures c.in_ok-requests.ensures;
    }

pub returns-clause-after : goal.returns-clause-after
returns-clause-after c = λ s count at.
    goes c.args.sizes.now c.args.follower.now c.follow.new.self s c.args.message.now c.args.place count at c.in_ok-answers.ensures.waits c.in_ok-answers.ensures.mirror
