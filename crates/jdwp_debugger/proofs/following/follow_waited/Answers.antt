use Rattle.std.proofs.Common.{◌∙◌, true, Option, ap, subst, sym}
use Rattle.jdwp_action.specs.Actions.{Command}
use Rattle.jdwp_apart.specs.Messages.{is_invocation}
use Rattle.jdwp_watch.specs.declared.put.Put.TheVariants.{Asks}
use Rattle.jdwp_watch.specs.Ledgers.{Account}
use Rattle.jdwp_debugger.specs.FollowingKept.{AreReported, IsAnswered, IsDue, ledger_put}
use Rattle.jdwp_debugger.proofs.Followed.{waited-due, waited-follows}
use Rattle.jdwp_debugger.proofs.following.follow_waited.Goals as goal

pub note_answer-requires : goal.note_answer-requires
note_answer-requires c =
    let cs = c.args.composites.now in
    let middle = c.note_each.new.ledger in
    let put = c.note_put.ensures ∙ ap (ledger_put Asks) c.begin-ledger.ensures in
    let each = subst (λ (l : Option Account). AreReported cs l middle) put c.in_ok-note_each.ensures in
    subst (λ (q : Command). IsDue (is_invocation q) true middle) (sym c.requires) (waited-due c.args.order cs middle each)

pub returns : goal.returns
returns c =
    let cs = c.args.composites.now in
    let answer = c.args.answer.now in
    let middle = c.note_each.new.ledger in
    let new = c.note_answer.new.ledger in
    let put = c.note_put.ensures ∙ ap (ledger_put Asks) c.begin-ledger.ensures in
    let each = subst (λ (l : Option Account). AreReported cs l middle) put c.in_ok-note_each.ensures in
    let answered = subst (λ (q : Command). IsAnswered (is_invocation q) true q answer middle new) c.requires c.in_ok-note_answer.ensures.ok in
    waited-follows c.args.order answer cs middle new each answered
