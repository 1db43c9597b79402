use Rattle.std.proofs.Common.{List, subst, sym}
use Rattle.jdwp_layout.specs.declared.answer.Answer.{Answer}
use Rattle.jdwp_debugger.specs.declared.pending.Ticket.{Ticket}
use Rattle.jdwp_client.specs.Keeping.{Rises, is_under}
use Rattle.jdwp_client.proofs.Rising.{hands-under, rises-without, within-list}
use Rattle.jdwp_client.proofs.answers.Answers.take.Goals as goal

pub rising_from-self-requires : goal.rising_from-self-requires
rising_from-self-requires c =
    let old = c.args.self.now.items.items in
    let place = c.in_ok-place.place in
    let known = c.known_without-known.result in
    subst (λ (xs : List (Ticket × Answer)). Rises known xs) (sym c.in_ok-answer.ensures.items)
    (rises-without c.args.self.now.rising known old place c.requires (within-list (is_under c.args.ticket.0) old place (sym c.in_ok-place.ensures)) c.known_without-known.ensures.below
    c.known_without-known.ensures.above)

pub returns-clause-answer : goal.returns-clause-answer
returns-clause-answer c =
    hands-under c.args.self.now.items.items c.args.ticket c.in_ok-place.place (c.in_ok-answer.field-0-0, c.in_ok-answer.answer) c.remove.new.self.items (sym c.in_ok-place.ensures)
    c.in_ok-answer.ensures.value c.in_ok-answer.ensures.items
