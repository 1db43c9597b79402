-- each ticket is settled once, and by the answer that the target gave to it
use Rattle.std.proofs.Common.{◌≡◌, ℕ, Some, None, List, [], ◌∷◌, ◌++◌, map, refl, sym, ◌∙◌, ap, subst}
use Rattle.jdwp_wire.specs.Widths.{Widths}
use Rattle.jdwp_layout.specs.declared.answer.Answer.{Answer}
use Rattle.jdwp_machine.specs.Meanings.{Meaning}
use Rattle.jdwp_action.specs.Actions.{Command}
use Rattle.jdwp_debuggee.specs.Settings.{Settings}
use Rattle.jdwp_mirror.specs.Messages as mirror
use Rattle.jdwp_debugger.specs.Debuggers.{tickets_of}
use Rattle.jdwp_debugger.specs.declared.pending.Ticket.{Ticket}
use Rattle.jdwp_model.specs.Events as events
use Rattle.jdwp_model.specs.Given.{IsIn, given_answers, told_answers}
use Rattle.jdwp_model.specs.Next.{lost_tickets, outcomes}
use Rattle.jdwp_model.specs.Tickets.{settled, tickets, tickets_to, times}
use Rattle.jdwp_model.specs.World.{World}
use Rattle.jdwp_link.specs.EventParts.{lost_of}
use Rattle.jdwp_link.specs.Links.{Link}
use Rattle.jdwp_link.specs.Outcomes.{answers_in, settled_in, waiting_at}
use Rattle.jdwp_link.specs.Stands.{Parts}
use Rattle.jdwp_link.specs.Told.{told_outcomes}
use Rattle.jdwp_link.proofs.Losing.{loses-tells}
use Rattle.jdwp_link.proofs.Reached.{Known}
use Rattle.jdwp_across.specs.Programs.{Act, events_in, told_in}
use Rattle.jdwp_across.specs.Standing.{IsReachedBy, unmeasured}
use Rattle.jdwp_across.proofs.Onward.{SettlesFrom, TellsFrom}

-- ---- tickets

settled-told : (os : List events.Outcome) → settled_in (told_outcomes os) ≡ settled os
settled-told [] = refl
settled-told (events.Answered k answer ∷ os) = ap (λ l. k ∷ l) (settled-told os)
settled-told (events.Lost k ∷ os) = ap (λ l. k ∷ l) (settled-told os)
settled-told (events.Asked k ∷ os) = settled-told os
settled-told (events.Refused r ∷ os) = settled-told os
settled-told (events.Seen c ∷ os) = settled-told os

settled-lost : (ps : List (mirror.Ticket × Command)) → settled (lost_tickets ps) ≡ tickets ps
settled-lost [] = refl
settled-lost ((Some k, c) ∷ ps) = ap (λ l. k ∷ l) (settled-lost ps)
settled-lost ((None, c) ∷ ps) = settled-lost ps

settled-lost-of : (ts : List Ticket) → settled_in (lost_of ts) ≡ map (λ (k : Ticket). k.0) ts
settled-lost-of [] = refl
settled-lost-of (t ∷ ts) = ap (λ l. t.0 ∷ l) (settled-lost-of ts)

-- the tickets that wait are those of the world
waits-are : {S : Type 0} (m : Meaning S) (settings : Settings) (w : Widths) (l : Link S) (x : World S) → Known m settings x → Parts m settings w l x → waiting_at l.debugger ≡ tickets x.pending
waits-are m settings w l x k s =
    sym (settled-lost-of (tickets_of l.debugger.pending)) ∙ (ap settled_in (loses-tells m settings w l x k s) ∙ (settled-told (lost_tickets x.pending) ∙ settled-lost x.pending))

pub settles-once : {S : Type 0} (m : Meaning S) (settings : Settings) (w : Widths) (first : World S) (acts : List Act) (l : Link S) (x : World S) (k : ℕ) → SettlesFrom m settings first → Known m settings x → IsReachedBy m settings w first acts x
    → Parts m settings w l x → times k (tickets_to first.asked ++ (settled_in (told_in acts) ++ waiting_at l.debugger)) ≡ times k (tickets_to l.debugger.tickets)
settles-once m settings w first acts l x k once known r parts =
    let os = outcomes m settings (unmeasured w settings.limits) first (events_in acts) in
    let before = tickets_to first.asked in
    ap (λ q. times k (before ++ (q ++ waiting_at l.debugger))) (ap settled_in r.tells ∙ settled-told os)
    ∙ (ap (λ q. times k (before ++ (settled os ++ q))) (waits-are m settings w l x known parts)
    ∙ (subst (λ (y : World _). times k (before ++ (settled os ++ tickets y.pending)) ≡ times k (tickets_to y.asked)) r.is (once (unmeasured w settings.limits) (events_in acts) k)
    ∙ ap (λ n. times k (tickets_to n)) (sym parts.debugger.tickets)))

-- ---- answers

answers-told : (os : List events.Outcome) → answers_in (told_outcomes os) ≡ told_answers os
answers-told [] = refl
answers-told (events.Answered k answer ∷ os) = ap (λ l. (k, answer) ∷ l) (answers-told os)
answers-told (events.Lost k ∷ os) = answers-told os
answers-told (events.Asked k ∷ os) = answers-told os
answers-told (events.Refused r ∷ os) = answers-told os
answers-told (events.Seen c ∷ os) = answers-told os

pub tells-given : {S : Type 0} (m : Meaning S) (settings : Settings) (w : Widths) (first : World S) (acts : List Act) (x : World S) (p : ℕ × Answer) → TellsFrom m settings first → IsReachedBy m settings w first acts x
    → IsIn (answers_in (told_in acts)) p → IsIn (given_answers m settings (unmeasured w settings.limits) first (events_in acts)) p
tells-given m settings w first acts x p given r h =
    let os = outcomes m settings (unmeasured w settings.limits) first (events_in acts) in
    given (unmeasured w settings.limits) (events_in acts) p (subst (λ l. IsIn l p) (ap answers_in r.tells ∙ answers-told os) h)
