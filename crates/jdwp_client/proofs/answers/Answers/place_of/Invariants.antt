use Rattle.std.proofs.Common.{◌≡◌, ◌<◌, ℕ, false, get_or}
use Rattle.jdwp_layout.specs.declared.answer.Answer.{Answer as Given}
use Rattle.jdwp_debugger.specs.declared.pending.Ticket.{Ticket as Name}
use Rattle.jdwp_client.specs.Keeping.{is_under}
use Rattle.jdwp_client.proofs.answers.Answers.place_of.Given as goal

-- none in front of this place is under the ticket
abbrev pub invariant-loop-later : goal.invariant-loop-later
invariant-loop-later l = (k : ℕ) (d : Name × Given) → k < l.later → is_under l.ticket.0 (get_or l.self.items.items k d) ≡ false
