use Rattle.std.proofs.Common.{◌-◌, ◌<◌, ◌≤◌, ℕ, get_or}
use Rattle.jdwp_layout.specs.declared.answer.Answer.{Answer as Given}
use Rattle.jdwp_debugger.specs.declared.pending.Ticket.{Ticket as Name}
use Rattle.jdwp_client.proofs.answers.place_among.Given as goal

-- those in front of the place that is looked for have lesser tickets, and those behind it do not
abbrev pub invariant-loop-low : goal.invariant-loop-low
invariant-loop-low l = record {
  ordered : l.low ≤ l.high;
  bound : l.high ≤ l.fn.rising;
  before : (i : ℕ) (d : Name × Given) → i < l.low → (get_or l.items.items i d).0.0 < l.ticket.0;
  behind : (i : ℕ) (d : Name × Given) → l.high ≤ i → i < l.fn.rising → l.ticket.0 ≤ (get_or l.items.items i d).0.0;
}

abbrev pub decreases-loop-low : goal.decreases-loop-low
decreases-loop-low l = l.high - l.low
