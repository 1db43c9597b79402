use Rattle.std.proofs.Common.{◌≡◌, ◌++◌, drop, take}
use Rattle.milunovesk_c.specs.Seats.{numbers_of}
use Rattle.milunovesk_c.proofs.debugging.copy_tickets.Given as goal

abbrev pub invariant-loop-slot : goal.invariant-loop-slot
invariant-loop-slot l = record {
  next : l.next ≡ l.slot-index;
  so_far : take l.slot-index l.out ++ numbers_of (drop l.slot-index l.tickets) ≡ numbers_of l.tickets;
}
