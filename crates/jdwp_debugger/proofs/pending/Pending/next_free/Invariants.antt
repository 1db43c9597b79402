use Rattle.std.proofs.Common.{◌≡◌, ℕ, ◌<◌, true}
use Rattle.jdwp_debugger.specs.Asking.{id_after, is_outstanding}
use Rattle.jdwp_debugger.proofs.pending.Pending.next_free.Given as goal

abbrev pub invariant-loop : goal.invariant-loop
invariant-loop l = record {
  at : l.id ≡ id_after l.from l.counter;
  others : (n : ℕ) → n < l.counter → is_outstanding l.self (id_after l.from n) ≡ true;
}
