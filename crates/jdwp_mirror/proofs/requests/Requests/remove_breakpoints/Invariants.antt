use Rattle.std.proofs.Common.{◌≡◌, ◌+◌}
use Rattle.std.specs.List.{filter}
use Rattle.jdwp_mirror.specs.Mirror.{is_no_kept_breakpoint}
use Rattle.jdwp_mirror.proofs.RowLemmas.{leave_in}
use Rattle.jdwp_mirror.proofs.requests.Requests.remove_breakpoints.Given as goal

-- all others stay, and so many breakpoints are left
abbrev pub invariant-loop : goal.invariant-loop
invariant-loop l = (filter is_no_kept_breakpoint l.self ≡ filter is_no_kept_breakpoint l.fn.self) × (leave_in is_no_kept_breakpoint l.self + l.counter ≡ l.end)
