use Rattle.std.proofs.Common.{◌≡◌, ◌++◌, take, drop}
use Rattle.jdwp_debuggee.specs.Entries.{all_marked}
use Rattle.jdwp_debuggee.proofs.threads.mark_one.Given as goal

abbrev pub invariant-loop-entry : goal.invariant-loop-entry
invariant-loop-entry l = take l.entry-index l.entries ++ all_marked l.thread.0 (drop l.entry-index l.entries) ≡ all_marked l.thread.0 l.fn.entries
