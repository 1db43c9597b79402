use Rattle.std.proofs.Common.{◌≡◌, drop}
use Rattle.jdwp_debuggee.specs.Entries.{place_from}
use Rattle.jdwp_debuggee.proofs.threads.find.Given as goal

abbrev pub invariant-loop-place : goal.invariant-loop-place
invariant-loop-place l = place_from l.place l.thread.0 (drop l.place l.entries) ≡ place_from 0 l.thread.0 l.entries
