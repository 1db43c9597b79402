use Rattle.std.proofs.Common.{◌≡◌, drop}
use Rattle.jdwp_debuggee.specs.Entries.{ids_of, least_of}
use Rattle.jdwp_debuggee.proofs.threads.least_from.Given as goal

abbrev pub invariant-loop-entry : goal.invariant-loop-entry
invariant-loop-entry l = least_of l.least (ids_of (drop l.entry-index l.entries)) ≡ least_of l.id (ids_of l.entries)
