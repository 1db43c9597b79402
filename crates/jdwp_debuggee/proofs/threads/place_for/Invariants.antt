use Rattle.std.proofs.Common.{◌≡◌, ◌+◌, drop}
use Rattle.jdwp_debuggee.specs.Sending.{place_in}
use Rattle.jdwp_debuggee.proofs.threads.place_for.Given as goal

abbrev pub invariant-loop-place : goal.invariant-loop-place
invariant-loop-place l = l.place + place_in l.id (drop l.place l.ids) ≡ place_in l.id l.ids
