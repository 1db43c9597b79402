use Rattle.std.proofs.Common.{◌≡◌, drop}
use Rattle.jdwp_debuggee.specs.Refusals.{is_one_of}
use Rattle.jdwp_debuggee.proofs.refusals.is_one_of.Given as goal

abbrev pub invariant-loop-kind : goal.invariant-loop-kind
invariant-loop-kind l = is_one_of (drop l.kind-index l.kinds) l.byte ≡ is_one_of l.kinds l.byte
