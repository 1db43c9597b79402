use Rattle.std.proofs.Common.{◌≡◌, drop}
use Rattle.jdwp_plan.specs.Expecting.{is_expected, is_made_of}
use Rattle.jdwp_plan.proofs.expecting.is_expected.Given as goal

abbrev pub invariant-loop-byte : goal.invariant-loop-byte
invariant-loop-byte l = is_made_of l.place (drop l.byte-index l.expected) l.rest ≡ is_expected l.expected l.fn.text
