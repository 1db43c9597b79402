use Rattle.jdwp_show.proofs.DigitLemmas.{Decoding}
use Rattle.jdwp_show.proofs.hex_digits.decode_into.Given as goal

abbrev pub invariant-loop-i : goal.invariant-loop-i
invariant-loop-i l = Decoding l.worst l.digits l.bytes l.i
