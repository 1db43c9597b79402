use Rattle.std.specs.List.{flat_map}
use Rattle.jdwp_show.specs.DataText.{quoted}
use Rattle.jdwp_show.specs.Telling.{Grows}
use Rattle.jdwp_show.proofs.data_text.push_each_character.Given as goal

abbrev pub invariant-loop-c : goal.invariant-loop-c
invariant-loop-c l = Grows l.fn.text (flat_map quoted l.yielded) l.text
