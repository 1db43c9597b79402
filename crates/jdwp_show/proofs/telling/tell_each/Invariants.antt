use Rattle.std.proofs.Common.{drop}
use Rattle.jdwp_layout.specs.Reads.{fields_at}
use Rattle.jdwp_show.specs.DataText.{listed, scalar_text}
use Rattle.jdwp_show.proofs.TellingLemmas.{Told}
use Rattle.jdwp_show.proofs.telling.tell_each.Given as goal

abbrev pub invariant-loop-index : goal.invariant-loop-index
invariant-loop-index l = Told (listed scalar_text) l.index l.fn.text l.text (fields_at l.sizes l.whole (drop l.index l.fields) l.rest) (fields_at l.sizes l.whole l.fields l.bytes)
