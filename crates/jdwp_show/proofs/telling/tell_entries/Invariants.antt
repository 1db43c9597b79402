use Rattle.std.proofs.Common.{◌-◌}
use Rattle.jdwp_wire.specs.Each.{times_at}
use Rattle.jdwp_layout.specs.Shapes.{entry_shape}
use Rattle.jdwp_layout.specs.Reads.{entry_at}
use Rattle.jdwp_show.specs.DataText.{listed, entry_text}
use Rattle.jdwp_show.proofs.TellingLemmas.{Told}
use Rattle.jdwp_show.proofs.telling.tell_entries.Given as goal

abbrev pub invariant-loop-index : goal.invariant-loop-index
invariant-loop-index l =
    let read = entry_at l.sizes l.whole (entry_shape l.entry) in
    Told (listed entry_text) l.index l.fn.text l.text (times_at read (l.count - l.index) l.rest) (times_at read l.count l.bytes)
