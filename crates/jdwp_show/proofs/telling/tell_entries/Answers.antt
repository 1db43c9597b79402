use Rattle.std.proofs.Common.{◌≡◌, ◌-◌, refl, arith}
use Rattle.jdwp_wire.specs.Each.{times_at}
use Rattle.jdwp_layout.specs.Shapes.{entry_shape}
use Rattle.jdwp_layout.specs.Reads.{entry_at}
use Rattle.jdwp_show.specs.DataText.{listed, entry_text, separator}
use Rattle.jdwp_show.proofs.TextLemmas.{listed-push}
use Rattle.jdwp_show.proofs.TellingLemmas.{told_none, times_told, times_told_end}
use Rattle.jdwp_show.proofs.telling.tell_entries.Goals as goal

pub loop-index-init : goal.loop-index-init
loop-index-init c =
    let read = entry_at c.args.sizes.now c.args.whole (entry_shape c.args.entry) in
    let all : c.args.count - 0 ≡ c.args.count = omega arith in
    rw all (told_none (listed entry_text) c.args.text.now (times_at read c.args.count c.args.bytes.now) refl)

pub loop-index-preserved : goal.loop-index-preserved
loop-index-preserved c =
    times_told entry_text separator (listed entry_text) (listed-push entry_text) (entry_at c.args.sizes.now c.args.whole (entry_shape c.args.entry)) c.args.count c.loop-index.index c.loop-index.rest.now c.in_ok-after.after.now _ _ _ _ _
    c.loop-index-test.true c.push_separator.ensures c.in_ok-after.ensures c.loop-index.invariant

pub returns : goal.returns
returns c = times_told_end (listed entry_text) (entry_at c.args.sizes.now c.args.whole (entry_shape c.args.entry)) c.args.count c.loop-index.index c.loop-index.rest.now _ _ _ (omega arith) c.loop-index.invariant
