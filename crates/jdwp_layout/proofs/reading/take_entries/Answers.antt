use Rattle.std.proofs.Common.{◌≡◌, ◌++◌, ◌∷◌, [], arith, inr}
use Rattle.std.proofs.lemmas.Result.{err_from_is_err_and}
use Rattle.std.proofs.lemmas.List.{map_push}
use Rattle.std.proofs.Math.Facts.{Fits-lt-pow}
use Rattle.jdwp_wire.proofs.Loop.{times_go_on, times_end}
use Rattle.jdwp_wire.specs.Each.{times_at}
use Rattle.jdwp_layout.specs.Shapes.{entry_shape}
use Rattle.jdwp_layout.specs.Meanings.{entry_meaning, entry_meanings}
use Rattle.jdwp_layout.specs.Reads.{entry_at}
use Rattle.jdwp_wire.proofs.Keeps.{first_begins}
use Rattle.jdwp_layout.specs.EntryLaws.{entry_codes}
use Rattle.jdwp_layout.proofs.reading.take_entries.Goals as goal

pub returns-in_err-scalars-clause-value : goal.returns-in_err-scalars-clause-value
returns-in_err-scalars-clause-value c =
    let decode = entry_at c.args.sizes.now c.args.whole (entry_shape c.args.entry) in
    let p = err_from_is_err_and c.from_residual.result c.from_residual.ensures.1 in
    rw (p.1, p.2) (times_end decode c.in_err-scalars.field-0.0 (entry_meanings c.loop.entries.items) c.args.count c.loop.counter c.loop.rest.now (times_at decode c.args.count c.args.bytes.now) c.loop-test.true c.in_err-scalars.ensures.value c.loop.invariant.so_far)

pub loop-preserved : goal.loop-preserved
loop-preserved c =
    let decode = entry_at c.args.sizes.now c.args.whole (entry_shape c.args.entry) in
    let v = c.in_ok-scalars.scalars in
    let e : entry_meanings c.push.new.self.items ≡ entry_meanings c.loop.entries.items ++ entry_meaning v ∷ [] = rw c.in_ok-push.ensures.items (map_push _ c.loop.entries.items v) in
    record {
      so_far = rw e (times_go_on decode (entry_meanings c.loop.entries.items) c.args.count c.loop.counter c.loop.rest.now (entry_meaning v) c.in_ok-scalars.after.now (times_at decode c.args.count c.args.bytes.now) c.loop-test.true c.in_ok-scalars.ensures.value c.loop.invariant.so_far);
      first = inr (first_begins (entry_codes c.args.sizes.now c.args.whole (entry_shape c.args.entry)).found c.args.bytes.now c.loop.rest.now (entry_meaning v) c.in_ok-scalars.after.now (λ j. Fits-lt-pow (c.type_inv.bytes j)) c.in_ok-scalars.ensures.value c.loop.invariant.first);
    }

pub returns-in_err-push-clause-memory : goal.returns-in_err-push-clause-memory
returns-in_err-push-clause-memory c = λ failed.
    let lt = c.loop-test.true in
    let law = (entry_codes c.args.sizes.now c.args.whole (entry_shape c.args.entry)).found in
    (omega (arith, lt), inr (first_begins law c.args.bytes.now c.loop.rest.now (entry_meaning c.in_ok-scalars.scalars) c.in_ok-scalars.after.now (λ j. Fits-lt-pow (c.type_inv.bytes j)) c.in_ok-scalars.ensures.value c.loop.invariant.first))
