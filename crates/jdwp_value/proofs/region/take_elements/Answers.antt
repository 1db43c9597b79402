use Rattle.std.proofs.Common.{◌∷◌, [], refl, arith, inr}
use Rattle.std.proofs.lemmas.Result.{err_from_is_err_and}
use Rattle.std.proofs.lemmas.List.Folds.{list_all-append}
use Rattle.std.proofs.Math.Facts.{Fits-lt-pow}
use Rattle.jdwp_wire.specs.Each.{times_at}
use Rattle.jdwp_wire.proofs.Loop.{times_go_on, times_end}
use Rattle.jdwp_value.specs.Regions.{may_stand, element_at}
use Rattle.jdwp_wire.proofs.Keeps.{first_begins}
use Rattle.jdwp_value.specs.RegionLaws.{element_codes}
use Rattle.jdwp_value.proofs.region.take_elements.Goals as goal

pub returns-in_err-value-clause-value : goal.returns-in_err-value-clause-value
returns-in_err-value-clause-value c =
    let read = element_at c.args.sizes.now c.args.whole c.args.tag in
    let p = err_from_is_err_and c.from_residual.result c.from_residual.ensures.1 in
    rw (p.1, p.2) (times_end read c.in_err-value.field-0.0 c.loop.values.items c.args.count c.loop.counter c.loop.rest.now (times_at read c.args.count c.args.bytes.now) c.loop-test.true c.in_err-value.ensures.value c.loop.invariant.so_far)

pub loop-preserved : goal.loop-preserved
loop-preserved c =
    let read = element_at c.args.sizes.now c.args.whole c.args.tag in
    let v = c.in_ok-value.value in
    let front = c.loop.values.items in
    let e = c.in_ok-push.ensures.items in
    record {
      so_far = rw e (times_go_on read front c.args.count c.loop.counter c.loop.rest.now v c.in_ok-value.after.now (times_at read c.args.count c.args.bytes.now) c.loop-test.true c.in_ok-value.ensures.value c.loop.invariant.so_far);
      fits = rw (e, list_all-append (may_stand c.args.tag) front (v ∷ []), c.loop.invariant.fits, c.in_ok-value.ensures.fits) refl;
      shorter = (let a = c.in_ok-value.ensures.shorter in let b = c.loop.invariant.shorter in omega (arith, a, b));
      first = inr (first_begins (element_codes c.args.sizes.now c.args.whole c.args.tag).found c.args.bytes.now c.loop.rest.now v c.in_ok-value.after.now (λ i. Fits-lt-pow (c.type_inv.bytes i)) c.in_ok-value.ensures.value c.loop.invariant.first);
    }

pub returns-in_err-push-clause-memory : goal.returns-in_err-push-clause-memory
returns-in_err-push-clause-memory c = λ failed.
    let lt = c.loop-test.true in
    (omega (arith, lt), first_begins (element_codes c.args.sizes.now c.args.whole c.args.tag).found c.args.bytes.now c.loop.rest.now c.in_ok-value.value c.in_ok-value.after.now (λ i. Fits-lt-pow (c.type_inv.bytes i)) c.in_ok-value.ensures.value c.loop.invariant.first)
