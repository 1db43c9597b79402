use Rattle.std.proofs.Common.{ℕ, List, subst, arith, inl, inr}
use Rattle.std.proofs.lemmas.Result.{err_from_is_err_and}
use Rattle.std.proofs.Math.Facts.{Fits-lt-pow}
use Rattle.jdwp_wire.specs.declared.data_fault.DataFault.TheVariants.{NoMemory}
use Rattle.jdwp_wire.specs.Codes.{failed_too}
use Rattle.jdwp_wire.specs.Each.{times_at}
use Rattle.jdwp_wire.proofs.Loop.{times_go_on, times_end}
use Rattle.jdwp_wire.proofs.Keeps.{first_begins}
use Rattle.jdwp_layout.specs.Shapes.{Events}
use Rattle.jdwp_layout.specs.Keeping.{EntryIsKept}
use Rattle.jdwp_layout.specs.Reads.{entry_at}
use Rattle.jdwp_layout.specs.EntryLaws.{entry_codes}
use Rattle.jdwp_event.proofs.event.take_events.Goals as goal

pub returns-in_err-event-clause-value : goal.returns-in_err-event-clause-value
returns-in_err-event-clause-value c =
    let read = entry_at c.args.sizes.now c.args.whole Events in
    let p = err_from_is_err_and c.from_residual.result c.from_residual.ensures.1 in
    rw (p.1, p.2) (times_end read c.in_err-event.field-0.0 c.loop.events.items c.args.count c.loop.counter c.loop.rest.now (times_at read c.args.count c.args.bytes.now) c.loop-test.true c.in_err-event.ensures.value c.loop.invariant.so_far)

pub loop-preserved : goal.loop-preserved
loop-preserved c =
    let read = entry_at c.args.sizes.now c.args.whole Events in
    let v = c.in_ok-event.event in
    let e = c.in_ok-push.ensures.items in
    record {
      so_far = rw e (times_go_on read c.loop.events.items c.args.count c.loop.counter c.loop.rest.now v c.in_ok-event.after.now (times_at read c.args.count c.args.bytes.now) c.loop-test.true c.in_ok-event.ensures.value c.loop.invariant.so_far);
      shorter = (let a = c.in_ok-event.ensures.shorter in let b = c.loop.invariant.shorter in omega (arith, a, b));
      first = inr (first_begins (entry_codes c.args.sizes.now c.args.whole Events).found c.args.bytes.now c.loop.rest.now v c.in_ok-event.after.now (λ i. Fits-lt-pow (c.type_inv.bytes i)) c.in_ok-event.ensures.value c.loop.invariant.first);
    }

pub returns-in_err-push-clause-memory : goal.returns-in_err-push-clause-memory
returns-in_err-push-clause-memory c = λ failed.
    let lt = c.loop-test.true in
    let law = (entry_codes c.args.sizes.now c.args.whole Events).found in
    (omega (arith, lt), inr (first_begins law c.args.bytes.now c.loop.rest.now c.in_ok-event.event c.in_ok-event.after.now (λ i. Fits-lt-pow (c.type_inv.bytes i)) c.in_ok-event.ensures.value c.loop.invariant.first))

pub returns-in_err-event-clause-memory : goal.returns-in_err-event-clause-memory
returns-in_err-event-clause-memory c = λ failed.
    let lt = c.loop-test.true in
    let p = err_from_is_err_and c.from_residual.result c.from_residual.ensures.1 in
    let kept = c.in_err-event.ensures.memory (failed_too _ _ c.in_err-event.field-0.0 NoMemory (rw (p.1, p.2) at failed)) in (
      omega (arith, lt),
      elim c.loop.invariant.first [
        | inl same ↦ inl (subst (λ (bytes : List ℕ). EntryIsKept c.args.sizes.now Events bytes) same kept)
        | inr before ↦ inr before
      ],
    )
