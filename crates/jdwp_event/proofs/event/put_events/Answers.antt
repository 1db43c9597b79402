use Rattle.std.proofs.lemmas.Grind.{common_steps}
use Rattle.std.proofs.Common.{ℕ, ◌+◌, ◌≤◌, List, length, sym, subst, ◌∙◌, arith, vec_capacity}
use Rattle.std.specs.List.{flat_map}
use Rattle.std.proofs.lemmas.Result.{err_from_is_err_and}
use Rattle.jdwp_wire.proofs.Puts.{written_more, room_more}
use Rattle.jdwp_value.proofs.Elements.{encoded_next, refusal_next}
use Rattle.jdwp_layout.specs.Shapes.{Events}
use Rattle.jdwp_layout.specs.Meanings.{ScalarMeaning}
use Rattle.jdwp_layout.specs.Grammar.{EncodesEntry}
use Rattle.jdwp_layout.specs.Writes.{entry_canonical, entry_refusal}
use Rattle.jdwp_layout.specs.EntryLaws.{entry_unrefused}
use Rattle.jdwp_event.proofs.event.put_events.Goals as goal

pub loop-event-preserved : goal.loop-event-preserved
loop-event-preserved c =
    let w = c.args.sizes.now in
    let canonical = entry_canonical w in
    let vs = c.args.events.now in
    let i = c.loop-event.event-index in
    let v = c.event-item.result in
    let lt = c.loop-event-test.true in
    let v-is = c.event-item.is in
    let one = c.in_ok-put.ensures.ok in
    let before = c.loop-event.invariant in
    record {
      written = written_more (λ (x : List ScalarMeaning). x) canonical c.args.output.now.items c.loop-event.output.items c.put.new.output.items vs i v lt v-is before.written one.1;
      capacity = (let a = before.capacity in let b = c.in_ok-put.ensures.capacity in omega (arith, a, b));
      encoded = encoded_next (EncodesEntry w Events) canonical vs i v lt v-is before.encoded one.0;
      refusal = sym (refusal_next (entry_refusal w Events) vs i v lt v-is (entry_unrefused w Events (canonical v) v one.0)) ∙ before.refusal;
    }

pub returns-in_err-put-clause-room : goal.returns-in_err-put-clause-room
returns-in_err-put-clause-room c = λ room failed.
    let canonical = entry_canonical c.args.sizes.now in
    let vs = c.args.events.now in
    let before = c.loop-event.invariant in
    let p = err_from_is_err_and c.from_residual.result c.from_residual.ensures.1 in
    let lt = c.loop-event-test.true in
    let v = c.event-item.result in
    let v-is = c.event-item.is in
    let room_for_all = subst (λ (n : ℕ). n + length (flat_map canonical vs) ≤ vec_capacity c.args.output.now) c.args.output.now.ok.0 room in
    let next = room_more canonical c.args.output.now.items c.loop-event.output.items vs c.loop-event.event-index v (vec_capacity c.args.output.now) (vec_capacity c.loop-event.output) lt v-is before.written before.capacity room_for_all in
    c.in_err-put.ensures.room (subst (λ (n : ℕ). n + length (canonical v) ≤ vec_capacity c.loop-event.output) (sym c.loop-event.output.ok.0) next) (rw (p.1, p.2) at failed)

pub returns-in_err-put-clause-err : goal.returns-in_err-put-clause-err
returns-in_err-put-clause-err c = grind (arith, common_steps)

pub returns-clause-ok : goal.returns-clause-ok
returns-clause-ok c = grind (arith, common_steps)
