use Rattle.std.proofs.Common.{◌≡◌, List, length, map, sym, ap, ◌∙◌, arith}
use Rattle.std.specs.List.{flat_map}
use Rattle.std.proofs.lemmas.List.{map-id}
use Rattle.jdwp_wire.specs.Widths.{Widths}
use Rattle.jdwp_wire.specs.Reading.{in_usize}
use Rattle.jdwp_layout.specs.Meanings.{ScalarMeaning}
use Rattle.jdwp_layout.specs.Writes.{entry_canonical}
use Rattle.jdwp_layout.proofs.Sizes.{all_sized, sum_past, none_is_past, some_is}
use Rattle.jdwp_event.proofs.event.events_size.Goals as goal

abbrev same : List ScalarMeaning → List ScalarMeaning
same e = e

all_of : (w : Widths) (es : List (List ScalarMeaning)) → in_usize (length (flat_map (entry_canonical w) (map same es))) ≡ in_usize (length (flat_map (entry_canonical w) es))
all_of w es = ap (λ (x : List (List ScalarMeaning)). in_usize (length (flat_map (entry_canonical w) x))) (map-id es)

pub returns-in_err-size : goal.returns-in_err-size
returns-in_err-size c =
    let w = c.args.sizes.now in
    let v = c.event-item.result in
    let past = none_is_past (length (entry_canonical w v)) (sym c.in_err-size.ensures) in
    c.from_residual.ensures
    ∙ sym (sum_past same (entry_canonical w) c.args.events.now c.loop-event.event-index v c.loop-event.total c.loop-event-test.true c.event-item.is c.loop-event.invariant.sized (λ lt. past (omega (arith, lt))))
    ∙ all_of w c.args.events.now

pub returns-in_err-total : goal.returns-in_err-total
returns-in_err-total c =
    let w = c.args.sizes.now in
    let v = c.event-item.result in
    let one = some_is (length (entry_canonical w v)) c.in_ok-size.size (sym c.in_ok-size.ensures) in
    let is = one.0 in
    c.from_residual-in_err-total.ensures
    ∙ sym (sum_past same (entry_canonical w) c.args.events.now c.loop-event.event-index v c.loop-event.total c.loop-event-test.true c.event-item.is c.loop-event.invariant.sized (λ lt. c.in_err-total.ensures (omega (arith, lt, is))))
    ∙ all_of w c.args.events.now

pub returns : goal.returns
returns c =
    let w = c.args.sizes.now in
    let past = c.loop-event-test.false in
    all_sized same (entry_canonical w) c.args.events.now c.loop-event.event-index c.loop-event.total (omega (arith, past)) c.loop-event.invariant.small c.loop-event.invariant.sized ∙ all_of w c.args.events.now
