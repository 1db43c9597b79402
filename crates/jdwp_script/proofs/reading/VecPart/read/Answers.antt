use Rattle.std.proofs.lemmas.Grind.{common_steps}
use Rattle.std.proofs.Common.{◌≡◌, ◌++◌, ◌∷◌, [], ◌<◌, length, map, arith}
use Rattle.std.proofs.lemmas.Result.{err_from_is_err_and}
use Rattle.std.proofs.lemmas.List.{map_push, length-map}
use Rattle.serde_json.specs.View.{view}
use Rattle.jdwp_script.specs.Reading.{each_of}
use Rattle.jdwp_script.proofs.Lists.{at_map, each_go_on, each_end}
use Rattle.jdwp_script.proofs.reading.VecPart.read.Goals as goal

pub returns-in_err-part : goal.returns-in_err-part
returns-in_err-part g c =
    let i = c.loop-element.element-index in
    let read = g.T.Part.reads c.args.member in
    let v = c.element-item.result in
    let lt = c.loop-element-test.true in
    let ks = map view c.in_ok-list.list.now in
    let below : i < length ks = rw (length-map c.in_ok-list.list.now view) lt in
    let p = err_from_is_err_and c.from_residual-in_err-part.result c.from_residual-in_err-part.ensures.1 in
    rw (p.1, p.2, c.in_ok-list.ensures) (each_end read c.in_err-part.field-0.0 (map g.T.Part.meaning c.loop-element.parts.items) ks i (view v) (each_of read ks) below (at_map view c.in_ok-list.list.now i v lt c.element-item.is) c.in_err-part.ensures c.loop-element.invariant)

pub loop-element-preserved : goal.loop-element-preserved
loop-element-preserved g c =
    let i = c.loop-element.element-index in
    let read = g.T.Part.reads c.args.member in
    let v = c.element-item.result in
    let x = c.in_ok-part.part in
    let lt = c.loop-element-test.true in
    let ks = map view c.in_ok-list.list.now in
    let below : i < length ks = rw (length-map c.in_ok-list.list.now view) lt in
    let e : map g.T.Part.meaning c.push.new.self.items ≡ map g.T.Part.meaning c.loop-element.parts.items ++ g.T.Part.meaning x ∷ [] = rw c.in_ok-push.ensures.items (map_push _ c.loop-element.parts.items x) in
    rw e (each_go_on read (map g.T.Part.meaning c.loop-element.parts.items) ks i (view v) (g.T.Part.meaning x) (each_of read ks) below (at_map view c.in_ok-list.list.now i v lt c.element-item.is) c.in_ok-part.ensures c.loop-element.invariant)

pub returns : goal.returns
returns g c = grind (arith, common_steps)
