use Rattle.std.proofs.Math.Nat.{le_of_lt}
use Rattle.std.proofs.Common.{List, [], ℕ, ◌≡◌, refl, ap, add-one, arith, length}
use Rattle.std.proofs.lemmas.Bool.{eqb-true}
use Rattle.std.specs.Vec.{vec_len}
use Rattle.std.specs.List.{list_any}
use Rattle.std.specs.Ordering.{nat_cmp}
use Rattle.std.specs.BTreeMap.{is_at}
use Rattle.jdwp_script.specs.Meanings.{script_part}
use Rattle.jdwp_script_machine.specs.Layers.{Gains, is_in, some_above}
use Rattle.jdwp_script_machine.proofs.Sets.{gains_none}
use Rattle.jdwp_script_machine.proofs.Reaches.{next_layered, first_layered, reached_at}
use Rattle.jdwp_script_machine.proofs.layers.reached_within.Goals as goal

pub loop-layers-preserved : goal.loop-layers-preserved
loop-layers-preserved c =
    let script = script_part c.args.script.now in
    let above : Gains c.loop-layers.found c.next_layer.new.found (some_above script c.loop-layers.layer.items) = rw c.deref.ensures.value at c.in_ok-layer.ensures.found in
    rw add-one (next_layered script c.args.from.0 c.loop-layers._layers c.loop-layers.found c.next_layer.new.found c.loop-layers.layer.items c.in_ok-layer.layer.items c.loop-layers.invariant above c.in_ok-layer.ensures.listed)

pub loop-layers-init : goal.loop-layers-init
loop-layers-init c =
    let nothing = λ (n : ℕ). ap (λ (ks : List ℕ). list_any (is_at (nat_cmp n)) ks) c.new-found.ensures.empty in
    let none : Gains c.new-found.result c.new-found.result (is_in c.new-layer.result.items) = rw c.new-layer.ensures.items (gains_none c.new-found.result (is_in []) (λ n. refl)) in
    first_layered (script_part c.args.script.now) c.args.from.0 c.new-found.result c.find.new.found c.find.new.listed.items nothing c.in_ok-find.ensures.found (c.in_ok-find.ensures.listed c.new-found.result none)

pub returns-then-is_empty : goal.returns-then-is_empty
returns-then-is_empty c =
    let layer = c.loop-layers.layer in
    let empty : vec_len layer ≡ 0 = eqb-true (vec_len layer) 0 (rw c.is_empty.ensures at c.if-is_empty.true) in
    let none : length layer.items ≡ 0 = omega (arith, empty, layer.ok.0) in
    reached_at (script_part c.args.script.now) c.args.from.0 c.loop-layers._layers c.args.most c.loop-layers.found layer.items none (le_of_lt c.loop-layers-test.true) c.loop-layers.invariant
