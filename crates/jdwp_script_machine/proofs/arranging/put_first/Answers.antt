use Rattle.std.proofs.lemmas.Grind.{common_steps}
use Rattle.std.proofs.Common.{◌≡◌, ◌∷◌, map, arith}
use Rattle.jdwp_script_machine.specs.LookUps.{place_for}
use Rattle.jdwp_script_machine.proofs.Rising.{turned}
use Rattle.jdwp_script_machine.proofs.arranging.put_first.Goals as goal

pub returns : goal.returns
returns g c =
    let f = g.T.Numbered.meaning in
    let key = g.T.Numbered.key in
    let first = c.in-Some.first.now in
    let others = c.in-Some.others.now in
    let split : c.args.parts.now ≡ first ∷ others = grind (arith, common_steps) in
    let place : c.place_for-less.result ≡ place_for key (key (f first)) (map f others) = grind (arith, common_steps) in
    turned f key c.args.parts.now others first c.place_for-less.result c.rotate_left.new.self split place c.rotate_left.ensures.after
