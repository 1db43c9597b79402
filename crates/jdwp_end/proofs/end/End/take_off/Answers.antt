use Rattle.std.proofs.Common.{rules, arith, ◌≡◌, ◌∙◌, ◌++◌, ℕ, List, length, take, ap}
use Rattle.std.proofs.lemmas.Grind.{common_steps}
use Rattle.std.proofs.lemmas.List.{length-append}
use Rattle.jdwp_wire.specs.Bytes.{IsBytes}
use Rattle.jdwp_wire.specs.Streams.{message_bytes}
use Rattle.jdwp_end.specs.Ends.{End}
use Rattle.jdwp_end.specs.FrontLaws.{in-front}
use Rattle.jdwp_end.proofs.end.End.take_off.Goals as goal

pub handle-requires : goal.handle-requires
handle-requires c =
    let xs = c.as_slices.result.0.now in
    let ys = c.as_slices.result.1.now in
    let end = c.args.self.now in
    let joined : xs ++ ys ≡ end.incoming = search rules in
    let fits : IsBytes end.incoming = search rules in
    let there = (in-front end c.requires.0 c.args.used fits c.requires.1).0.there in
    omega (arith, there, ap (λ (zs : List ℕ). length zs) joined, length-append xs ys)

pub overflow_sub-len : goal.overflow_sub-len
overflow_sub-len c =
    let end = c.args.self.now in
    let fits : IsBytes end.incoming = search rules in
    let there = (in-front end c.requires.0 c.args.used fits c.requires.1).0.there in
    omega (arith, there, c.len.ensures.len, ap (λ (e : End). length e.incoming) c.self.view_is)

pub returns : goal.returns
returns c = λ message front.
    let end = c.args.self.now in
    let used = c.args.used in
    let xs = c.as_slices.result.0.now in
    let ys = c.as_slices.result.1.now in
    let joined : xs ++ ys ≡ end.incoming = search rules in
    let fits : IsBytes end.incoming = search rules in
    let at = (in-front end message used fits front).0 in
    let handled : take used (xs ++ ys) ≡ message_bytes message = ap (λ (zs : List ℕ). take used zs) joined ∙ at.bytes_are in
    let there = at.there in
    grind (arith, common_steps, handled, there)
