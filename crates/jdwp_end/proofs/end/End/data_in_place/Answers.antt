use Rattle.std.proofs.Common.{arith, rules, ◌≡◌, ◌++◌}
use Rattle.jdwp_wire.specs.Bytes.{IsBytes}
use Rattle.jdwp_end.proofs.Fronts.{body-lent, body-lies}
use Rattle.jdwp_end.proofs.end.End.data_in_place.Goals as goal

pub slice_bounds-result-count : goal.slice_bounds-result-count
slice_bounds-result-count c =
    let fits : IsBytes c.args.self.now.incoming = search rules in
    let lies = body-lies c.args.self.now c.requires.0 c.requires.1 c.args.used fits c.requires.2 in
    omega (arith, lies.1, c.if-used-first.true)

pub slice_bounds-result-start : goal.slice_bounds-result-start
slice_bounds-result-start c =
    let fits : IsBytes c.args.self.now.incoming = search rules in
    let lies = body-lies c.args.self.now c.requires.0 c.requires.1 c.args.used fits c.requires.2 in
    omega (arith, lies.1, c.if-used-first.true)

pub returns-then-used-first : goal.returns-then-used-first
returns-then-used-first c = λ header body e.
    let joined : c.as_slices.result.0.now ++ c.as_slices.result.1.now ≡ c.args.self.now.incoming = search rules in
    let fits : IsBytes c.args.self.now.incoming = search rules in
    body-lent c.args.self.now c.as_slices.result.0.now c.as_slices.result.1.now header body c.args.used joined c.if-used-first.true fits e
