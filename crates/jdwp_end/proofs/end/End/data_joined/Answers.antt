use Rattle.std.proofs.Common.{arith, rules, ◌≡◌, ◌∙◌, ◌++◌, ℕ, List, length, take, drop, ap, refl}
use Rattle.std.proofs.lemmas.List.{length-append, length-take}
use Rattle.jdwp_wire.specs.Bytes.{IsBytes}
use Rattle.jdwp_wire.specs.Streams.{Packet}
use Rattle.jdwp_end.specs.Ends.{End}
use Rattle.jdwp_end.specs.FrontLaws.{in-front}
use Rattle.jdwp_end.proofs.Fronts.{body-lies}
use Rattle.jdwp_end.proofs.end.End.data_joined.Goals as goal

pub join-requires-clause-within : goal.join-requires-clause-within
join-requires-clause-within c =
    let xs = c.as_slices.result.0.now in
    let ys = c.as_slices.result.1.now in
    let end = c.args.self.now in
    let joined : xs ++ ys ≡ end.incoming = search rules in
    let fits : IsBytes end.incoming = search rules in
    let there = (in-front end (Packet c.requires.0 c.requires.1) c.args.used fits c.requires.2).0.there in
    omega (arith, there, ap (λ (zs : List ℕ). length zs) joined, length-append xs ys)

pub join-requires-clause-room : goal.join-requires-clause-room
join-requires-clause-room c =
    let end = c.args.self.now in
    let fits : IsBytes end.incoming = search rules in
    let there = (in-front end (Packet c.requires.0 c.requires.1) c.args.used fits c.requires.2).0.there in
    let size = ap (λ (e : End). length e.incoming) c.self.view_is in
    let kept = c.self.invariant in
    omega (arith, there, size, kept.incoming_fits, kept.scratch_room)

pub shared_behind-requires : goal.shared_behind-requires
shared_behind-requires c =
    let end = c.args.self.now in
    let joined : c.as_slices.result.0.now ++ c.as_slices.result.1.now ≡ end.incoming = search rules in
    let fits : IsBytes end.incoming = search rules in
    let lent = c.join.ensures.joined ∙ ap (λ (zs : List ℕ). take c.args.used zs) joined in
    let lies = body-lies end c.requires.0 c.requires.1 c.args.used fits c.requires.2 in
    let there = (in-front end (Packet c.requires.0 c.requires.1) c.args.used fits c.requires.2).0.there in
    omega (arith, lies.1, there, ap (λ (zs : List ℕ). length zs) lent, length-take c.args.used end.incoming)

pub returns : goal.returns
returns c =
    let end = c.args.self.now in
    let joined : c.as_slices.result.0.now ++ c.as_slices.result.1.now ≡ end.incoming = search rules in
    let fits : IsBytes end.incoming = search rules in
    let lent = c.join.ensures.joined ∙ ap (λ (zs : List ℕ). take c.args.used zs) joined in (
      (refl, (λ _. tt), c.self.view_is),
      record {
        stays = tt;
        body = λ header body e. c.shared_behind.ensures.value ∙ ap (λ (zs : List ℕ). drop 11 zs) lent ∙ (body-lies end header body c.args.used fits e).0;
      },
    )
