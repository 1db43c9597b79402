use Rattle.std.proofs.Common.{◌≡◌, ◌∷◌, [], ◌++◌, length, ◌+◌, vec_len, sym, ap, ◌∙◌, append_assoc, append-nil, arith}
use Rattle.std.proofs.lemmas.List.{length-append}
use Rattle.std.specs.Vec.Iter.{into_iter_items}
use Rattle.jdwp_link.specs.EventParts.{seen_of}
use Rattle.jdwp_link.proofs.Tells.{nothing-left, seen-more, yielded-room}
use Rattle.jdwp_link.proofs.telling.tell_seen.Goals as goal

pub push_reserved-requires : goal.push_reserved-requires
push_reserved-requires c =
    let at = c.loop-composite in
    let steps : into_iter_items at.composite-iterator ≡ c.in-Some.composite ∷ into_iter_items c.next.new.self = c.in-Some.ensures.steps.0 in
    let all : at.yielded ++ into_iter_items at.composite-iterator ≡ c.args.composites.items = at.invariant.0 ∙ c.into_iter-composite-iterator.ensures.into_iter_gives.0 in
    let few = yielded-room at.yielded (into_iter_items at.composite-iterator) c.args.composites.items c.in-Some.composite (into_iter_items c.next.new.self) all steps in
    omega (few, at.invariant.3, at.invariant.4, c.requires, arith)

pub loop-composite-preserved : goal.loop-composite-preserved
loop-composite-preserved c =
    let at = c.loop-composite in
    let x = c.in-Some.composite in
    let steps : into_iter_items at.composite-iterator ≡ x ∷ into_iter_items c.next.new.self = c.in-Some.ensures.steps.0 in (
      append_assoc at.yielded (x ∷ []) _ ∙ rw (← steps) at.invariant.0,
      let was = at.invariant.1 in
          let gone = c.in-Some.ensures.steps.1 in
          let short = ap length steps in
          omega arith,
      seen-more c.args.outcomes.now.items at.outcomes.items c.push_reserved.new.self.items at.yielded x c.push_reserved.ensures.items at.invariant.2,
      let one = length-append at.yielded (x ∷ []) in omega (one, c.push_reserved.ensures.len, at.invariant.3, arith),
      c.push_reserved.ensures.capacity ∙ at.invariant.4,
    )

pub returns-clause-items : goal.returns-clause-items
returns-clause-items c =
    let at = c.loop-composite in
    let empty : into_iter_items at.composite-iterator ≡ [] = nothing-left _ (sym at.invariant.1 ∙ c.in-None.ensures.steps.0) in
    let all : at.yielded ≡ c.args.composites.items = sym (append-nil at.yielded) ∙ (ap (λ r. at.yielded ++ r) (sym empty) ∙ (at.invariant.0 ∙ c.into_iter-composite-iterator.ensures.into_iter_gives.0)) in
    at.invariant.2 ∙ ap (λ ys. c.args.outcomes.now.items ++ seen_of ys) all

pub returns-clause-len : goal.returns-clause-len
returns-clause-len c =
    let at = c.loop-composite in
    let empty : into_iter_items at.composite-iterator ≡ [] = nothing-left _ (sym at.invariant.1 ∙ c.in-None.ensures.steps.0) in
    let all : at.yielded ≡ c.args.composites.items = sym (append-nil at.yielded) ∙ (ap (λ r. at.yielded ++ r) (sym empty) ∙ (at.invariant.0 ∙ c.into_iter-composite-iterator.ensures.into_iter_gives.0)) in
    at.invariant.3 ∙ ap (λ ys. vec_len c.args.outcomes.now + length ys) all
