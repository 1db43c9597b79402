use Rattle.std.proofs.Common.{refl, sym, ◌∷◌, []}
use Rattle.std.proofs.lemmas.List.{append-nil}
use Rattle.jdwp_event.proofs.laws.composites_have_their_layout.Goals as goal

pub returns : goal.returns
returns c = λ w x code. (
  λ (events, small, s, e). (x.policy ∷ [], events, (refl, (small, refl)), (events, [], s, refl, sym (append-nil events)), e),
  λ (front, back, (kind, (small, front-is)), (events, rest, s, nil, parts), e). (events, small, s, rw (e, front-is, parts, nil, append-nil events) refl),
)
