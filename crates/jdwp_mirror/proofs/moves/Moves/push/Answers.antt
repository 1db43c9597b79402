use Rattle.std.proofs.Common.{◌++◌, ◌∷◌, [], List, length, ap, sym, subst, ◌∙◌}
use Rattle.jdwp_mirror.specs.declared.drift.Drift.{Drift}
use Rattle.jdwp_mirror.specs.declared.moves.Step.{Step}
use Rattle.jdwp_mirror.specs.Drifts.{IsJoined, ones_of}
use Rattle.jdwp_mirror.proofs.Drifting.{pushed-joined}
use Rattle.jdwp_mirror.proofs.moves.Moves.push.Goals as goal

pub invariant_of-self : goal.invariant_of-self
invariant_of-self c =
    let steps = c.self.inside.steps.items in
    let step = c.step_after-step.result in
    let made : IsJoined (ones_of steps ++ c.args.one ∷ []) (length steps) step = subst (λ (xs : List Step). IsJoined (ones_of xs ++ c.args.one ∷ []) (length xs) step) c.as_slice.ensures.value c.step_after-step.ensures.joined in
    let joined : IsJoined (ones_of steps ++ step.one ∷ []) (length steps) step = subst (λ (d : Drift). IsJoined (ones_of steps ++ d ∷ []) (length steps) step) (sym c.step_after-step.ensures.one) made in
    pushed-joined steps c.push_reserved.new.self.items step c.self.invariant joined (c.push_reserved.ensures.items ∙ ap (λ (xs : List Step). xs ++ step ∷ []) c.reserve.ensures.items)
