use Rattle.std.proofs.Common.{◌++◌, ◌∷◌, [], List, length, sym, subst}
use Rattle.jdwp_watch.specs.declared.moves.Step.{Step}
use Rattle.jdwp_watch.specs.declared.standing.Change.{Change}
use Rattle.jdwp_watch.specs.Drifts.{IsJoined, ones_of}
use Rattle.jdwp_watch.proofs.Moving.{pushed-joined}
use Rattle.jdwp_watch.proofs.moves.Moves.push.Goals as goal

pub invariant_of-self-2 : goal.invariant_of-self-2
invariant_of-self-2 c =
    let steps = c.self.inside.steps.items in
    let step = c.step_after-step.result in
    let made : IsJoined (ones_of steps ++ c.args.one ∷ []) (length steps) step = subst (λ (xs : List Step). IsJoined (ones_of xs ++ c.args.one ∷ []) (length xs) step) c.as_slice.ensures.value c.step_after-step.ensures.joined in
    let joined : IsJoined (ones_of steps ++ step.one ∷ []) (length steps) step = subst (λ (one : Change). IsJoined (ones_of steps ++ one ∷ []) (length steps) step) (sym c.step_after-step.ensures.one) made in
    pushed-joined steps c.push.new.self.items step c.self.invariant joined c.in_ok-push.ensures.items
