use Rattle.std.proofs.Common.{◌≡◌, ◌==◌, ◌∙◌, List, ap, filter, not, rules, ℕ}
use Rattle.std.proofs.lemmas.Fn.{filter_same}
use Rattle.jdwp_value.specs.declared.id.ObjectId.{ObjectId}
use Rattle.jdwp_machine.specs.Meanings.{numbers}
use Rattle.link_tests.specs.SpinningLaws.{ended_state, numbers_others}
use Rattle.link_tests.specs.SpinningMachine.{others}
use Rattle.link_tests.proofs.spinning.SpinningMachine.end.Goals as goal

pub invariant_of-self : goal.invariant_of-self
invariant_of-self c =
    let left : c.retain.new.self.items ≡ filter (λ (id : ObjectId). not (id.0 == c.args.thread.0)) c.self.inside.live.items = filter_same _ _ _ (λ x b f' k. search rules) _ _ c.retain.ensures.filtered in
    let same : numbers c.retain.new.self.items ≡ others c.args.thread.0 (numbers c.self.inside.live.items) = ap numbers left ∙ numbers_others c.args.thread.0 c.self.inside.live.items in
    record { state = rw same (ended_state c.args.thread.0 (numbers c.self.inside.live.items) c.self.invariant.state); sizes = c.self.invariant.sizes }

pub returns : goal.returns
returns c =
    let left : c.retain.new.self.items ≡ filter (λ (id : ObjectId). not (id.0 == c.args.thread.0)) c.self.inside.live.items = filter_same _ _ _ (λ x b f' k. search rules) _ _ c.retain.ensures.filtered in
    let same : numbers c.retain.new.self.items ≡ others c.args.thread.0 (numbers c.self.inside.live.items) = ap numbers left ∙ numbers_others c.args.thread.0 c.self.inside.live.items in
    same ∙ ap (λ (x : List ℕ). others c.args.thread.0 x) c.self.view_is
