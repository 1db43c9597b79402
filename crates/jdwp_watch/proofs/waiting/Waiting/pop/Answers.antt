use Rattle.std.proofs.Common.{◌≡◌, ◌+◌, length, List, ap, ◌∙◌}
use Rattle.std.proofs.lemmas.List.{length_push}
use Rattle.jdwp_action.specs.Actions.{Command}
use Rattle.jdwp_apart.specs.Watch.{rest}
use Rattle.jdwp_watch.proofs.Lowered.{popped-pending, popped-waiting}
use Rattle.jdwp_watch.proofs.waiting.Waiting.pop.Goals as goal

pub invariant_of-self : goal.invariant_of-self
invariant_of-self c =
    let i = c.self.inside in
    let later : length c.push.new.self.items ≡ length i.answered.items + 1 = ap length c.push.ensures ∙ length_push i.answered.items _ in
    popped-waiting (length i.answered.items) (length c.push.new.self.items) i.asked.items i.lowerings.items c.pop_front.new.self.items c.in-Some.field-0 c.self.invariant c.in-Some.ensures.items later

pub returns-in-Some : goal.returns-in-Some
returns-in-Some c =
    let i = c.self.inside in
    let later : length c.push.new.self.items ≡ length i.answered.items + 1 = ap length c.push.ensures ∙ length_push i.answered.items _ in
    popped-pending (length i.answered.items) (length c.push.new.self.items) i.asked.items later ∙ ap (λ (cs : List Command). rest cs) c.self.view_is
