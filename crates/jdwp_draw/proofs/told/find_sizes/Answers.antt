use Rattle.std.proofs.Common.{ℕ, ◌∙◌, sym}
use Rattle.std.specs.BTreeMap.{get}
use Rattle.std.specs.Ordering.{nat_cmp}
use Rattle.jdwp_draw.proofs.ToldLemmas.{none_there, told_behind, told_here, told_nowhere}
use Rattle.jdwp_draw.proofs.told.find_sizes.Goals as goal

pub returns-then-is_some : goal.returns-then-is_some
returns-then-is_some c =
    told_here (λ (id : ℕ). get nat_cmp c.loop-message.asked id) c.args.messages.now c.loop-message.message-index c.message-item.result c.in_ok-sizes.sizes _ c.loop-message-test.true c.message-item.is
    (sym c.is_some.ensures ∙ c.if-is_some.true) c.in_ok-sizes.ensures.told c.loop-message.invariant

pub loop-message-preserved : goal.loop-message-preserved
loop-message-preserved c =
    let none = none_there c.in_ok-sizes.sizes (sym c.is_some.ensures ∙ c.if-is_some.false) in
    told_behind (λ (id : ℕ). get nat_cmp c.loop-message.asked id) (λ (id : ℕ). get nat_cmp c.told_sizes.new.asked id) c.args.messages.now c.loop-message.message-index c.message-item.result _ c.loop-message-test.true c.message-item.is
    (sym c.in_ok-sizes.ensures.told ∙ none) c.in_ok-sizes.ensures.waits c.loop-message.invariant

pub returns : goal.returns
returns c = told_nowhere (λ (id : ℕ). get nat_cmp c.loop-message.asked id) c.args.messages.now c.loop-message.message-index _ c.loop-message-test.false c.loop-message.invariant
