use Rattle.std.proofs.Common.{ℤ, subst, drop, ◌+◌}
use Rattle.std.proofs.Math.Facts.{to_z-of_z}
use Rattle.jdwp_answer.specs.Lines.{BeginsAt}
use Rattle.jdwp_answer.proofs.LineLaws.{least_at, least_over}
use Rattle.jdwp_answer.proofs.method.LineTable.code_index_of.Goals as goal

pub loop-entry-preserved : goal.loop-entry-preserved
loop-entry-preserved c = λ r h.
    let items = c.args.self.now.lines.items in
    c.loop-entry.invariant r (least_at _ c.loop-entry.least items c.deref-entry-items.result.now c.loop-entry.entry-index _ r
    c.deref-entry-items.ensures.value c.loop-entry-test.true (c.sooner-least.ensures (drop (c.loop-entry.entry-index + 1) items) r h))

pub returns : goal.returns
returns c =
    let items = c.args.self.now.lines.items in
    subst (λ (z : ℤ). BeginsAt z items c.loop-entry.least) (to_z-of_z c.ranges.line)
    (c.loop-entry.invariant c.loop-entry.least (least_over _ c.loop-entry.least items c.deref-entry-items.result.now c.loop-entry.entry-index
    c.deref-entry-items.ensures.value c.loop-entry-test.false))
