use Rattle.std.proofs.Common.{◌≡◌, subst, arith, ℕ, length}
use Rattle.levels.specs.Levels.{Risen, running}
use Rattle.levels.proofs.Rising.{none-runs}
use Rattle.levels.proofs.moves.rise.Goals as goal

pub returns-clause-visits : goal.returns-clause-visits
returns-clause-visits c =
    let i = c.loop-rank.invariant in
    let es = c.args.lent.now.entries.now.list in
    let end : c.loop-rank.rank ≡ length c.args.order.now.list = omega arith in
    let risen = subst (λ (p : ℕ). Risen c.args.from c.args.level p es c.args.order.now.list c.loop-rank.lent.entries.now.list c.loop-rank.order.list) end i.0 in
    let none : running c.loop-rank.lent.entries.now.list ≡ 0 = none-runs c.args.from c.args.level es c.loop-rank.lent.entries.now.list c.args.order.now.list c.loop-rank.order.list c.requires.linked risen in
    omega arith
