use Rattle.std.proofs.Common.{◌≡◌, ◌≤◌, ◌==◌, ◌∙◌, ap, sym, subst, arith, map, nat_lt, false}
use Rattle.std.specs.List.{All, list_any}
use Rattle.levels.specs.Counts.{Counts}
use Rattle.levels.specs.Levels.{above, count_at}
use Rattle.levels.specs.declared.order.Rank.{Rank}
use Rattle.levels.proofs.Limits.{limit-first, limit-empty}
use Rattle.levels.proofs.counts.Counts.is_at_limit.Goals as goal

pub returns-then-self-gt0 : goal.returns-then-self-gt0
returns-then-self-gt0 c =
    let i = c.self.inside in
    let most : All (λ n. n ≤ c.args.limit) (map (count_at i.base) i.entries.list) = subst (λ (x : Counts). All (λ n. n ≤ c.args.limit) x.counts) (sym c.self.view_is) c.requires.most in
    ap (λ n. n == c.args.limit) (c.above.ensures ∙ ap (λ (x : Rank). above i.base x.level) c.first_untold.ensures)
    ∙ limit-first i.base i.suspended c.args.limit i.entries.list i.order.list c.self.invariant c.requires.positive most c.if-self-gt0.true
    ∙ ap (λ (x : Counts). list_any (λ n. n == c.args.limit) x.counts) c.self.view_is

pub returns-else-self-gt0 : goal.returns-else-self-gt0
returns-else-self-gt0 c =
    let i = c.self.inside in
    let none : i.suspended ≡ 0 = omega arith in
    let is : nat_lt 0 i.suspended ≡ false = ap (nat_lt 0) none in
    is ∙ sym (limit-empty i.base i.suspended c.args.limit i.entries.list i.order.list c.self.invariant c.requires.positive none)
    ∙ ap (λ (x : Counts). list_any (λ n. n == c.args.limit) x.counts) c.self.view_is
