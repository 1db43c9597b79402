use Rattle.std.proofs.Common.{◌≡◌, ◌<◌, ◌≤◌, ◌==◌, ◌∙◌, ap, sym, inl, inr, arith, nat_le, not, true, false}
use Rattle.std.proofs.lemmas.Bool.{cases_lt}
use Rattle.std.proofs.lemmas.Bool.Decides.{nat_tests}
use Rattle.std.specs.List.{list_any}
use Rattle.levels.specs.Counts.{Counts}
use Rattle.levels.proofs.Limits.{all-suspended, one-runs}
use Rattle.levels.proofs.counts.Counts.are_all_suspended.Goals as goal

pub returns : goal.returns
returns c =
    let i = c.self.inside in
    let of = ap (λ (x : Counts). not (list_any (λ n. n == 0) x.counts)) c.self.view_is in
    elim (cases_lt i.suspended c.len.result) [
      | inl less ↦
          let no : nat_le c.len.result i.suspended ≡ false = grind (arith, nat_tests) in
          no ∙ sym (ap not (one-runs i.base i.suspended i.entries.list i.order.list c.self.invariant (omega (arith, less, c.len.ensures)))) ∙ of
      | inr more ↦
          let yes : nat_le c.len.result i.suspended ≡ true = grind (arith, nat_tests) in
          yes ∙ sym (ap not (all-suspended i.base i.suspended i.entries.list i.order.list c.self.invariant (omega (arith, more, c.len.ensures)))) ∙ of
    ]
