use Rattle.std.proofs.Common.{◌≡◌, ◌<◌, ℕ, List, sym, subst, ap, ◌∙◌, ◌++◌, ◌∷◌, []}
use Rattle.std.specs.BTreeMap.{is_at}
use Rattle.std.specs.List.{All}
use Rattle.std.specs.Map.{keys_of}
use Rattle.std.specs.Ordering.{nat_cmp}
use Rattle.std.specs.Set.{remove_key}
use Rattle.std.proofs.lemmas.List.Elements.{All-from_recursion, recursion_from_All}
use Rattle.jdwp_mirror.specs.Rows.{Row, breakpoints_in}
use Rattle.jdwp_mirror.proofs.NumberingLemmas.{inserted-last}
use Rattle.jdwp_mirror.proofs.RowLemmas.{marks-all, marks-push, marks-undone}
use Rattle.jdwp_mirror.proofs.row.Row.push.Goals as goal

pub mark-requires : goal.mark-requires
mark-requires c =
    let row = c.self.inside.entries.entries in
    let n = c.in_ok-number.number in
    let above = marks-all (λ k. k < n) row (recursion_from_All _ (keys_of row) c.in_ok-number.ensures.above) in
    subst (λ (ks : List ℕ). All (λ k. k < n) ks) (sym c.self.invariant.marked) (All-from_recursion (λ k. k < n) (breakpoints_in row) above)

pub invariant_of-self-in-Ok : goal.invariant_of-self-in-Ok
invariant_of-self-in-Ok c =
    let row = c.self.inside.entries.entries in
    let n = c.in_ok-number.number in
    let r = c.args.request in
    let entries : c.insert.new.self.entries ≡ row ++ (n, r) ∷ [] = c.in-Ok.ensures.entries ∙ inserted-last row n r (recursion_from_All _ (keys_of row) c.in_ok-number.ensures.above) in
    record {
      ordered = c.in-Ok.ensures.ordered;
      marked = c.in_ok-mark.ensures.ok ∙ ap (λ (ks : List ℕ). ks ++ breakpoints_in ((n, r) ∷ [])) c.self.invariant.marked ∙ sym (ap breakpoints_in entries ∙ marks-push row n r);
    }

pub returns-in-Ok-clause-ok : goal.returns-in-Ok-clause-ok
returns-in-Ok-clause-ok c =
    let row = c.self.inside.entries.entries in
    let n = c.in_ok-number.number in
    let r = c.args.request in
    c.in-Ok.ensures.entries ∙ inserted-last row n r (recursion_from_All _ (keys_of row) c.in_ok-number.ensures.above) ∙ ap (λ (xs : Row). xs ++ (n, r) ∷ []) c.self.view_is

pub invariant_of-self-in-Err : goal.invariant_of-self-in-Err
invariant_of-self-in-Err c =
    let row = c.self.inside.entries.entries in
    let n = c.in_ok-number.number in
    let r = c.args.request in
    let ks = breakpoints_in row in
    let above = marks-all (λ k. k < n) row (recursion_from_All _ (keys_of row) c.in_ok-number.ensures.above) in
    let marked : c.mark.new.breakpoints.keys ≡ ks ++ breakpoints_in ((n, r) ∷ []) = c.in_ok-mark.ensures.ok ∙ ap (λ (ms : List ℕ). ms ++ breakpoints_in ((n, r) ∷ [])) c.self.invariant.marked in
    record {
      ordered = c.in-Err.ensures.ordered;
      marked = c.remove.ensures.keys ∙ (ap (remove_key (is_at (nat_cmp n))) marked ∙ marks-undone ks n r above) ∙ sym (ap breakpoints_in c.in-Err.ensures.err);
    }
