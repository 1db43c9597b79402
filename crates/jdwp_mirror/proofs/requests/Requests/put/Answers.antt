use Rattle.std.proofs.Common.{◌≡◌, ◌++◌, ◌∷◌, [], List, Option, Some, None, ℕ, ℤ, of_z, rules, sym, ap, to_z, w32, ◌∙◌}
use Rattle.std.specs.BTreeMap.{is_at}
use Rattle.std.specs.List.{filter}
use Rattle.std.specs.Map.{keys_of, lookup, values_of}
use Rattle.std.specs.Ordering.{int_cmp}
use Rattle.std.proofs.Math.Facts.{to_z-of_z}
use Rattle.std.proofs.lemmas.List.Elements.{recursion_from_All}
use Rattle.jdwp_mirror.specs.Mirror.{Kept, has_other_id}
use Rattle.jdwp_mirror.specs.Rows.{Row, number_in}
use Rattle.jdwp_mirror.proofs.RowLemmas.{apart-sorted}
use Rattle.jdwp_mirror.proofs.NamedLemmas.{numbered, put-anew, put-new, put-undone}
use Rattle.jdwp_mirror.proofs.requests.Requests.put.Goals as goal

pub invariant_of-self-in-Ok-Some : goal.invariant_of-self-in-Ok-Some
invariant_of-self-in-Ok-Some c =
    let i = c.self.inside in
    let same : to_z w32 (of_z w32 c.id-id.result) ≡ c.args.request.id = to_z-of_z {w = w32} (search rules) ∙ c.id-id.ensures in
    let n = c.in_ok-number.number in
    let r = c.args.request in
    let number = number_in i.numbers in
    let older : number r.id ≡ Some c.in-Ok-Some.older = ap number (sym same) ∙ sym c.in-Ok-Some.ensures.old ∙ c.in-Ok-Some.field-0-is in
    let put = put-anew i.row c.push.new.self c.remove.new.self number (number_in c.insert.new.self) c.in-Ok-Some.older n r (apart-sorted i.row c.in_ok-number.ensures.ordered) (recursion_from_All _ (keys_of i.row) c.in_ok-number.ensures.above) c.self.invariant older
    (λ q. c.in-Ok-Some.ensures.updates.0 q ∙ ap (λ (k : ℤ). numbered k (Some n) number q) same) c.in_ok-number.ensures.ok c.remove.ensures.left in
    put.named

pub returns-in-Ok-Some-clause-ok : goal.returns-in-Ok-Some-clause-ok
returns-in-Ok-Some-clause-ok c =
    let i = c.self.inside in
    let same : to_z w32 (of_z w32 c.id-id.result) ≡ c.args.request.id = to_z-of_z {w = w32} (search rules) ∙ c.id-id.ensures in
    let n = c.in_ok-number.number in
    let r = c.args.request in
    let number = number_in i.numbers in
    let older : number r.id ≡ Some c.in-Ok-Some.older = ap number (sym same) ∙ sym c.in-Ok-Some.ensures.old ∙ c.in-Ok-Some.field-0-is in
    let put = put-anew i.row c.push.new.self c.remove.new.self number (number_in c.insert.new.self) c.in-Ok-Some.older n r (apart-sorted i.row c.in_ok-number.ensures.ordered) (recursion_from_All _ (keys_of i.row) c.in_ok-number.ensures.above) c.self.invariant older
    (λ q. c.in-Ok-Some.ensures.updates.0 q ∙ ap (λ (k : ℤ). numbered k (Some n) number q) same) c.in_ok-number.ensures.ok c.remove.ensures.left in
    put.values ∙ ap (λ (rs : List Kept). filter (has_other_id r.id) rs ++ r ∷ []) c.self.view_is

pub invariant_of-self-in-Ok-None : goal.invariant_of-self-in-Ok-None
invariant_of-self-in-Ok-None c =
    let i = c.self.inside in
    let same : to_z w32 (of_z w32 c.id-id.result) ≡ c.args.request.id = to_z-of_z {w = w32} (search rules) ∙ c.id-id.ensures in
    let n = c.in_ok-number.number in
    let r = c.args.request in
    let number = number_in i.numbers in
    let none : number r.id ≡ None = ap number (sym same) ∙ sym c.in-Ok-None.ensures.old ∙ c.in-Ok-None.field-0-is in
    let put = put-new i.row c.push.new.self number (number_in c.insert.new.self) n r (recursion_from_All _ (keys_of i.row) c.in_ok-number.ensures.above) c.self.invariant none
    (λ q. c.in-Ok-None.ensures.updates.0 q ∙ ap (λ (k : ℤ). numbered k (Some n) number q) same) c.in_ok-number.ensures.ok in
    put.named

pub returns-in-Ok-None-clause-ok : goal.returns-in-Ok-None-clause-ok
returns-in-Ok-None-clause-ok c =
    let i = c.self.inside in
    let same : to_z w32 (of_z w32 c.id-id.result) ≡ c.args.request.id = to_z-of_z {w = w32} (search rules) ∙ c.id-id.ensures in
    let n = c.in_ok-number.number in
    let r = c.args.request in
    let number = number_in i.numbers in
    let none : number r.id ≡ None = ap number (sym same) ∙ sym c.in-Ok-None.ensures.old ∙ c.in-Ok-None.field-0-is in
    let put = put-new i.row c.push.new.self number (number_in c.insert.new.self) n r (recursion_from_All _ (keys_of i.row) c.in_ok-number.ensures.above) c.self.invariant none
    (λ q. c.in-Ok-None.ensures.updates.0 q ∙ ap (λ (k : ℤ). numbered k (Some n) number q) same) c.in_ok-number.ensures.ok in
    put.values ∙ ap (λ (rs : List Kept). filter (has_other_id r.id) rs ++ r ∷ []) c.self.view_is

pub invariant_of-self-in-Err : goal.invariant_of-self-in-Err
invariant_of-self-in-Err c =
    let i = c.self.inside in
    let n = c.in_ok-number.number in
    let undone = put-undone i.row c.push.new.self c.remove-in-Err.new.self (number_in i.numbers) (number_in c.insert.new.self) n c.args.request (recursion_from_All _ (keys_of i.row) c.in_ok-number.ensures.above) c.self.invariant
    (λ q. ap (λ (es : List (ℤ × ℕ)). lookup (is_at (int_cmp q)) es) c.in-Err.ensures.err) c.in_ok-number.ensures.ok c.remove-in-Err.ensures.left in
    undone.0

pub returns-in-Err-clause-err : goal.returns-in-Err-clause-err
returns-in-Err-clause-err c =
    let i = c.self.inside in
    let n = c.in_ok-number.number in
    let undone = put-undone i.row c.push.new.self c.remove-in-Err.new.self (number_in i.numbers) (number_in c.insert.new.self) n c.args.request (recursion_from_All _ (keys_of i.row) c.in_ok-number.ensures.above) c.self.invariant
    (λ q. ap (λ (es : List (ℤ × ℕ)). lookup (is_at (int_cmp q)) es) c.in-Err.ensures.err) c.in_ok-number.ensures.ok c.remove-in-Err.ensures.left in
    ap (λ (row : Row). values_of row) undone.1 ∙ c.self.view_is
