use Rattle.std.proofs.Common.{◌≡◌, List, None, Some, ℤ, ap, of_z, subst, sym, to_z, w32, ◌∙◌}
use Rattle.std.proofs.Math.Facts.{to_z-of_z}
use Rattle.std.specs.List.{filter}
use Rattle.std.specs.Map.{values_of}
use Rattle.jdwp_mirror.specs.Mirror.{Kept, is_not_kept}
use Rattle.jdwp_mirror.specs.Rows.{AreNamed, Row, number_in}
use Rattle.jdwp_mirror.proofs.RowLemmas.{apart-sorted}
use Rattle.jdwp_mirror.proofs.NamedLemmas.{cleared, named-removed, numbered, uncleared, uncleared-none}
use Rattle.jdwp_mirror.proofs.requests.Requests.remove.Goals as goal

pub returns-in_default : goal.returns-in_default
returns-in_default c =
    let i = c.self.inside in
    let number = number_in i.numbers in
    let same : to_z w32 (of_z w32 c.args.id) ≡ c.args.id = to_z-of_z c.ranges.id in
    let none : number c.args.id ≡ None = ap number (sym same) ∙ sym c.number_of.ensures ∙ c.in_default.is in
    let stays = uncleared-none i.row number c.args.kind c.args.id c.self.invariant none in
    subst (λ (rs : List Kept). rs ≡ filter (is_not_kept c.args.kind c.args.id) rs) c.self.view_is (sym stays)

pub invariant_of-self : goal.invariant_of-self
invariant_of-self c =
    let i = c.self.inside in
    let n = c.in-Some.number in
    let number = number_in i.numbers in
    let after = number_in c.remove-then-has_kind.new.self in
    let same : to_z w32 (of_z w32 c.args.id) ≡ c.args.id = to_z-of_z c.ranges.id in
    let some : number c.args.id ≡ Some n = ap number (sym same) ∙ sym c.number_of.ensures ∙ c.in-Some.is in
    let named = named-removed i.row number after c.args.id n (apart-sorted i.row c.has_kind.ensures.ordered) c.self.invariant some (λ q. c.remove-then-has_kind.ensures.updates.0 q ∙ ap (λ (k : ℤ). numbered k None number q) same) in
    subst (λ (row : Row). AreNamed row after) (sym c.remove.ensures.left) named

pub returns-then-has_kind : goal.returns-then-has_kind
returns-then-has_kind c =
    let i = c.self.inside in
    let n = c.in-Some.number in
    let number = number_in i.numbers in
    let same : to_z w32 (of_z w32 c.args.id) ≡ c.args.id = to_z-of_z c.ranges.id in
    let some : number c.args.id ≡ Some n = ap number (sym same) ∙ sym c.number_of.ensures ∙ c.in-Some.is in
    let left = cleared i.row number c.args.kind c.args.id n (apart-sorted i.row c.has_kind.ensures.ordered) c.self.invariant some (sym c.has_kind.ensures.has ∙ c.if-has_kind.true) in
    ap (λ (row : Row). values_of row) c.remove.ensures.left ∙ left ∙ ap (filter (is_not_kept c.args.kind c.args.id)) c.self.view_is

pub returns-else-has_kind : goal.returns-else-has_kind
returns-else-has_kind c =
    let i = c.self.inside in
    let n = c.in-Some.number in
    let number = number_in i.numbers in
    let same : to_z w32 (of_z w32 c.args.id) ≡ c.args.id = to_z-of_z c.ranges.id in
    let some : number c.args.id ≡ Some n = ap number (sym same) ∙ sym c.number_of.ensures ∙ c.in-Some.is in
    let stays = uncleared i.row number c.args.kind c.args.id n (apart-sorted i.row c.has_kind.ensures.ordered) c.self.invariant some (sym c.has_kind.ensures.has ∙ c.if-has_kind.false) in
    subst (λ (rs : List Kept). rs ≡ filter (is_not_kept c.args.kind c.args.id) rs) c.self.view_is (sym stays)
