use Rattle.std.proofs.Common.{◌≡◌, Option, Some, None, List, ℕ, ℤ, of_z, rules, sym, ap, to_z, w32, ◌∙◌}
use Rattle.std.proofs.Math.Facts.{to_z-of_z}
use Rattle.std.specs.List.{find}
use Rattle.std.specs.Map.{values_of}
use Rattle.std.specs.Option.{option_map}
use Rattle.jdwp_mirror.specs.Mirror.{Kept, is_no_kept_breakpoint}
use Rattle.jdwp_mirror.specs.Rows.{Row, is_breakpoint_at, number_in, request_at, without_first}
use Rattle.jdwp_mirror.proofs.RowLemmas.{apart-sorted, values-first}
use Rattle.jdwp_mirror.proofs.NamedLemmas.{first-none, first-removed, numbered}
use Rattle.jdwp_mirror.proofs.requests.Requests.remove_breakpoint.Goals as goal

pub invariant_of-self : goal.invariant_of-self
invariant_of-self c =
    let i = c.self.inside in
    let number = number_in i.numbers in
    let r = c.in-Some.request in
    let same : to_z w32 (of_z w32 c.id.result) ≡ r.id = to_z-of_z {w = w32} (search rules) ∙ c.id.ensures in
    let taken : Some r ≡ option_map request_at (find is_breakpoint_at i.row) = sym c.in-Some.is ∙ c.take_breakpoint.ensures.taken in
    first-removed i.row c.take_breakpoint.new.self number (number_in c.remove.new.self) r (apart-sorted i.row c.take_breakpoint.ensures.ordered) c.self.invariant taken c.take_breakpoint.ensures.left
    (λ q. c.remove.ensures.updates.0 q ∙ ap (λ (k : ℤ). numbered k None number q) same)

pub invariant_of-self-in_default : goal.invariant_of-self-in_default
invariant_of-self-in_default c =
    let i = c.self.inside in
    let none : None ≡ option_map request_at (find is_breakpoint_at i.row) = sym c.in_default.is ∙ c.take_breakpoint.ensures.taken in
    first-none i.row c.take_breakpoint.new.self (number_in i.numbers) (apart-sorted i.row c.take_breakpoint.ensures.ordered) c.self.invariant none c.take_breakpoint.ensures.left

pub returns-in-Some : goal.returns-in-Some
returns-in-Some c =
    let row = c.self.inside.row in
    ap (λ (xs : Row). values_of xs) c.take_breakpoint.ensures.left ∙ values-first row ∙ ap (without_first is_no_kept_breakpoint) c.self.view_is

pub returns-in_default : goal.returns-in_default
returns-in_default c =
    let row = c.self.inside.row in
    ap (λ (xs : Row). values_of xs) c.take_breakpoint.ensures.left ∙ values-first row ∙ ap (without_first is_no_kept_breakpoint) c.self.view_is
