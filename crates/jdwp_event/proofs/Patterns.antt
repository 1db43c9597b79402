-- Names that are compared byte by byte.
use Rattle.std.proofs.Common.{◌≡◌, ℕ, ◌+◌, ◌-◌, ◌<◌, ◌≤◌, true, ◌&&◌, List, length, map, take, drop, get_or, refl, arith, nat_eq, length-drop}
use Rattle.std.specs.Prelude.{nat_le}
use Rattle.std.specs.Str.{bytes_eq}
use Rattle.std.specs.List.{take-map, drop-map}
use Rattle.std.proofs.lemmas.List.{drop_more, take_all, length-map}
use Rattle.std.proofs.lemmas.Bool.Decides.{nat_tests}
use Rattle.jdwp_event.specs.Filters.{dotted, begins_in, ends_in}

pub same_step : (name text : List ℕ) (i : ℕ) → i < length name → i < length text
    → bytes_eq (map dotted (drop i name)) (drop i text) ≡ (nat_eq (dotted (get_or name i 0)) (get_or text i 0) && bytes_eq (map dotted (drop (i + 1) name)) (drop (i + 1) text))
same_step name text i lt lu = rw (drop_more name i 0 lt, drop_more text i 0 lu) refl

pub begins_step : (front name : List ℕ) → bytes_eq (map dotted (take (length front) name)) front ≡ begins_in front (map dotted name)
begins_step front name = rw (take-map dotted (length front) name) refl

-- what is left when the front of a list is dropped, cut at its own length
rest_of : (name : List ℕ) (k n : ℕ) → length name ≤ n + k → take n (drop k name) ≡ drop k name
rest_of name k n le = take_all n (drop k name) (omega (arith, length-drop k name))

ends_by : (back name : List ℕ) (k : ℕ) → length (map dotted name) - length back ≡ k → length back ≤ length (map dotted name) → bytes_eq (map dotted (drop k name)) back ≡ ends_in back (map dotted name)
ends_by back name k e le =
    let t : nat_le (length back) (length (map dotted name)) ≡ true = grind (arith, nat_tests) in
    rw (t, e, drop-map dotted k name) refl

pub ends_step : (back name : List ℕ) → length back ≤ length name
    → bytes_eq (map dotted (take (length name - (length name - length back)) (drop (length name - length back) name))) back ≡ ends_in back (map dotted name)
ends_step back name le =
    let e = rest_of name (length name - length back) (length name - (length name - length back)) (omega arith) in
    let n : length (map dotted name) ≡ length name = length-map name dotted in
    rw e (ends_by back name (length name - length back) (omega arith) (omega arith))
