-- What a text is cut into.
use Rattle.std.proofs.Common.{◌≡◌, ℕ, ◌<◌, ◌==◌, true, false, List, Option, Some, None, Bor, refl, ap, arith}
use Rattle.std.proofs.lemmas.Bool.Decides.{nat_tests}
use Rattle.std.proofs.lemmas.Str.Pattern.{IsSplitOnceResult, split_once_first}
use Rattle.jdwp_plan.specs.Cuts.{behind, front, has}

module _ (c : ℕ) (ascii : c < 128) (text : List ℕ) (r : Option (Bor (List ℕ) × Bor (List ℕ))) (split : IsSplitOnceResult c text r) where
  found : (x : Bor (List ℕ) × Bor (List ℕ)) → r ≡ Some x → has c text ≡ true
  found x is = let (inside, fore, back) = rw is at (split_once_first c text r split ascii) in grind (arith, nat_tests)

  lacking : r ≡ None → has c text ≡ false
  lacking is = let none = rw is at (split_once_first c text r split ascii) in grind (arith, nat_tests)

  pub front_some : (x : Bor (List ℕ) × Bor (List ℕ)) → r ≡ Some x → x.0.now ≡ front c text
  front_some x is = let (inside, fore, back) = rw is at (split_once_first c text r split ascii) in rw (found x is) fore

  pub behind_some : (x : Bor (List ℕ) × Bor (List ℕ)) → r ≡ Some x → Some x.1.now ≡ behind c text
  behind_some x is = let (inside, fore, back) = rw is at (split_once_first c text r split ascii) in rw (found x is) (ap (λ (t : List ℕ). Some t) back)

  pub front_none : r ≡ None → text ≡ front c text
  front_none is = rw (lacking is) refl

  pub behind_none : r ≡ None → None ≡ behind c text
  behind_none is = rw (lacking is) refl
