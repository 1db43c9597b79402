use Rattle.std.proofs.Common.{◌≡◌, ℕ, ◌==◌, ◌||◌, List, [], ◌∷◌, map, refl, ap, arith}
use Rattle.std.specs.List.{list_any}
use Rattle.jdwp_layout.specs.Meanings.{Object}
use Rattle.jdwp_mirror.specs.Mirror.{begins_with_object}
use Rattle.jdwp_mirror.specs.Laws.{is_in}
use Rattle.jdwp_mirror.proofs.laws.forgets_ended_threads.Goals as goal

any-listed : (ts : List ℕ) (t : ℕ) → list_any (begins_with_object t) (map (λ (u : ℕ). Object u ∷ []) ts) ≡ is_in ts t
any-listed [] t = refl
any-listed (u ∷ ts) t = ap (λ b. (u == t) || b) (any-listed ts t)

pub returns-clause-lists : goal.returns-clause-lists
returns-clause-lists c =
    record {
      listed_stay = λ k x ts t count h. rw (any-listed ts t) (rw h refl);
      others_go = λ k x ts t count h. rw (any-listed ts t) (rw h refl);
      listed_are_held = λ k x ts t n before h. rw (any-listed ts t) (rw h (grind arith));
      exits = λ k x t count requests. (refl, refl);
      disposes = λ k x t count requests. (refl, refl);
    }
