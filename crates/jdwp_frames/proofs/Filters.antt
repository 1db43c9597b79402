-- What filters, one after the other, keep.
use Rattle.std.proofs.Common.{◌≡◌, ◌∙◌, Bool, true, false, cond, ◌&&◌, List, [], ◌∷◌, Option, Some, None, refl, ap}
use Rattle.std.specs.List.{filter, list_all}
use Rattle.jdwp_value.specs.declared.id.ObjectId.{ObjectId}
use Rattle.jdwp_layout.specs.declared.answer.Answer.{Answer}
use Rattle.jdwp_action.specs.Actions.{Command}
use Rattle.jdwp_debugger.specs.Debuggers.{Debugger}
use Rattle.jdwp_frames.specs.Frames.{Call, is_left, keeps, kept_by, KeepsWhatEachKeeps, lasts_at}

-- what passes both tests passes them one after the other
pub filter-filter : {X : Type 0} (p q : X → Bool) (xs : List X) → filter q (filter p xs) ≡ filter (λ x. p x && q x) xs
filter-filter p q [] = refl
filter-filter p q (x ∷ xs) = elim (p x) as (λ b. filter q (cond b (x ∷ filter p xs) (filter p xs)) ≡ cond (b && q x) (x ∷ filter (λ y. p y && q y) xs) (filter (λ y. p y && q y) xs)) [
  | true ↦ elim (q x) as (λ b. cond b (x ∷ filter q (filter p xs)) (filter q (filter p xs)) ≡ cond b (x ∷ filter (λ y. p y && q y) xs) (filter (λ y. p y && q y) xs)) [
    | true ↦ ap (λ ys. x ∷ ys) (filter-filter p q xs)
    | false ↦ filter-filter p q xs
  ]
  | false ↦ filter-filter p q xs
]

filter-all : {X : Type 0} (xs : List X) → xs ≡ filter (λ _. true) xs
filter-all [] = refl
filter-all (x ∷ xs) = ap (λ ys. x ∷ ys) (filter-all xs)

-- what a call keeps
by-call : (asked : Option Command) (d : Debugger) (kept : List (ObjectId × Answer)) → kept_by asked d kept ≡ filter (keeps asked d) kept
by-call None d kept = refl
by-call (Some c) d kept = filter-filter (is_left c) (lasts_at d) kept

pub keeps-what-each-keeps : KeepsWhatEachKeeps
keeps-what-each-keeps [] kept = filter-all kept
keeps-what-each-keeps (call ∷ calls) kept =
    let all : ObjectId × Answer → Bool = λ frames. list_all (λ (c : Call). keeps c.asked c.left frames) calls in
    keeps-what-each-keeps calls (kept_by call.asked call.left kept)
    ∙ (ap (filter all) (by-call call.asked call.left kept) ∙ filter-filter (keeps call.asked call.left) all kept)
