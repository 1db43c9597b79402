-- Proofs about changes of what has an id in a list.
use Rattle.std.proofs.Common.{◌≡◌, ℕ, zero, suc, ◌+◌, ◌<◌, ◌==◌, Bool, true, false, List, [], ◌∷◌, ◌++◌, length, map, take, drop, get_or, slice_set, refl, ap, ◌∙◌, inl, inr, arith, if◌then◌else◌, Some}
use Rattle.std.proofs.lemmas.Bool.{eq-eqb}
use Rattle.std.proofs.lemmas.List.{map-append, take_more}
use Rattle.std.specs.List.{IsDistinct}
use Rattle.jdwp_script.specs.Parts.{StepPart, Call, Go, Return, Throwing, Prepare, Start, Again}
use Rattle.jdwp_script_machine.specs.LookUps.{changed, first_changed}
use Rattle.jdwp_script_machine.specs.States.{ThreadNow, ClassNow, State, thread_at}
use Rattle.jdwp_script_machine.specs.Steps.{after_step, alive, with_started, with_prepared, next_step, place_after, stepped}
use Rattle.jdwp_script_machine.specs.Sound.{thread_ids}
use Rattle.jdwp_script_machine.specs.StateLaws.{either}
use Rattle.jdwp_script_machine.specs.SoundLaws.{unchanged}

-- where no two have one id, the first that has it is the only one
pub first_is_all : {A : Type 0} (key : A → ℕ) (n : ℕ) (change : A → A) (xs : List A) → IsDistinct (λ (a b : ℕ). a == b) (map key xs) → first_changed key n change xs ≡ changed key n change xs
unfolding IsDistinct
first_is_all key n change [] distinct = refl
first_is_all key n change (x ∷ xs) distinct = elim (either (key x == n)) [
  | inl h ↦ rw (h, unchanged key change (key x) n h xs distinct.0) refl
  | inr h ↦ rw (h, first_is_all key n change xs distinct.1) refl
]

-- two changes at one place of a list, by what the tests on its id answer
swapped : {A : Type 0} (key : A → ℕ) (f g : A → A) → ((x : A) → key (f x) ≡ key x) → ((x : A) → key (g x) ≡ key x) → ((x : A) → f (g x) ≡ g (f x)) → (n t : ℕ) (x : A) (a b : Bool) → (key x == n) ≡ a → (key x == t) ≡ b
    → (if (key (if b then g x else x) == n) then f (if b then g x else x) else (if b then g x else x)) ≡ (if (key (if a then f x else x) == t) then g (if a then f x else x) else (if a then f x else x))
swapped key f g kf kg swap n t x true true p q =
    let p' : (key (g x) == n) ≡ true = ap (λ (m : ℕ). m == n) (kg x) ∙ p in
    let q' : (key (f x) == t) ≡ true = ap (λ (m : ℕ). m == t) (kf x) ∙ q in
    rw (p', q') (swap x)
swapped key f g kf kg swap n t x true false p q =
    let q' : (key (f x) == t) ≡ false = ap (λ (m : ℕ). m == t) (kf x) ∙ q in
    rw (p, q') refl
swapped key f g kf kg swap n t x false true p q =
    let p' : (key (g x) == n) ≡ false = ap (λ (m : ℕ). m == n) (kg x) ∙ p in
    rw (p', q) refl
swapped key f g kf kg swap n t x false false p q = rw (p, q) refl

-- two changes that keep ids, and of which it doesn't matter which comes first at one place
changes_swap : {A : Type 0} (key : A → ℕ) (f g : A → A) → ((x : A) → key (f x) ≡ key x) → ((x : A) → key (g x) ≡ key x) → ((x : A) → f (g x) ≡ g (f x)) → (n t : ℕ) (xs : List A)
    → changed key n f (changed key t g xs) ≡ changed key t g (changed key n f xs)
changes_swap key f g kf kg swap n t [] = refl
changes_swap key f g kf kg swap n t (x ∷ xs) = cc (swapped key f g kf kg swap n t x (key x == n) (key x == t) refl refl, changes_swap key f g kf kg swap n t xs)

-- A thread that makes a step may start another one after it, too.
pub made_then_started : (place : ℕ) (step : StepPart) (t : ℕ) (es : List ThreadNow) → IsDistinct (λ (a b : ℕ). a == b) (thread_ids es)
    → with_started step (first_changed (λ (e : ThreadNow). e.id) t (after_step place step) es) ≡ changed (λ (e : ThreadNow). e.id) t (after_step place step) (with_started step es)
made_then_started place (Start n) t es distinct =
    ap (λ xs. changed (λ (e : ThreadNow). e.id) n alive xs) (first_is_all (λ (e : ThreadNow). e.id) t (after_step place (Start n)) es distinct)
    ∙ changes_swap (λ (e : ThreadNow). e.id) alive (after_step place (Start n)) (λ e. refl) (λ e. refl) (λ e. refl) n t es
made_then_started place (Call c) t es distinct = first_is_all (λ (e : ThreadNow). e.id) t (after_step place (Call c)) es distinct
made_then_started place (Go i) t es distinct = first_is_all (λ (e : ThreadNow). e.id) t (after_step place (Go i)) es distinct
made_then_started place (Return v) t es distinct = first_is_all (λ (e : ThreadNow). e.id) t (after_step place (Return v)) es distinct
made_then_started place (Throwing x) t es distinct = first_is_all (λ (e : ThreadNow). e.id) t (after_step place (Throwing x)) es distinct
made_then_started place (Prepare c) t es distinct = first_is_all (λ (e : ThreadNow). e.id) t (after_step place (Prepare c)) es distinct
made_then_started place (Again k) t es distinct = first_is_all (λ (e : ThreadNow). e.id) t (after_step place (Again k)) es distinct

pub stepped_is : (s : State) (t place : ℕ) (e : ThreadNow) (step : StepPart) (threads : List ThreadNow) (classes : List ClassNow) → Some e ≡ thread_at s t → Some step ≡ next_step s.script e → place ≡ place_after s.script e
    → threads ≡ changed (λ (e : ThreadNow). e.id) t (after_step place step) (with_started step s.threads) → classes ≡ with_prepared step s.classes
    → record { script = s.script; threads = threads; classes = classes; made = s.made; profile = s.profile } ≡ stepped s t
stepped_is s t place e step threads classes found next on p q = rw (← found, ← next, p, q, on) refl

-- ---- what is written at a place

-- what is written there means the same
pub put_back : {X A : Type 0} (f : X → A) (xs : List X) (i : ℕ) (y d : X) → i < length xs → f y ≡ f (get_or xs i d) → map f (slice_set xs i y) ≡ map f xs
put_back f [] i y d lt same = absurd (omega arith)
put_back f (x ∷ xs) zero y d lt same = ap (λ z. z ∷ map f xs) same
put_back f (x ∷ xs) (suc i) y d lt same = ap (λ zs. f x ∷ zs) (put_back f xs i y d (omega arith) same)

-- the change is written at the first that has the id
pub put_first : {X A : Type 0} (f : X → A) (key : A → ℕ) (n : ℕ) (change : A → A) (xs : List X) (i : ℕ) (y d : X) → i < length xs → key (f (get_or xs i d)) ≡ n → f y ≡ change (f (get_or xs i d))
    → map f (slice_set xs i y) ≡ map f (take i xs) ++ first_changed key n change (map f (drop i xs))
put_first f key n change [] i y d lt there same = absurd (omega arith)
put_first f key n change (x ∷ xs) zero y d lt there same = rw (eq-eqb (key (f x)) n there, same) refl
put_first f key n change (x ∷ xs) (suc i) y d lt there same = ap (λ zs. f x ∷ zs) (put_first f key n change xs i y d (omega arith) there same)

-- ---- what is listed one by one

-- one more at the end of a list
pub pushed : {X Y B A : Type 0} (f : X → A) (g : B → A) (h : Y → B) (xs zs : List X) (ys : List Y) (i : ℕ) (x : X) (d : Y) → i < length ys → map f xs ≡ map g (map h (take i ys)) → f x ≡ g (h (get_or ys i d)) → zs ≡ xs ++ x ∷ []
    → map f zs ≡ map g (map h (take (i + 1) ys))
pushed f g h xs zs ys i x d lt before here all =
    rw (all, take_more ys i d lt, map-append f xs (x ∷ []), map-append h (take i ys) (get_or ys i d ∷ []), map-append g (map h (take i ys)) (h (get_or ys i d) ∷ []), before, here) refl
