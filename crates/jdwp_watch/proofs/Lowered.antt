-- The commands that wait, and whom they resume.
use Rattle.std.proofs.Common.{◌≡◌, ℕ, zero, suc, ◌+◌, ◌<◌, ◌≤◌, Bool, true, false, cond, List, [], ◌∷◌, ◌++◌, length, drop, Option, refl, sym, ap, ◌∙◌, add-one, zero-add, arith}
use Rattle.std.proofs.lemmas.List.Recursion.{is_count_by}
use Rattle.std.proofs.lemmas.List.{drop-append-le, length-drop, length-map, length_push}
use Rattle.std.specs.Prelude.{count_by}
use Rattle.jdwp_action.specs.Actions as actions
use Rattle.jdwp_action.specs.Actions.{Action, Command, about, action_of, thread_of}
use Rattle.jdwp_action.specs.AboutLaws.{about_action}
use Rattle.jdwp_mirror.specs.CommandKinds.{kind_of}
use Rattle.jdwp_event.specs.Told.{id_found}
use Rattle.jdwp_apart.specs.Messages.{lowers, one_if}
use Rattle.jdwp_apart.specs.Watch.{all_lower, rest}
use Rattle.jdwp_watch.specs.declared.waiting.Lowering.{Lowering}
use Rattle.jdwp_watch.specs.Lowerings.{AreWaiting, lowered_by, lowering_by, lowering_of, lowering_of_command, lowerings_of}

-- ---- whom a command resumes

lowering-about : (a : Action) → lowering_by (kind_of a) (id_found (about a)) ≡ lowering_of a
lowering-about (actions.ResumeThread u) = refl
lowering-about a = refl

pub lowering-found : (c : Command) → lowering_by (kind_of (action_of c)) (id_found (thread_of c)) ≡ lowering_of (action_of c)
lowering-found c = ap (λ (t : Option ℕ). lowering_by (kind_of (action_of c)) (id_found t)) (sym (about_action c)) ∙ lowering-about (action_of c)

pub lowers-one : (a : Action) (t : ℕ) → lowers a t ≡ one_if (lowered_by t (lowering_of a))
lowers-one (actions.ResumeThread u) t = refl
lowers-one a t = refl

-- so many of those that wait resume a thread
lowered_in : ℕ → List Lowering → ℕ
lowered_in t [] = 0
lowered_in t (l ∷ ls) = one_if (lowered_by t l) + lowered_in t ls

one-more : (b : Bool) (n : ℕ) → one_if b + n ≡ cond b (1 + n) n
one-more true n = refl
one-more false n = zero-add n

counted-in : (t : ℕ) (ls : List Lowering) → lowered_in t ls ≡ count_by (lowered_by t) ls
unfolding lowered_in
counted-in t ls = is_count_by (lowered_in t) (lowered_by t) refl (λ l others. one-more (lowered_by t l) (lowered_in t others)) ls

lower-in : (cs : List Command) (t : ℕ) → lowered_in t (lowerings_of cs) ≡ all_lower cs t
unfolding lowered_in
lower-in [] t = refl
lower-in (c ∷ cs) t = ap (λ (n : ℕ). one_if (lowered_by t (lowering_of (action_of c))) + n) (lower-in cs t) ∙ ap (λ (n : ℕ). n + all_lower cs t) (sym (lowers-one (action_of c) t))

pub all-lowered : (cs : List Command) (t : ℕ) → count_by (lowered_by t) (lowerings_of cs) ≡ all_lower cs t
all-lowered cs t = sym (counted-in t (lowerings_of cs)) ∙ lower-in cs t

-- ---- asked

pub pushed-pending : (n : ℕ) (asked : List Command) (c : Command) → n ≤ length asked → drop n (asked ++ c ∷ []) ≡ drop n asked ++ c ∷ []
pushed-pending n asked c le = drop-append-le n asked (c ∷ []) le

lowerings-pushed : (cs : List Command) (c : Command) → lowerings_of (cs ++ c ∷ []) ≡ lowerings_of cs ++ lowering_of_command c ∷ []
lowerings-pushed [] c = refl
lowerings-pushed (x ∷ cs) c = ap (λ (ls : List Lowering). lowering_of_command x ∷ ls) (lowerings-pushed cs c)

pub pushed-waiting : (n : ℕ) (asked new : List Command) (kept later : List Lowering) (c : Command) (l : Lowering) → AreWaiting n asked kept → l ≡ lowering_of_command c → new ≡ asked ++ c ∷ [] → later ≡ kept ++ l ∷ [] → AreWaiting n new later
pushed-waiting n asked new kept later c l h is more grown =
    let longer = length_push asked c in
    let size = ap length more in
    let asks = h.asks in record {
      asks = omega arith;
      kept =
          grown ∙ (ap (λ (x : Lowering). kept ++ x ∷ []) is ∙ (ap (λ (ls : List Lowering). ls ++ lowering_of_command c ∷ []) h.kept ∙ (sym (lowerings-pushed (drop n asked) c)
          ∙ (ap lowerings_of (sym (pushed-pending n asked c h.asks)) ∙ ap (λ (cs : List Command). lowerings_of (drop n cs)) (sym more)))));
    }

-- ---- answered

first-gone : (cs : List Command) (l : Lowering) (ls : List Lowering) → l ∷ ls ≡ lowerings_of cs → ls ≡ lowerings_of (rest cs)
first-gone [] l ls e = cc
first-gone (c ∷ cs) l ls e = cc

none-left : (cs : List Command) → lowerings_of cs ≡ [] → cs ≡ []
none-left [] e = refl
none-left (c ∷ cs) e = cc

some-left : (cs : List Command) (l : Lowering) (ls : List Lowering) → l ∷ ls ≡ lowerings_of cs → 0 < length cs
some-left [] l ls e = cc
some-left (c ∷ cs) l ls e = omega arith

dropped-suc : (n : ℕ) (cs : List Command) → drop (suc n) cs ≡ rest (drop n cs)
dropped-suc zero [] = refl
dropped-suc zero (c ∷ cs) = refl
dropped-suc (suc n) [] = refl
dropped-suc (suc n) (c ∷ cs) = dropped-suc n cs

dropped-rest : (n : ℕ) (cs : List Command) → drop (n + 1) cs ≡ rest (drop n cs)
dropped-rest n cs = ap (λ (m : ℕ). drop m cs) (add-one n) ∙ dropped-suc n cs

pub popped-waiting : (n later : ℕ) (asked : List Command) (kept left : List Lowering) (l : Lowering) → AreWaiting n asked kept → kept ≡ l ∷ left → later ≡ n + 1 → AreWaiting later asked left
popped-waiting n later asked kept left l h e is =
    let first : l ∷ left ≡ lowerings_of (drop n asked) = sym e ∙ h.kept in
    let some = some-left (drop n asked) l left first in
    let size = length-drop n asked in record {
      asks = omega arith;
      kept = first-gone (drop n asked) l left first ∙ ap lowerings_of (sym (ap (λ (m : ℕ). drop m asked) is ∙ dropped-rest n asked));
    }

pub popped-pending : (n later : ℕ) (asked : List Command) → later ≡ n + 1 → drop later asked ≡ rest (drop n asked)
popped-pending n later asked is = ap (λ (m : ℕ). drop m asked) is ∙ dropped-rest n asked

pub empty-pending : (n : ℕ) (asked : List Command) (kept : List Lowering) → AreWaiting n asked kept → kept ≡ [] → drop n asked ≡ rest (drop n asked)
empty-pending n asked kept h e = let none = none-left (drop n asked) (sym h.kept ∙ e) in none ∙ ap rest (sym none)

pub waiting-length : (n : ℕ) (asked : List Command) (kept : List Lowering) → AreWaiting n asked kept → length kept ≡ length (drop n asked)
waiting-length n asked kept h = ap length h.kept ∙ length-map (drop n asked) lowering_of_command
