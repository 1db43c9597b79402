-- Commands as they are kept by their ids, and as they wait in the order asked.
use Rattle.std.proofs.Common.{◌≡◌, ◌∙◌, ℕ, ◌+◌, Bool, true, false, cond, ◌||◌, ◌++◌, List, [], ◌∷◌, Option, Some, None, drop, is_some, slice_get, sym, ap, refl, eqb, inl, inr}
use Rattle.std.proofs.lemmas.Bool.{cases_Bool, eqb-true, eq-eqb}
use Rattle.std.proofs.lemmas.List.{drop_more}
use Rattle.std.proofs.lemmas.Option.{get_or_from_slice_get, slice_get_within}
use Rattle.std.specs.List.{position_from}
use Rattle.std.specs.Map.{lookup, keys_of}
use Rattle.jdwp_debugger.specs.declared.pending.Asked as kept
use Rattle.jdwp_debugger.specs.Asking.{is_outstanding}
use Rattle.jdwp_debugger.specs.Debuggers.{Asked}
use Rattle.jdwp_debugger.specs.News.{has_id}
use Rattle.jdwp_debugger.specs.PendingKept.{asked_in, asked_of}

-- ---- looked up by an id

-- two numbers are equal in both orders
eqb_turned : (a b : ℕ) → eqb a b ≡ eqb b a
eqb_turned a b = elim (cases_Bool (eqb a b)) [
  | inl t ↦ t ∙ sym (eq-eqb b a (sym (eqb-true a b t)))
  | inr f ↦ elim (cases_Bool (eqb b a)) [
    | inl t ↦ eq-eqb a b (sym (eqb-true b a t)) ∙ sym t
    | inr g ↦ f ∙ sym g
  ]
]

pub any_step : {X : Type 0} (b : Bool) (x : X) (rest : Option X) (more : Bool) → is_some rest ≡ more → is_some (cond b (Some x) rest) ≡ (b || more)
any_step true x rest more e = refl
any_step false x rest more e = e

pub outstanding_is : (id : ℕ) (es : List (ℕ × kept.Asked)) → is_some (lookup (eqb id) es) ≡ is_outstanding (asked_in es) id
outstanding_is id [] = refl
outstanding_is id (e ∷ es) =
    any_step (eqb id e.0) e.1 (lookup (eqb id) es) (is_outstanding (asked_in es) id) (outstanding_is id es) ∙ ap (λ (b : Bool). b || is_outstanding (asked_in es) id) (eqb_turned id e.0)

pub place_is : (id i : ℕ) (es : List (ℕ × kept.Asked)) → position_from (eqb id) i (keys_of es) ≡ position_from (has_id id) i (asked_in es)
place_is id i [] = refl
place_is id i (e ∷ es) =
    ap (λ (r : Option ℕ). cond (eqb id e.0) (Some i) r) (place_is id (i + 1) es) ∙ ap (λ (b : Bool). cond b (Some i) (position_from (has_id id) (i + 1) (asked_in es))) (eqb_turned id e.0)

-- ---- one more

pub none_of : (r : Option kept.Asked) → is_some r ≡ false → r ≡ None
none_of None e = refl
none_of (Some x) e = absurd cc

pub asked_behind : (es : List (ℕ × kept.Asked)) (e : ℕ × kept.Asked) → asked_in (es ++ e ∷ []) ≡ asked_in es ++ asked_of e ∷ []
asked_behind [] e = refl
asked_behind (x ∷ es) e = ap (λ (ps : List Asked). asked_of x ∷ ps) (asked_behind es e)

-- ---- one by one

-- those from a place on are the one there, and those behind it
pub left_over : (ps : List Asked) (i : ℕ) (p : Asked) → slice_get ps i ≡ Some p → drop i ps ≡ p ∷ drop (i + 1) ps
left_over ps i p at = drop_more ps i p (slice_get_within ps i p at) ∙ ap (λ (x : Asked). x ∷ drop (i + 1) ps) (get_or_from_slice_get ps i p p at)
