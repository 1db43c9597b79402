-- Why event requests are refused: step by step over the modifiers.
use Rattle.std.proofs.Common.{◌≡◌, ℕ, ◌+◌, ◌<◌, Bool, true, false, ◌||◌, List, length, map, drop, get_or, Option, Some, None, refl, sym, ap, ◌∙◌, add-one}
use Rattle.std.proofs.Math.Seq.{drop-cons}
use Rattle.std.specs.List.{list_any}
use Rattle.std.specs.Option.{is_some}
use Rattle.jdwp_wire.specs.declared.error_code.ErrorCode.{ErrorCode}
use Rattle.jdwp_event.specs.declared.modifier.Modifier.{Modifier}
use Rattle.jdwp_event.specs.ModifierMeanings.{modifier_meaning}
use Rattle.jdwp_machine.specs.Meanings.{Meaning}
use Rattle.jdwp_debuggee.specs.State.{Moment}
use Rattle.jdwp_debuggee.specs.Refusals.{modifier_refusal, modifiers_refusal, or_else}
use Rattle.jdwp_debuggee.specs.RefusalParts.{asks_machine}

-- ---- the modifiers, one after the other

pub passed_one : {S : Type 0} (m : Meaning S) (now : Moment S) (byte : ℕ) (xs : List Modifier) (i : ℕ) (x : Modifier) → i < length xs → x ≡ get_or xs i x
    → modifier_refusal m now byte (modifier_meaning x) ≡ None
    → modifiers_refusal m now byte (map modifier_meaning (drop i xs)) ≡ modifiers_refusal m now byte (map modifier_meaning (drop (i + 1) xs))
passed_one m now byte xs i x lt is none = rw (add-one, drop-cons xs i x, ← is, none) refl

pub refused_one : {S : Type 0} (m : Meaning S) (now : Moment S) (byte : ℕ) (xs : List Modifier) (i : ℕ) (x : Modifier) (e : ErrorCode) → i < length xs → x ≡ get_or xs i x
    → modifier_refusal m now byte (modifier_meaning x) ≡ Some e
    → modifiers_refusal m now byte (map modifier_meaning (drop i xs)) ≡ Some e
refused_one m now byte xs i x e lt is found = rw (drop-cons xs i x, ← is, found) refl

-- three tests that are passed leave the next refusal
pub passed_three : (a b c next : Option ErrorCode) → or_else a (or_else b c) ≡ None → or_else a (or_else b (or_else c next)) ≡ next
passed_three None None None next h = refl
passed_three None None (Some e) next h = absurd cc
passed_three None (Some e) c next h = absurd cc
passed_three (Some e) b c next h = absurd cc

-- the first that is refused is the answer, whatever comes next
pub refused_first : {S : Type 0} (m : Meaning S) (now : Moment S) (byte : ℕ) (xs : List Modifier) (i : ℕ) (x : Modifier) (r next : Option ErrorCode) → i < length xs → x ≡ get_or xs i x
    → r ≡ modifier_refusal m now byte (modifier_meaning x) → is_some r ≡ true
    → modifiers_refusal m now byte (map modifier_meaning (drop i xs)) ≡ modifiers_refusal m now byte (map modifier_meaning xs)
    → r ≡ or_else (modifiers_refusal m now byte (map modifier_meaning xs)) next
refused_first m now byte xs i x None next lt is found some same = absurd cc
refused_first m now byte xs i x (Some e) next lt is found some same =
    sym (ap (λ (o : Option ErrorCode). or_else o next) (sym same ∙ refused_one m now byte xs i x e lt is (sym found)))

or_true : (b : Bool) → (b || true) ≡ true
or_true true = refl
or_true false = refl

pub asked_later : (xs : List Modifier) (i : ℕ) (x : Modifier) → i < length xs → x ≡ get_or xs i x
    → list_any asks_machine (map modifier_meaning (drop (i + 1) xs)) ≡ true → list_any asks_machine (map modifier_meaning (drop i xs)) ≡ true
asked_later xs i x lt is later = let after = rw add-one at later in rw (drop-cons xs i x, after) (or_true _)

pub asked_here : (xs : List Modifier) (i : ℕ) (x : Modifier) → i < length xs → x ≡ get_or xs i x
    → asks_machine (modifier_meaning x) ≡ true → list_any asks_machine (map modifier_meaning (drop i xs)) ≡ true
asked_here xs i x lt is here = rw (drop-cons xs i x, ← is, here) refl

pub not_some : (r : Option ErrorCode) → is_some r ≡ false → r ≡ None
not_some None e = refl
not_some (Some x) e = absurd cc
