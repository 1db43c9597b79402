-- A class that no class of the script stands above reaches itself alone.
use Rattle.std.proofs.Common.{◌≡◌, ℕ, zero, suc, ◌==◌, not, Bool, true, false, List, [], ◌∷◌, length, filter, Option, Some, None, refl, sym, ap, ◌∙◌, if◌then◌else◌}
use Rattle.std.proofs.lemmas.Bool.{eqb-true, eq-eqb, eqb-false, ne_eqb, false≢true, and_parts}
use Rattle.std.proofs.lemmas.List.{nil_from_length}
use Rattle.std.proofs.lemmas.List.Elements.{filter_agree}
use Rattle.jdwp_script.specs.Parts.{ClassPart, ScriptPart}
use Rattle.jdwp_script_machine.specs.LookUps.{with_id, is_some}
use Rattle.jdwp_script_machine.specs.Sites.{class_in, class_above, reaches_within, reached}
use Rattle.jdwp_script_machine.proofs.Sets.{or_none}
use Rattle.jdwp_script_machine.specs.Layers.{class_ids, stands_alone}

-- what is no class of the script reaches itself alone
apart : (script : ScriptPart) (k to from : ℕ) → class_in script from ≡ None → reaches_within script k to from ≡ (from == to)
apart script zero to from none = refl
apart script (suc k) to from none = rw none (or_none (from == to))

above_none : (p : ℕ → Bool) (c : ClassPart) → c.interfaces ≡ [] → p c.superclass ≡ false → class_above p (Some c) ≡ false
above_none p c none fails = rw (none, fails) refl

-- so does a class without interfaces whose superclass is no class of the script
alone : (script : ScriptPart) (k to from : ℕ) (c : ClassPart) → class_in script from ≡ Some c → c.interfaces ≡ [] → class_in script c.superclass ≡ None → (c.superclass == to) ≡ false
    → reaches_within script k to from ≡ (from == to)
alone script zero to from c there none no_class other = refl
alone script (suc k) to from c there none no_class other =
    rw there (rw (above_none (reaches_within script k to) c none (apart script k to c.superclass no_class ∙ other)) (or_none (from == to)))

other_way : (a b : ℕ) → (a == b) ≡ false → (b == a) ≡ false
other_way a b e = ne_eqb b a (λ f. eqb-false a b e (sym f))

-- what was not found is not the first, and not found behind it
passed_by : (b : Bool) (c : ClassPart) (found : Option ClassPart) → (if b then Some c else found) ≡ None → (b ≡ false) × (found ≡ None)
passed_by true c found e = absurd (false≢true (sym (ap is_some e)))
passed_by false c found e = (refl, e)

-- tests that agree but at an id that no class has
agree_at_ids : (p q : ℕ → Bool) (id : ℕ) → ((to : ℕ) → (id == to) ≡ false → p to ≡ q to) → (cs : List ClassPart) → with_id (λ (c : ClassPart). c.id) id cs ≡ None → filter p (class_ids cs) ≡ filter q (class_ids cs)
agree_at_ids p q id same [] e = refl
agree_at_ids p q id same (c ∷ cs) e =
    let none = passed_by (c.id == id) c (with_id (λ (c : ClassPart). c.id) id cs) e in
    rw (same c.id (other_way c.id id none.0), agree_at_ids p q id same cs none.1) refl

not_some : (found : Option ClassPart) → not (is_some found) ≡ true → found ≡ None
not_some None e = refl
not_some (Some c) e = absurd (false≢true e)

reached_if : (script : ScriptPart) (from : ℕ) (found : Option ClassPart) → class_in script from ≡ found → stands_alone script found ≡ true → filter (λ id. from == id) (class_ids script.classes) ≡ reached script from
reached_if script from None there e =
    filter_agree (λ id. from == id) (λ to. reaches_within script (length script.classes) to from) (λ to. sym (apart script (length script.classes) to from there)) (class_ids script.classes)
reached_if script from (Some c) there e =
    let both = and_parts (length c.interfaces == 0) (not (is_some (class_in script c.superclass))) e in
    let none = nil_from_length c.interfaces (eqb-true (length c.interfaces) 0 both.0) in
    let no_class = not_some (class_in script c.superclass) both.1 in
    agree_at_ids (λ id. from == id) (λ to. reaches_within script (length script.classes) to from) c.superclass
    (λ to other. sym (alone script (length script.classes) to from c there none no_class other)) script.classes no_class

pub reached_alone : (script : ScriptPart) (from : ℕ) → stands_alone script (class_in script from) ≡ true → filter (λ id. from == id) (class_ids script.classes) ≡ reached script from
reached_alone script from e = reached_if script from (class_in script from) refl e

-- a class that was found stands alone where it has no interfaces and its superclass was not found
pub alone_if : (script : ScriptPart) (c : ClassPart) (found : Option ClassPart) (b : Bool) → Some c ≡ found → length c.interfaces ≡ 0 → b ≡ not (is_some (class_in script c.superclass)) → b ≡ stands_alone script found
alone_if script c found b there none e = rw (← there) (rw (eq-eqb (length c.interfaces) 0 none) e)
