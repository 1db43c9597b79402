-- Lines one after the other.
use Rattle.std.proofs.Common.{◌≡◌, ℕ, ◌+◌, ◌<◌, ◌≤◌, Bool, true, false, ◌||◌, Bor, List, [], ◌∷◌, ◌++◌, length, map, take, drop, get_or, Result, Ok, Err, refl, sym, ap, ◌∙◌, if◌then◌else◌}
use Rattle.std.specs.List.{list_any}
use Rattle.std.specs.Result.{IfErr, IsErrAnd}
use Rattle.std.proofs.lemmas.List.{drop_more, take_more, map-append, take_all, take-append-drop}
use Rattle.jdwp_attach.specs.declared.plans.plan_fault.LineFault.{LineFault}
use Rattle.jdwp_attach.specs.declared.plans.plan_fault.LineFault.TheVariants.{Blank, Spacing}
use Rattle.jdwp_attach.specs.declared.plans.plan_fault.PlanFault.{PlanFault}
use Rattle.jdwp_attach.specs.declared.plans.plan_fault.PlanFault.TheVariants.{NoMemory}
use Rattle.jdwp_attach.specs.declared.plans.plan_fault.Refusal.{Refusal}
use Rattle.jdwp_attach.specs.declared.plans.plan_line.PlanLine.{PlanLine}
use Rattle.jdwp_attach.specs.declared.plans.reading.ProgramCommand.{ProgramCommand}
use Rattle.jdwp_attach.specs.declared.plans.reading.ProgramCommand.TheVariants as command
use Rattle.jdwp_attach.specs.Lines.{Said, for_attach, line_of, line_by, words_of, is_empty}
use Rattle.jdwp_attach.specs.PlanLines.{Gives, line_for, said_by, texts}
use Rattle.jdwp_attach.specs.Plans.{read_well}

-- a line more that reads
pub one_more : (says : List ℕ → Result Said LineFault) (texts : List (List ℕ)) (k : ℕ) (text : List ℕ) (plan : List PlanLine) (line : PlanLine) → k < length texts → text ≡ get_or texts k text
    → says text ≡ Ok (said_by line) → map says (take k texts) ≡ map read_well (map said_by plan) → map says (take (k + 1) texts) ≡ map read_well (map said_by (plan ++ line ∷ []))
one_more says texts k text plan line inside here read before =
    ap (λ (x : List (List ℕ)). map says x) (take_more texts k text inside ∙ ap (λ (x : List ℕ). take k texts ++ x ∷ []) (sym here))
    ∙ map-append says (take k texts) (text ∷ [])
    ∙ ap (λ (x : List (Result Said LineFault)). x ++ says text ∷ []) before
    ∙ ap (λ (x : Result Said LineFault). map read_well (map said_by plan) ++ x ∷ []) read
    ∙ sym (map-append read_well (map said_by plan) (said_by line ∷ []))
    ∙ ap (λ (x : List Said). map read_well x) (sym (map-append said_by plan (line ∷ [])))

-- a line behind lines that say what they say
pub one_behind : (says : List ℕ → Result Said LineFault) (texts : List (List ℕ)) (k : ℕ) (text : List ℕ) (before : List Said) → k < length texts → text ≡ get_or texts k text
    → map says (take k texts) ≡ map read_well before → map says texts ≡ map read_well before ++ says text ∷ map says (drop (k + 1) texts)
one_behind says texts k text before inside here so_far =
    let at : drop k texts ≡ text ∷ drop (k + 1) texts = drop_more texts k text inside ∙ ap (λ (x : List ℕ). x ∷ drop (k + 1) texts) (sym here) in
    ap (λ (x : List (List ℕ)). map says x) (sym (take-append-drop k texts) ∙ ap (λ (x : List (List ℕ)). take k texts ++ x) at)
    ∙ map-append says (take k texts) (text ∷ drop (k + 1) texts)
    ∙ ap (λ (x : List (Result Said LineFault)). x ++ says text ∷ map says (drop (k + 1) texts)) so_far

-- a line with a fault
pub one_faulty : (says : List ℕ → Result Said LineFault) (texts : List (List ℕ)) (k : ℕ) (text : List ℕ) (before : List Said) (fault : LineFault) → k < length texts → text ≡ get_or texts k text
    → says text ≡ Err fault → map says (take k texts) ≡ map read_well before → map says texts ≡ map read_well before ++ Err fault ∷ map says (drop (k + 1) texts)
one_faulty says texts k text before fault inside here read so_far =
    one_behind says texts k text before inside here so_far ∙ ap (λ (x : Result Said LineFault). map read_well before ++ x ∷ map says (drop (k + 1) texts)) read

-- all lines were read
pub all_read : (says : List ℕ → Result Said LineFault) (texts : List (List ℕ)) (k : ℕ) (plan : List Said) → length texts ≤ k → map says (take k texts) ≡ map read_well plan
    → map says texts ≡ map read_well plan
all_read says texts k plan past before = ap (λ (x : List (List ℕ)). map says x) (sym (take_all k texts past)) ∙ before

-- words by what stands in memory
pub any_empty : (words : List (Bor (List ℕ))) → list_any (λ word. is_empty word.now) words ≡ list_any is_empty (texts words)
any_empty [] = refl
any_empty (word ∷ words) = ap (λ b. is_empty word.now || b) (any_empty words)

-- a line with an empty word
pub misspaced : (line : List ℕ) → is_empty line ≡ false → list_any is_empty (words_of line) ≡ true → line_of line ≡ Err Spacing
misspaced line some empty = rw (some, empty) refl

-- a line with none
pub well_spaced : (line : List ℕ) (result : Result PlanLine Refusal) → is_empty line ≡ false → list_any is_empty (words_of line) ≡ false → Gives said_by result (line_by (words_of line)) → Gives said_by result (line_of line)
well_spaced line result some full read = rw (some, full) read

-- a line that reads is not empty
not_blank : (b : Bool) (rest : Result Said LineFault) (said : Said) → (if b then Err Blank else rest) ≡ Ok said → b ≡ false
not_blank true rest said read = absurd cc
not_blank false rest said read = refl

not_blank_for_attach : (b : Bool) (rest : Result Said LineFault) (said : Said) → for_attach (if b then Err Blank else rest) ≡ Ok said → b ≡ false
not_blank_for_attach true rest said read = absurd cc
not_blank_for_attach false rest said read = refl

pub read_is_not_empty : (c : ProgramCommand) (line : List ℕ) (said : Said) → line_for c line ≡ Ok said → is_empty line ≡ false
read_is_not_empty command.Pair line said read = not_blank (is_empty line) _ said read
read_is_not_empty command.Attach line said read = not_blank_for_attach (is_empty line) _ said read

-- a call that fails by want of memory
pub fails_so : {X : Type 0} (P : PlanFault → Type 0) (result : Result X PlanFault) → IsErrAnd result (λ fault. fault ≡ NoMemory) → P NoMemory → IfErr result P
fails_so P (Ok x) is told = absurd is
fails_so P (Err fault) is told = rw is told
