-- Lines one after the other.
use Rattle.std.proofs.Common.{◌≡◌, ℕ, ◌+◌, ◌<◌, ◌≤◌, List, [], ◌∷◌, ◌++◌, length, map, take, drop, get_or, false, codes, Result, Ok, Err, refl, sym, ap, ◌∙◌, arith}
use Rattle.std.specs.Result.{IfErr, IsErrAnd}
use Rattle.std.specs.Str.{bytes_eq}
use Rattle.std.proofs.lemmas.List.{drop_more, take_more, map-append, take_all, take-append-drop}
use Rattle.jdwp_plan.specs.declared.plan_fault.PlanFault.{PlanFault}
use Rattle.jdwp_plan.specs.declared.plan_fault.PlanFault.TheVariants.{NoMemory}
use Rattle.jdwp_plan.specs.declared.plan_fault.Stop.{Stop}
use Rattle.jdwp_plan.specs.declared.plan_line.PlanLine.{PlanLine}
use Rattle.jdwp_plan.specs.Lines.{Said, line_of, stop}
use Rattle.jdwp_plan.specs.Meanings.{said_by}
use Rattle.jdwp_plan.specs.Plans.{ComesBehind, is_written, read_well}

-- a line more that reads
pub one_more : (texts : List (List ℕ)) (k : ℕ) (text : List ℕ) (plan : List PlanLine) (line : PlanLine) → k < length texts → text ≡ get_or texts k text
    → line_of text ≡ Ok (said_by line) → map line_of (take k texts) ≡ map read_well (map said_by plan) → map line_of (take (k + 1) texts) ≡ map read_well (map said_by (plan ++ line ∷ []))
one_more texts k text plan line inside here read before =
    ap (λ (x : List (List ℕ)). map line_of x) (take_more texts k text inside ∙ ap (λ (x : List ℕ). take k texts ++ x ∷ []) (sym here))
    ∙ map-append line_of (take k texts) (text ∷ [])
    ∙ ap (λ (x : List (Result Said Stop)). x ++ line_of text ∷ []) before
    ∙ ap (λ (x : Result Said Stop). map read_well (map said_by plan) ++ x ∷ []) read
    ∙ sym (map-append read_well (map said_by plan) (said_by line ∷ []))
    ∙ ap (λ (x : List Said). map read_well x) (sym (map-append said_by plan (line ∷ [])))

-- a line behind lines that say what they say
pub one_behind : (texts : List (List ℕ)) (k : ℕ) (text : List ℕ) (before : List Said) → k < length texts → text ≡ get_or texts k text
    → map line_of (take k texts) ≡ map read_well before → ComesBehind texts before text
one_behind texts k text before inside here so_far =
    let at : drop k texts ≡ text ∷ drop (k + 1) texts = drop_more texts k text inside ∙ ap (λ (x : List ℕ). x ∷ drop (k + 1) texts) (sym here) in (
      map line_of (drop (k + 1) texts),
      ap (λ (x : List (List ℕ)). map line_of x) (sym (take-append-drop k texts) ∙ ap (λ (x : List (List ℕ)). take k texts ++ x) at)
          ∙ map-append line_of (take k texts) (text ∷ drop (k + 1) texts)
          ∙ ap (λ (x : List (Result Said Stop)). x ++ line_of text ∷ map line_of (drop (k + 1) texts)) so_far,
    )

-- all lines were read
pub all_read : (texts : List (List ℕ)) (k : ℕ) (plan : List Said) → length texts ≤ k → map line_of (take k texts) ≡ map read_well plan
    → map line_of texts ≡ map read_well plan
all_read texts k plan past before = ap (λ (x : List (List ℕ)). map line_of x) (sym (take_all k texts past)) ∙ before

-- a call that fails by want of memory
pub fails_so : {X : Type 0} (P : PlanFault → Type 0) (result : Result X PlanFault) → IsErrAnd result (λ fault. fault ≡ NoMemory) → P NoMemory → IfErr result P
fails_so P (Ok x) is told = absurd is
fails_so P (Err fault) is told = rw is told

-- a line that goes wrong, by its parts
pub wrong : (line : List ℕ) (s : Stop) → line_of line ≡ Err s → line_of line ≡ stop s.left s.expected
wrong line s is = is

-- the first line
pub first_line : (ls : List (List ℕ)) (n : ℕ) (line : List ℕ) → n ≡ 0 → n < length ls → line ≡ get_or ls n line → bytes_eq line (codes "plan 2") ≡ is_written ls
first_line [] n line first inside at = absurd (omega arith)
first_line (l ∷ ls) n line first inside at =
    let here : line ≡ get_or (l ∷ ls) 0 line = rw first at at in
    ap (λ (t : List ℕ). bytes_eq t (codes "plan 2")) here

pub no_line : (ls : List (List ℕ)) → length ls ≡ 0 → false ≡ is_written ls
no_line [] none = refl
no_line (l ∷ ls) none = absurd (omega arith)
