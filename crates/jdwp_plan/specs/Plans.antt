-- Plans: lists of lines.
use Rattle.std.specs.Prelude.{◌≡◌, ◌⊎◌, ℕ, ◌+◌, ◌-◌, Bool, false, List, [], ◌∷◌, ◌++◌, length, map, Option, Result, Ok, Err, codes}
use Rattle.std.specs.Str.{bytes_eq}
use Rattle.jdwp_plan.specs.declared.plan_fault.Expected.{Expected}
use Rattle.jdwp_plan.specs.declared.plan_fault.Expected.TheVariants.{Command}
use Rattle.jdwp_plan.specs.declared.plan_fault.PlanFault.{PlanFault}
use Rattle.jdwp_plan.specs.declared.plan_fault.PlanFault.TheVariants as fault
use Rattle.jdwp_plan.specs.declared.plan_fault.Refusal.{Refusal}
use Rattle.jdwp_plan.specs.declared.plan_fault.Refusal.TheVariants as refusal
use Rattle.jdwp_plan.specs.declared.plan_fault.Stop.{Stop}
use Rattle.jdwp_plan.specs.declared.plan_line.PlanLine.{PlanLine}
use Rattle.jdwp_plan.specs.Commands.{HasNo}
use Rattle.jdwp_plan.specs.Lines.{Said, line_of, stop}
use Rattle.jdwp_plan.specs.Lines.Said.{Ask}
use Rattle.jdwp_plan.specs.Meanings.{said_by}

-- the first line is `plan 2`
abbrev pub is_written : List (List ℕ) → Bool
is_written [] = false
is_written (line ∷ lines) = bytes_eq line (codes "plan 2")

abbrev pub read_well : Said → Result Said Stop
read_well said = Ok said

-- each line says this
abbrev pub Says : List (List ℕ) → List Said → Type 0
Says lines plan = map line_of lines ≡ map read_well plan

-- a line asks a command of a name that none has
abbrev pub AsksNone : List ℕ → Type 0
AsksNone line = (name : List ℕ) × (text : Option (List ℕ)) × (line_of line ≡ Ok (Ask name text)) × HasNo name

-- A line goes wrong here, where this was expected; the name of a command stands behind `ask `.
abbrev pub GoesWrong : List ℕ → ℕ → Expected → Type 0
GoesWrong line place expected =
    ((left : ℕ) × (line_of line ≡ stop left expected) × (place ≡ length line - left)) ⊎ (AsksNone line × (place ≡ 4) × (expected ≡ Command))

-- these lines say this, and then comes this line
abbrev pub ComesBehind : List (List ℕ) → List Said → List ℕ → Type 0
ComesBehind lines before line = (after : List (Result Said Stop)) × (map line_of lines ≡ map read_well before ++ line_of line ∷ after)

-- The fault is that of the first line that has one: the lines before it say what they say. The first line has the number 1. Memory may be
-- wanting at a line before which no line has a fault.
abbrev pub IsFirstFault : List (List ℕ) → PlanFault → Type 0
IsFirstFault lines (fault.Line number place expected) =
    (before : List Said) × (line : List ℕ) × ComesBehind lines before line × (number ≡ length before + 1) × GoesWrong line place expected
IsFirstFault lines fault.NoMemory = (before : List Said) × (line : List ℕ) × ComesBehind lines before line

-- what was read of a line; want of memory says nothing
abbrev pub ReadsLine : List ℕ → Result PlanLine Refusal → Type 0
ReadsLine line (Ok read) = line_of line ≡ Ok (said_by read)
ReadsLine line (Err (refusal.Stop s)) = line_of line ≡ Err s
ReadsLine line (Err refusal.NoCommand) = AsksNone line
ReadsLine line (Err refusal.NoMemory) = Unit {0}

-- why a line has no own form: it asks a command of a name that none has, or memory was wanting
abbrev pub IsNoCommand : Said → Refusal → Type 0
IsNoCommand (Ask name text) refusal.NoCommand = HasNo name
IsNoCommand said refusal.NoMemory = Unit {0}
IsNoCommand said refusal = ⊥
