-- Plans: lists of lines.
use Rattle.std.specs.Prelude.{◌≡◌, ◌⊎◌, ℕ, ◌+◌, false, List, ◌∷◌, ◌++◌, length, map, Result, Ok, Err}
use Rattle.jdwp_attach.specs.declared.plans.plan_fault.LineFault.{LineFault}
use Rattle.jdwp_attach.specs.declared.plans.plan_fault.PlanFault.{PlanFault}
use Rattle.jdwp_attach.specs.declared.plans.plan_fault.PlanFault.TheVariants.{Line, NoMemory}
use Rattle.jdwp_attach.specs.Lines.{Said, attach_line_of, is_empty, line_of}

abbrev pub read_well : Said → Result Said LineFault
read_well said = Ok said

-- Each line says this, by what a line says.
abbrev pub SaysBy : (List ℕ → Result Said LineFault) → List (List ℕ) → List Said → Type 0
SaysBy says lines plan = map says lines ≡ map read_well plan

-- The fault is that of the first line that has one, by what a line says: the lines before it say what they say. The first line has the
-- number 1. Memory may be wanting at a line that is not empty, before which no line has a fault.
abbrev pub IsFirstFaultBy : (List ℕ → Result Said LineFault) → List (List ℕ) → PlanFault → Type 0
IsFirstFaultBy says lines (Line number fault) =
    (before : List Said) × (after : List (Result Said LineFault)) × (map says lines ≡ map read_well before ++ Err fault ∷ after)
    × (number ≡ length before + 1)
IsFirstFaultBy says lines NoMemory =
    (before : List Said) × (line : List ℕ) × (after : List (Result Said LineFault)) × (map says lines ≡ map read_well before ++ says line ∷ after)
    × (is_empty line ≡ false)

-- each line of a plan says this
abbrev pub Says : List (List ℕ) → List Said → Type 0
Says lines plan = SaysBy line_of lines plan

-- the fault of the first line that is none of a plan
abbrev pub IsFirstFault : List (List ℕ) → PlanFault → Type 0
IsFirstFault lines fault = IsFirstFaultBy line_of lines fault

-- the same of a plan of `attach`, of which no line is of `pair` alone
abbrev pub SaysForAttach : List (List ℕ) → List Said → Type 0
SaysForAttach lines plan = SaysBy attach_line_of lines plan

abbrev pub IsFirstFaultForAttach : List (List ℕ) → PlanFault → Type 0
IsFirstFaultForAttach lines fault = IsFirstFaultBy attach_line_of lines fault

-- Why no session began by a plan of `attach`: its first fault; or memory was wanting, also for a session by a plan that reads.
abbrev pub BeginsNoSession : List (List ℕ) → PlanFault → Type 0
BeginsNoSession lines fault = IsFirstFaultForAttach lines fault ⊎ ((fault ≡ NoMemory) × (plan : List Said) × SaysForAttach lines plan)
