-- The command that words name.
use Rattle.std.specs.Prelude.{◌≡◌, ℕ, List, [], ◌∷◌, Bool, true, false, ◌||◌, ⊤, codes}
use Rattle.std.specs.Str.{bytes_eq}
use Rattle.jdwp_program.specs.declared.words.Words.{Words}
use Rattle.jdwp_program.specs.declared.words.Words.TheVariants.{ServeScript, Attach, Pair, Show, Check, Capture, Draw, Record, Version}

-- whether the word behind the program's name is that of a command that runs a plan: `attach` or `pair`
abbrev pub runs_plan : {S : Type 0} → (S → List ℕ) → List S → Bool
runs_plan text [] = false
runs_plan text (program ∷ []) = false
runs_plan text (program ∷ command ∷ others) = bytes_eq (text command) (codes "attach") || bytes_eq (text command) (codes "pair")

-- words that were read say such a command only where that is so
abbrev pub RunsPlanOnlyWhere : Bool → Words → Type 0
RunsPlanOnlyWhere named (Attach words) = named ≡ true
RunsPlanOnlyWhere named (Pair words) = named ≡ true
RunsPlanOnlyWhere named (ServeScript words) = ⊤
RunsPlanOnlyWhere named (Show file) = ⊤
RunsPlanOnlyWhere named (Check file) = ⊤
RunsPlanOnlyWhere named (Draw drawing) = ⊤
RunsPlanOnlyWhere named (Capture file) = ⊤
RunsPlanOnlyWhere named (Record words) = ⊤
RunsPlanOnlyWhere named Version = ⊤
