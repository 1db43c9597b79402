-- Which files the words of the command line keep.
use Rattle.std.specs.Prelude.{◌≢◌, ℕ, List, Option, Some, None, ⊤}
use Rattle.std.specs.Borrow.{Bor}
use Rattle.jdwp_program.specs.declared.words.Words.{Words}
use Rattle.jdwp_program.specs.declared.words.Words.TheVariants.{ServeScript, Attach, Pair, Show, Check, Capture, Draw, Record, Version}
use Rattle.jdwp_program.specs.declared.words.Pair.{Pair as PairWords}
use Rattle.jdwp_program.specs.declared.words.Peer.{Peer}
use Rattle.jdwp_program.specs.declared.words.Peer.TheVariants as peer

-- the file that is written to is not this one, and not that which is read beside it
abbrev pub KeepsFile : Peer → List ℕ → Type 0
KeepsFile (peer.Files files) read = (files.to.now ≢ read) × (files.to.now ≢ files.from.now)
KeepsFile (peer.Port number) read = ⊤

-- the file that test cases are written to, if there is one, is not this one, and none of those of the other end
abbrev pub KeepsFromCases : Option (Bor (List ℕ)) → Peer → List ℕ → Type 0
KeepsFromCases None other read = ⊤
KeepsFromCases (Some cases) (peer.Files files) read = (cases.now ≢ read) × (cases.now ≢ files.from.now) × (cases.now ≢ files.to.now)
KeepsFromCases (Some cases) (peer.Port number) read = cases.now ≢ read

-- the file that test cases are written to, if there is one, is none of these two that are read
abbrev pub KeepsBoth : Option (Bor (List ℕ)) → List ℕ → List ℕ → Type 0
KeepsBoth None machine plan = ⊤
KeepsBoth (Some cases) machine plan = (cases.now ≢ machine) × (cases.now ≢ plan)

abbrev pub KeepsPair : PairWords → Type 0
KeepsPair words = KeepsBoth words.junit words.machine.now words.plan.now

-- the files that words write to are none of those that they read, and two, by name
abbrev pub KeepsFiles : Words → Type 0
KeepsFiles (ServeScript words) = KeepsFile words.peer words.machine.now
KeepsFiles (Attach words) = KeepsFile words.peer words.plan.now × KeepsFromCases words.junit words.peer words.plan.now
KeepsFiles (Pair words) = KeepsPair words
KeepsFiles (Show file) = ⊤
KeepsFiles (Check file) = ⊤
KeepsFiles (Draw drawing) = ⊤
KeepsFiles (Capture file) = ⊤
KeepsFiles (Record words) = ⊤
KeepsFiles Version = ⊤
