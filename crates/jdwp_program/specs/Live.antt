-- What is told of a capture while it is written.
use Rattle.std.specs.Prelude.{◌≡◌, ◌⊎◌, ℕ, List, ◌++◌, Option, None, Result, IsSome, true}
use Rattle.std.specs.Io.KnownBytes.{Appends}
use Rattle.jdwp_wire.specs.Streams.{IsFront}
use Rattle.jdwp_judge.specs.CaptureJudges.{fault_so_far, told_text, HasHeardText}
use Rattle.jdwp_show.specs.declared.table.Table.{Table}
use Rattle.jdwp_program.specs.declared.captures.Told.{Told}
use Rattle.jdwp_program.specs.declared.live.LiveShow.{LiveShow}
use Rattle.jdwp_program.specs.declared.live.LiveShow.TheVariants.{Going, Ended}
use Rattle.jdwp_program.specs.declared.streaming.StreamFault.{StreamFault}
use Rattle.jdwp_program.specs.Streaming.{ShowsRead, is_stopped}

-- it is told no further: its first fault is known, or a print failed
abbrev pub IsTold : Table → List ℕ → Result Told StreamFault → Type 0
IsTold table front result = IsSome (fault_so_far table front) ⊎ (is_stopped result ≡ true)

-- a front of this text was shown, behind what was there at the start, and that came to this
abbrev pub ShowsFront : Table → List ℕ → List ℕ → Option (List ℕ) → Option (List ℕ) → Result Told StreamFault → Type 0
ShowsFront table front text start now result = IsFront front text × ShowsRead table front start now result

-- Where this text was written so far: what can be told of it was, behind what was there at the start, and no fault of it is known; or it was shown
-- up to its first fault, or as far as the output took it.
abbrev pub IsShowing : Table → LiveShow → List ℕ → Option (List ℕ) → Option (List ℕ) → Type 0
IsShowing table (Going judge) text start now = HasHeardText table judge text × Appends start now (told_text table text) × (fault_so_far table text ≡ None)
IsShowing table (Ended result) text start now = (front : List ℕ) × ShowsFront table front text start now result × IsTold table front result

-- All was written: it was shown, or a front of it, up to its first fault or as far as the output took it.
abbrev pub ShowsWritten : Table → List ℕ → Option (List ℕ) → Option (List ℕ) → Result Told StreamFault → Type 0
ShowsWritten table text start now result = (front : List ℕ) × ShowsFront table front text start now result × ((front ≡ text) ⊎ IsTold table front result)
