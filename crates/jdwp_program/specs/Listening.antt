-- The line that tells where debuggers are awaited.
use Rattle.std.specs.Prelude.{ℕ, List, ◌++◌, Option, Result, Ok, Err, codes, decimal}
use Rattle.std.specs.Io.KnownBytes.{Appends, Keeps}
use Rattle.jdwp_program.specs.declared.captures.TellFault.{TellFault}
use Rattle.jdwp_program.specs.declared.captures.TellFault.TheVariants.{Output, NoMemory}
use Rattle.jdwp_program.specs.Printing.{AppendsPart}

-- as a Java machine prints it
abbrev pub listening_line : ℕ → List ℕ
listening_line port = codes "Listening for transport dt_socket at address: " ++ decimal port ++ codes "\n"

-- What is answered where the line of this port was to be printed, and what the writer held before and holds then: all of it; or a beginning,
-- where a write failed; nothing where no memory was left.
abbrev pub TellsListening : ℕ → Option (List ℕ) → Option (List ℕ) → Result (Unit {0}) TellFault → Type 0
TellsListening port old new (Ok done) = Appends old new (listening_line port)
TellsListening port old new (Err (Output error)) = AppendsPart old new (listening_line port)
TellsListening port old new (Err NoMemory) = Keeps old new
