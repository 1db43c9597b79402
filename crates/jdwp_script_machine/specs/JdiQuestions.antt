-- What the code's readings of data find that only the profile for the Java Debug Interface asks.
use Rattle.std.specs.Prelude.{List, Option, Some, None}
use Rattle.std.specs.Borrow.{Bor}
use Rattle.jdwp_layout.specs.declared.datum.Datum.{Datum}
use Rattle.jdwp_layout.specs.Meanings.{meanings}
use Rattle.jdwp_script.specs.declared.script.Class.{Class}
use Rattle.jdwp_script.specs.Meanings.{class_part}
use Rattle.jdwp_script_machine.specs.JdiAnswers.{TypeAsked}

-- a class and the data that are left, behind their references
abbrev pub asked_found : Option (Bor Class × Bor (List Datum)) → Option TypeAsked
asked_found None = None
asked_found (Some found) = Some (record { class = class_part found.0.now; rest = meanings found.1.now })
