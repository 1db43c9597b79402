-- What is answered of what the code found that a command's data name, and of the data that are left.
use Rattle.std.specs.Prelude.{List, Result, Ok, Err}
use Rattle.std.specs.Borrow.{Bor}
use Rattle.jdwp_wire.specs.declared.error_code.ErrorCode.{ErrorCode}
use Rattle.jdwp_layout.specs.declared.answer.Answer.{Answer}
use Rattle.jdwp_layout.specs.declared.answer.Answer.TheVariants.{Error}
use Rattle.jdwp_layout.specs.declared.datum.Datum.{Datum}
use Rattle.jdwp_layout.specs.Meanings.{meanings}
use Rattle.jdwp_script_machine.specs.Requests.{Asks}

-- what is answered of what was found and of the data that are left, or else the refusal
abbrev pub by_asked : {A B : Type 0} → (A → B) → (B → Asks) → Result (Bor A × Bor (List Datum)) ErrorCode → Answer
by_asked part answer (Ok found) = answer (part found.0.now) (meanings found.1.now)
by_asked part answer (Err error) = Error error
