-- The lines of a capture: which end sent which bytes.
use Rattle.std.specs.Prelude.{◌≡◌, ℕ, ◌+◌, ◌==◌, List, [], ◌∷◌, ◌++◌, length, Bool, true, false, Option, Some, None, is_some, Result, Ok, Err, if◌then◌else◌}
use Rattle.std.specs.List.{filter_map, flat_map, take_while}
use Rattle.std.specs.Str.Lines.{lines}
use Rattle.hex.specs.declared.error.FromHexError.{FromHexError}
use Rattle.hex.specs.Hex.{decode_of}
use Rattle.jdwp_show.specs.declared.capture_line.Sender.{Sender}
use Rattle.jdwp_show.specs.declared.capture_line.Sender.TheVariants.{Debugger, Target}

-- what a line says: the end that sent these bytes
pub record Line : Type 0 where
  pub sender : Sender
  pub bytes : List ℕ

-- hex digits, of at least one byte
abbrev pub line_by : Sender → Result (List ℕ) FromHexError → Option Line
line_by sender (Err e) = None
line_by sender (Ok []) = None
line_by sender (Ok (byte ∷ bytes)) = Some (record { sender = sender; bytes = byte ∷ bytes })

-- `> ` or `< `, and hex digits; None where a line does not read
abbrev pub line_of : List ℕ → Option Line
line_of [] = None
line_of (mark ∷ []) = None
line_of (mark ∷ space ∷ digits) =
    if space == 32
    then (if mark == 62 then line_by Debugger (decode_of digits) else (if mark == 60 then line_by Target (decode_of digits) else None))
    else None

-- what a line says was read behind these bytes, or it does not read
abbrev pub HasRead : Option Line → Option Sender → List ℕ → List ℕ → Type 0
HasRead said (Some sender) old new = (bytes : List ℕ) × (said ≡ Some (record { sender = sender; bytes = bytes })) × (new ≡ old ++ bytes)
HasRead said None old new = (said ≡ None) × (new ≡ old)

abbrev pub reads : List ℕ → Bool
reads text = is_some (line_of text)

-- the lines before the first one that does not read
abbrev pub lines_that_read : List ℕ → List (List ℕ)
lines_that_read text = take_while reads (lines text)

-- what these lines say
abbrev pub capture_of : List ℕ → List Line
capture_of text = filter_map line_of (lines_that_read text)

-- the number, from 1, of the first line that does not read
abbrev pub bad_line : List ℕ → Option ℕ
bad_line text = if length (lines_that_read text) == length (lines text) then None else Some (length (lines_that_read text) + 1)

abbrev pub is_same : Sender → Sender → Bool
is_same Debugger Debugger = true
is_same Debugger Target = false
is_same Target Debugger = false
is_same Target Target = true

-- what an end sent in these lines, one after the other
abbrev pub sent_by : Sender → List Line → List ℕ
sent_by sender capture = flat_map (λ line. if is_same sender line.sender then line.bytes else []) capture
