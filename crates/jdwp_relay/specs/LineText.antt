-- The lines of a capture as text.
use Rattle.std.specs.Prelude.{◌<◌, ℕ, List, [], ◌∷◌, ◌++◌, length}
use Rattle.std.specs.List.{flat_map}
use Rattle.hex.specs.Hex.{IsBytes, encode_lower}
use Rattle.jdwp_show.specs.declared.capture_line.Sender.{Sender}
use Rattle.jdwp_show.specs.declared.capture_line.Sender.TheVariants.{Debugger, Target}
use Rattle.jdwp_show.specs.Lines.{Line}

-- `>` or `<`
abbrev pub mark_of : Sender → ℕ
mark_of Debugger = 62
mark_of Target = 60

-- the mark, a space, two hex digits a byte, and the end of a line
abbrev pub line_text : Sender → List ℕ → List ℕ
line_text sender bytes = (mark_of sender ∷ 32 ∷ []) ++ encode_lower bytes ++ 10 ∷ []

-- some bytes
abbrev pub IsLine : Line → Type 0
IsLine line = (0 < length line.bytes) × IsBytes line.bytes

-- these lines, one after the other
abbrev pub lines_text : List Line → List ℕ
lines_text lines = flat_map (λ line. line_text line.sender line.bytes) lines
