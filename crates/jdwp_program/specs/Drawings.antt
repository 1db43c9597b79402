-- What is told of a capture that is drawn.
use Rattle.std.specs.Prelude.{◌≡◌, ℕ, List, ◌++◌, Option, Result, Ok, Err, codes}
use Rattle.std.specs.Io.KnownBytes.{Keeps}
use Rattle.std.specs.List.{flat_map}
use Rattle.jdwp_draw.specs.Messages.{messages_of}
use Rattle.jdwp_draw.specs.Pictures.{AreRows, PictureMeaning, RowMeaning}
use Rattle.jdwp_draw.specs.Sessions.{start}
use Rattle.jdwp_draw.specs.Svg.{svg_text}
use Rattle.jdwp_draw.specs.Told.{widths_told}
use Rattle.jdwp_show.specs.CaptureLines.{message_lines}
use Rattle.jdwp_show.specs.Sessions.{first_fault}
use Rattle.jdwp_program.specs.declared.captures.Told.{Told}
use Rattle.jdwp_program.specs.declared.captures.TellFault.{TellFault}
use Rattle.jdwp_program.specs.declared.captures.TellFault.TheVariants.{Output, NoMemory}
use Rattle.jdwp_program.specs.Captures.{Tells}

-- It is a document of SVG of a picture of the capture: of so many of its messages at most, from this one on, the first being 0. There is a
-- row for each message before the first fault, and their lines, a newline behind each, are what `show` prints of these.
pub record IsDrawing (capture : List ℕ) (from count : ℕ) (text : List ℕ) : Type 0 where
  pub picture : PictureMeaning
  pub rows : AreRows (widths_told (messages_of capture)) start (messages_of capture) picture.rows
  pub lines : flat_map (λ (row : RowMeaning). row.line ++ codes "\n") picture.rows ≡ message_lines capture
  pub fault : picture.fault ≡ first_fault capture
  pub is : text ≡ svg_text picture from count

-- A drawing was told as the text of the capture with its first fault; nothing where no memory was left.
abbrev pub Draws : List ℕ → ℕ → ℕ → Option (List ℕ) → Option (List ℕ) → Result Told TellFault → Type 0
Draws capture from count old new (Ok told) = (text : List ℕ) × IsDrawing capture from count text × Tells (first_fault capture) text old new (Ok told)
Draws capture from count old new (Err (Output error)) = (text : List ℕ) × IsDrawing capture from count text × Tells (first_fault capture) text old new (Err (Output error))
Draws capture from count old new (Err NoMemory) = Keeps old new
