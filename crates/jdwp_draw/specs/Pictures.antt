-- A picture as data: a row for each message, with what the mirror has behind it.
use Rattle.std.specs.Prelude.{◌≡◌, ℕ, List, [], ◌∷◌, map, Option}
use Rattle.jdwp_wire.specs.Widths.{Widths}
use Rattle.jdwp_mirror.specs.declared.threads.Known.{Known}
use Rattle.jdwp_mirror.specs.KnownThreads.{count_in, is_held_in}
use Rattle.jdwp_mirror.specs.Mirror.{Kept}
use Rattle.jdwp_show.specs.declared.capture_fault.CaptureFault.{CaptureFault}
use Rattle.jdwp_draw.specs.declared.sender.Sender.{Sender}
use Rattle.jdwp_draw.specs.Messages.{ShownMeaning}
use Rattle.jdwp_draw.specs.declared.picture.Standing.{Standing}
use Rattle.jdwp_draw.specs.Sessions.{Session, after, answered}

-- A row: the end that sent the message, its line, without a newline; which row, from 0, has the command that it answers; and behind
-- the message the threads that the mirror knows, each with its count and whether it is held, and the event requests that stand.
pub record RowMeaning : Type 0 where
  pub sender : Sender
  pub line : List ℕ
  pub answers : Option ℕ
  pub threads : List Known
  pub requests : List Standing

-- the rows, and the first fault with the number of its line
pub record PictureMeaning : Type 0 where
  pub rows : List RowMeaning
  pub fault : Option (ℕ × CaptureFault)

abbrev pub standing_of : Kept → Standing
standing_of request = record { id = request.id; kind = request.kind }

-- what stands of the mirror in a row is what is known then
pub record HasMirror (row : RowMeaning) (s : Session) : Type 0 where
  pub counts : (t : ℕ) → count_in row.threads t ≡ s.counts t
  pub held : (t : ℕ) → is_held_in row.threads t ≡ s.held t
  pub requests : row.requests ≡ map standing_of s.requests

-- the row of a message, behind the messages that led to this session
pub record IsRow (widths : Option Widths) (s : Session) (m : ShownMeaning) (row : RowMeaning) : Type 0 where
  pub sender : row.sender ≡ m.sender
  pub line : row.line ≡ m.line
  pub answers : row.answers ≡ answered s m
  pub mirror : HasMirror row (after widths s m)

-- There is a row for each of the messages, in their order.
abbrev pub AreRows : Option Widths → Session → List ShownMeaning → List RowMeaning → Type 0
AreRows widths s [] [] = Unit {0}
AreRows widths s [] (row ∷ rows) = ⊥
AreRows widths s (m ∷ ms) [] = ⊥
AreRows widths s (m ∷ ms) (row ∷ rows) = IsRow widths s m row × AreRows widths (after widths s m) ms rows
