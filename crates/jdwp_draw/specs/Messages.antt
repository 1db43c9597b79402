-- The messages of a capture, each with the line in which `show` tells it. `show` prints a line for each message, in their order, which begins
-- with `>` where the debugger sent it: so a line is that of the next message of its end.
use Rattle.std.specs.Prelude.{◌≡◌, ℕ, ◌==◌, Bool, false, List, [], ◌∷◌, ◌++◌, Option, if◌then◌else◌, codes}
use Rattle.std.specs.Str.Lines.{lines}
use Rattle.jdwp_wire.specs.Streams.{Message}
use Rattle.jdwp_wire.specs.Widths.{Widths}
use Rattle.jdwp_show.specs.declared.capture_line.Sender as end
use Rattle.jdwp_show.specs.declared.capture_line.Sender.TheVariants as by
use Rattle.jdwp_show.specs.CaptureLines.{capture_lines}
use Rattle.jdwp_show.specs.Found.{Found, Sent, Faulty, found}
use Rattle.jdwp_show.specs.Items.{Item}
use Rattle.jdwp_show.specs.Lines.{capture_of, sent_by}
use Rattle.jdwp_show.specs.MessageLines.{found_line}
use Rattle.jdwp_show.specs.Rules.{waiting_for}
use Rattle.jdwp_show.specs.Tables.{standard}
use Rattle.jdwp_draw.specs.declared.sender.Sender.{Sender}
use Rattle.jdwp_draw.specs.declared.sender.Sender.TheVariants.{Debugger, Target}

-- a message, the end that sent it, and its line, without a newline
pub record ShownMeaning : Type 0 where
  pub sender : Sender
  pub message : Message
  pub line : List ℕ

abbrev pub is_of_debugger : List ℕ → Bool
is_of_debugger [] = false
is_of_debugger (mark ∷ rest) = mark == 62

-- the next message of this end, with its line, and then what follows; nothing where the end has no message left
abbrev pub with_next : Sender → List ℕ → List Found → (List Found → List ShownMeaning) → List ShownMeaning
with_next sender line [] follows = []
with_next sender line (Faulty fault ∷ found) follows = []
with_next sender line (Sent message ∷ found) follows = record { sender = sender; message = message; line = line } ∷ follows found

-- each line with the next message of its end, as long as that has one, from what was found of the debugger and of the target
unfoldable pub paired : List (List ℕ) → List Found → List Found → List ShownMeaning
paired [] debugger target = []
paired (line ∷ lines) debugger target =
    if is_of_debugger line
    then with_next Debugger line debugger (λ rest. paired lines rest target)
    else with_next Target line target (λ rest. paired lines debugger rest)

-- The messages of a capture before its first fault, in the order of `show`. Lines behind the last message, `> more 2`, are those of none.
abbrev pub messages_of : List ℕ → List ShownMeaning
messages_of text = paired (lines (capture_lines text)) (found (sent_by by.Debugger (capture_of text))) (found (sent_by by.Target (capture_of text)))

-- ---- which messages these are

abbrev pub end_of : Sender → end.Sender
end_of Debugger = by.Debugger
end_of Target = by.Target

-- It is the message of this item, these items standing before it, and its line is what `show` prints of that.
pub record IsShownAs (widths : Option Widths) (before : List Item) (item : Item) (m : ShownMeaning) : Type 0 where
  pub sender : end_of m.sender ≡ item.sender
  pub message : Sent m.message ≡ item.found
  pub line : m.line ++ codes "\n" ≡ found_line (standard widths) (waiting_for before item.found) item.sender item.found

-- There is a message for each of these items, in their order.
abbrev pub AreShown : Option Widths → List Item → List Item → List ShownMeaning → Type 0
AreShown widths before [] [] = Unit {0}
AreShown widths before [] (m ∷ ms) = ⊥
AreShown widths before (item ∷ items) [] = ⊥
AreShown widths before (item ∷ items) (m ∷ ms) = IsShownAs widths before item m × AreShown widths (before ++ item ∷ []) items ms
