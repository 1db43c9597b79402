-- A capture as lines: the messages before the first fault, and where there is none, how many bytes of each end belong to no whole message.
use Rattle.std.specs.Prelude.{ℕ, ◌-◌, ◌==◌, List, [], ◌∷◌, ◌++◌, length, Option, Some, None, if◌then◌else◌, codes, decimal}
use Rattle.std.specs.List.{sum_by}
use Rattle.jdwp_show.specs.declared.capture_fault.CaptureFault.{CaptureFault}
use Rattle.jdwp_show.specs.declared.capture_line.Sender.{Sender}
use Rattle.jdwp_show.specs.declared.capture_line.Sender.TheVariants.{Debugger, Target}
use Rattle.jdwp_show.specs.declared.table.Table.{Table}
use Rattle.jdwp_show.specs.declared.table.Table.TheVariants.{Standard}
use Rattle.jdwp_show.specs.declared.terms.Terms.{Terms}
use Rattle.jdwp_show.specs.Found.{found_length}
use Rattle.jdwp_show.specs.Items.{Item}
use Rattle.jdwp_show.specs.Lines.{is_same, sent_by, capture_of}
use Rattle.jdwp_show.specs.MessageLines.{mark, found_line}
use Rattle.jdwp_show.specs.Rules.{waiting_for}
use Rattle.jdwp_show.specs.Sessions.{items_in, terms_of, unanswered, fault_answer, first_fault_under}

-- the lines of these items, one after another, behind those before them
unfoldable pub lines_after : Terms → List Item → List Item → List ℕ
lines_after terms before [] = []
lines_after terms before (item ∷ items) = found_line terms (waiting_for before item.found) item.sender item.found ++ lines_after terms (before ++ item ∷ []) items

-- the items before the first that breaks a rule
abbrev pub items_that_hold_under : Table → List ℕ → List Item
items_that_hold_under table text = unanswered (fault_answer (terms_of table (items_in text))) [] (items_in text)

abbrev pub message_lines_under : Table → List ℕ → List ℕ
message_lines_under table text = lines_after (terms_of table (items_in text)) [] (items_that_hold_under table text)

-- ---- what is left over

-- how many bytes of this end belong to the item
abbrev pub length_for : Sender → Item → ℕ
length_for sender item = if is_same sender item.sender then found_length item.found else 0

abbrev pub lengths_of : Sender → List Item → ℕ
lengths_of sender items = sum_by (length_for sender) items

-- how many of the bytes that this end sent belong to none of these items
abbrev pub left_over : Sender → List ℕ → List Item → ℕ
left_over sender sent items = length sent - lengths_of sender items

-- `> more 2`, and nothing where none are left
abbrev pub more_line : Sender → ℕ → List ℕ
more_line sender count = if count == 0 then [] else mark sender ++ codes " more " ++ decimal count ++ codes "\n"

-- of what the debugger and the target sent, where there is no fault
abbrev pub last_lines : Option (ℕ × CaptureFault) → List ℕ → List ℕ → List Item → List ℕ
last_lines (Some fault) debugger target items = []
last_lines None debugger target items = more_line Debugger (left_over Debugger debugger items) ++ more_line Target (left_over Target target items)

abbrev pub capture_lines_under : Table → List ℕ → List ℕ
capture_lines_under table text = message_lines_under table text ++ last_lines (first_fault_under table text) (sent_by Debugger (capture_of text)) (sent_by Target (capture_of text)) (items_in text)

-- ---- by the standard's table

abbrev pub items_that_hold : List ℕ → List Item
items_that_hold text = items_that_hold_under Standard text

abbrev pub message_lines : List ℕ → List ℕ
message_lines text = message_lines_under Standard text

abbrev pub capture_lines : List ℕ → List ℕ
capture_lines text = capture_lines_under Standard text
