-- Captures that begin a session, and the first fault of one that does not.
use Rattle.std.specs.Prelude.{◌≡◌, ℕ, ◌+◌, ◌==◌, List, [], ◌∷◌, ◌++◌, length, Option, Some, None, is_some, option_map, if◌then◌else◌, ◌⊎◌}
use Rattle.std.specs.List.{AllPass}
use Rattle.std.specs.Option.{option_or, option_flatten}
use Rattle.std.specs.Result.{result_ok}
use Rattle.std.specs.Str.Lines.{lines}
use Rattle.jdwp_wire.specs.declared.packet.PacketKind.{PacketKind}
use Rattle.jdwp_wire.specs.declared.packet.PacketKind.TheVariants as kind
use Rattle.jdwp_wire.specs.ErrorCodes.{NONE}
use Rattle.jdwp_wire.specs.Streams.{Handshake, Packet}
use Rattle.jdwp_wire.specs.Widths.{Widths}
use Rattle.jdwp_show.specs.declared.capture_fault.CaptureFault.{CaptureFault}
use Rattle.jdwp_show.specs.declared.capture_fault.CaptureFault.TheVariants.{BadLine}
use Rattle.jdwp_show.specs.declared.capture_line.Sender.{Sender}
use Rattle.jdwp_show.specs.declared.capture_line.Sender.TheVariants.{Debugger, Target}
use Rattle.jdwp_show.specs.declared.verdict.Verdict.{Verdict}
use Rattle.jdwp_show.specs.declared.verdict.Verdict.TheVariants.{Yes, No}
use Rattle.jdwp_show.specs.declared.command_number.CommandNumber.{CommandNumber}
use Rattle.jdwp_show.specs.declared.table.Table.{Table}
use Rattle.jdwp_show.specs.declared.table.Table.TheVariants.{Standard}
use Rattle.jdwp_show.specs.declared.terms.Terms.{Terms}
use Rattle.jdwp_show.specs.Data.{is_id_sizes, widths_in}
use Rattle.jdwp_show.specs.Found.{Found, Sent, Faulty}
use Rattle.jdwp_show.specs.Items.{Item, items_of}
use Rattle.jdwp_show.specs.Lines.{line_of, reads, capture_of, bad_line}
use Rattle.jdwp_show.specs.Rules.{waiting_for, order_fault_of, fault_of}
use Rattle.jdwp_show.specs.Tables.{terms_by}

-- the first answer to a question that is asked of each item and of those before it
unfoldable pub first_after : {A : Type 0} → (List Item → Item → Option A) → List Item → List Item → Option A
first_after ask before [] = None
first_after ask before (item ∷ items) = option_or (ask before item) (first_after ask (before ++ item ∷ []) items)

abbrev pub first_answer : {A : Type 0} → (List Item → Item → Option A) → List Item → Option A
first_answer ask items = first_after ask [] items

-- the items before the first of which the question has an answer
unfoldable pub unanswered : {A : Type 0} → (List Item → Item → Option A) → List Item → List Item → List Item
unanswered ask before [] = []
unanswered ask before (item ∷ items) = if is_some (ask before item) then [] else item ∷ unanswered ask (before ++ item ∷ []) items

-- ---- the widths of ids

abbrev pub told_by : Option CommandNumber → List ℕ → Option Widths
told_by None body = None
told_by (Some command) body = if is_id_sizes command then result_ok (widths_in body) else None

abbrev pub told_in : Option CommandNumber → PacketKind → List ℕ → Option Widths
told_in waits (kind.Command set number) body = None
told_in waits (kind.Reply error) body = if error.0 == NONE.0 then told_by waits body else None

-- the widths that a reply without an error to VirtualMachine.IDSizes tells, where its data read
abbrev pub told_widths : Option CommandNumber → Sender → Found → Option Widths
told_widths waits Debugger thing = None
told_widths waits Target (Sent Handshake) = None
told_widths waits Target (Sent (Packet header body)) = told_in waits header.kind body
told_widths waits Target (Faulty fault) = None

-- the search ends at an item that breaks a rule of frames, ends or ids
abbrev pub told_or_ended : Option CaptureFault → Option Widths → Option (Option Widths)
told_or_ended (Some fault) widths = Some None
told_or_ended None None = None
told_or_ended None (Some widths) = Some (Some widths)

abbrev pub widths_answer : List Item → Item → Option (Option Widths)
widths_answer before item = told_or_ended (order_fault_of before item) (told_widths (waiting_for before item.found) item.sender item.found)

-- The widths of the first such reply. They hold for all items, those before the reply too.
abbrev pub widths_of : List Item → Option Widths
widths_of items = option_flatten (first_answer widths_answer items)

-- ---- the definition

abbrev pub items_in : List ℕ → List Item
items_in text = items_of (capture_of text)

-- by what the data of these items are read in a table: the widths are those that the items tell
abbrev pub terms_of : Table → List Item → Terms
terms_of table items = terms_by table (widths_of items)

-- the rule that the item breaks in the capture, these items standing before it
abbrev pub fault_in_capture : Table → List ℕ → List Item → Item → Option CaptureFault
fault_in_capture table text before item = fault_of (terms_of table (items_in text)) before item

-- none of these items breaks a rule
abbrev pub NoneBreaks : Table → List ℕ → List Item → Type 0
NoneBreaks table text items = (before : List Item) (item : Item) (after : List Item) → items ≡ before ++ item ∷ after → fault_in_capture table text before item ≡ None

-- A capture begins a session where each of its lines reads and none of its items breaks a rule.
pub record BeginsSessionUnder (table : Table) (text : List ℕ) : Type 0 where
  pub lines_read : AllPass reads (lines text)
  pub none_breaks : NoneBreaks table text (items_in text)

-- the line of this number, from 1, is the first that does not read
pub record IsBadLine (text : List ℕ) (number : ℕ) : Type 0 where
  pub before : List (List ℕ)
  pub line : List ℕ
  pub after : List (List ℕ)
  pub in_lines : lines text ≡ before ++ line ∷ after
  pub earlier_read : AllPass reads before
  pub does_not_read : line_of line ≡ None
  pub number_is : number ≡ length before + 1

-- each line reads, and the first item that breaks a rule breaks this one, in this line
pub record IsBroken (table : Table) (text : List ℕ) (number : ℕ) (fault : CaptureFault) : Type 0 where
  pub lines_read : AllPass reads (lines text)
  pub before : List Item
  pub item : Item
  pub after : List Item
  pub in_items : items_in text ≡ before ++ item ∷ after
  pub earlier_hold : NoneBreaks table text before
  pub breaks : fault_in_capture table text before item ≡ Some fault
  pub number_is : number ≡ item.line

-- the first fault of a capture: a line that does not read comes before all others, wherever it stands
abbrev pub IsFirstFaultUnder : Table → List ℕ → ℕ → CaptureFault → Type 0
IsFirstFaultUnder table text number fault = ((fault ≡ BadLine) × IsBadLine text number) ⊎ IsBroken table text number fault

-- by the standard's table
abbrev pub BeginsSession : List ℕ → Type 0
BeginsSession text = BeginsSessionUnder Standard text

abbrev pub IsFirstFault : List ℕ → ℕ → CaptureFault → Type 0
IsFirstFault text number fault = IsFirstFaultUnder Standard text number fault

-- ---- the same as a function

abbrev pub fault_answer : Terms → List Item → Item → Option (ℕ × CaptureFault)
fault_answer terms before item = option_map (λ fault. (item.line, fault)) (fault_of terms before item)

abbrev pub broken_in : Table → List Item → Option (ℕ × CaptureFault)
broken_in table items = first_answer (fault_answer (terms_of table items)) items

abbrev pub bad_or_broken : Option ℕ → Option (ℕ × CaptureFault) → Option (ℕ × CaptureFault)
bad_or_broken (Some number) broken = Some (number, BadLine)
bad_or_broken None broken = broken

abbrev pub first_fault_under : Table → List ℕ → Option (ℕ × CaptureFault)
first_fault_under table text = bad_or_broken (bad_line text) (broken_in table (items_in text))

abbrev pub verdict_by : Option (ℕ × CaptureFault) → Verdict
verdict_by None = Yes
verdict_by (Some place) = No place.0 place.1

abbrev pub verdict_under : Table → List ℕ → Verdict
verdict_under table text = verdict_by (first_fault_under table text)

-- by the standard's table
abbrev pub first_fault : List ℕ → Option (ℕ × CaptureFault)
first_fault text = first_fault_under Standard text

abbrev pub verdict : List ℕ → Verdict
verdict text = verdict_under Standard text
