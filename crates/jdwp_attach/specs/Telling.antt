-- The lines that are printed of what a turn read, and of a mirror.
use Rattle.std.specs.Prelude.{◌≡◌, ℕ, ℤ, pos, Bool, true, false, List, [], ◌∷◌, ◌++◌, map, flat_map, Option, Some, None, Result, Ok, Err, unwrap_or, codes, decimal, Contains, IsPermutation, if◌then◌else◌}
use Rattle.std.specs.Fmt.{signed_decimal}
use Rattle.std.specs.List.Sorted.{IsSortedByKey, IsStrictlySortedBy}
use Rattle.std.specs.Ordering.{int_cmp, nat_cmp}
use Rattle.jdwp_wire.specs.ErrorCodes.{NONE}
use Rattle.jdwp_wire.specs.Widths.{Widths}
use Rattle.jdwp_layout.specs.declared.answer.Answer.{Answer}
use Rattle.jdwp_layout.specs.declared.answer.Answer.TheVariants.{Data, Error}
use Rattle.jdwp_layout.specs.CommandNumbers.{COMPOSITE, ID_SIZES}
use Rattle.jdwp_layout.specs.Meanings.{DatumMeaning, One, Int, raw_bytes}
use Rattle.jdwp_layout.specs.Rows.{RowShapes}
use Rattle.jdwp_event.specs.Composites.{CompositeMeaning, composite_data}
use Rattle.jdwp_mirror.specs.declared.threads.Known.{Known}
use Rattle.jdwp_mirror.specs.Mirror.{Kept}
use Rattle.jdwp_mirror.specs.Mirrors.{Mirror}
use Rattle.jdwp_debugger.specs.declared.faults.DebuggerFault.{DebuggerFault}
use Rattle.jdwp_debugger.specs.declared.heads.Head.{Head}
use Rattle.jdwp_debugger.specs.declared.heads.Head.TheVariants as head
use Rattle.jdwp_debugger.specs.declared.order.Order.{Order}
use Rattle.jdwp_debugger.specs.declared.order.Order.TheVariants as order
use Rattle.jdwp_debugger.specs.declared.turning.Read.{Read}
use Rattle.jdwp_debugger.specs.Debuggers.{Debugger}
use Rattle.jdwp_debugger.specs.Holding.{at_least, is_held, is_named}
use Rattle.jdwp_debugger.specs.DebuggerTurns.{Told, Nothing, Hello, Parked, Sizes, Answered, Seen, read_meaning}
use Rattle.jdwp_show.specs.declared.capture_line.Sender.TheVariants.{Target}
use Rattle.jdwp_show.specs.declared.command_number.CommandNumber.{CommandNumber}
use Rattle.jdwp_show.specs.Data.{shapes_of}
use Rattle.jdwp_show.specs.DataText.{data_text, raw_text}
use Rattle.jdwp_show.specs.MessageLines.{command_start, hello_line, reply_start}

-- ---- the lines of messages

-- a command by its numbers
abbrev pub named : ℕ → ℕ → CommandNumber
named set number = record { set = set; number = number }

-- `< 1 Event.Composite 0 [(90, 0, #1)]`: a composite under the id of its packet
abbrev pub seen_line : ℕ → CompositeMeaning → List ℕ
seen_line id composite = command_start Target id (named COMPOSITE.set COMPOSITE.number) ++ data_text (composite_data composite) ++ codes "\n"

-- the bytes of data that are not read
abbrev pub bytes_in : List DatumMeaning → List ℕ
bytes_in items = unwrap_or (raw_bytes items) []

-- data by the layouts of their command, or as they are where it has none
abbrev pub items_text : Option RowShapes → List DatumMeaning → List ℕ
items_text None items = raw_text (bytes_in items)
items_text (Some shapes) items = data_text items

-- `< 3 reply ThreadReference.SuspendCount 0 1`: the answer to a command, under the id of its packet. An error has no data.
abbrev pub answered_line : ℕ → CommandNumber → Answer → List ℕ
answered_line id command (Error error) = reply_start Target id command error.0 ++ codes "\n"
answered_line id command (Data items) = reply_start Target id command NONE.0 ++ items_text (shapes_of command) items ++ codes "\n"

abbrev pub width_item : ℕ → DatumMeaning
width_item bytes = One (Int (pos bytes))

-- `< 1 reply VirtualMachine.IDSizes 0 8 8 8 8 8`: the widths of ids, under the id of the reply that told them
abbrev pub sizes_line : ℕ → Widths → List ℕ
sizes_line id w =
    reply_start Target id (named ID_SIZES.set ID_SIZES.number) NONE.0
    ++ data_text (width_item w.field ∷ width_item w.method ∷ width_item w.object ∷ width_item w.reference ∷ width_item w.frame ∷ []) ++ codes "\n"

-- ---- the lines of a turn

abbrev pub widths_line : Option Widths → ℕ → List ℕ
widths_line None id = []
widths_line (Some w) id = sizes_line id w

-- a line for each composite that waited for the widths of ids, and then that of the reply that told them, each under its own packet's id
abbrev pub sizes_lines : List CompositeMeaning → List Head → Option Widths → List ℕ
sizes_lines (c ∷ cs) (head.Composite header ∷ heads) w = seen_line header.id c ++ sizes_lines cs heads w
sizes_lines [] (head.Reply header set number ∷ []) w = widths_line w header.id
sizes_lines cs heads w = []

-- the line of an answer that came with this head
abbrev pub reply_lines : Answer → List Head → List ℕ
reply_lines answer (head.Reply header set number ∷ []) = answered_line header.id (named set number) answer
reply_lines answer heads = []

-- the line of a composite that came with this head
abbrev pub composite_lines : CompositeMeaning → List Head → List ℕ
composite_lines c (head.Composite header ∷ []) = seen_line header.id c
composite_lines c heads = []

-- The lines of what a turn told, of the messages with these heads, by the widths that are known after it: a turn tells of as many
-- messages as there are heads.
abbrev pub turn_lines : Told → List Head → Option Widths → List ℕ
turn_lines Hello heads w = hello_line Target ++ codes "\n"
turn_lines (Sizes cs) heads w = sizes_lines cs heads w
turn_lines (Answered ticket answer) heads w = reply_lines answer heads
turn_lines (Seen c) heads w = composite_lines c heads
turn_lines Nothing heads w = []
turn_lines Parked heads w = []

-- what is told of a turn; nothing of one that failed
abbrev pub lines_of : Result Read DebuggerFault → Debugger → List ℕ
lines_of (Ok read) new = turn_lines (read_meaning read) new.last new.sizes
lines_of (Err fault) new = []

-- ---- the lines of a mirror

-- `thread 1 2 held`: a thread that is known, with its suspend count
abbrev pub held_word : Bool → List ℕ
held_word true = codes "held"
held_word false = codes "free"

abbrev pub thread_line : Known → List ℕ
thread_line known = codes "thread " ++ decimal known.id.0 ++ codes " " ++ decimal known.count ++ codes " " ++ held_word known.held ++ codes "\n"

-- what is told of an event request: its id, its kind and its policy
abbrev pub summary : Kept → ℤ × ℕ × ℕ
summary kept = (kept.id, kept.kind, kept.policy)

-- `request 1 2 2`
abbrev pub request_line : ℤ × ℕ × ℕ → List ℕ
request_line (id, kind, policy) = codes "request " ++ signed_decimal id ++ codes " " ++ decimal kind ++ codes " " ++ decimal policy ++ codes "\n"

-- The lines of a mirror: its threads by rising id, and then its event requests by rising id.
pub record TellsMirror (mirror : Mirror) (text : List ℕ) : Type 0 where
  pub threads : List Known
  pub all_threads : IsPermutation mirror.threads threads
  pub rising_threads : IsSortedByKey (λ (thread : Known). thread.id.0) nat_cmp threads
  pub requests : List (ℤ × ℕ × ℕ)
  pub all_requests : IsPermutation (map summary mirror.requests) requests
  pub rising_requests : IsSortedByKey (λ (request : ℤ × ℕ × ℕ). request.0) int_cmp requests
  pub is : text ≡ flat_map thread_line threads ++ flat_map request_line requests

-- ---- the lines of what a debugger knows

-- `thread 1 1+ held`: what the suspend count of a thread is surely no less than
abbrev pub least_line : Debugger → ℕ → List ℕ
least_line d thread = codes "thread " ++ decimal thread ++ codes " " ++ decimal (at_least d thread) ++ codes "+ " ++ held_word (is_held d thread) ++ codes "\n"

-- of a thread that was named
abbrev pub named_line : Debugger → ℕ → List ℕ
named_line d thread = if is_named d thread then least_line d thread else []

-- the lines of all of them, by rising id, were put behind others
pub record PutsNamed (d : Debugger) (old new : List ℕ) : Type 0 where
  pub threads : List ℕ
  pub all : (thread : ℕ) → is_named d thread ≡ true → Contains threads thread
  pub rising : IsStrictlySortedBy nat_cmp threads
  pub is : new ≡ old ++ flat_map (named_line d) threads

-- The lines of the threads that were named, by rising id, and then those of the event requests by rising id.
pub record TellsNamed (d : Debugger) (text : List ℕ) : Type 0 where
  pub threads : List ℕ
  pub all_threads : (thread : ℕ) → is_named d thread ≡ true → Contains threads thread
  pub rising_threads : IsStrictlySortedBy nat_cmp threads
  pub requests : List (ℤ × ℕ × ℕ)
  pub all_requests : IsPermutation (map summary d.mirror.requests) requests
  pub rising_requests : IsSortedByKey (λ (request : ℤ × ℕ × ℕ). request.0) int_cmp requests
  pub is : text ≡ flat_map (named_line d) threads ++ flat_map request_line requests

-- What is told of what a debugger knows: its mirror, where the target sends each packet as it acts, and what is surely so, where it sends replies
-- and events by threads of their own.
abbrev pub TellsIn : Order → Debugger → List ℕ → Type 0
TellsIn order.One d text = TellsMirror d.mirror text
TellsIn order.Apart d text = TellsNamed d text

abbrev pub TellsKnown : Debugger → List ℕ → Type 0
TellsKnown d text = TellsIn d.order d text
