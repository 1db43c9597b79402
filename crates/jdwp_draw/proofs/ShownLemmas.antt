-- Which messages those of a capture are.
use Rattle.std.proofs.Common.{◌≡◌, ℕ, zero, suc, ◌-◌, ◌<◌, Bool, true, false, cond, eqb, ◌||◌, not, ◌&&◌, List, [], ◌∷◌, ◌++◌, length, get_or, Option, Some, None, is_some, option_map, Result, Ok, Err, refl, sym, ap, subst, ◌∙◌, inl, inr, ◌⊎◌, arith, append_assoc, codes}
use Rattle.std.specs.List.{All, list_all, slice_split, flat_map}
use Rattle.std.specs.Option.{option_or}
use Rattle.std.specs.Str.Lines.{lines, lines_of_parts, strip_carriage_return}
use Rattle.std.proofs.lemmas.List.Splits.{slice_split_at, length-slice_split}
use Rattle.jdwp_wire.specs.declared.data_fault.DataFault.{DataFault}
use Rattle.jdwp_wire.specs.declared.error_code.ErrorCode.{ErrorCode}
use Rattle.jdwp_wire.specs.declared.packet.Header.{Header}
use Rattle.jdwp_wire.specs.declared.packet.PacketKind.{PacketKind}
use Rattle.jdwp_wire.specs.declared.packet.PacketKind.TheVariants as kind
use Rattle.jdwp_wire.specs.Streams.{Message, Handshake, Packet}
use Rattle.jdwp_wire.specs.Widths.{Widths}
use Rattle.jdwp_layout.specs.Meanings.{DatumMeaning}
use Rattle.jdwp_layout.specs.Reads.{data_at}
use Rattle.jdwp_layout.specs.Shapes.{ItemShape}
use Rattle.jdwp_show.specs.Data.{shapes_of}
use Rattle.jdwp_show.specs.declared.capture_fault.CaptureFault.{CaptureFault}
use Rattle.jdwp_show.specs.declared.capture_line.Sender.{Sender}
use Rattle.jdwp_show.specs.declared.capture_line.Sender.TheVariants.{Debugger, Target}
use Rattle.jdwp_show.specs.declared.command_number.CommandNumber.{CommandNumber}
use Rattle.jdwp_show.specs.CaptureLines.{lines_after, items_that_hold, last_lines, capture_lines}
use Rattle.jdwp_show.specs.Found.{Found, Sent, Faulty, found}
use Rattle.jdwp_show.specs.Items.{Item, item_at, found_of}
use Rattle.jdwp_show.specs.Lines.{bad_line, capture_of, sent_by}
use Rattle.jdwp_show.specs.MessageLines.{mark, command_start, reply_start, request_in, request_text, reply_text, body_text, read_text, found_line}
use Rattle.jdwp_show.specs.Rules.{command_fault, target_fault, order_fault, fault_of, waiting_for, is_debugger, has_begun}
use Rattle.jdwp_show.specs.Tables.{standard}
use Rattle.jdwp_show.specs.declared.table.Table.TheVariants.{Standard}
use Rattle.jdwp_show.specs.Sessions.{items_in, widths_of, unanswered, first_after, fault_answer, first_fault, broken_in, bad_or_broken}
use Rattle.jdwp_show.proofs.ItemLaws.{each_kept}
use Rattle.jdwp_draw.specs.declared.sender.Sender as drawn
use Rattle.jdwp_draw.specs.declared.sender.Sender.TheVariants as one
use Rattle.jdwp_draw.specs.Messages.{ShownMeaning, AreShown, IsShownAs, end_of, is_of_debugger, paired, messages_of}
use Rattle.jdwp_draw.proofs.OneLine.{OneLine, is_no_end, both, number, data_line, raw_line, name_line}
use Rattle.jdwp_draw.proofs.StreamLemmas.{debugger_shown, target_shown}

-- ---- a line of a text

both_false : (a b : Bool) → not (a || b) ≡ true → (a ≡ false) × (b ≡ false)
both_false true b h = cc
both_false false true h = cc
both_false false false h = (refl, refl)

first : (a b : Bool) → (a && b) ≡ true → a ≡ true
first true b h = refl
first false b h = h

second : (a b : Bool) → (a && b) ≡ true → b ≡ true
second true b h = h
second false b h = cc

each_apart : (text : List ℕ) → list_all is_no_end text ≡ true → (k d : ℕ) → k < length text → (eqb (get_or text k d) 10 ≡ false) × (eqb (get_or text k d) 13 ≡ false)
each_apart [] all k d inside = absurd (omega arith)
each_apart (b ∷ text) all zero d inside = both_false (eqb b 10) (eqb b 13) (first (is_no_end b) (list_all is_no_end text) all)
each_apart (b ∷ text) all (suc k) d inside = each_apart text (second (is_no_end b) (list_all is_no_end text) all) k d (omega arith)

last_part : (x : List ℕ) (parts : List (List ℕ)) → 0 < length parts → lines_of_parts (x ∷ parts) ≡ strip_carriage_return x ∷ lines_of_parts parts
last_part x [] l = absurd (omega arith)
last_part x (y ∷ more) l = refl

stripped : (text : List ℕ) → list_all is_no_end text ≡ true → strip_carriage_return text ≡ text
stripped [] all = refl
stripped (b ∷ text) all = rw ((each_apart (b ∷ text) all (length (b ∷ text) - 1) 0 (omega arith)).1) refl

-- the first line of a text
pub first_line : (line rest : List ℕ) → OneLine line → lines ((line ++ codes "\n") ++ rest) ≡ line ∷ lines rest
first_line line rest one =
    let p = λ (b : ℕ). eqb b 10 in
    let front : All (λ b. eqb b 10 ≡ false) line = λ k d inside. (each_apart line one.all k d inside).0 in
    ap lines (append_assoc line (codes "\n") rest) ∙ ap lines_of_parts (slice_split_at p line 10 rest front refl)
    ∙ last_part line (slice_split p rest) (omega (arith, length-slice_split p rest)) ∙ ap (λ (x : List ℕ). x ∷ lines rest) (stripped line one.all)

-- ---- the line of an item

-- the message of an item, and its line without a newline
record TellsAs (widths : Option Widths) (waits : Option CommandNumber) (sender : Sender) (thing : Found) : Type 0 where
  message : Message
  line : List ℕ
  is : Sent message ≡ thing
  whole : line ++ codes "\n" ≡ found_line (standard widths) waits sender thing
  one : OneLine line
  marked : is_of_debugger line ≡ is_debugger sender

read_line : (found : Result (List DatumMeaning) DataFault) (body : List ℕ) → OneLine (read_text found body)
read_line (Ok items) body = data_line items
read_line (Err fault) body = raw_line body

body_line : (widths : Option Widths) (layout : Option (List ItemShape)) (body : List ℕ) → OneLine (body_text widths layout body)
body_line None layout body = raw_line body
body_line (Some w) None body = raw_line body
body_line (Some w) (Some layout) body = read_line (data_at w layout body) body

mark_line : (sender : Sender) → OneLine (mark sender)
mark_line Debugger = record { all = refl }
mark_line Target = record { all = refl }

space : OneLine (codes " ")
space = record { all = refl }

command_line : (widths : Option Widths) (sender : Sender) (id : ℕ) (command : CommandNumber) (body : List ℕ) → OneLine (command_start sender id command ++ request_text (standard widths) command body)
command_line widths sender id command body =
    both (both (both (both (both (mark_line sender) space) (number id)) space) (name_line command)) (body_line widths (request_in (shapes_of command)) body)

reply_line : (widths : Option Widths) (sender : Sender) (id : ℕ) (command : CommandNumber) (error : ℕ) (body : List ℕ) → OneLine (reply_start sender id command error ++ reply_text (standard widths) command error body)
reply_line widths sender id command error body =
    both (both (both (both (both (both (both (mark_line sender) space) (number id)) (record { all = refl })) (name_line command)) space) (number error)) (body_line widths _ body)

command_marked : (widths : Option Widths) (sender : Sender) (id : ℕ) (command : CommandNumber) (body : List ℕ) → is_of_debugger (command_start sender id command ++ request_text (standard widths) command body) ≡ is_debugger sender
command_marked widths Debugger id command body = refl
command_marked widths Target id command body = refl

commands_tell : (widths : Option Widths) (waits : Option CommandNumber) (sender : Sender) (header : Header) (set number : ℕ) (body : List ℕ) → header.kind ≡ kind.Command set number → TellsAs widths waits sender (Sent (Packet header body))
commands_tell widths waits sender header set number body is =
    let command : CommandNumber = record { set = set; number = number } in
    record {
      message = Packet header body;
      line = command_start sender header.id command ++ request_text (standard widths) command body;
      is = refl;
      whole = rw is refl;
      one = command_line widths sender header.id command body;
      marked = command_marked widths sender header.id command body;
    }

replies_tell : (widths : Option Widths) (command : CommandNumber) (header : Header) (error : ErrorCode) (body : List ℕ) → header.kind ≡ kind.Reply error → TellsAs widths (Some command) Target (Sent (Packet header body))
replies_tell widths command header error body is = record {
  message = Packet header body;
  line = reply_start Target header.id command error.0 ++ reply_text (standard widths) command error.0 body;
  is = refl;
  whole = rw is refl;
  one = reply_line widths Target header.id command error.0 body;
  marked = refl;
}

hellos_tell : (widths : Option Widths) (waits : Option CommandNumber) (sender : Sender) → TellsAs widths waits sender (Sent Handshake)
hellos_tell widths waits Debugger = record { message = Handshake; line = codes "> hello"; is = refl; whole = refl; one = record { all = refl }; marked = refl }
hellos_tell widths waits Target = record { message = Handshake; line = codes "< hello"; is = refl; whole = refl; one = record { all = refl }; marked = refl }

targets_tell : (widths : Option Widths) (begun : Bool) (waits : Option CommandNumber) (header : Header) (k : PacketKind) (body : List ℕ) → header.kind ≡ k → target_fault waits k ≡ None → TellsAs widths waits Target (Sent (Packet header body))
targets_tell widths begun waits header (kind.Command set number) body is holds = commands_tell widths waits Target header set number body is
targets_tell widths begun None header (kind.Reply error) body is holds = absurd cc
targets_tell widths begun (Some command) header (kind.Reply error) body is holds = replies_tell widths command header error body is

debuggers_tell : (widths : Option Widths) (begun : Bool) (waits : Option CommandNumber) (header : Header) (k : PacketKind) (body : List ℕ) → header.kind ≡ k → command_fault waits k ≡ None → TellsAs widths waits Debugger (Sent (Packet header body))
debuggers_tell widths begun waits header (kind.Command set number) body is holds = commands_tell widths waits Debugger header set number body is
debuggers_tell widths begun waits header (kind.Reply error) body is holds = absurd cc

-- an item that keeps the rules has a line
tells : (widths : Option Widths) (begun : Bool) (waits : Option CommandNumber) (sender : Sender) (thing : Found) → order_fault begun waits sender thing ≡ None → TellsAs widths waits sender thing
tells widths begun waits sender (Faulty fault) holds = absurd cc
tells widths begun waits sender (Sent Handshake) holds = hellos_tell widths waits sender
tells widths begun waits Debugger (Sent (Packet header body)) holds = debuggers_tell widths begun waits header header.kind body refl holds
tells widths begun waits Target (Sent (Packet header body)) holds = targets_tell widths begun waits header header.kind body refl holds

-- ---- item by item

same : (b : Bool) → cond {A = List ShownMeaning} b [] [] ≡ []
same true = refl
same false = refl

-- the lines behind the last message are those of none
none_paired : (texts : List (List ℕ)) → paired texts [] [] ≡ []
unfolding paired
none_paired [] = refl
none_paired (text ∷ texts) = same (is_of_debugger text)

drawn_end : Sender → drawn.Sender
drawn_end Debugger = one.Debugger
drawn_end Target = one.Target

same_end : (sender : Sender) → end_of (drawn_end sender) ≡ sender
unfolding drawn_end
same_end Debugger = refl
same_end Target = refl

abbrev pair_of : List (List ℕ) → List Item → List ShownMeaning
pair_of texts items = paired texts (found_of Debugger items) (found_of Target items)

next_paired : (number : ℕ) (sender : Sender) (thing : Found) (message : Message) (line : List ℕ) (texts : List (List ℕ)) (items : List Item) → is_of_debugger line ≡ is_debugger sender → Sent message ≡ thing
    → pair_of (line ∷ texts) (item_at number sender thing ∷ items) ≡ record { sender = drawn_end sender; message = message; line = line } ∷ pair_of texts items
unfolding drawn_end
next_paired number Debugger thing message line texts items marked is =
    debugger_shown line texts message (thing ∷ found_of Debugger items) (found_of Debugger items) (found_of Target items) marked (ap (λ (x : Found). x ∷ found_of Debugger items) (sym is))
next_paired number Target thing message line texts items marked is =
    target_shown line texts message (found_of Debugger items) (thing ∷ found_of Target items) (found_of Target items) marked (ap (λ (x : Found). x ∷ found_of Target items) (sym is))

none_first : (a b : Option CaptureFault) → option_or a b ≡ None → a ≡ None
none_first None b e = refl
none_first (Some a) b e = absurd cc

-- what holds of these items, where this is the fault of the first
abbrev held : Option Widths → List Item → Item → List Item → Option CaptureFault → List Item
held widths before item items o = cond (is_some (option_map {U = ℕ × CaptureFault} (λ fault. (item.line, fault)) o)) [] (item ∷ unanswered (fault_answer (standard widths)) (before ++ item ∷ []) items)

abbrev later_fault : Option Widths → List Item → Item → List Item → Option CaptureFault → Option (ℕ × CaptureFault)
later_fault widths before item items o = option_or (option_map {U = ℕ × CaptureFault} (λ fault. (item.line, fault)) o) (first_after (fault_answer (standard widths)) (before ++ item ∷ []) items)

-- each that holds is shown: behind them all stands nothing where one of these items breaks a rule
abbrev Shows : Option Widths → List Item → List Item → List Item → List ℕ → Type 0
Shows widths before items holding last = AreShown widths before holding (pair_of (lines (lines_after (standard widths) before holding ++ last)) items)

goes_by : (widths : Option Widths) (before : List Item) (item : Item) (items : List Item) (last : List ℕ) (o : Option CaptureFault) → fault_of (standard widths) before item ≡ o
    → (later_fault widths before item items o ≡ None) ⊎ (last ≡ [])
    → ((first_after (fault_answer (standard widths)) (before ++ item ∷ []) items ≡ None) ⊎ (last ≡ []) → Shows widths (before ++ item ∷ []) items (unanswered (fault_answer (standard widths)) (before ++ item ∷ []) items) last)
    → Shows widths before (item ∷ items) (held widths before item items o) last
unfolding lines_after paired
goes_by widths before item items last (Some fault) e (inl none) later = absurd cc
goes_by widths before item items last (Some fault) e (inr none) later = rw none tt
goes_by widths before item items last None e rests later =
    let begun = has_begun before in
    let waits = waiting_for before item.found in
    let holding = unanswered (fault_answer (standard widths)) (before ++ item ∷ []) items in
    let more = lines_after (standard widths) (before ++ item ∷ []) holding in
    let t = tells widths begun waits item.sender item.found (none_first _ _ e) in
    let one : lines ((found_line (standard widths) waits item.sender item.found ++ more) ++ last) ≡ t.line ∷ lines (more ++ last) =
    ap (λ (x : List ℕ). lines ((x ++ more) ++ last)) (sym t.whole) ∙ ap lines (append_assoc (t.line ++ codes "\n") more last) ∙ first_line t.line (more ++ last) t.one in
    let whole : pair_of (lines ((found_line (standard widths) waits item.sender item.found ++ more) ++ last)) (item ∷ items) ≡ record { sender = drawn_end item.sender; message = t.message; line = t.line } ∷ pair_of (lines (more ++ last)) items =
    ap (λ (x : List (List ℕ)). pair_of x (item ∷ items)) one ∙ next_paired item.line item.sender item.found t.message t.line (lines (more ++ last)) items t.marked t.is in
    let first_is : IsShownAs widths before item (record { sender = drawn_end item.sender; message = t.message; line = t.line }) = record { sender = same_end item.sender; message = t.is; line = t.whole } in
    subst (λ (x : List ShownMeaning). AreShown widths before (item ∷ holding) x) (sym whole) (first_is, later rests)

goes : (widths : Option Widths) (before items : List Item) (last : List ℕ) → (first_after (fault_answer (standard widths)) before items ≡ None) ⊎ (last ≡ []) → Shows widths before items (unanswered (fault_answer (standard widths)) before items) last
unfolding unanswered lines_after first_after
goes widths before [] last rests = subst (λ (x : List ShownMeaning). AreShown widths before [] x) (sym (none_paired (lines last))) tt
goes widths before (item ∷ items) last rests = goes_by widths before item items last (fault_of (standard widths) before item) refl rests (goes widths (before ++ item ∷ []) items last)

nothing_left : (bad : Option ℕ) (broken : Option (ℕ × CaptureFault)) (debugger target : List ℕ) (items : List Item) → (broken ≡ None) ⊎ (last_lines (bad_or_broken bad broken) debugger target items ≡ [])
nothing_left None None debugger target items = inl refl
nothing_left None (Some place) debugger target items = inr refl
nothing_left (Some number) broken debugger target items = inr refl

-- the messages of a capture are those that hold, with their lines
pub are_shown : (text : List ℕ) → AreShown (widths_of (items_in text)) [] (items_that_hold text) (messages_of text)
are_shown text =
    let debugger = sent_by Debugger (capture_of text) in
    let target = sent_by Target (capture_of text) in
    let all = goes (widths_of (items_in text)) [] (items_in text) (last_lines (first_fault text) debugger target (items_in text)) (nothing_left (bad_line text) (broken_in Standard (items_in text)) debugger target (items_in text)) in
    let by_debugger = subst (λ (x : List Found). AreShown (widths_of (items_in text)) [] (items_that_hold text) (paired (lines (capture_lines text)) x (found_of Target (items_in text)))) (each_kept (capture_of text) Debugger) all in
    subst (λ (x : List Found). AreShown (widths_of (items_in text)) [] (items_that_hold text) (paired (lines (capture_lines text)) (found debugger) x)) (each_kept (capture_of text) Target) by_debugger

-- ---- their lines

abbrev pub line_after : ShownMeaning → List ℕ
line_after m = m.line ++ codes "\n"

-- their lines, a newline behind each, are those of the items
pub lines_are : (widths : Option Widths) (before items : List Item) (ms : List ShownMeaning) → AreShown widths before items ms → flat_map line_after ms ≡ lines_after (standard widths) before items
unfolding lines_after
lines_are widths before [] [] are = refl
lines_are widths before [] (m ∷ ms) are = absurd are
lines_are widths before (item ∷ items) [] are = absurd are
lines_are widths before (item ∷ items) (m ∷ ms) are =
    ap (λ (x : List ℕ). x ++ flat_map line_after ms) are.0.line ∙ ap (λ (x : List ℕ). found_line (standard widths) (waiting_for before item.found) item.sender item.found ++ x) (lines_are widths (before ++ item ∷ []) items ms are.1)
