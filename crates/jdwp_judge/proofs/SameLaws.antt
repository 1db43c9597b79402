-- What does not want the widths of ids is told alike whichever hold.
use Rattle.std.proofs.Common.{◌≡◌, if◌then◌else◌, ℕ, ◌+◌, Bool, true, false, eqb, ltb, List, [], ◌∷◌, ◌++◌, length, Option, Some, None, is_some, option_map, Result, Ok, Err, refl, sym, ap, ◌∙◌, arith, codes}
use Rattle.std.specs.Option.{option_or}
use Rattle.std.specs.Result.{result_ok}
use Rattle.std.proofs.lemmas.Bool.{lt-ltb}
use Rattle.jdwp_wire.specs.declared.data_fault.DataFault.{DataFault}
use Rattle.jdwp_wire.specs.declared.error_code.ErrorCode.{ErrorCode}
use Rattle.jdwp_wire.specs.declared.packet.Header.{Header}
use Rattle.jdwp_wire.specs.declared.packet.PacketKind.{PacketKind}
use Rattle.jdwp_wire.specs.declared.packet.PacketKind.TheVariants as kind
use Rattle.jdwp_wire.specs.Streams.{Handshake, Packet}
use Rattle.jdwp_wire.specs.Widths.{Widths}
use Rattle.jdwp_layout.specs.Rows.{RowShapes}
use Rattle.jdwp_layout.specs.Shapes.{ItemShape}
use Rattle.jdwp_show.specs.declared.capture_fault.CaptureFault.{CaptureFault}
use Rattle.jdwp_show.specs.declared.capture_fault.CaptureFault.TheVariants.{BadData}
use Rattle.jdwp_show.specs.declared.capture_line.Sender.{Sender}
use Rattle.jdwp_show.specs.declared.capture_line.Sender.TheVariants.{Debugger, Target}
use Rattle.jdwp_show.specs.declared.command_number.CommandNumber.{CommandNumber}
use Rattle.jdwp_show.specs.declared.table.Table.{Table}
use Rattle.jdwp_show.specs.Data.{shapes_under, fault_in, request_by, reply_by, is_id_sizes, widths_in, reply_fault}
use Rattle.jdwp_show.specs.DataText.{raw_text}
use Rattle.jdwp_show.specs.Found.{Found, Sent, Faulty}
use Rattle.jdwp_show.specs.Items.{Item}
use Rattle.jdwp_show.specs.MessageLines.{body_text, body_fault, request_in, reply_in, command_start, reply_start, packet_line, found_line}
use Rattle.jdwp_show.specs.Rules.{waiting_for, command_fault, target_fault, order_fault, packet_data_fault, data_fault, order_fault_of, fault_of}
use Rattle.jdwp_show.specs.Sessions.{told_by, told_in, told_widths, told_or_ended, widths_answer}
use Rattle.jdwp_show.specs.Tables.{terms_by}
use Rattle.jdwp_judge.specs.Told.{has_layout, reply_wants_widths, packet_wants_widths, wants_widths, widths_wanted}

pub none_of : {A : Type 0} (o : Option A) → is_some o ≡ false → o ≡ None
none_of None e = refl
none_of (Some a) e = cc

-- ---- data

bare : (w : Option Widths) (body : List ℕ) → body_text w None body ≡ raw_text body
bare None body = refl
bare (Some w) body = refl

-- no items and no bytes
record Alike (w : Option Widths) (layout : Option (List ItemShape)) (body : List ℕ) : Type 0 where
  fault : body_fault w layout body ≡ None
  text : body_text w layout body ≡ raw_text body

alike : (w : Option Widths) (layout : Option (List ItemShape)) (body : List ℕ) → has_layout layout body ≡ false → Alike w layout body
alike w None body e = record { fault = refl; text = bare w body }
alike None (Some layout) body e = record { fault = refl; text = refl }
alike (Some w) (Some []) [] e = record { fault = refl; text = refl }
alike (Some w) (Some []) (x ∷ xs) e =
    let none : List ItemShape = [] in
    let some : ltb 0 (length none + length (x ∷ xs)) ≡ true = lt-ltb 0 _ (omega arith) in
    absurd cc
alike (Some w) (Some (i ∷ layout)) body e =
    let some : ltb 0 (length (i ∷ layout) + length body) ≡ true = lt-ltb 0 _ (omega arith) in
    absurd cc

request_alike : (w : Option Widths) (shapes : Option RowShapes) (body : List ℕ) → has_layout (request_in shapes) body ≡ false → request_by w shapes body ≡ None
request_alike w None body e = refl
request_alike w (Some shapes) body e = (alike w (Some shapes.request) body e).fault

reply_alike : (w : Option Widths) (shapes : Option RowShapes) (body : List ℕ) → has_layout (reply_in shapes) body ≡ false → reply_by w shapes body ≡ None
reply_alike w None body e = refl
reply_alike w (Some shapes) body e = (alike w (Some shapes.reply) body e).fault

-- ---- packets

record SamePacket (table : Table) (w : Option Widths) (waits : Option CommandNumber) (sender : Sender) (id : ℕ) (k : PacketKind) (body : List ℕ) : Type 0 where
  fault : packet_data_fault (terms_by table w) waits sender k body ≡ packet_data_fault (terms_by table None) waits sender k body
  line : packet_data_fault (terms_by table None) waits sender k body ≡ None → packet_line (terms_by table w) waits sender id k body ≡ packet_line (terms_by table None) waits sender id k body

same_command : (table : Table) (w : Option Widths) (waits : Option CommandNumber) (sender : Sender) (id set number : ℕ) (body : List ℕ) → packet_wants_widths table waits (kind.Command set number) body ≡ false → SamePacket table w waits sender id (kind.Command set number) body
same_command table w waits sender id set number body e =
    let command : CommandNumber = record { set = set; number = number } in
    let shapes = shapes_under table command in
    record {
      fault = ap (λ (o : Option DataFault). option_map BadData o) (request_alike w shapes body e ∙ sym (request_alike None shapes body e));
      line = λ _. ap (λ (text : List ℕ). command_start sender id command ++ text ++ codes "\n") ((alike w (request_in shapes) body e).text ∙ sym (alike None (request_in shapes) body e).text);
    }

read_widths : (told : Result Widths DataFault) → option_map BadData (fault_in told) ≡ None → result_ok told ≡ None → ⊥
read_widths (Ok w) none untold = cc
read_widths (Err f) none untold = cc

-- a reply without an error to this command
same_answer : (table : Table) (w : Option Widths) (command : CommandNumber) (body : List ℕ) (sizes : Bool) → is_id_sizes command ≡ sizes → told_by (Some command) body ≡ None → reply_wants_widths table (Some command) body ≡ false
    → (reply_fault (terms_by table w) (Some command) body ≡ reply_fault (terms_by table None) (Some command) body) × (option_map BadData (reply_fault (terms_by table None) (Some command) body) ≡ None → body_text w (reply_in (shapes_under table command)) body ≡ body_text None (reply_in (shapes_under table command)) body)
same_answer table w command body true is untold wants = (
  rw is refl,
  λ none. absurd (read_widths (widths_in body) (rw is at none) (rw is at untold)),
)
same_answer table w command body false is untold wants =
    let e : has_layout (reply_in (shapes_under table command)) body ≡ false = rw is at wants in (
      rw is (reply_alike w (shapes_under table command) body e ∙ sym (reply_alike None (shapes_under table command) body e)),
      λ none. (alike w (reply_in (shapes_under table command)) body e).text ∙ sym (alike None (reply_in (shapes_under table command)) body e).text,
    )

same_reply : (table : Table) (w : Option Widths) (command : CommandNumber) (id : ℕ) (error : ErrorCode) (body : List ℕ) (good : Bool) → eqb error.0 0 ≡ good → told_in (Some command) (kind.Reply error) body ≡ None → packet_wants_widths table (Some command) (kind.Reply error) body ≡ false
    → SamePacket table w (Some command) Target id (kind.Reply error) body
same_reply table w command id error body true is untold wants =
    let a = same_answer table w command body (is_id_sizes command) refl (rw is at untold) (rw is at wants) in
    record {
      fault = rw is (ap (λ (o : Option DataFault). option_map BadData o) a.0);
      line = λ none. rw is (ap (λ (text : List ℕ). reply_start Target id command error.0 ++ text ++ codes "\n") (a.1 (rw is at none)));
    }
same_reply table w command id error body false is untold wants = record {
  fault = rw is refl;
  line = λ none. rw is (ap (λ (text : List ℕ). reply_start Target id command error.0 ++ text ++ codes "\n") (bare w body));
}

same_packet : (table : Table) (w : Option Widths) (begun : Bool) (waits : Option CommandNumber) (sender : Sender) (header : Header) (k : PacketKind) (body : List ℕ) → header.kind ≡ k → order_fault begun waits sender (Sent (Packet header body)) ≡ None → told_widths waits sender (Sent (Packet header body)) ≡ None
    → packet_wants_widths table waits k body ≡ false → SamePacket table w waits sender header.id k body
same_packet table w begun waits sender header (kind.Command set number) body is order untold wants = same_command table w waits sender header.id set number body wants
same_packet table w begun waits Debugger header (kind.Reply error) body is order untold wants =
    let e : command_fault waits (kind.Reply error) ≡ None = ap (λ (k : PacketKind). command_fault waits k) (sym is) ∙ order in
    absurd cc
same_packet table w begun None Target header (kind.Reply error) body is order untold wants =
    let e : target_fault None (kind.Reply error) ≡ None = ap (λ (k : PacketKind). target_fault None k) (sym is) ∙ order in
    absurd cc
same_packet table w begun (Some command) Target header (kind.Reply error) body is order untold wants =
    let e : told_in (Some command) (kind.Reply error) body ≡ None = ap (λ (k : PacketKind). told_in (Some command) k body) (sym is) ∙ untold in
    same_reply table w command header.id error body (eqb error.0 0) refl e wants

-- ---- items

record SameFound (table : Table) (w : Option Widths) (waits : Option CommandNumber) (sender : Sender) (found : Found) : Type 0 where
  fault : data_fault (terms_by table w) waits sender found ≡ data_fault (terms_by table None) waits sender found
  line : data_fault (terms_by table None) waits sender found ≡ None → found_line (terms_by table w) waits sender found ≡ found_line (terms_by table None) waits sender found

same_found : (table : Table) (w : Option Widths) (begun : Bool) (waits : Option CommandNumber) (sender : Sender) (found : Found) → order_fault begun waits sender found ≡ None → told_widths waits sender found ≡ None → wants_widths table waits found ≡ false → SameFound table w waits sender found
same_found table w begun waits sender (Sent Handshake) order untold wants = record { fault = refl; line = λ _. refl }
same_found table w begun waits sender (Faulty fault) order untold wants = record { fault = refl; line = λ _. refl }
same_found table w begun waits sender (Sent (Packet header body)) order untold wants =
    let p = same_packet table w begun waits sender header header.kind body refl order untold wants in
    record { fault = p.fault; line = p.line }

unsettled : (fault : Option CaptureFault) (w : Option Widths) → told_or_ended fault w ≡ None → (fault ≡ None) × (w ≡ None)
unsettled (Some fault) w e = absurd cc
unsettled None (Some w) e = absurd cc
unsettled None None e = (refl, refl)

unwanted : (b : Bool) (item : Item) → (if b then Some item else None) ≡ None → b ≡ false
unwanted true item e = absurd cc
unwanted false item e = refl

-- an item that does not want the widths and does not settle them
pub record SameItem (table : Table) (w : Option Widths) (before : List Item) (item : Item) : Type 0 where
  pub fault : fault_of (terms_by table w) before item ≡ fault_of (terms_by table None) before item
  pub line : fault_of (terms_by table None) before item ≡ None → found_line (terms_by table w) (waiting_for before item.found) item.sender item.found ≡ found_line (terms_by table None) (waiting_for before item.found) item.sender item.found

second_none : (x y : Option CaptureFault) → x ≡ None → option_or x y ≡ None → y ≡ None
second_none x y none e = rw none at e

pub same_item : (table : Table) (w : Option Widths) (before : List Item) (item : Item) → widths_wanted table before item ≡ None → widths_answer before item ≡ None → SameItem table w before item
same_item table w before item unwants unsettles =
    let u = unsettled (order_fault_of before item) (told_widths (waiting_for before item.found) item.sender item.found) unsettles in
    let f = same_found table w _ (waiting_for before item.found) item.sender item.found u.0 u.1 (unwanted _ item unwants) in
    record {
      fault = ap (λ (o : Option CaptureFault). option_or (order_fault_of before item) o) f.fault;
      line = λ none. f.line (second_none _ _ u.0 none);
    }
