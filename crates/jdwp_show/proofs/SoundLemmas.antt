-- Data of items that break no rule read by the layouts of their commands.
use Rattle.std.proofs.Common.{◌≡◌, ◌==◌, if◌then◌else◌, ℕ, Bool, true, cond, eqb, List, Option, Some, None, option_map, Result, Ok, Err, refl, sym, ap, ◌∙◌, inl, inr, arith}
use Rattle.std.specs.Option.{option_or}
use Rattle.std.proofs.lemmas.Bool.{cases_Bool}
use Rattle.std.proofs.lemmas.Bool.Decides.{nat_tests}
use Rattle.jdwp_wire.specs.ErrorCodes.{NONE}
use Rattle.jdwp_wire.specs.declared.data_fault.DataFault.{DataFault}
use Rattle.jdwp_wire.specs.declared.error_code.ErrorCode.{ErrorCode}
use Rattle.jdwp_wire.specs.declared.packet.Header.{Header}
use Rattle.jdwp_wire.specs.declared.packet.PacketKind.{PacketKind}
use Rattle.jdwp_wire.specs.declared.packet.PacketKind.TheVariants as kind
use Rattle.jdwp_wire.specs.Streams.{Packet}
use Rattle.jdwp_wire.specs.Widths.{Widths}
use Rattle.jdwp_layout.specs.Meanings.{DatumMeaning}
use Rattle.jdwp_layout.specs.Reads.{data_at}
use Rattle.jdwp_layout.specs.Rows.{RowShapes}
use Rattle.jdwp_show.specs.declared.capture_fault.CaptureFault.{CaptureFault}
use Rattle.jdwp_show.specs.declared.capture_fault.CaptureFault.TheVariants.{BadData}
use Rattle.jdwp_show.specs.declared.capture_line.Sender.{Sender}
use Rattle.jdwp_show.specs.declared.capture_line.Sender.TheVariants.{Debugger, Target}
use Rattle.jdwp_show.specs.declared.command_number.CommandNumber.{CommandNumber}
use Rattle.jdwp_show.specs.declared.table.Table.{Table}
use Rattle.jdwp_show.specs.declared.table.Table.TheVariants.{Standard, Jdi}
use Rattle.jdwp_show.specs.declared.terms.Terms.{Terms}
use Rattle.jdwp_layout.specs.CommandNumbers.{ID_SIZES}
use Rattle.jdwp_show.specs.Data.{shapes_of, shapes_under, fault_in, request_by, reply_by, is_id_sizes, widths_in, widths_by, reply_fault}
use Rattle.jdwp_show.specs.Found.{Sent}
use Rattle.jdwp_show.specs.MessageLines.{body_fault, request_in, reply_in}
use Rattle.jdwp_show.specs.Rules.{command_fault, packet_data_fault, Holds}
use Rattle.jdwp_show.proofs.DataLaws.{told_by_layout}

second_none : (x y : Option CaptureFault) → option_or x y ≡ None → y ≡ None
second_none None y e = e
second_none (Some fault) y e = cc

unmapped : (o : Option DataFault) → option_map (λ f. BadData f) o ≡ None → o ≡ None
unmapped None e = refl
unmapped (Some fault) e = cc

-- ---- commands

request_sound : (w : Option Widths) (shapes : Option RowShapes) (body : List ℕ) → request_by w shapes body ≡ None → body_fault w (request_in shapes) body ≡ None
request_sound w None body e = refl
request_sound w (Some shapes) body e = e

pub command_sound : (w : Terms) (waits : Option CommandNumber) (sender : Sender) (header : Header) (body : List ℕ) (set number : ℕ) → Holds w waits sender (Sent (Packet header body)) → header.kind ≡ kind.Command set number
    → body_fault w.sizes (request_in (shapes_under w.table (record { set = set; number = number }))) body ≡ None
command_sound w waits sender header body set number h is =
    let none : packet_data_fault w waits sender header.kind body ≡ None = second_none _ _ h.none_broken in
    let e : packet_data_fault w waits sender (kind.Command set number) body ≡ None = ap (λ (k : PacketKind). packet_data_fault w waits sender k body) (sym is) ∙ none in
    request_sound w.sizes (shapes_under w.table (record { set = set; number = number })) body (unmapped _ e)

-- ---- replies

sound_by : (w : Option Widths) (shapes : Option RowShapes) (body : List ℕ) → reply_by w shapes body ≡ None → body_fault w (reply_in shapes) body ≡ None
sound_by w None body e = refl
sound_by w (Some shapes) body e = e

read_so : (told : Result Widths DataFault) (read : Result (List DatumMeaning) DataFault) (ws : Result Widths DataFault) → fault_in told ≡ None → told ≡ ws → ((fault : DataFault) → read ≡ Err fault → ws ≡ Err fault) → fault_in read ≡ None
read_so told (Ok items) ws none same fails = refl
read_so told (Err fault) ws none same fails = let bad : told ≡ Err fault = same ∙ fails fault refl in let e = ap (λ (t : Result Widths DataFault). fault_in t) bad in cc

widths_sound : (w : Option Widths) (shapes : Option RowShapes) (body : List ℕ) → shapes_of (record { set = ID_SIZES.set; number = ID_SIZES.number }) ≡ shapes → fault_in (widths_in body) ≡ None → body_fault w (reply_in shapes) body ≡ None
widths_sound w None body is none = refl
widths_sound None (Some shapes) body is none = refl
widths_sound (Some widths) (Some shapes) body is none =
    read_so (widths_in body) (data_at widths shapes.reply body) (widths_by widths shapes.reply body) none (told_by_layout widths shapes body is) (λ fault bad. rw bad refl)

id_sizes : (command : CommandNumber) → is_id_sizes command ≡ true → command ≡ record { set = ID_SIZES.set; number = ID_SIZES.number }
id_sizes command e =
    let set : command.set ≡ ID_SIZES.set = grind (arith, nat_tests) in
    let number : command.number ≡ ID_SIZES.number = grind (arith, nat_tests) in
    λ i. record { set = set i; number = number i }

-- the layout of IDSizes is the same in each table
same_sizes : (table : Table) → shapes_of (record { set = ID_SIZES.set; number = ID_SIZES.number }) ≡ shapes_under table (record { set = ID_SIZES.set; number = ID_SIZES.number })
same_sizes Standard = refl
same_sizes Jdi = refl

answer_sound : (w : Terms) (command : CommandNumber) (body : List ℕ) → reply_fault w (Some command) body ≡ None → body_fault w.sizes (reply_in (shapes_under w.table command)) body ≡ None
answer_sound w command body none =
    elim (cases_Bool (is_id_sizes command)) [
      | inl widths ↦
          let is = id_sizes command widths in
          let e : fault_in (widths_in body) ≡ None = ap (λ (b : Bool). cond b (fault_in (widths_in body)) (reply_by w.sizes (shapes_under w.table command) body)) (sym widths) ∙ none in
          rw is (widths_sound w.sizes _ body (same_sizes w.table) e)
      | inr other ↦
          let e : reply_by w.sizes (shapes_under w.table command) body ≡ None = ap (λ (b : Bool). cond b (fault_in (widths_in body)) (reply_by w.sizes (shapes_under w.table command) body)) (sym other) ∙ none in
          sound_by w.sizes (shapes_under w.table command) body e
    ]

by_target : (w : Terms) (command : CommandNumber) (sender : Sender) (header : Header) (body : List ℕ) (error : ErrorCode) → Holds w (Some command) sender (Sent (Packet header body)) → header.kind ≡ kind.Reply error → packet_data_fault w (Some command) Target (kind.Reply error) body ≡ None
by_target w command Debugger header body error h is =
    let broken : option_or (command_fault (Some command) (kind.Reply error)) (packet_data_fault w (Some command) Debugger (kind.Reply error) body) ≡ None =
    ap (λ (k : PacketKind). option_or (command_fault (Some command) k) (packet_data_fault w (Some command) Debugger k body)) (sym is) ∙ h.none_broken in
    cc
by_target w command Target header body error h is = ap (λ (k : PacketKind). packet_data_fault w (Some command) Target k body) (sym is) ∙ second_none _ _ h.none_broken

reply_sound : (w : Terms) (command : CommandNumber) (sender : Sender) (header : Header) (body : List ℕ) (error : ErrorCode) → Holds w (Some command) sender (Sent (Packet header body)) → header.kind ≡ kind.Reply error → eqb error.0 0 ≡ true
    → body_fault w.sizes (reply_in (shapes_under w.table command)) body ≡ None
reply_sound w command sender header body error h is no_error =
    let none = by_target w command sender header body error h is in
    let e : option_map (λ f. BadData f) (reply_fault w (Some command) body) ≡ None = rw no_error at none in
    answer_sound w command body (unmapped _ e)

-- the same for any error code: with an error there is no layout
pub reply_sound_by : (w : Terms) (command : CommandNumber) (sender : Sender) (header : Header) (body : List ℕ) (error : ErrorCode) → Holds w (Some command) sender (Sent (Packet header body)) → header.kind ≡ kind.Reply error
    → body_fault w.sizes (if error.0 == NONE.0 then reply_in (shapes_under w.table command) else None) body ≡ None
reply_sound_by w command sender header body error h is = elim (cases_Bool (eqb error.0 0)) [
  | inl without ↦ rw without (reply_sound w command sender header body error h is without)
  | inr other ↦ rw other refl
]
