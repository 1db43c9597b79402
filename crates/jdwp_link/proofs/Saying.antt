-- what a debugger reads of a packet under way
use Rattle.std.proofs.Common.{◌≡◌, ◌<◌, ℕ, ◌==◌, Bool, true, false, ◌||◌, cond, if◌then◌else◌, Option, Some, None, List, [], ◌∷◌, ◌++◌, length, map, Ok, refl, sym, ◌∙◌, ap, arith}
use Rattle.std.specs.List.{list_any}
use Rattle.std.proofs.lemmas.Bool.{ne_eqb}
use Rattle.jdwp_wire.specs.Widths.{Widths}
use Rattle.jdwp_wire.specs.declared.error_code.ErrorCode.{ErrorCode}
use Rattle.jdwp_wire.specs.ErrorCodes.{NONE}
use Rattle.jdwp_wire.specs.declared.packet.PacketKind.TheVariants as kind
use Rattle.jdwp_layout.specs.CommandNumbers.{EVENT, COMPOSITE}
use Rattle.jdwp_layout.specs.CommandTable.{row_at}
use Rattle.jdwp_layout.specs.declared.answer.Answer.{Answer}
use Rattle.jdwp_layout.specs.declared.answer.Answer.TheVariants.{Error}
use Rattle.jdwp_event.specs.Composites.{CompositeMeaning}
use Rattle.jdwp_action.specs.Actions.{Command}
use Rattle.jdwp_action.specs.AnswerPackets.{answer_bytes, error_of}
use Rattle.jdwp_action.specs.RowLayouts.{row_reply}
use Rattle.jdwp_mirror.specs.Faults.{PARKED_MOST, is_bad_reply}
use Rattle.jdwp_mirror.specs.Messages.{Ticket, Report}
use Rattle.jdwp_mirror.specs.Mirror.{ends}
use Rattle.jdwp_mirror.specs.Widths.{widths_in}
use Rattle.jdwp_debugger.specs.Debuggers.{AreDistinct, Parked}
use Rattle.jdwp_debugger.specs.DebuggerTurns.{reports}
use Rattle.jdwp_debugger.specs.News.{Waits, Happens, Answers, Measures, Reading, answer_by, answer_in, answer_says, composite_in, composites_in, data_by, event_says_by, reply_at, reply_to, says, unless_bad, widths_by, with_composites, sizes_say}
use Rattle.jdwp_debugger.specs.declared.order.Order.{Order}
use Rattle.jdwp_debugger.specs.declared.order.Order.TheVariants.{One, Apart}
use Rattle.jdwp_debugger.specs.declared.pending.Ticket as code
use Rattle.jdwp_model.specs.Events
use Rattle.jdwp_model.specs.Next.{composites_of, has_end, messages_of}
use Rattle.jdwp_model.specs.World.{Packet}
use Rattle.jdwp_link.specs.Stands.{AreParked}
use Rattle.jdwp_link.specs.Wires.{ticket_of}
use Rattle.jdwp_link.proofs.Awaiting.{IsFound, got, placed}

-- ---- replies

good : (c : Command) (a : Answer) (o : Option Answer) → o ≡ Some a → is_bad_reply c a ≡ false → unless_bad c o ≡ Some a
good c a o e h = ap (unless_bad c) e ∙ ap (λ b. cond b None (Some a)) h

error-either : (b z : Bool) (found : Option Answer) (x a : Answer) → (if b then found else (if z then Some x else None)) ≡ Some a → (if b then found else Some x) ≡ Some a
error-either true z found x a h = h
error-either false true found x a h = h
error-either false false found x a h = absurd (cc)

-- what has no data where it has an error is read in either order
read-either : (o : Order) (w : Widths) (c : Command) (e : ErrorCode) (bytes : List ℕ) (a : Answer) → answer_in w c e bytes ≡ Some a → answer_by o w c e bytes ≡ Some a
read-either One w c e bytes a h = h
read-either Apart w c e bytes a h = error-either (e.0 == NONE.0) (length bytes == 0) (data_by w (row_reply (row_at c.set c.number)) bytes) (Error e) a h

-- the reply to the command that waits under its id
reply-says : (r : Reading) (w : Widths) (id : ℕ) (k : Ticket) (c : Command) (a : Answer) → AreDistinct r.pending → (f : IsFound r.pending id k c)
    → answer_in (widths_by r.sizes) c (error_of a) (answer_bytes w a) ≡ Some a → is_bad_reply c a ≡ false
    → says r id (kind.Reply (error_of a)) (answer_bytes w a) ≡ answer_says r.parked (length f.before) f.asked.ticket (Some a)
reply-says r w id k c a distinct f reads h =
    ap (reply_at r (error_of a) (answer_bytes w a)) (placed r.pending id k c distinct f)
    ∙ (ap (reply_to r (error_of a) (answer_bytes w a) (length f.before)) (got r.pending id k c f)
    ∙ ap (answer_says r.parked (length f.before) f.asked.ticket)
    (ap (λ d. unless_bad d (answer_by r.order (widths_by r.sizes) d (error_of a) (answer_bytes w a))) f.is_command ∙ good c a _ (read-either r.order (widths_by r.sizes) c (error_of a) (answer_bytes w a) a reads) h))

by-ticket : (parked : List Parked) (place : ℕ) (o : Option code.Ticket) (k : ℕ) (a : Answer) → ticket_of o ≡ Some k → answer_says parked place o (Some a) ≡ Ok (Answers place k a)
by-ticket parked place None k a h = absurd (cc)
by-ticket parked place (Some j) k a h = let e : j.0 ≡ k = cc in ap (λ n. Ok (Answers place n a)) e

-- A reply under a ticket is read as the answer under that ticket.
pub says-answer : (r : Reading) (w : Widths) (id k : ℕ) (c : Command) (a : Answer) → AreDistinct r.pending → (f : IsFound r.pending id (Some k) c)
    → answer_in (widths_by r.sizes) c (error_of a) (answer_bytes w a) ≡ Some a → is_bad_reply c a ≡ false
    → says r id (kind.Reply (error_of a)) (answer_bytes w a) ≡ Ok (Answers (length f.before) k a)
says-answer r w id k c a distinct f reads h = reply-says r w id (Some k) c a distinct f reads h ∙ by-ticket r.parked (length f.before) f.asked.ticket k a f.has_ticket

without-ticket : (parked : List Parked) (place : ℕ) (o : Option code.Ticket) (a : Answer) (w : Widths) (cs : List CompositeMeaning) → ticket_of o ≡ None → widths_in a ≡ Some w → composites_in w parked ≡ Some cs
    → answer_says parked place o (Some a) ≡ Ok (Measures place a w cs)
without-ticket parked place None a w cs h e f = ap (sizes_say parked place a) e ∙ ap (with_composites place a w) f
without-ticket parked place (Some j) a w cs h e f = absurd (cc)

-- The reply to IDSizes tells the widths, and with them what waited.
pub says-sizes : (r : Reading) (w : Widths) (id : ℕ) (c : Command) (a : Answer) (cs : List CompositeMeaning) → AreDistinct r.pending → (f : IsFound r.pending id None c)
    → answer_in (widths_by r.sizes) c (error_of a) (answer_bytes w a) ≡ Some a → is_bad_reply c a ≡ false → widths_in a ≡ Some w → composites_in w r.parked ≡ Some cs
    → says r id (kind.Reply (error_of a)) (answer_bytes w a) ≡ Ok (Measures (length f.before) a w cs)
says-sizes r w id c a cs distinct f reads h is waited = reply-says r w id None c a distinct f reads h ∙ without-ticket r.parked (length f.before) f.asked.ticket a w cs f.has_ticket is waited

-- ---- composites

pub says-event : (r : Reading) (w : Widths) (id : ℕ) (c : CompositeMeaning) (body : List ℕ) → r.sizes ≡ Some w → composite_in w body ≡ Some c → says r id (kind.Command EVENT COMPOSITE.number) body ≡ Ok (Happens c)
says-event r w id c body known reads = rw known (ap event_says_by reads)

pub says-parked : (r : Reading) (id : ℕ) (body : List ℕ) → r.sizes ≡ None → length r.parked < PARKED_MOST → says r id (kind.Command EVENT COMPOSITE.number) body ≡ Ok (Waits body)
says-parked r id body unknown few =
    let less : (length r.parked == PARKED_MOST) ≡ false = ne_eqb (length r.parked) PARKED_MOST (λ e. absurd (omega arith)) in
    rw (unknown, less) refl

-- ---- the composites that waited

-- what waits are the composites of these packets
pub record AreComposites {S : Type 0} (w : Widths) (parked : List Parked) (packets : List (Packet S)) : Type 0 where
  pub composites : List CompositeMeaning
  pub read : composites_in w parked ≡ Some composites
  pub messages : reports composites ≡ messages_of packets
  pub told : map Events.Seen composites ≡ composites_of packets
  pub ends_by : list_any ends (reports composites) ≡ has_end packets

pub parked-are : {S : Type 0} (w : Widths) (parked : List Parked) (packets : List (Packet S)) → AreParked w parked packets → AreComposites w parked packets
parked-are w [] [] h = record { composites = []; read = refl; messages = refl; told = refl; ends_by = refl }
parked-are w (p ∷ ps) ((Report c, a) ∷ qs) h =
    let rest = parked-are w ps qs h.1 in
    record {
      composites = c ∷ rest.composites;
      read = rw (h.0, rest.read) refl;
      messages = ap (λ l. Report c ∷ l) rest.messages;
      told = ap (λ l. Events.Seen c ∷ l) rest.told;
      ends_by = ap (λ b. ends (Report c) || b) rest.ends_by;
    }
parked-are w ps qs h = absurd h

pub parked-length : {S : Type 0} (w : Widths) (parked : List Parked) (packets : List (Packet S)) → AreParked w parked packets → length parked ≡ length (messages_of packets)
parked-length w [] [] h = refl
parked-length w (p ∷ ps) ((Report c, a) ∷ qs) h = let rest = parked-length w ps qs h.1 in omega arith
parked-length w ps qs h = absurd h

pub parked-more : {S : Type 0} (w : Widths) (parked : List Parked) (packets : List (Packet S)) (p : Parked) (c : CompositeMeaning) (q : Packet S) → q.0 ≡ Report c → composite_in w p.body ≡ Some c → AreParked w parked packets → AreParked w (parked ++ p ∷ []) (packets ++ q ∷ [])
parked-more w [] [] p c (Report d, a) e reads h = let same : d ≡ c = cc in (reads ∙ ap Some (sym same), tt)
parked-more w [] [] p c q e reads h = absurd (cc)
parked-more w (x ∷ xs) ((Report d, a) ∷ ys) p c q e reads h = (h.0, parked-more w xs ys p c q e reads h.1)
parked-more w xs ys p c q e reads h = absurd h

pub parked-none : {S : Type 0} (w : Widths) (parked : List Parked) (packets : List (Packet S)) → parked ≡ [] → AreParked w parked packets → packets ≡ []
parked-none w [] [] e h = refl
parked-none w [] (q ∷ qs) e h = absurd h
parked-none w (p ∷ ps) qs e h = absurd (cc)
