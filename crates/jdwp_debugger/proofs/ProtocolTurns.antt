-- Turns in the protocol's words.
use Rattle.std.proofs.Common.{◌≡◌, ◌≢◌, ◌∙◌, ℕ, ℤ, pos, ◌==◌, ◌≤◌, List, [], ◌∷◌, ◌++◌, Bool, true, false, ◌&&◌, ◌||◌, not, length, slice_get, if◌then◌else◌, Option, Some, None, Result, Ok, Err, sym, ap, refl, subst, arith, suc, zero}
use Rattle.std.specs.Prelude.{nat_le, remove}
use Rattle.std.specs.List.{filter}
use Rattle.std.specs.Option.{option_map}
use Rattle.std.proofs.lemmas.Bool.{eqb-true}
use Rattle.std.proofs.lemmas.Bool.Decides.{nat_tests}
use Rattle.jdwp_wire.specs.Streams.{NextMessage, Whole, More, Fault}
use Rattle.jdwp_wire.specs.Streams as streams
use Rattle.jdwp_wire.specs.Widths.{Widths}
use Rattle.jdwp_wire.specs.declared.error_code.ErrorCode.{ErrorCode}
use Rattle.jdwp_wire.specs.declared.packet.Header.{Header}
use Rattle.jdwp_wire.specs.declared.packet.PacketKind.{PacketKind}
use Rattle.jdwp_wire.specs.declared.packet.PacketKind.TheVariants as kind
use Rattle.jdwp_layout.specs.Meanings.{DatumMeaning, Int, One, ScalarMeaning}
use Rattle.jdwp_layout.specs.declared.answer.Answer.{Answer}
use Rattle.jdwp_layout.specs.declared.answer.Answer.TheVariants.{Data}
use Rattle.jdwp_end.specs.Ends.{front_of}
use Rattle.jdwp_event.specs.Composites.{CompositeMeaning, POLICY_ALL, POLICY_NONE}
use Rattle.jdwp_event.specs.Modifiers.{modifiers_of}
use Rattle.jdwp_event.specs.declared.kind.EventKind.TheVariants as event
use Rattle.jdwp_event.specs.Told.{composite_thread, has_event, is_vm_death}
use Rattle.jdwp_action.specs.Actions
use Rattle.jdwp_action.specs.Actions.{Action, Command, action_of, is_dispose}
use Rattle.jdwp_mirror.specs.Faults.{is_bad_event, is_bad_reply}
use Rattle.jdwp_mirror.specs.KnownThreads.{count_in, is_held_in}
use Rattle.jdwp_mirror.specs.Messages.{Reply, Report}
use Rattle.jdwp_mirror.specs.Mirror.{ends, first_count, has_other_id, held_after, is_thread, learned, learned_data, learned_event, one_less, one_more, other_count, own_count, requests_after_data}
use Rattle.jdwp_mirror.specs.Mirrors.{Mirror}
use Rattle.jdwp_mirror.specs.Widths.{widths_in}
use Rattle.jdwp_debugger.specs.declared.faults.DebuggerFault.{DebuggerFault}
use Rattle.jdwp_debugger.specs.declared.faults.DebuggerFault.TheVariants as code
use Rattle.jdwp_debugger.specs.declared.heads.Head.TheVariants as head
use Rattle.jdwp_debugger.specs.declared.order.Order.{Order}
use Rattle.jdwp_debugger.specs.declared.order.Order.TheVariants as order
use Rattle.jdwp_debugger.specs.declared.pending.Ticket.{Ticket}
use Rattle.jdwp_debugger.specs.declared.turning.Read.{Read}
use Rattle.jdwp_debugger.specs.declared.turning.Read.TheVariants as read
use Rattle.jdwp_debugger.specs.Debuggers.{Asked, Debugger, Parked}
use Rattle.jdwp_debugger.specs.DebuggerTurns.{Enters, ReadsAt, Told, TurnsAt, bad_where, closed_where, command_at, command_of, news_refusal, read_meaning, reading_of, refused, reply_head, with_read}
use Rattle.jdwp_debugger.specs.DebuggerTurns as tell
use Rattle.jdwp_debugger.specs.Holding.{held_in, is_held}
use Rattle.jdwp_debugger.specs.News.{News, Waits, Happens, Answers, Measures, Reading, answer_by, answer_says, composites_in, place_of, reply_at, reply_to, says, sizes_say, unless_bad, widths_by, with_composites}
use Rattle.jdwp_debugger.specs.Orders.{LearnedIn}
use Rattle.jdwp_debugger.specs.Protocol.{AnswersOwn, Hears, IsOver, Tells, count}
use Rattle.jdwp_debugger.proofs.Saying.{backs}

-- ---- what a reply says

-- which command a reply answers, and what its data are in the layout of that command's reply
record Own (r : Reading) (id : ℕ) (k : PacketKind) (bytes : List ℕ) (place ticket : ℕ) (answer : Answer) : Type 0 where
  error : ErrorCode
  is_reply : k ≡ kind.Reply error
  under : place_of id r.pending ≡ Some place
  asked : Asked
  waited : slice_get r.pending place ≡ Some asked
  of_ticket : asked.ticket ≡ Some (record { 0 = ticket })
  reads : answer_by r.order (widths_by r.sizes) asked.command error bytes ≡ Some answer

measures-no-answer : (place at ticket : ℕ) (x answer : Answer) (w : Widths) (cs : Option (List CompositeMeaning)) → with_composites at x w cs ≡ Ok (Answers place ticket answer) → ⊥
measures-no-answer place at ticket x answer w None e = cc
measures-no-answer place at ticket x answer w (Some cs) e = cc

sizes-no-answer : (parked : List Parked) (place at ticket : ℕ) (x answer : Answer) (w : Option Widths) → sizes_say parked at x w ≡ Ok (Answers place ticket answer) → ⊥
sizes-no-answer parked place at ticket x answer None e = cc
sizes-no-answer parked place at ticket x answer (Some w) e = measures-no-answer place at ticket x answer w (composites_in w parked) e

-- the place, the ticket and the answer that are said are these
record Same (at place ticket : ℕ) (k : Option Ticket) (x answer : Answer) : Type 0 where
  place_is : at ≡ place
  ticket_is : k ≡ Some (record { 0 = ticket })
  answer_is : x ≡ answer

said-same : (parked : List Parked) (place at ticket : ℕ) (k : Option Ticket) (x answer : Answer) → answer_says parked at k (Some x) ≡ Ok (Answers place ticket answer) → Same at place ticket k x answer
said-same parked place at ticket None x answer e = absurd (sizes-no-answer parked place at ticket x answer (widths_in x) e)
said-same parked place at ticket (Some k) x answer e =
    let same : Answers at k.0 x ≡ Answers place ticket answer = cc in
    record { place_is = cc; ticket_is = ap (λ (n : ℕ). Some (record { 0 = n })) (let n : k.0 ≡ ticket = cc in n); answer_is = cc }

said-by : (parked : List Parked) (place at ticket : ℕ) (k : Option Ticket) (c : Command) (a : Option Answer) (answer : Answer) → answer_says parked at k (unless_bad c a) ≡ Ok (Answers place ticket answer)
    → (x : Answer) × (a ≡ Some x) × Same at place ticket k x answer
said-by parked place at ticket k c None answer e = absurd cc
said-by parked place at ticket k c (Some x) answer e =
    elim (is_bad_reply c x) as (λ (b : Bool). answer_says parked at k (if b then None else Some x) ≡ Ok (Answers place ticket answer) → (y : Answer) × (Some x ≡ Some y) × Same at place ticket k y answer) [
      | true ↦ λ bad. absurd cc
      | false ↦ λ good. (x, refl, said-same parked place at ticket k x answer good)
    ] e

own-to : (r : Reading) (id : ℕ) (e : ErrorCode) (bytes : List ℕ) (at place ticket : ℕ) (answer : Answer) (found : Option Asked) → place_of id r.pending ≡ Some at → slice_get r.pending at ≡ found
    → reply_to r e bytes at found ≡ Ok (Answers place ticket answer) → Own r id (kind.Reply e) bytes place ticket answer
own-to r id e bytes at place ticket answer None under waited said = absurd cc
own-to r id e bytes at place ticket answer (Some asked) under waited said =
    let s = said-by r.parked place at ticket asked.ticket asked.command (answer_by r.order (widths_by r.sizes) asked.command e bytes) answer said in
    record {
      error = e;
      is_reply = refl;
      under = under ∙ ap Some s.2.place_is;
      asked = asked;
      waited = subst (λ (n : ℕ). slice_get r.pending n ≡ Some asked) s.2.place_is waited;
      of_ticket = s.2.ticket_is;
      reads = s.1 ∙ ap Some s.2.answer_is;
    }

own-at : (r : Reading) (id : ℕ) (e : ErrorCode) (bytes : List ℕ) (place ticket : ℕ) (answer : Answer) (found : Option ℕ) → place_of id r.pending ≡ found → reply_at r e bytes found ≡ Ok (Answers place ticket answer)
    → Own r id (kind.Reply e) bytes place ticket answer
own-at r id e bytes place ticket answer None under said = absurd cc
own-at r id e bytes place ticket answer (Some at) under said = own-to r id e bytes at place ticket answer (slice_get r.pending at) under refl said

own : (r : Reading) (id : ℕ) (k : PacketKind) (bytes : List ℕ) (place ticket : ℕ) (answer : Answer) → says r id k bytes ≡ Ok (Answers place ticket answer) → Own r id k bytes place ticket answer
own r id (kind.Command set number) bytes place ticket answer said = absurd (backs r id (kind.Command set number) bytes (Answers place ticket answer) said).0
own r id (kind.Reply e) bytes place ticket answer said = own-at r id e bytes place ticket answer (place_of id r.pending) refl said

-- ---- what a turn read

-- a packet was read, and this was told of it
record Heard (old new : Debugger) (next : NextMessage) (told : Told) : Type 0 where
  header : Header
  body : List ℕ
  used : ℕ
  front : next ≡ Whole (streams.Packet header body) used
  reads : ReadsAt header body used old told new

heard : (next : NextMessage) (old new : Debugger) (r : Read) (told : Told) → read_meaning r ≡ told → (told ≡ tell.Hello → ⊥) → (told ≡ tell.Nothing → ⊥) → TurnsAt next old (Ok r) new → Heard old new next told
heard (Whole streams.Handshake used) old new r told is no_hello some turns = absurd (no_hello (sym is ∙ turns.0))
heard (Whole (streams.Packet header body) used) old new r told is no_hello some turns = record {
  header = header;
  body = body;
  used = used;
  front = refl;
  reads = subst (λ (t : Told). ReadsAt header body used old t new) is turns;
}
heard More old new r told is no_hello some turns =
    let same : r ≡ read.Nothing = cc (turns.0) in
    absurd (some (sym is ∙ ap read_meaning same))
heard (Fault f) old new r told is no_hello some turns = absurd (let e = turns.0 in cc)

-- an answer was told of a packet, and this was left
record IsAnswer (old new : Debugger) (next : NextMessage) (ticket : ℕ) (answer : Answer) : Type 0 where
  header : Header
  body : List ℕ
  used : ℕ
  front : next ≡ Whole (streams.Packet header body) used
  place : ℕ
  said : says (reading_of old) header.id header.kind body ≡ Ok (Answers place ticket answer)
  mirror : Mirror
  learned_of : LearnedIn old.order old.mirror (Reply (Some ticket) (command_at place old.pending) answer) mirror
  middle : Debugger
  of_mirror : middle.mirror ≡ mirror
  of_pending : middle.pending ≡ remove old.pending place
  left : new ≡ closed_where (ends (Reply (Some ticket) (command_at place old.pending) answer)) middle

answer-by : (old new : Debugger) (header : Header) (body : List ℕ) (used ticket : ℕ) (answer : Answer) (news : News) → says (reading_of old) header.id header.kind body ≡ Ok news
    → Enters (streams.Packet header body) used header news old (tell.Answered ticket answer) new → IsAnswer old new (Whole (streams.Packet header body) used) ticket answer
answer-by old new header body used ticket answer (Waits bytes) said h = absurd (let e = h.0 in cc)
answer-by old new header body used ticket answer (Happens c) said h = absurd (let e = h.0 in cc)
answer-by old new header body used ticket answer (Answers place k a) said h =
    let e = h.0 in
    let ticket_is : k ≡ ticket = cc in
    let answer_is : a ≡ answer = cc in
    let next = Whole (streams.Packet header body) used in
    let at : IsAnswer old new next k a = record {
      header = header;
      body = body;
      used = used;
      front = refl;
      place = place;
      said = said;
      mirror = h.1.0;
      learned_of = h.1.1;
      middle = record (with_read (streams.Packet header body) used (reply_head header (command_at place old.pending) ∷ []) old) { mirror = h.1.0; pending = remove old.pending place; ledger = h.1.2 };
      of_mirror = refl;
      of_pending = refl;
      left = h.1.4;
    } in
    subst (λ (x : Answer). IsAnswer old new next ticket x) answer_is (subst (λ (n : ℕ). IsAnswer old new next n a) ticket_is at)
answer-by old new header body used ticket answer (Measures place a w cs) said h = absurd (let e = h.0 in cc)

answer-of : (next : NextMessage) (old new : Debugger) (ticket : ℕ) (answer : Answer) → Heard old new next (tell.Answered ticket answer) → IsAnswer old new next ticket answer
answer-of next old new ticket answer h =
    subst (λ (x : NextMessage). IsAnswer old new x ticket answer) (sym h.front) (answer-by old new h.header h.body h.used ticket answer h.reads.news h.reads.said h.reads.entered)

answered : (next : NextMessage) (old new : Debugger) (result : Result Read DebuggerFault) (ticket : ℕ) (answer : Answer) → TurnsAt next old result new → Tells (tell.Answered ticket answer) result → IsAnswer old new next ticket answer
answered next old new (Err fault) ticket answer turns told = absurd told
answered next old new (Ok r) ticket answer turns told = answer-of next old new ticket answer (heard next old new r (tell.Answered ticket answer) told (λ e. cc) (λ e. cc) turns)

-- a composite was told of a packet
record IsEvent (old new : Debugger) (c : CompositeMeaning) : Type 0 where
  mirror : Mirror
  learned_of : LearnedIn old.order old.mirror (Report c) mirror
  unrefused : news_refusal old.order old.mirror (Happens c) ≡ None
  middle : Debugger
  of_mirror : middle.mirror ≡ mirror
  of_order : middle.order ≡ old.order
  left : new ≡ closed_where (ends (Report c)) middle

event-by : (old new : Debugger) (header : Header) (body : List ℕ) (used : ℕ) (c : CompositeMeaning) (news : News) → news_refusal old.order old.mirror news ≡ None
    → Enters (streams.Packet header body) used header news old (tell.Seen c) new → IsEvent old new c
event-by old new header body used c (Waits bytes) unrefused h = absurd (let e = h.0 in cc)
event-by old new header body used c (Happens d) unrefused h =
    let e = h.0 in
    let is : d ≡ c = cc in
    subst (λ (x : CompositeMeaning). IsEvent old new x) is (record {
      mirror = h.1.0;
      learned_of = h.1.1;
      unrefused = unrefused;
      middle = record (with_read (streams.Packet header body) used (head.Composite header ∷ []) old) { mirror = h.1.0; ledger = h.1.2 };
      of_mirror = refl;
      of_order = refl;
      left = h.1.4;
    })
event-by old new header body used c (Answers place k a) unrefused h = absurd (let e = h.0 in cc)
event-by old new header body used c (Measures place a w cs) unrefused h = absurd (let e = h.0 in cc)

event-of : (next : NextMessage) (old new : Debugger) (c : CompositeMeaning) → Heard old new next (tell.Seen c) → IsEvent old new c
event-of next old new c h = event-by old new h.header h.body h.used c h.reads.news h.reads.unrefused h.reads.entered

seen : (next : NextMessage) (old new : Debugger) (result : Result Read DebuggerFault) (c : CompositeMeaning) → TurnsAt next old result new → Tells (tell.Seen c) result → IsEvent old new c
seen next old new (Err fault) c turns told = absurd told
seen next old new (Ok r) c turns told = event-of next old new c (heard next old new r (tell.Seen c) told (λ e. cc) (λ e. cc) turns)

-- ---- an answer, under the ticket of its command

pending-left : (b : Bool) (d new : Debugger) → new ≡ closed_where b d → new.pending ≡ d.pending
pending-left true d new left = ap (λ (x : Debugger). x.pending) left
pending-left false d new left = ap (λ (x : Debugger). x.pending) left

own-of : (old new : Debugger) (ticket : ℕ) (answer : Answer) (a : IsAnswer old new (front_of old.end) ticket answer) → Own (reading_of old) a.header.id a.header.kind a.body a.place ticket answer → AnswersOwn ticket answer old new
own-of old new ticket answer a o =
    record {
      header = a.header;
      body = a.body;
      used = a.used;
      front = a.front;
      error = o.error;
      is_reply = o.is_reply;
      place = a.place;
      under = o.under;
      asked = o.asked;
      waited = o.waited;
      of_ticket = o.of_ticket;
      reads = o.reads;
      settled = pending-left (ends (Reply (Some ticket) (command_at a.place old.pending) answer)) a.middle new a.left ∙ a.of_pending;
    }

own-answer : (old new : Debugger) (ticket : ℕ) (answer : Answer) → IsAnswer old new (front_of old.end) ticket answer → AnswersOwn ticket answer old new
own-answer old new ticket answer a = own-of old new ticket answer a (own (reading_of old) a.header.id a.header.kind a.body a.place ticket answer a.said)

pub answers-own : (old new : Debugger) (result : Result Read DebuggerFault) (ticket : ℕ) (answer : Answer) → TurnsAt (front_of old.end) old result new → Tells (tell.Answered ticket answer) result → AnswersOwn ticket answer old new
answers-own old new result ticket answer turns told = own-answer old new ticket answer (answered (front_of old.end) old new result ticket answer turns told)

-- ---- what is learned of an answer

-- what an answer to a command that asks this leaves
record Learns (action : Action) (content : List DatumMeaning) (old new : Debugger) : Type 0 where
  command : Command
  asks : action_of command ≡ action
  ticket : ℕ
  mirror : Mirror
  learned_of : LearnedIn old.order old.mirror (Reply (Some ticket) command (Data content)) mirror
  middle : Debugger
  of_mirror : middle.mirror ≡ mirror
  left : new ≡ closed_where (is_dispose action) middle

learns-of : (action : Action) (content : List DatumMeaning) (old new : Debugger) (result : Result Read DebuggerFault) (h : Hears action content old result) (a : IsAnswer old new (front_of old.end) h.ticket (Data content))
    → Own (reading_of old) a.header.id a.header.kind a.body a.place h.ticket (Data content) → Learns action content old new
learns-of action content old new result h a o =
    let fronts : Whole (streams.Packet a.header a.body) a.used ≡ Whole (streams.Packet h.header h.body) h.used = sym a.front ∙ h.front in
    let headers : a.header ≡ h.header = cc in
    let places : Some a.place ≡ Some h.place = sym o.under ∙ (ap (λ (x : Header). place_of x.id old.pending) headers ∙ h.under) in
    let place : a.place ≡ h.place = cc in
    let command : command_at a.place old.pending ≡ h.asked.command = ap (λ (n : ℕ). command_at n old.pending) place ∙ ap command_of h.waited in
    let asks = ap action_of command ∙ h.asks in
    record {
      command = command_at a.place old.pending;
      asks = asks;
      ticket = h.ticket;
      mirror = a.mirror;
      learned_of = a.learned_of;
      middle = a.middle;
      of_mirror = a.of_mirror;
      left = a.left ∙ ap (λ (x : Action). closed_where (is_dispose x) a.middle) asks;
    }

learns-by : (action : Action) (content : List DatumMeaning) (old new : Debugger) (result : Result Read DebuggerFault) (h : Hears action content old result) → IsAnswer old new (front_of old.end) h.ticket (Data content)
    → Learns action content old new
learns-by action content old new result h a = learns-of action content old new result h a (own (reading_of old) a.header.id a.header.kind a.body a.place h.ticket (Data content) a.said)

learns : (action : Action) (content : List DatumMeaning) (old new : Debugger) (result : Result Read DebuggerFault) → TurnsAt (front_of old.end) old result new → Hears action content old result → Learns action content old new
learns action content old new result turns h = learns-by action content old new result h (answered (front_of old.end) old new result h.ticket (Data content) turns h.told)

-- the mirror then, where the session goes on
mirror-is : (action : Action) (content : List DatumMeaning) (old new : Debugger) (l : Learns action content old new) → is_dispose action ≡ false → new.mirror ≡ l.mirror
mirror-is action content old new l goes_on = ap (λ (d : Debugger). d.mirror) l.left ∙ (ap (λ (b : Bool). (closed_where b l.middle).mirror) goes_on ∙ l.of_mirror)

-- a count, where each packet is sent as the target acts
count-is : (action : Action) (content : List DatumMeaning) (old new : Debugger) (result : Result Read DebuggerFault) → TurnsAt (front_of old.end) old result new → is_dispose action ≡ false → old.order ≡ order.One
    → Hears action content old result → (t : ℕ) → count new t ≡ learned_data action content t (count old t)
count-is action content old new result turns goes_on one h t =
    let l = learns action content old new result turns h in
    let known = subst (λ (o : Order). LearnedIn o old.mirror (Reply (Some l.ticket) l.command (Data content)) l.mirror) one l.learned_of in
    ap (λ (m : Mirror). count_in m.threads t) (mirror-is action content old new l goes_on) ∙ (known.counts t ∙ ap (λ (a : Action). learned_data a content t (count old t)) l.asks)

pub turned-suspend : (old new : Debugger) (result : Result Read DebuggerFault) (content : List DatumMeaning) → TurnsAt (front_of old.end) old result new → old.order ≡ order.One → Hears Actions.Suspend content old result
    → (t : ℕ) → count new t ≡ option_map one_more (count old t)
turned-suspend old new result content turns one h t = count-is Actions.Suspend content old new result turns refl one h t

pub turned-resume : (old new : Debugger) (result : Result Read DebuggerFault) (content : List DatumMeaning) → TurnsAt (front_of old.end) old result new → old.order ≡ order.One → Hears Actions.Resume content old result
    → (t : ℕ) → count new t ≡ option_map one_less (count old t)
turned-resume old new result content turns one h t = count-is Actions.Resume content old new result turns refl one h t

same-thread : (t : ℕ) → (t == t) ≡ true
same-thread t = grind (arith, nat_tests)

pub turned-count : (old new : Debugger) (result : Result Read DebuggerFault) (t n : ℕ) → TurnsAt (front_of old.end) old result new → old.order ≡ order.One
    → Hears (Actions.SuspendCount t) (One (Int (pos n)) ∷ []) old result → count new t ≡ Some n
turned-count old new result t n turns one h =
    count-is (Actions.SuspendCount t) (One (Int (pos n)) ∷ []) old new result turns refl one h t ∙ ap (λ (b : Bool). if b then Some n else count old t) (same-thread t)

-- the requests, in each order
requests-known : (o : Order) (old new : Mirror) (k : Option ℕ) (c : Command) (content : List DatumMeaning) → LearnedIn o old (Reply k c (Data content)) new → new.requests ≡ requests_after_data (action_of c) content old.requests
requests-known order.One old new k c content learned = learned.requests
requests-known order.Apart old new k c content learned = learned.1

requests-are : (action : Action) (content : List DatumMeaning) (old new : Debugger) (result : Result Read DebuggerFault) → TurnsAt (front_of old.end) old result new → is_dispose action ≡ false → Hears action content old result
    → new.mirror.requests ≡ requests_after_data action content old.mirror.requests
requests-are action content old new result turns goes_on h =
    let l = learns action content old new result turns h in
    ap (λ (m : Mirror). m.requests) (mirror-is action content old new l goes_on)
    ∙ (requests-known old.order old.mirror l.mirror (Some l.ticket) l.command content l.learned_of ∙ ap (λ (a : Action). requests_after_data a content old.mirror.requests) l.asks)

pub turned-set : (old new : Debugger) (result : Result Read DebuggerFault) (event_kind policy : ℕ) (entries : List (List ScalarMeaning)) (id : ℤ) → TurnsAt (front_of old.end) old result new
    → Hears (Actions.SetRequest event_kind policy entries) (One (Int id) ∷ []) old result
    → new.mirror.requests ≡ filter (has_other_id id) old.mirror.requests ++ record { id = id; kind = event_kind; policy = policy; modifiers = modifiers_of entries } ∷ []
turned-set old new result event_kind policy entries id turns h = requests-are (Actions.SetRequest event_kind policy entries) (One (Int id) ∷ []) old new result turns refl h

-- ---- the end of a session

pub over-closed : (d : Debugger) → IsOver (closed_where true d)
over-closed d = (refl, refl)

pub turned-dispose : (old new : Debugger) (result : Result Read DebuggerFault) (content : List DatumMeaning) → TurnsAt (front_of old.end) old result new → Hears Actions.Dispose content old result → IsOver new
turned-dispose old new result content turns h =
    let l = learns Actions.Dispose content old new result turns h in
    subst (λ (d : Debugger). IsOver d) (sym l.left) (over-closed l.middle)

pub turned-death : (old new : Debugger) (result : Result Read DebuggerFault) (c : CompositeMeaning) → TurnsAt (front_of old.end) old result new → Tells (tell.Seen c) result → is_vm_death c ≡ true → IsOver new
turned-death old new result c turns told death =
    let e = seen (front_of old.end) old new result c turns told in
    subst (λ (d : Debugger). IsOver d) (sym (e.left ∙ ap (λ (b : Bool). closed_where b e.middle) death)) (over-closed e.middle)

fails-over : (header : Header) (body : List ℕ) (old new : Debugger) (f : DebuggerFault) → tell.FailsAt header body old f new → f ≢ code.NoMemory → new ≡ refused old
fails-over header body old new code.NoMemory fails some = absurd (some refl)
fails-over header body old new (code.Frame g) fails some = fails.1
fails-over header body old new code.UnknownReply fails some = fails.1
fails-over header body old new code.BadReply fails some = fails.1
fails-over header body old new code.TooManyParked fails some = fails.1
fails-over header body old new code.BadEvent fails some = fails.1

refuses : (next : NextMessage) (old new : Debugger) (f : DebuggerFault) → TurnsAt next old (Err f) new → f ≢ code.NoMemory → new ≡ refused old
refuses (Whole streams.Handshake used) old new f turns some = absurd (some turns.0)
refuses (Whole (streams.Packet header body) used) old new f turns some = fails-over header body old new f turns some
refuses More old new f turns some = absurd (let e = turns.0 in cc)
refuses (Fault g) old new f turns some = turns.1

pub turned-refused : (old new : Debugger) (f : DebuggerFault) → TurnsAt (front_of old.end) old (Err f) new → f ≢ code.NoMemory → IsOver new
turned-refused old new f turns some = subst (λ (d : Debugger). IsOver d) (sym (refuses (front_of old.end) old new f turns some)) (refl, refl)

-- ---- nothing, and want of memory

no-news : (header : Header) (body : List ℕ) (used : ℕ) (old new : Debugger) (news : News) → Enters (streams.Packet header body) used header news old tell.Nothing new → ⊥
no-news header body used old new (Waits bytes) h = let e = h.0 in cc
no-news header body used old new (Happens c) h = let e = h.0 in cc
no-news header body used old new (Answers place k a) h = let e = h.0 in cc
no-news header body used old new (Measures place a w cs) h = let e = h.0 in cc

pub turned-nothing : (next : NextMessage) (old new : Debugger) → TurnsAt next old (Ok read.Nothing) new → new ≡ record old { last = [] }
turned-nothing (Whole streams.Handshake used) old new turns = absurd (let e = turns.0 in cc)
turned-nothing (Whole (streams.Packet header body) used) old new turns = absurd (no-news header body used old new turns.news turns.entered)
turned-nothing More old new turns = turns.1
turned-nothing (Fault f) old new turns = absurd (let e = turns.0 in cc)

pub turned-wanting : (next : NextMessage) (old new : Debugger) → TurnsAt next old (Err code.NoMemory) new → new ≡ old
turned-wanting (Whole streams.Handshake used) old new turns = turns.1
turned-wanting (Whole (streams.Packet header body) used) old new turns = turns.1
turned-wanting More old new turns = absurd (let e = turns.0 in cc)
turned-wanting (Fault f) old new turns = absurd (let e = turns.0 in cc)

-- ---- composites

-- of a composite that is not bad: its policy is one of the three, and where that is not NONE it is no VM_DEATH
record IsGood (c : CompositeMeaning) : Type 0 where
  policy : c.policy ≤ POLICY_ALL
  no_death : c.policy ≢ POLICY_NONE → is_vm_death c ≡ false

not-either : (a b : Bool) → (a || b) ≡ false → (a ≡ false) × (b ≡ false)
not-either true b e = absurd cc
not-either false b e = (refl, e)

no-death : (dies : Bool) (one : Bool) (policy : ℕ) → (dies && (not one || not (policy == POLICY_NONE))) ≡ false → policy ≢ POLICY_NONE → dies ≡ false
no-death false one policy e some = refl
no-death true true policy e some =
    let none : (policy == POLICY_NONE) ≡ true = (elim (policy == POLICY_NONE) as (λ (b : Bool). not b ≡ false → b ≡ true) [ true ↦ λ x. refl | false ↦ λ x. absurd cc ]) e in
    absurd (some (grind (arith, nat_tests)))
no-death true false policy e some = absurd cc

within-all : (policy : ℕ) → not (nat_le policy POLICY_ALL) ≡ false → policy ≤ POLICY_ALL
within-all policy fine = grind (arith, nat_tests)

good : (counts : ℕ → Option ℕ) (c : CompositeMeaning) → is_bad_event counts c ≡ false → IsGood c
good counts c fine =
    let a = not-either _ _ fine in
    let b = not-either _ _ a.1 in
    let d = not-either _ _ b.1 in
    let e = not-either _ _ d.1 in
    record {
      policy = within-all c.policy b.0;
      no_death = λ some. no-death (is_vm_death c) (length c.events == 1) c.policy e.1 some;
    }

unbad : (b : Bool) → bad_where b ≡ None → b ≡ false
unbad true e = absurd cc
unbad false e = refl

record Raised (old new : Debugger) (c : CompositeMeaning) : Type 0 where
  good : IsGood c
  counts : c.policy ≢ POLICY_NONE → (t : ℕ) → count new t ≡ learned (Report c) t (count old t)
  held : c.policy ≢ POLICY_NONE → (t : ℕ) → is_held new t ≡ held_after (Report c) t (is_held_in old.mirror.threads t) (count new t)

raised-by : (old new : Debugger) (c : CompositeMeaning) → old.order ≡ order.One → IsEvent old new c → Raised old new c
raised-by old new c one e =
    let fine : is_bad_event (count_in old.mirror.threads) c ≡ false = unbad _ (subst (λ (o : Order). news_refusal o old.mirror (Happens c) ≡ None) one e.unrefused) in
    let g = good (count_in old.mirror.threads) c fine in
    let known = subst (λ (o : Order). LearnedIn o old.mirror (Report c) e.mirror) one e.learned_of in
    let on : c.policy ≢ POLICY_NONE → new ≡ e.middle = λ some. e.left ∙ ap (λ (b : Bool). closed_where b e.middle) (g.no_death some) in
    let mirror : c.policy ≢ POLICY_NONE → new.mirror ≡ e.mirror = λ some. ap (λ (d : Debugger). d.mirror) (on some) ∙ e.of_mirror in
    let in_order : c.policy ≢ POLICY_NONE → new.order ≡ order.One = λ some. ap (λ (d : Debugger). d.order) (on some) ∙ (e.of_order ∙ one) in
    record {
      good = g;
      counts = λ some t. ap (λ (m : Mirror). count_in m.threads t) (mirror some) ∙ known.counts t;
      held = λ some t. ap (λ (o : Order). held_in o new t) (in_order some)
          ∙ (ap (λ (m : Mirror). is_held_in m.threads t) (mirror some)
          ∙ (known.held t ∙ ap (λ (m : Mirror). held_after (Report c) t (is_held_in old.mirror.threads t) (count_in m.threads t)) (sym (mirror some))));
    }

other-thread : (o : Option ℕ) (t : ℕ) → o ≢ Some t → is_thread o t ≡ false
other-thread None t other = refl
other-thread (Some u) t other =
    elim (u == t) as (λ (b : Bool). (u == t) ≡ b → b ≡ false) [
      | true ↦ λ same. absurd (other (ap Some (eqb-true u t same)))
      | false ↦ λ _. refl
    ] refl

-- the count of an event's own thread, by a policy that suspends it
own-one : (policy : ℕ) → policy ≤ POLICY_ALL → policy ≢ POLICY_NONE → first_count policy ≡ 1
own-one zero most some = absurd (some refl)
own-one (suc zero) most some = refl
own-one (suc (suc zero)) most some = refl
own-one (suc (suc (suc n))) most some = absurd (omega (arith, most))

no-last : (b : Bool) (policy : ℕ) → policy ≢ POLICY_NONE → (b && (policy == POLICY_NONE)) ≡ false
no-last false policy some = refl
no-last true policy some =
    elim (policy == POLICY_NONE) as (λ (b : Bool). (policy == POLICY_NONE) ≡ b → b ≡ false) [
      | true ↦ λ none. absurd (some (eqb-true policy POLICY_NONE none))
      | false ↦ λ _. refl
    ] refl

own-count : (c : CompositeMeaning) → c.policy ≤ POLICY_ALL → c.policy ≢ POLICY_NONE → own_count c ≡ Some 1
own-count c most some = ap (λ (b : Bool). if b then None else Some (first_count c.policy)) (no-last (has_event event.ThreadDeath c) c.policy some) ∙ ap Some (own-one c.policy most some)

pub turned-event-thread : (old new : Debugger) (result : Result Read DebuggerFault) (c : CompositeMeaning) (t : ℕ) → TurnsAt (front_of old.end) old result new → old.order ≡ order.One → Tells (tell.Seen c) result
    → c.policy ≢ POLICY_NONE → composite_thread c ≡ Some t → (count new t ≡ Some 1) × (is_held new t ≡ true)
turned-event-thread old new result c t turns one told some thread =
    let r = raised-by old new c one (seen (front_of old.end) old new result c turns told) in
    let own : is_thread (composite_thread c) t ≡ true = ap (λ (u : Option ℕ). is_thread u t) thread ∙ same-thread t in
    let counted : count new t ≡ Some 1 = r.counts some t
    ∙ (ap (λ (b : Bool). if b then None else learned_event c t (count old t)) (r.good.no_death some)
    ∙ (ap (λ (b : Bool). if b then own_count c else option_map (other_count c.policy) (count old t)) own ∙ own-count c r.good.policy some)) in (
      counted,
      r.held some t ∙ (ap (λ (n : Option ℕ). held_after (Report c) t (is_held_in old.mirror.threads t) n) counted ∙ ap (λ (b : Bool). b || is_held_in old.mirror.threads t) own),
    )

pub turned-event-all : (old new : Debugger) (result : Result Read DebuggerFault) (c : CompositeMeaning) (t : ℕ) → TurnsAt (front_of old.end) old result new → old.order ≡ order.One → Tells (tell.Seen c) result
    → c.policy ≡ POLICY_ALL → composite_thread c ≢ Some t → count new t ≡ option_map one_more (count old t)
turned-event-all old new result c t turns one told all other =
    let r = raised-by old new c one (seen (front_of old.end) old new result c turns told) in
    let some : c.policy ≢ POLICY_NONE = λ none. (let e : POLICY_ALL ≡ POLICY_NONE = sym all ∙ none in cc) in
    r.counts some t
    ∙ (ap (λ (b : Bool). if b then None else learned_event c t (count old t)) (r.good.no_death some)
    ∙ (ap (λ (b : Bool). if b then own_count c else option_map (other_count c.policy) (count old t)) (other-thread (composite_thread c) t other)
    ∙ ap (λ (policy : ℕ). option_map (other_count policy) (count old t)) all))
