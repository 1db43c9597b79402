-- What a turn did, by what it answered.
use Rattle.std.proofs.Common.{◌≡◌, ◌≢◌, ◌∙◌, ℕ, ◌+◌, ◌++◌, List, [], Bool, true, false, Option, Some, None, Result, Ok, Err, is_some, slice_get, if◌then◌else◌, ap, refl, subst, sym, arith}
use Rattle.std.proofs.lemmas.List.{append-nil}
use Rattle.std.specs.List.{list_any}
use Rattle.jdwp_wire.specs.declared.error_code.ErrorCode.{ErrorCode}
use Rattle.jdwp_wire.specs.declared.packet.Header.{Header}
use Rattle.jdwp_wire.specs.declared.packet.PacketKind.{PacketKind}
use Rattle.jdwp_wire.specs.declared.packet.PacketKind.TheVariants as kind
use Rattle.jdwp_wire.specs.Frames.{header_bytes}
use Rattle.jdwp_wire.specs.Streams.{NextMessage, Whole, More, Fault}
use Rattle.jdwp_wire.specs.Streams as streams
use Rattle.jdwp_wire.specs.Widths.{Widths}
use Rattle.jdwp_layout.specs.declared.answer.Answer.{Answer}
use Rattle.jdwp_event.specs.Composites.{CompositeMeaning}
use Rattle.jdwp_end.specs.Ends.{front_of, is_open}
use Rattle.jdwp_debugger.specs.declared.faults.DebuggerFault.{DebuggerFault}
use Rattle.jdwp_debugger.specs.declared.faults.DebuggerFault.TheVariants as code
use Rattle.jdwp_debugger.specs.declared.order.Order.{Order}
use Rattle.jdwp_debugger.specs.declared.order.Order.TheVariants as order
use Rattle.jdwp_debugger.specs.declared.pending.Ticket.{Ticket}
use Rattle.jdwp_debugger.specs.declared.turning.Read.{Read}
use Rattle.jdwp_debugger.specs.declared.turning.Read.TheVariants as read
use Rattle.jdwp_debugger.specs.Debuggers.{Asked, Debugger, Parked as Waiting}
use Rattle.jdwp_debugger.specs.DebuggerTurns.{Enters, HandlesAt, Told, TurnsAt, closed_where, command_at, command_of, greeted, measured_where, reading_of, refused, reports, sizes_header, read_meaning}
use Rattle.jdwp_debugger.specs.DebuggerTurns as tell
use Rattle.jdwp_mirror.specs.Messages.{Reply, Report}
use Rattle.jdwp_mirror.specs.Mirror.{ends}
use Rattle.jdwp_debugger.specs.News.{News, Waits, Happens, Answers, Measures, Reading, answer_says, event_says, event_says_by, place_of, reply_at, reply_to, says, sizes_say, unless_bad, answer_by, widths_by, with_composites, composites_in}
use Rattle.jdwp_mirror.specs.Widths.{widths_in}
use Rattle.jdwp_attach.specs.OwnCounts.{due_behind, due_count, due_in}
use Rattle.jdwp_attach.specs.PlanRuns.{TellsEnd}

-- Between two states of a debugger, so many messages were handled and so many commands asked, and bytes were put behind those that wait.
pub record Moves (old new : Debugger) (turns tickets : ℕ) : Type 0 where
  pub order : new.order ≡ old.order
  pub kept : new.end.session.lost ≡ old.end.session.lost
  pub fed : new.end.session.fed ≡ old.end.session.fed
  pub turns_are : new.end.session.turns ≡ old.end.session.turns + turns
  pub tickets_are : new.tickets ≡ old.tickets + tickets
  pub bytes : List ℕ
  pub taken : new.end.session.taken ≡ old.end.session.taken
  pub enqueued : new.end.session.enqueued ≡ old.end.session.enqueued ++ bytes
  pub outgoing : new.end.outgoing ≡ old.end.outgoing ++ bytes

-- A turn that read something, and why it closed the session where it did; else the widths of ids that were known still are.
pub record Reads (old new : Debugger) (why : Type 0) : Type 0 where
  pub moves : Moves old new 1 0
  pub known : is_some old.sizes ≡ true → is_open new.end ≡ true → is_some new.sizes ≡ true
  pub closes : is_open new.end ≡ false → why

-- ---- a turn that handled nothing

entered-nothing : (message : streams.Message) (used : ℕ) (header : Header) (news : News) (old new : Debugger) → Enters message used header news old tell.Nothing new → ⊥
entered-nothing message used header (Waits bytes) old new h = let e = h.0 in cc
entered-nothing message used header (Happens c) old new h = let e = h.0 in cc
entered-nothing message used header (Answers place ticket answer) old new h = let e = h.0 in cc
entered-nothing message used header (Measures place answer w cs) old new h = let e = h.0 in cc

handled-nothing : (message : streams.Message) (used : ℕ) (old new : Debugger) → HandlesAt message used old (Ok read.Nothing) new → ⊥
handled-nothing streams.Handshake used old new h = let e = h.0 in cc
handled-nothing (streams.Packet header body) used old new h = entered-nothing (streams.Packet header body) used header h.news old new h.entered

pub nothing-More : (next : NextMessage) (old new : Debugger) → TurnsAt next old (Ok read.Nothing) new → (next ≡ More) × (new ≡ record old { last = [] })
nothing-More (Whole message used) old new h = absurd (handled-nothing message used old new h)
nothing-More More old new h = (refl, h.1)
nothing-More (Fault fault) old new h = absurd (let e = h.0 in cc)

-- ---- a turn that failed

packet-memory : (header : Header) (body : List ℕ) (used : ℕ) (old new : Debugger) → HandlesAt (streams.Packet header body) used old (Err code.NoMemory) new → new ≡ old
packet-memory header body used old new h = h.1

pub memory-same : (next : NextMessage) (old new : Debugger) → TurnsAt next old (Err code.NoMemory) new → new ≡ old
memory-same (Whole streams.Handshake used) old new h = h.1
memory-same (Whole (streams.Packet header body) used) old new h = packet-memory header body used old new h
memory-same More old new h = absurd (let e = h.0 in cc)
memory-same (Fault fault) old new h = absurd (let e = h.0 in cc)

packet-fault : (header : Header) (body : List ℕ) (used : ℕ) (old new : Debugger) (fault : DebuggerFault) → fault ≢ code.NoMemory → HandlesAt (streams.Packet header body) used old (Err fault) new → new ≡ refused old
packet-fault header body used old new code.NoMemory some h = absurd (some refl)
packet-fault header body used old new (code.Frame fault) some h = h.1
packet-fault header body used old new code.UnknownReply some h = h.1
packet-fault header body used old new code.BadReply some h = h.1
packet-fault header body used old new code.TooManyParked some h = h.1
packet-fault header body used old new code.BadEvent some h = h.1

pub fault-refused : (next : NextMessage) (old new : Debugger) (fault : DebuggerFault) → fault ≢ code.NoMemory → TurnsAt next old (Err fault) new → new ≡ refused old
fault-refused (Whole streams.Handshake used) old new fault some h = absurd (some h.0)
fault-refused (Whole (streams.Packet header body) used) old new fault some h = packet-fault header body used old new fault some h
fault-refused More old new fault some h = absurd (let e = h.0 in cc)
fault-refused (Fault fault') old new fault some h = h.1

-- ---- a turn that read something

greeted-moves : (used : ℕ) (old : Debugger) → Moves old (greeted used old) 1 0
greeted-moves used old = record {
  order = refl;
  kept = refl;
  fed = refl;
  turns_are = refl;
  tickets_are = omega arith;
  bytes = header_bytes (sizes_header old.next_id);
  taken = refl;
  enqueued = refl;
  outgoing = refl;
}

-- a packet that put nothing
record Handled (old new : Debugger) : Type 0 where
  order : new.order ≡ old.order
  kept : new.end.session.lost ≡ old.end.session.lost
  fed : new.end.session.fed ≡ old.end.session.fed
  turns_are : new.end.session.turns ≡ old.end.session.turns + 1
  tickets_are : new.tickets ≡ old.tickets
  taken : new.end.session.taken ≡ old.end.session.taken
  enqueued : new.end.session.enqueued ≡ old.end.session.enqueued
  outgoing : new.end.outgoing ≡ old.end.outgoing

handled-moves : (old new : Debugger) → Handled old new → Moves old new 1 0
handled-moves old new h = record {
  order = h.order;
  kept = h.kept;
  fed = h.fed;
  turns_are = h.turns_are;
  tickets_are = omega (arith, h.tickets_are);
  bytes = [];
  taken = h.taken;
  enqueued = h.enqueued ∙ sym (append-nil old.end.session.enqueued);
  outgoing = h.outgoing ∙ sym (append-nil old.end.outgoing);
}

handled-where : (b : Bool) (old mid : Debugger) → Handled old mid → Handled old (closed_where b mid)
handled-where true old mid h = record { order = h.order; kept = h.kept; fed = h.fed; turns_are = h.turns_are; tickets_are = h.tickets_are; taken = h.taken; enqueued = h.enqueued; outgoing = h.outgoing }
handled-where false old mid h = h

handled-measured : (b : Bool) (w : Widths) (old mid : Debugger) → Handled old mid → Handled old (measured_where b w mid)
handled-measured true w old mid h = record { order = h.order; kept = h.kept; fed = h.fed; turns_are = h.turns_are; tickets_are = h.tickets_are; taken = h.taken; enqueued = h.enqueued; outgoing = h.outgoing }
handled-measured false w old mid h = h

closed-so : (b : Bool) (mid : Debugger) → is_open mid.end ≡ true → is_open (closed_where b mid).end ≡ false → b ≡ true
closed-so true mid opened closed = refl
closed-so false mid opened closed = absurd (let e = sym opened ∙ closed in cc)

measured-so : (b : Bool) (w : Widths) (mid : Debugger) → is_open mid.end ≡ true → is_open (measured_where b w mid).end ≡ false → b ≡ true
measured-so true w mid opened closed = refl
measured-so false w mid opened closed = absurd (let e = sym opened ∙ closed in cc)

known-where : (b : Bool) (mid : Debugger) → is_some mid.sizes ≡ true → is_open (closed_where b mid).end ≡ true → is_some (closed_where b mid).sizes ≡ true
known-where true mid known opened = absurd (let e = opened in cc)
known-where false mid known opened = known

known-measured : (b : Bool) (w : Widths) (mid : Debugger) → mid.sizes ≡ Some w → is_some (measured_where b w mid).sizes ≡ true
known-measured true w mid is = refl
known-measured false w mid is = ap (λ (o : Option Widths). is_some o) is

-- ---- which command an answer is to

waits-or-not : (b : Bool) (bytes : List ℕ) (place ticket : ℕ) (answer : Answer) → (if b then Err code.TooManyParked else Ok (Waits bytes)) ≡ Ok (Answers place ticket answer) → ⊥
waits-or-not true bytes place ticket answer e = cc
waits-or-not false bytes place ticket answer e = cc

happens-not : (c : Option CompositeMeaning) (place ticket : ℕ) (answer : Answer) → event_says_by c ≡ Ok (Answers place ticket answer) → ⊥
happens-not None place ticket answer e = cc
happens-not (Some c) place ticket answer e = cc

event-not : (sizes : Option Widths) (parked : List Waiting) (bytes : List ℕ) (place ticket : ℕ) (answer : Answer) → event_says sizes parked bytes ≡ Ok (Answers place ticket answer) → ⊥
event-not None parked bytes place ticket answer e = waits-or-not _ bytes place ticket answer e
event-not (Some w) parked bytes place ticket answer e = happens-not _ place ticket answer e

command-not : (b : Bool) (sizes : Option Widths) (parked : List Waiting) (bytes : List ℕ) (place ticket : ℕ) (answer : Answer)
    → (if b then event_says sizes parked bytes else Err code.BadEvent) ≡ Ok (Answers place ticket answer) → ⊥
command-not true sizes parked bytes place ticket answer e = event-not sizes parked bytes place ticket answer e
command-not false sizes parked bytes place ticket answer e = cc

composites-not : (at : ℕ) (a : Answer) (w : Widths) (cs : Option (List CompositeMeaning)) (place ticket : ℕ) (answer : Answer) → with_composites at a w cs ≡ Ok (Answers place ticket answer) → ⊥
composites-not at a w None place ticket answer e = cc
composites-not at a w (Some cs) place ticket answer e = cc

sizes-not : (parked : List Waiting) (at : ℕ) (a : Answer) (w : Option Widths) (place ticket : ℕ) (answer : Answer) → sizes_say parked at a w ≡ Ok (Answers place ticket answer) → ⊥
sizes-not parked at a None place ticket answer e = cc
sizes-not parked at a (Some w) place ticket answer e = composites-not at a w (composites_in w parked) place ticket answer e

answer-of : (parked : List Waiting) (at : ℕ) (k : Option Ticket) (a : Option Answer) (place ticket : ℕ) (answer : Answer) → answer_says parked at k a ≡ Ok (Answers place ticket answer)
    → (at ≡ place) × (k ≡ Some (record { 0 = ticket }))
answer-of parked at k None place ticket answer e = absurd cc
answer-of parked at (Some k) (Some a) place ticket answer e =
    let same : k.0 ≡ ticket = cc in
    (cc, ap (λ (n : ℕ). Some (record { 0 = n })) same)
answer-of parked at None (Some a) place ticket answer e = absurd (sizes-not parked at a (widths_in a) place ticket answer e)

reply-of : (r : Reading) (e : ErrorCode) (bytes : List ℕ) (at : ℕ) (found : Option Asked) (place ticket : ℕ) (answer : Answer) → slice_get r.pending at ≡ found
    → reply_to r e bytes at found ≡ Ok (Answers place ticket answer) → (asked : Asked) × (slice_get r.pending place ≡ Some asked) × (asked.ticket ≡ Some (record { 0 = ticket }))
reply-of r e bytes at None place ticket answer there h = absurd cc
reply-of r e bytes at (Some asked) place ticket answer there h =
    let a = answer-of r.parked at asked.ticket (unless_bad asked.command (answer_by r.order (widths_by r.sizes) asked.command e bytes)) place ticket answer h in
    (asked, rw (← a.0) there, a.1)

reply-at : (r : Reading) (e : ErrorCode) (bytes : List ℕ) (at : Option ℕ) (place ticket : ℕ) (answer : Answer)
    → reply_at r e bytes at ≡ Ok (Answers place ticket answer) → (asked : Asked) × (slice_get r.pending place ≡ Some asked) × (asked.ticket ≡ Some (record { 0 = ticket }))
reply-at r e bytes None place ticket answer h = absurd cc
reply-at r e bytes (Some at) place ticket answer h = reply-of r e bytes at (slice_get r.pending at) place ticket answer refl h

pub asked-of : (r : Reading) (id : ℕ) (k : PacketKind) (bytes : List ℕ) (place ticket : ℕ) (answer : Answer)
    → says r id k bytes ≡ Ok (Answers place ticket answer) → (asked : Asked) × (slice_get r.pending place ≡ Some asked) × (asked.ticket ≡ Some (record { 0 = ticket }))
asked-of r id (kind.Command set number) bytes place ticket answer e = absurd (command-not _ r.sizes r.parked bytes place ticket answer e)
asked-of r id (kind.Reply error) bytes place ticket answer e = reply-at r error bytes (place_of id r.pending) place ticket answer e

-- ---- packets

packet-read : (header : Header) (body : List ℕ) (used : ℕ) (news : News) (old new : Debugger) (t : Told) → says (reading_of old) header.id header.kind body ≡ Ok news
    → Enters (streams.Packet header body) used header news old t new → Reads old new (TellsEnd old t)
packet-read header body used (Waits bytes) old new t said h =
    rw (h.0, h.1) (record {
      moves = handled-moves old _ (record { order = refl; kept = refl; fed = refl; turns_are = refl; tickets_are = refl; taken = refl; enqueued = refl; outgoing = refl });
      known = λ known opened. known;
      closes = λ closed. absurd (let e = closed in cc);
    })
packet-read header body used (Happens c) old new t said h =
    rw (h.0, h.1.4) (record {
      moves = handled-moves old _ (handled-where (ends (Report c)) old _ (record { order = refl; kept = refl; fed = refl; turns_are = refl; tickets_are = refl; taken = refl; enqueued = refl; outgoing = refl }));
      known = λ known opened. known-where (ends (Report c)) _ known opened;
      closes = λ closed. closed-so (ends (Report c)) _ refl closed;
    })
packet-read header body used (Answers place ticket answer) old new t said h =
    let a = asked-of (reading_of old) header.id header.kind body place ticket answer said in
    let command : command_at place old.pending ≡ a.0.command = ap command_of a.1 in
    let b : Bool = ends (Reply (Some ticket) (command_at place old.pending) answer) in
    rw (h.0, h.1.4) (record {
      moves = handled-moves old _ (handled-where b old _ (record { order = refl; kept = refl; fed = refl; turns_are = refl; tickets_are = refl; taken = refl; enqueued = refl; outgoing = refl }));
      known = λ known opened. known-where b _ known opened;
      closes = λ closed. record {
        place = place;
        asked = a.0;
        there = a.1;
        under = a.2;
        ends = rw (← command) (closed-so b _ refl closed);
      };
    })
packet-read header body used (Measures place answer w cs) old new t said h =
    let b : Bool = list_any ends (reports cs) in
    rw (h.0, h.1.4) (record {
      moves = handled-moves old _ (handled-measured b w old _ (record { order = refl; kept = refl; fed = refl; turns_are = refl; tickets_are = refl; taken = refl; enqueued = refl; outgoing = refl }));
      known = λ known opened. known-measured b w _ refl;
      closes = λ closed. measured-so b w _ refl closed;
    })

-- what a packet put: nothing
where-enqueued : (b : Bool) (mid : Debugger) → (closed_where b mid).end.session.enqueued ≡ mid.end.session.enqueued
where-enqueued true mid = refl
where-enqueued false mid = refl

measured-enqueued : (b : Bool) (w : Widths) (mid : Debugger) → (measured_where b w mid).end.session.enqueued ≡ mid.end.session.enqueued
measured-enqueued true w mid = refl
measured-enqueued false w mid = refl

pub packet-enqueued : (message : streams.Message) (used : ℕ) (header : Header) (news : News) (old new : Debugger) (t : Told) → Enters message used header news old t new
    → new.end.session.enqueued ≡ old.end.session.enqueued
packet-enqueued message used header (Waits bytes) old new t h = ap (λ (d : Debugger). d.end.session.enqueued) h.1
packet-enqueued message used header (Happens c) old new t h = ap (λ (d : Debugger). d.end.session.enqueued) h.1.4 ∙ where-enqueued (ends (Report c)) _
packet-enqueued message used header (Answers place ticket answer) old new t h =
    ap (λ (d : Debugger). d.end.session.enqueued) h.1.4 ∙ where-enqueued (ends (Reply (Some ticket) (command_at place old.pending) answer)) _
packet-enqueued message used header (Measures place answer w cs) old new t h = ap (λ (d : Debugger). d.end.session.enqueued) h.1.4 ∙ measured-enqueued (list_any ends (reports cs)) w _

handled-read : (message : streams.Message) (used : ℕ) (old new : Debugger) (r : Read) → HandlesAt message used old (Ok r) new → Reads old new (TellsEnd old (read_meaning r))
handled-read streams.Handshake used old new r h =
    rw h.2 (record {
      moves = greeted-moves used old;
      known = λ known opened. known;
      closes = λ closed. absurd (let e = closed in cc);
    })
handled-read (streams.Packet header body) used old new r h = packet-read header body used h.news old new (read_meaning r) h.said h.entered

pub read-Whole : (next : NextMessage) (old new : Debugger) (r : Read) → TurnsAt next old (Ok r) new → r ≢ read.Nothing → Reads old new (TellsEnd old (read_meaning r))
read-Whole (Whole message used) old new r h some = handled-read message used old new r h
read-Whole More old new r h some = absurd (some (let e = h.0 in cc))
read-Whole (Fault fault) old new r h some = absurd (let e = h.0 in cc)

-- ---- the order in which the target sends

read-order : (old new : Debugger) (r : Read) → TurnsAt (front_of old.end) old (Ok r) new → r ≢ read.Nothing → new.order ≡ old.order
read-order old new r h some = (read-Whole (front_of old.end) old new r h some).moves.order

-- it stays, whatever a turn answers
pub turned-order : (old new : Debugger) (result : Result Read DebuggerFault) → TurnsAt (front_of old.end) old result new → new.order ≡ old.order
turned-order old new (Ok read.Nothing) h = ap (λ (d : Debugger). d.order) (nothing-More (front_of old.end) old new h).1
turned-order old new (Ok read.Hello) h = read-order old new read.Hello h (λ e. cc)
turned-order old new (Ok read.Parked) h = read-order old new read.Parked h (λ e. cc)
turned-order old new (Ok (read.Sizes cs)) h = read-order old new (read.Sizes cs) h (λ e. cc)
turned-order old new (Ok (read.Answered ticket answer)) h = read-order old new (read.Answered ticket answer) h (λ e. cc)
turned-order old new (Ok (read.Seen c)) h = read-order old new (read.Seen c) h (λ e. cc)
turned-order old new (Err code.NoMemory) h = ap (λ (d : Debugger). d.order) (memory-same (front_of old.end) old new h)
turned-order old new (Err (code.Frame fault)) h = ap (λ (d : Debugger). d.order) (fault-refused (front_of old.end) old new (code.Frame fault) (λ e. cc) h)
turned-order old new (Err code.UnknownReply) h = ap (λ (d : Debugger). d.order) (fault-refused (front_of old.end) old new code.UnknownReply (λ e. cc) h)
turned-order old new (Err code.BadReply) h = ap (λ (d : Debugger). d.order) (fault-refused (front_of old.end) old new code.BadReply (λ e. cc) h)
turned-order old new (Err code.TooManyParked) h = ap (λ (d : Debugger). d.order) (fault-refused (front_of old.end) old new code.TooManyParked (λ e. cc) h)
turned-order old new (Err code.BadEvent) h = ap (λ (d : Debugger). d.order) (fault-refused (front_of old.end) old new code.BadEvent (λ e. cc) h)

-- ---- a turn behind which a count is due

due-none : (o : Order) (t : Told) (d : Debugger) → ((d : Debugger) → due_in order.Apart t d ≡ None) → is_some (due_in o t d) ≡ true → ⊥
due-none order.One t d none some = cc
due-none order.Apart t d none some = let e = sym (ap (λ (x : Option ℕ). is_some x) (none d)) ∙ some in cc

-- it put nothing
due-enqueued : (next : NextMessage) (old new : Debugger) (r : Read) → TurnsAt next old (Ok r) new → is_some (due_count (read_meaning r) new) ≡ true → new.end.session.enqueued ≡ old.end.session.enqueued
due-enqueued (Whole streams.Handshake used) old new r h due = absurd (due-none new.order tell.Hello new (λ d. refl) (subst (λ (t : Told). is_some (due_count t new) ≡ true) h.0 due))
due-enqueued (Whole (streams.Packet header body) used) old new r h due = packet-enqueued (streams.Packet header body) used header h.news old new (read_meaning r) h.entered
due-enqueued More old new r h due = ap (λ (d : Debugger). d.end.session.enqueued) h.1
due-enqueued (Fault fault) old new r h due = absurd (let e = h.0 in cc)

pub due-puts-none : (old new : Debugger) (r : Read) → TurnsAt (front_of old.end) old (Ok r) new → is_some (due_behind (Ok r) new) ≡ true → new.end.session.enqueued ≡ old.end.session.enqueued
due-puts-none old new r h due = due-enqueued (front_of old.end) old new r h due
