-- What a turn tells has the heads of what it read.
use Rattle.std.proofs.Common.{◌≡◌, ℕ, ◌+◌, ◌++◌, List, [], ◌∷◌, length, slice_get, Bool, true, false, Option, Some, None, Ok, Err, if◌then◌else◌, ap, refl, subst, sym, arith}
use Rattle.std.specs.List.{list_any}
use Rattle.jdwp_wire.specs.Streams as streams
use Rattle.jdwp_wire.specs.Streams.{NextMessage, Whole, More, Fault}
use Rattle.jdwp_wire.specs.Widths.{Widths}
use Rattle.jdwp_wire.specs.declared.error_code.ErrorCode.{ErrorCode}
use Rattle.jdwp_wire.specs.declared.packet.Header.{Header}
use Rattle.jdwp_wire.specs.declared.packet.PacketKind.{PacketKind}
use Rattle.jdwp_wire.specs.declared.packet.PacketKind.TheVariants as kind
use Rattle.jdwp_layout.specs.CommandNumbers.{COMPOSITE, is_command}
use Rattle.jdwp_layout.specs.declared.answer.Answer.{Answer}
use Rattle.jdwp_event.specs.Composites.{CompositeMeaning}
use Rattle.jdwp_mirror.specs.Messages.{Reply, Report, id_sizes}
use Rattle.jdwp_mirror.specs.Mirror.{ends}
use Rattle.jdwp_mirror.specs.Widths.{widths_in}
use Rattle.jdwp_debugger.specs.declared.faults.DebuggerFault.TheVariants.{BadEvent, TooManyParked}
use Rattle.jdwp_debugger.specs.declared.pending.Ticket.{Ticket}
use Rattle.jdwp_debugger.specs.declared.turning.Read.{Read}
use Rattle.jdwp_debugger.specs.declared.turning.Read.TheVariants as read
use Rattle.jdwp_debugger.specs.Debuggers.{Asked, Debugger, Parked as Kept}
use Rattle.jdwp_debugger.specs.DebuggerTurns.{Enters, HandlesAt, Told, TurnsAt, closed_where, command_at, command_of, heads_of, measured_where, reading_of, reply_head, reports, read_meaning}
use Rattle.jdwp_debugger.specs.DebuggerTurns as tell
use Rattle.jdwp_debugger.specs.News.{News, Waits, Happens, Answers, Measures, Reading, answer_by, answer_says, composite_in, composites_in, event_says, event_says_by, place_of, reply_at, reply_to, says, sizes_say, unless_bad, widths_by, with_composites, with_first}
use Rattle.jdwp_debugger.specs.TellsHeads.{HasSizes, TellsHeads}

-- ---- what a packet says

-- the command at this place waits under this id, with this ticket
record Waited (r : Reading) (id place ticket : ℕ) : Type 0 where
  asked : Asked
  under : place_of id r.pending ≡ Some place
  waits : slice_get r.pending place ≡ Some asked
  given : asked.ticket ≡ Some (record { 0 = ticket })

-- an answer is to a command that waited, and with the widths of ids come all composites that waited for them
abbrev IsSo : Reading → ℕ → News → Type 0
IsSo r id (Waits bytes) = Unit {0}
IsSo r id (Happens c) = Unit {0}
IsSo r id (Answers place ticket answer) = Waited r id place ticket
IsSo r id (Measures place answer w cs) = length cs ≡ length r.parked

waits-so : (r : Reading) (id : ℕ) (b : Bool) (bytes : List ℕ) (news : News) → (if b then Err TooManyParked else Ok (Waits bytes)) ≡ Ok news → IsSo r id news
waits-so r id true bytes news e = absurd cc
waits-so r id false bytes news e =
    let same : Waits bytes ≡ news = cc in
    subst (λ (n : News). IsSo r id n) same tt

happens-so : (r : Reading) (id : ℕ) (c : Option CompositeMeaning) (news : News) → event_says_by c ≡ Ok news → IsSo r id news
happens-so r id None news e = absurd cc
happens-so r id (Some c) news e =
    let same : Happens c ≡ news = cc in
    subst (λ (n : News). IsSo r id n) same tt

event-so : (r : Reading) (id : ℕ) (sizes : Option Widths) (bytes : List ℕ) (news : News) → event_says sizes r.parked bytes ≡ Ok news → IsSo r id news
event-so r id None bytes news e = waits-so r id _ bytes news e
event-so r id (Some w) bytes news e = happens-so r id _ news e

command-so : (r : Reading) (id : ℕ) (b : Bool) (bytes : List ℕ) (news : News) → (if b then event_says r.sizes r.parked bytes else Err BadEvent) ≡ Ok news → IsSo r id news
command-so r id true bytes news e = event-so r id r.sizes bytes news e
command-so r id false bytes news e = absurd cc

-- as many composites as waited
first-counts : (c : Option CompositeMeaning) (rest : Option (List CompositeMeaning)) (cs : List CompositeMeaning) (n : ℕ) → ((ds : List CompositeMeaning) → rest ≡ Some ds → length ds ≡ n)
    → with_first c rest ≡ Some cs → length cs ≡ n + 1
first-counts None rest cs n counts e = absurd cc
first-counts (Some c) None cs n counts e = absurd cc
first-counts (Some c) (Some ds) cs n counts e =
    let same : c ∷ ds ≡ cs = cc in
    omega (arith, ap (λ (x : List CompositeMeaning). length x) same, counts ds refl)

all-count : (w : Widths) (parked : List Kept) (cs : List CompositeMeaning) → composites_in w parked ≡ Some cs → length cs ≡ length parked
all-count w [] cs e =
    let same : [] ≡ cs = cc in
    sym (ap (λ (x : List CompositeMeaning). length x) same)
all-count w (p ∷ ps) cs e = omega (arith, first-counts (composite_in w p.body) (composites_in w ps) cs (length ps) (λ ds is. all-count w ps ds is) e)

composites-so : (r : Reading) (id place : ℕ) (a : Answer) (w : Widths) (found : Option (List CompositeMeaning)) (news : News) → composites_in w r.parked ≡ found
    → with_composites place a w found ≡ Ok news → IsSo r id news
composites-so r id place a w None news is e = absurd cc
composites-so r id place a w (Some cs) news is e =
    let same : Measures place a w cs ≡ news = cc in
    subst (λ (n : News). IsSo r id n) same (all-count w r.parked cs is)

sizes-so : (r : Reading) (id place : ℕ) (a : Answer) (w : Option Widths) (news : News) → sizes_say r.parked place a w ≡ Ok news → IsSo r id news
sizes-so r id place a None news e = absurd cc
sizes-so r id place a (Some w) news e = composites-so r id place a w (composites_in w r.parked) news refl e

answer-so : (r : Reading) (id place : ℕ) (asked : Asked) (k : Option Ticket) (a : Option Answer) (news : News) → place_of id r.pending ≡ Some place → slice_get r.pending place ≡ Some asked
    → asked.ticket ≡ k → answer_says r.parked place k a ≡ Ok news → IsSo r id news
answer-so r id place asked k None news under waits given e = absurd cc
answer-so r id place asked (Some k) (Some a) news under waits given e =
    let same : Answers place k.0 a ≡ news = cc in
    subst (λ (n : News). IsSo r id n) same (record { asked = asked; under = under; waits = waits; given = given })
answer-so r id place asked None (Some a) news under waits given e = sizes-so r id place a (widths_in a) news e

reply-so : (r : Reading) (id : ℕ) (e : ErrorCode) (bytes : List ℕ) (place : ℕ) (found : Option Asked) (news : News) → place_of id r.pending ≡ Some place → slice_get r.pending place ≡ found
    → reply_to r e bytes place found ≡ Ok news → IsSo r id news
reply-so r id e bytes place None news under waits h = absurd cc
reply-so r id e bytes place (Some asked) news under waits h =
    answer-so r id place asked asked.ticket (unless_bad asked.command (answer_by r.order (widths_by r.sizes) asked.command e bytes)) news under waits refl h

placed-so : (r : Reading) (id : ℕ) (e : ErrorCode) (bytes : List ℕ) (place : Option ℕ) (news : News) → place_of id r.pending ≡ place → reply_at r e bytes place ≡ Ok news → IsSo r id news
placed-so r id e bytes None news under h = absurd cc
placed-so r id e bytes (Some place) news under h = reply-so r id e bytes place (slice_get r.pending place) news under refl h

says-so : (r : Reading) (id : ℕ) (k : PacketKind) (bytes : List ℕ) (news : News) → says r id k bytes ≡ Ok news → IsSo r id news
says-so r id (kind.Command set number) bytes news e = command-so r id (is_command COMPOSITE set number) bytes news e
says-so r id (kind.Reply error) bytes news e = placed-so r id error bytes (place_of id r.pending) news refl e

-- ---- heads

has-sizes : (cs : List CompositeMeaning) (parked : List Kept) (header : Header) → length cs ≡ length parked → HasSizes cs (heads_of parked ++ reply_head header id_sizes ∷ [])
has-sizes [] [] header e = (header, refl)
has-sizes [] (p ∷ ps) header e = absurd (omega (arith, e))
has-sizes (c ∷ cs) [] header e = absurd (omega (arith, e))
has-sizes (c ∷ cs) (p ∷ ps) header e = (p.header, heads_of ps ++ reply_head header id_sizes ∷ [], refl, has-sizes cs ps header (omega (arith, e)))

-- where the session ends, the heads stay
heads-where : (b : Bool) (waited : List Asked) (t : Told) (d : Debugger) → ((w : Option Widths) → TellsHeads waited t d.last w) → let e = closed_where b d in TellsHeads waited t e.last e.sizes
heads-where true waited t d has = has None
heads-where false waited t d has = has d.sizes

measured-heads : (b : Bool) (waited : List Asked) (w : Widths) (cs : List CompositeMeaning) (d : Debugger) → HasSizes cs d.last → d.sizes ≡ Some w
    → let e = measured_where b w d in TellsHeads waited (tell.Sizes cs) e.last e.sizes
measured-heads true waited w cs d has sizes = (has, refl)
measured-heads false waited w cs d has sizes = (has, rw sizes refl)

-- ---- a turn

packet-heads : (header : Header) (body : List ℕ) (used : ℕ) (news : News) (old new : Debugger) (t : Told) → IsSo (reading_of old) header.id news
    → Enters (streams.Packet header body) used header news old t new → TellsHeads old.pending t new.last new.sizes
packet-heads header body used (Waits bytes) old new t so h = rw (h.0, h.1) refl
packet-heads header body used (Happens c) old new t so h = rw (h.0, h.1.4) (heads-where (ends (Report c)) old.pending (tell.Seen c) _ (λ w. (header, refl)))
packet-heads header body used (Answers place ticket answer) old new t so h =
    let command : command_at place old.pending ≡ so.asked.command = ap command_of so.waits in
    rw (h.0, h.1.4) (heads-where (ends (Reply (Some ticket) (command_at place old.pending) answer)) old.pending (tell.Answered ticket answer) _
    (λ w. record { header = header; place = place; asked = so.asked; under = so.under; waits = so.waits; given = so.given; is = rw command refl }))
packet-heads header body used (Measures place answer w cs) old new t so h =
    rw (h.0, h.1.4) (measured-heads (list_any ends (reports cs)) old.pending w cs _ (has-sizes cs old.parked header so) refl)

handled-heads : (message : streams.Message) (used : ℕ) (old new : Debugger) (r : Read) → HandlesAt message used old (Ok r) new → TellsHeads old.pending (read_meaning r) new.last new.sizes
handled-heads streams.Handshake used old new r h = rw (h.0, h.2) refl
handled-heads (streams.Packet header body) used old new r h =
    packet-heads header body used h.news old new (read_meaning r) (says-so (reading_of old) header.id header.kind body h.news h.said) h.entered

-- what a turn tells has the heads of what it read
pub tells-heads : (next : NextMessage) (old new : Debugger) (r : Read) → TurnsAt next old (Ok r) new → TellsHeads old.pending (read_meaning r) new.last new.sizes
tells-heads (Whole message used) old new r h = handled-heads message used old new r h
tells-heads More old new r h =
    let same : r ≡ read.Nothing = cc (h.0) in
    rw (same, h.1) refl
tells-heads (Fault fault) old new r h = absurd (let e = h.0 in cc)
