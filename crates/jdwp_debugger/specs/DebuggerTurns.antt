-- What turns of a debugger answer, and what they leave.
use Rattle.std.specs.Prelude.{◌≡◌, ℕ, zero, suc, ◌&&◌, fold, ◌+◌, ◌%◌, ◌^◌, ◌≤◌, Bool, true, false, List, [], ◌∷◌, ◌++◌, length, map, remove, slice_get, Option, Some, None, Result, Ok, Err, MatchResult}
use Rattle.std.specs.List.{list_any}
use Rattle.jdwp_wire.specs.ErrorCodes.{NONE}
use Rattle.jdwp_wire.specs.declared.packet.Header.{Header}
use Rattle.jdwp_wire.specs.declared.packet.PacketKind.{PacketKind}
use Rattle.jdwp_wire.specs.declared.packet.PacketKind.TheVariants as kind
use Rattle.jdwp_wire.specs.Frames.{header_bytes}
use Rattle.jdwp_wire.specs.Streams as streams
use Rattle.jdwp_wire.specs.Streams.{NextMessage, Whole, More, Fault}
use Rattle.jdwp_wire.specs.Widths.{Widths}
use Rattle.jdwp_layout.specs.declared.answer.Answer.{Answer}
use Rattle.jdwp_layout.specs.CommandNumbers.{ID_SIZES}
use Rattle.jdwp_event.specs.Composites.{CompositeMeaning}
use Rattle.jdwp_end.specs.Ends as ends
use Rattle.jdwp_action.specs.Actions.{Command}
use Rattle.jdwp_apart.specs.Following.{Following, answered_to, reported_to}
use Rattle.jdwp_watch.specs.declared.put.Put.TheVariants.{Asks}
use Rattle.jdwp_apart.specs.Messages.{is_invocation}
use Rattle.jdwp_debugger.specs.declared.faults.DebuggerFault.{DebuggerFault}
use Rattle.jdwp_debugger.specs.declared.faults.DebuggerFault.TheVariants as code
use Rattle.jdwp_debugger.specs.declared.heads.Head.{Head}
use Rattle.jdwp_debugger.specs.declared.heads.Head.TheVariants as head
use Rattle.jdwp_debugger.specs.declared.order.Order.{Order}
use Rattle.jdwp_debugger.specs.declared.reading.PacketReader.{PacketReader}
use Rattle.jdwp_debugger.specs.declared.reading.News as declared
use Rattle.jdwp_debugger.specs.declared.reading.News.TheVariants as news
use Rattle.jdwp_debugger.specs.declared.turning.Read.{Read}
use Rattle.jdwp_debugger.specs.declared.turning.Read.TheVariants as read
use Rattle.jdwp_debugger.specs.Debuggers.{Asked, Debugger}
use Rattle.jdwp_debugger.specs.Debuggers as debuggers
use Rattle.jdwp_watch.specs.Ledgers.{Account}
use Rattle.jdwp_debugger.specs.FollowingKept.{IsFirstOf, following, following_of, ledger_put}
use Rattle.jdwp_debugger.specs.Orders.{LearnedIn, has_bad_in, is_bad_in, none_known}
use Rattle.jdwp_mirror.specs.Faults.{PARKED_MOST}
use Rattle.jdwp_mirror.specs.FaultParts.{IsData}
use Rattle.jdwp_mirror.specs.KnownThreads.{count_in}
use Rattle.jdwp_mirror.specs.Messages.{Message, Reply, Report, id_sizes}
use Rattle.jdwp_mirror.specs.Mirror.{ends}
use Rattle.jdwp_mirror.specs.Mirrors.{Mirror, empty_mirror}
use Rattle.jdwp_debugger.specs.News.{News, Waits, Happens, Answers, Measures, Reading, Fails, says, widths_by}

-- ---- what a turn tells

pub data Told : Type 0 where
  Nothing : Told
  Hello : Told
  Parked : Told
  Sizes : List CompositeMeaning → Told
  Answered : ℕ → Answer → Told
  Seen : CompositeMeaning → Told

abbrev pub read_meaning : Read → Told
read_meaning read.Nothing = Nothing
read_meaning read.Hello = Hello
read_meaning read.Parked = Parked
read_meaning (read.Sizes composites) = Sizes composites.items
read_meaning (read.Answered ticket answer) = Answered ticket.0 answer
read_meaning (read.Seen composite) = Seen composite

-- no more composites that waited than may
abbrev pub AreFew : Told → Type 0
AreFew (Sizes composites) = length composites ≤ PARKED_MOST
AreFew told = Unit {0}

abbrev pub news_meaning : declared.News → News
news_meaning (news.Waits bytes) = Waits bytes.items
news_meaning (news.Happens composite) = Happens composite
news_meaning (news.Answers place ticket answer) = Answers place ticket.0 answer
news_meaning (news.Measures place answer sizes composites) = Measures place answer sizes composites.items

-- ---- what a turn leaves

-- the session ends, and what was learned in it is forgotten; tickets and what waits to leave stay
abbrev pub closed_debugger : Debugger → Debugger
closed_debugger d = record d { end = ends.closed_end d.end; mirror = empty_mirror; sizes = None; parked = []; ledger = None }

abbrev pub closed_where : Bool → Debugger → Debugger
closed_where true d = closed_debugger d
closed_where false d = d

-- where it ends as the widths of ids become known, they stay
abbrev pub measured_where : Bool → Widths → Debugger → Debugger
measured_where true w d = record (closed_debugger d) { sizes = Some w }
measured_where false w d = d

-- a message is refused
abbrev pub refused : Debugger → Debugger
refused d = record (closed_debugger d) { last = [] }

-- a message of so many bytes is handled, and these were read
abbrev pub with_read : streams.Message → ℕ → List Head → Debugger → Debugger
with_read message used heads d = record d { end = ends.with_handled message used d.end; last = heads }

-- the target's handshake came: IDSizes is put under the next id, without a ticket
abbrev pub sizes_header : ℕ → Header
sizes_header id = record { length = 11; id = id; kind = kind.Command ID_SIZES.set ID_SIZES.number }

abbrev pub greeted : ℕ → Debugger → Debugger
greeted used d = record d {
  end = ends.with_enqueued (header_bytes (sizes_header d.next_id)) (ends.with_handled streams.Handshake used d.end);
  pending = d.pending ++ record { id = d.next_id; ticket = None; command = id_sizes } ∷ [];
  next_id = (d.next_id + 1) % 2 ^ 32;
  last = head.Hello ∷ [];
  ledger = ledger_put Asks d.ledger;
}

-- ---- what is learned

-- messages in the order in which they are learned
abbrev pub LearnedAll : Order → Mirror → List Message → Mirror → Type 0
LearnedAll order old [] new = new ≡ old
LearnedAll order old (message ∷ messages) new = (middle : Mirror) × LearnedIn order old message middle × LearnedAll order middle messages new

abbrev pub reports : List CompositeMeaning → List Message
reports cs = map (λ (c : CompositeMeaning). Report c) cs

-- the command at a place among those that wait
abbrev pub command_of : Option Asked → Command
command_of None = id_sizes
command_of (Some asked) = asked.command

abbrev pub command_at : ℕ → List Asked → Command
command_at place pending = command_of (slice_get pending place)

-- ---- what is followed

-- each command that waits before this place invokes a method
abbrev pub is_next : ℕ → List Asked → Bool
is_next zero pending = true
is_next (suc place) [] = true
is_next (suc place) (p ∷ ps) = is_invocation p.command && is_next place ps

-- Behind a packet that says this. The composites that waited for the widths of ids are read as these become known, before the answer that tells
-- them.
abbrev pub followed : Reading → News → Option Following → Option Following
followed r (Waits bytes) f = f
followed r (Happens c) f = reported_to f c
followed r (Answers place ticket answer) f = answered_to (widths_by r.sizes) (is_next place r.pending) (command_at place r.pending) answer f
followed r (Measures place answer w cs) f =
    answered_to (widths_by r.sizes) (is_next place r.pending) (command_at place r.pending) answer (fold reported_to f cs)

-- ---- what a turn enters

abbrev pub heads_of : List debuggers.Parked → List Head
heads_of parked = map (λ (p : debuggers.Parked). head.Composite p.header) parked

-- the head of a reply to a command
abbrev pub reply_head : Header → Command → Head
reply_head header c = head.Reply header c.set c.number

-- the widths of ids became known, and with them what the composites that waited say
abbrev pub with_sizes : streams.Message → ℕ → Header → ℕ → Mirror → Widths → Debugger → Debugger
with_sizes message used header place m w d =
    record (with_read message used (heads_of d.parked ++ reply_head header id_sizes ∷ []) d) { mirror = m; sizes = Some w; parked = []; pending = remove d.pending place }

-- what packets are read by
abbrev pub reading_of : Debugger → Reading
reading_of d = record { order = d.order; sizes = d.sizes; parked = d.parked; pending = d.pending }

abbrev pub with_ledger : Option Account → Debugger → Debugger
with_ledger ledger d = record d { ledger = ledger }

-- by a ledger then, with the commands that still wait, is followed what such a packet makes of what was
abbrev pub GoesOnBy : News → Debugger → Option Account → Type 0
GoesOnBy (Waits bytes) old ledger = ledger ≡ old.ledger
GoesOnBy (Happens c) old ledger = following_of ledger old.sizes old.pending ≡ followed (reading_of old) (Happens c) (following old)
GoesOnBy (Answers place ticket answer) old ledger =
    following_of ledger old.sizes (remove old.pending place) ≡ followed (reading_of old) (Answers place ticket answer) (following old)
GoesOnBy (Measures place answer w cs) old ledger =
    following_of ledger (Some w) (remove old.pending place) ≡ followed (reading_of old) (Measures place answer w cs) (following old)

-- What a packet with this header leaves that says this, and what the turn tells. Nothing is learned before the widths of ids are known,
-- so what waited for them is learned from nothing.
abbrev pub Enters : streams.Message → ℕ → Header → News → Debugger → Told → Debugger → Type 0
Enters message used header (Waits bytes) old told new =
    (told ≡ Parked) × (new ≡ record (with_read message used [] old) { parked = old.parked ++ record { header = header; body = bytes } ∷ [] })
Enters message used header (Happens c) old told new =
    (told ≡ Seen c) × ((m : Mirror) × LearnedIn old.order old.mirror (Report c) m × (ledger : Option Account) × GoesOnBy (Happens c) old ledger
    × (new ≡ closed_where (ends (Report c)) (record (with_read message used (head.Composite header ∷ []) old) { mirror = m; ledger = ledger })))
Enters message used header (Answers place ticket answer) old told new =
    (told ≡ Answered ticket answer) × ((m : Mirror) × LearnedIn old.order old.mirror (Reply (Some ticket) (command_at place old.pending) answer) m × (ledger : Option Account) × GoesOnBy (Answers place ticket answer) old ledger
    × (new ≡ closed_where (ends (Reply (Some ticket) (command_at place old.pending) answer))
    (record (with_read message used (reply_head header (command_at place old.pending) ∷ []) old) { mirror = m; pending = remove old.pending place; ledger = ledger })))
Enters message used header (Measures place answer w cs) old told new =
    (told ≡ Sizes cs) × ((m : Mirror) × LearnedAll old.order empty_mirror (reports cs ++ Reply None (command_at place old.pending) answer ∷ []) m × (ledger : Option Account) × GoesOnBy (Measures place answer w cs) old ledger
    × (new ≡ measured_where (list_any ends (reports cs)) w (with_ledger ledger (with_sizes message used header place m w old))))

-- ---- what is refused

-- the same of what the code reads by
abbrev pub reading : PacketReader → Reading
reading known = record { order = known.order; sizes = known.sizes; parked = known.parked.now; pending = known.pending.now }

abbrev pub bad_where : Bool → Option DebuggerFault
bad_where true = Some code.BadEvent
bad_where false = None

-- events that no target may send
abbrev pub news_refusal : Order → Mirror → News → Option DebuggerFault
news_refusal order m (Waits bytes) = None
news_refusal order m (Happens c) = bad_where (is_bad_in order (count_in m.threads) c)
news_refusal order m (Answers place ticket answer) = None
news_refusal order m (Measures place answer w cs) = bad_where (has_bad_in order none_known (reports cs))

abbrev pub refusal_by : Order → Mirror → Result News DebuggerFault → Option DebuggerFault
refusal_by order m (Ok news) = news_refusal order m news
refusal_by order m (Err fault) = Some fault

abbrev pub refusal : Debugger → Header → List ℕ → Option DebuggerFault
refusal d header body = refusal_by d.order d.mirror (says (reading_of d) header.id header.kind body)

-- a reply with an error takes no memory
abbrev pub MayWantMemory : PacketKind → Type 0
MayWantMemory (kind.Command set number) = Unit {0}
MayWantMemory (kind.Reply e) = e.0 ≡ NONE.0

abbrev pub FailsAt : Header → List ℕ → Debugger → DebuggerFault → Debugger → Type 0
FailsAt header body old code.NoMemory new = MayWantMemory header.kind × (new ≡ old)
FailsAt header body old fault new = (refusal old header body ≡ Some fault) × (new ≡ refused old)

-- ---- what calls within a turn answer

-- what is learned of an answer with an error takes no memory
abbrev pub WantsMemory : News → Type 0
WantsMemory (Waits bytes) = Unit {0}
WantsMemory (Happens c) = Unit {0}
WantsMemory (Answers place ticket answer) = IsData answer
WantsMemory (Measures place answer w cs) = Unit {0}

-- of a packet with this header and these data: what it says, or why that fails
abbrev pub ReadsPacket : Reading → Header → List ℕ → Result declared.News DebuggerFault → Type 0
ReadsPacket r header body result =
    MatchResult result
    (λ news. (says r header.id header.kind body ≡ Ok (news_meaning news)) × (WantsMemory (news_meaning news) → MayWantMemory header.kind))
    (λ fault. Fails fault (says r header.id header.kind body) × (fault ≡ code.NoMemory → MayWantMemory header.kind))

-- a packet with this header, of so many bytes, is in front, and says this
pub record IsSaid (d : Debugger) (header : Header) (used : ℕ) (news : News) : Type 0 where
  pub body : List ℕ
  pub front : ends.front_of d.end ≡ Whole (streams.Packet header body) used
  pub said : says (reading_of d) header.id header.kind body ≡ Ok news

-- a reply to IDSizes is in front that tells these widths, nothing that waited for them is bad, and this was learned of all of it, and is
-- followed, from nothing
pub record TellsSizes (d : Debugger) (header : Header) (used place : ℕ) (w : Widths) (mirror : Mirror) (ledger : Option Account) : Type 0 where
  pub answer : Answer
  pub composites : List CompositeMeaning
  pub said : IsSaid d header used (Measures place answer w composites)
  pub unrefused : news_refusal d.order d.mirror (Measures place answer w composites) ≡ None
  pub learned : LearnedAll d.order empty_mirror (reports composites ++ Reply None (command_at place d.pending) answer ∷ []) mirror
  pub followed : IsFirstOf d.order answer composites ledger

-- what a failure leaves
abbrev pub FailsTo : DebuggerFault → Debugger → Debugger → Type 0
FailsTo code.NoMemory old new = new ≡ old
FailsTo fault old new = new ≡ refused old

-- events are refused only where one is bad
abbrev pub FailsOnly : DebuggerFault → Bool → Type 0
FailsOnly code.NoMemory bad = Unit {0}
FailsOnly code.BadEvent bad = bad ≡ true
FailsOnly fault bad = ⊥

abbrev pub EntersOrFails : News → Debugger → DebuggerFault → Debugger → Type 0
EntersOrFails news old code.NoMemory new = WantsMemory news × (new ≡ old)
EntersOrFails news old fault new = (news_refusal old.order old.mirror news ≡ Some fault) × (new ≡ refused old)

abbrev pub EntersAt : Header → List ℕ → ℕ → News → Debugger → Result Read DebuggerFault → Debugger → Type 0
EntersAt header body used news old result new =
    MatchResult result (λ r. (news_refusal old.order old.mirror news ≡ None) × Enters (streams.Packet header body) used header news old (read_meaning r) new) (λ fault. EntersOrFails news old fault new)

-- ---- turns

pub record ReadsAt (header : Header) (body : List ℕ) (used : ℕ) (old : Debugger) (told : Told) (new : Debugger) : Type 0 where
  pub news : News
  pub said : says (reading_of old) header.id header.kind body ≡ Ok news
  pub unrefused : news_refusal old.order old.mirror news ≡ None
  pub entered : Enters (streams.Packet header body) used header news old told new

abbrev pub HandlesAt : streams.Message → ℕ → Debugger → Result Read DebuggerFault → Debugger → Type 0
HandlesAt streams.Handshake used old result new =
    MatchResult result (λ r. (read_meaning r ≡ Hello) × (old.pending ≡ []) × (new ≡ greeted used old)) (λ fault. (fault ≡ code.NoMemory) × (new ≡ old))
HandlesAt (streams.Packet header body) used old result new =
    MatchResult result (λ r. ReadsAt header body used old (read_meaning r) new) (λ fault. FailsAt header body old fault new)

-- What a turn answers, and what the debugger is after it, by what there is to handle.
abbrev pub TurnsAt : NextMessage → Debugger → Result Read DebuggerFault → Debugger → Type 0
TurnsAt (Whole message used) old result new = HandlesAt message used old result new
TurnsAt More old result new = (result ≡ Ok read.Nothing) × (new ≡ record old { last = [] })
TurnsAt (Fault fault) old result new = (result ≡ Err (code.Frame fault)) × (new ≡ refused old)

-- A turn may want memory at the handshake and at a packet that is no reply with an error: neither where the end is closed or paused or
-- no message is whole, nor at a fault of the bytes.
abbrev pub MayTakeMemory : NextMessage → Type 0
MayTakeMemory (Whole streams.Handshake used) = Unit {0}
MayTakeMemory (Whole (streams.Packet header body) used) = MayWantMemory header.kind
MayTakeMemory More = ⊥
MayTakeMemory (Fault fault) = ⊥
