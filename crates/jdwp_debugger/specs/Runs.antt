-- What holds of a debugger over a whole session, from bytes to bytes, whatever bytes come (JDWP specification, "JDWP overview": the
-- handshake; "Packets": commands and replies, and that ids are unique among the outstanding commands of one source).
use Rattle.std.specs.Prelude.{◌≡◌, ℕ, Option, ◌==◌, ◌≤◌, Bool, true, false, List, [], ◌∷◌, ◌++◌, fold, length, map, take, Some, None, Result, Ok}
use Rattle.std.specs.List.{flat_map, list_any}
use Rattle.std.specs.Set.{remove_key}
use Rattle.jdwp_wire.specs.Streams.{Message, Handshake, Packet, stream}
use Rattle.jdwp_wire.specs.Widths.{Widths}
use Rattle.jdwp_wire.specs.declared.packet.Header.{Header}
use Rattle.jdwp_wire.specs.declared.packet.PacketKind.{PacketKind}
use Rattle.jdwp_wire.specs.declared.packet.PacketKind.TheVariants as kind
use Rattle.jdwp_wire.specs.Bytes.{IsBytes}
use Rattle.jdwp_wire.specs.Limits.{Limits}
use Rattle.jdwp_end.specs.declared.phase.Phase.{Phase}
use Rattle.jdwp_end.specs.declared.phase.Phase.TheVariants.{Closed, AwaitingHandshake, Established}
use Rattle.jdwp_end.specs.Ends.{End, front_of, is_open}
use Rattle.jdwp_end.specs.Runs.{Carries}
use Rattle.jdwp_action.specs.Actions.{Command}
use Rattle.jdwp_apart.specs.Following.{Following}
use Rattle.jdwp_debugger.specs.declared.faults.DebuggerFault.{DebuggerFault}
use Rattle.jdwp_debugger.specs.declared.order.Order.{Order}
use Rattle.jdwp_debugger.specs.declared.turning.Read.{Read}
use Rattle.jdwp_action.specs.CommandPackets.{carried_bytes}
use Rattle.jdwp_debugger.specs.Asking.{EncodesCommand, HasAsked, command_header}
use Rattle.jdwp_debugger.specs.Debuggers.{Asked, Debugger, attached, lost_debugger, new_debugger_in, with_fed, with_taken}
use Rattle.jdwp_debugger.specs.DebuggerTurns.{LearnedAll, TurnsAt, news_refusal, reading_of, sizes_header}
use Rattle.jdwp_debugger.specs.FollowingKept.{following}
use Rattle.jdwp_debugger.specs.Histories.{Knowledge, begins, heard, nothing, with_asked, with_put, with_said}
use Rattle.jdwp_debugger.specs.News.{News, Reading, says}
use Rattle.jdwp_mirror.specs.Messages as heards
use Rattle.jdwp_mirror.specs.Messages.{id_sizes}
use Rattle.jdwp_mirror.specs.Mirrors.{Mirror, empty_mirror}

-- What a debugger does in a session: it begins, with a handshake; it reads the target's handshake, and puts IDSizes under an id; it reads
-- a packet, or lets it wait for the widths of ids; it puts a command under an id, in ids so wide; and the session ends, by what was
-- read, as the message in front is refused, or as the connection is lost.
pub data Act : Type 0 where
  Attaches : Act
  Greets : ℕ → Act
  Reads : Header → List ℕ → Act
  Asks : Widths → ℕ → Command → Act
  Ends : Act

-- the messages that an act read, and those that it put
abbrev pub read_by : Act → List Message
read_by Attaches = []
read_by (Greets id) = Handshake ∷ []
read_by (Reads header body) = Packet header body ∷ []
read_by (Asks w id c) = []
read_by Ends = []

abbrev pub put_by : Act → List Message
put_by Attaches = Handshake ∷ []
put_by (Greets id) = Packet (sizes_header id) [] ∷ []
put_by (Reads header body) = []
put_by (Asks w id c) = Packet (command_header w id c) (carried_bytes w c.carried) ∷ []
put_by Ends = []

abbrev pub read : List Act → List Message
read acts = flat_map read_by acts

abbrev pub put : List Act → List Message
put acts = flat_map put_by acts

-- ---- the phase of the session

abbrev pub phase_after : Phase → Act → Phase
phase_after before Attaches = AwaitingHandshake
phase_after before (Greets id) = Established
phase_after before (Reads header body) = Established
phase_after before (Asks w id c) = Established
phase_after before Ends = Closed

-- after these acts
abbrev pub phase_of : List Act → Phase
phase_of acts = fold phase_after Closed acts

-- ---- the ids of the commands that were put and not yet replied to

abbrev pub is_among : ℕ → List ℕ → Bool
is_among id ids = list_any (λ (n : ℕ). n == id) ids

-- a reply settles the command under its id
abbrev pub settled_by : PacketKind → ℕ → List ℕ → List ℕ
settled_by (kind.Command set number) id ids = ids
settled_by (kind.Reply e) id ids = remove_key (λ (n : ℕ). n == id) ids

abbrev pub outstanding_after : List ℕ → Act → List ℕ
outstanding_after ids Attaches = []
outstanding_after ids (Greets id) = ids ++ id ∷ []
outstanding_after ids (Reads header body) = settled_by header.kind header.id ids
outstanding_after ids (Asks w id c) = ids ++ id ∷ []
outstanding_after ids Ends = []

-- after these acts, in the order put
abbrev pub outstanding : List Act → List ℕ
outstanding acts = fold outstanding_after [] acts

-- ---- in which order acts come

-- a reply is to a command that was put and not yet replied to
abbrev pub IsAwaited : PacketKind → ℕ → List ℕ → Type 0
IsAwaited (kind.Command set number) id ids = Unit {0}
IsAwaited (kind.Reply e) id ids = is_among id ids ≡ true

-- Where an act may come, by the phase and the ids that are outstanding. A session begins where none is open. The target's handshake is
-- what is read first, and IDSizes is put then and only then; packets are read, and commands put, after it. What is put for a command
-- encodes it, and its id is none of those outstanding. A session may end at any time, and again, as the connection is lost.
abbrev pub MayCome : Phase → List ℕ → Act → Type 0
MayCome phase ids Attaches = phase ≡ Closed
MayCome phase ids (Greets id) = phase ≡ AwaitingHandshake
MayCome phase ids (Reads header body) = (phase ≡ Established) × IsAwaited header.kind header.id ids
MayCome phase ids (Asks w id c) = (phase ≡ Established) × (is_among id ids ≡ false) × EncodesCommand w c
MayCome phase ids Ends = Unit {0}

abbrev pub InOrder : Phase → List ℕ → List Act → Type 0
InOrder phase ids [] = Unit {0}
InOrder phase ids (act ∷ acts) = MayCome phase ids act × InOrder (phase_after phase act) (outstanding_after ids act) acts

-- ---- what is known

abbrev pub known_after : Knowledge → Act → Knowledge
known_after k Attaches = begins k.reading.order k.tickets
known_after k (Greets id) = with_put id None id_sizes k
known_after k (Reads header body) = with_said header (says k.reading header.id header.kind body) k
known_after k (Asks w id c) = with_asked id c k
known_after k Ends = nothing k.reading.order k.tickets

-- after these acts, where so many tickets were given before them
abbrev pub known : Order → ℕ → List Act → Knowledge
known order before acts = fold known_after (nothing order before) acts

-- A packet is read where it is not refused: it says something, and of what it says nothing is bad by a mirror that learned all that was
-- heard before it, in order, and nothing else.
pub record IsTaken (order : Order) (k : Knowledge) (header : Header) (body : List ℕ) : Type 0 where
  pub news : News
  pub said : says k.reading header.id header.kind body ≡ Ok news
  pub mirror : Mirror
  pub learned : LearnedAll order empty_mirror (heard k.history) mirror
  pub unrefused : news_refusal order mirror news ≡ None

-- What may be done by what is known: a packet is read that is not refused, and a command put in ids as wide as the target told.
abbrev pub MayDo : Order → Knowledge → Act → Type 0
MayDo order k Attaches = Unit {0}
MayDo order k (Greets id) = Unit {0}
MayDo order k (Reads header body) = IsTaken order k header body
MayDo order k (Asks w id c) = k.reading.sizes ≡ Some w
MayDo order k Ends = Unit {0}

abbrev pub MayDoAll : Order → Knowledge → List Act → Type 0
MayDoAll order k [] = Unit {0}
MayDoAll order k (act ∷ acts) = MayDo order k act × MayDoAll order (known_after k act) acts

-- ---- the whole session

abbrev pub ids_of : List Asked → List ℕ
ids_of pending = map (λ (p : Asked). p.id) pending

-- What a debugger of this order with this end did in a session, in order, where so many tickets were given, packets are read by this, and this was
-- learned and is followed. Nothing is read or put behind its end, as which the first refused message counts, until the next begins; the commands that
-- wait are those that were put and not yet replied to; what its end carries are the messages read; and what was enqueued to leave are the
-- bytes of the messages put. Each packet that was read was not refused; by what was put and read the debugger knows which commands wait and
-- under which tickets, which composites wait for the widths of ids, and these; the mirror is what the messages that were heard, each
-- once and in order, leave of the empty one; and what is followed is what all that was put and read, in order, makes of what is so as a session
-- begins.
pub record HasRun (order : Order) (end : End) (tickets : ℕ) (reading : Reading) (mirror : Mirror) (following : Option Following) : Type 0 where
  pub acts : List Act
  pub in_order : InOrder Closed [] acts
  pub phase : end.phase ≡ phase_of acts
  pub waits : is_open end ≡ true → ids_of reading.pending ≡ outstanding acts
  pub carries : Carries end (read acts)
  pub enqueued : end.session.enqueued ≡ stream (put acts)
  -- how many tickets were given before the session
  pub before : ℕ
  pub taken : MayDoAll order (nothing order before) acts
  pub given : tickets ≡ (known order before acts).tickets
  pub knows : is_open end ≡ true → reading ≡ (known order before acts).reading
  pub learned : LearnedAll order empty_mirror (heard (known order before acts).history) mirror
  pub follows : following ≡ (known order before acts).following

abbrev pub Ran : Debugger → Type 0
Ran d = HasRun d.order d.end d.tickets (reading_of d) d.mirror (following d)

-- the messages that were heard in a run, in order
abbrev pub heard_by : {order : Order} {end : End} {tickets : ℕ} {reading : Reading} {mirror : Mirror} {following : Option Following} → HasRun order end tickets reading mirror following → List heards.Message
heard_by {order = order} run = heard (known order run.before run.acts).history

-- What each call leaves of a run, whatever it answers.
pub record GoesOn : Type 0 where
  pub new : (order : Order) (limits : Limits) (id : ℕ) → Ran (new_debugger_in order limits id)
  pub attached : (d : Debugger) → Ran (attached d)
  pub asked : (command : Command) (old new : Debugger) → Ran old → HasAsked command old new → Ran new
  pub turned : (old new : Debugger) (result : Result Read DebuggerFault) → IsBytes old.end.incoming → Ran old → TurnsAt (front_of old.end) old result new → Ran new
  pub fed : (d : Debugger) (bytes : List ℕ) → (is_open d.end ≡ false → bytes ≡ []) → Ran d → Ran (with_fed bytes d)
  pub taken : (d : Debugger) (n : ℕ) → n ≤ length d.end.outgoing → Ran d → Ran (with_taken (take n d.end.outgoing) d)
  pub lost : (d : Debugger) → Ran d → Ran (lost_debugger d)
