-- a debugger does the same within other limits, and where nothing waits to leave
use Rattle.std.proofs.Common.{◌≡◌, ◌≤◌, ℕ, Bool, true, false, ◌||◌, not, cond, Option, Some, None, List, [], ◌∷◌, length, Ok, Err, refl, sym, ◌∙◌, ap, subst}
use Rattle.std.specs.Prelude.{nat_le, nat_lt, remove}
use Rattle.std.specs.List.{list_any}
use Rattle.std.proofs.lemmas.Bool.{le-ltb}
use Rattle.jdwp_wire.specs.Limits.{Limits}
use Rattle.jdwp_wire.specs.Streams as streams
use Rattle.jdwp_wire.specs.Streams.{Fault, More, NextMessage, Whole}
use Rattle.jdwp_wire.specs.Widths.{Widths}
use Rattle.jdwp_wire.specs.declared.packet.Header.{Header}
use Rattle.jdwp_end.specs.Ends.{is_open, is_paused}
use Rattle.jdwp_action.specs.Actions.{Command}
use Rattle.jdwp_action.specs.CommandPackets.{is_for_target, packet_length}
use Rattle.jdwp_mirror.specs.Messages.{LAST_TICKET, Reply, Report}
use Rattle.jdwp_mirror.specs.Mirror.{ends}
use Rattle.jdwp_debugger.specs.Asking.{HasAsked, asked, refusal_by, refusal_of_ask}
use Rattle.jdwp_debugger.specs.Debuggers.{Debugger}
use Rattle.jdwp_debugger.specs.DebuggerTurns as turns
use Rattle.jdwp_debugger.specs.DebuggerTurns.{Enters, FailsAt, Told, closed_where, measured_where, read_meaning}
use Rattle.jdwp_debugger.specs.News.{Answers, Happens, Measures, News, Waits}
use Rattle.jdwp_debugger.specs.declared.asking.Refused.{Refused}
use Rattle.jdwp_debugger.specs.declared.asking.Refused.TheVariants as refused
use Rattle.jdwp_debugger.specs.declared.faults.DebuggerFault.{DebuggerFault}
use Rattle.jdwp_debugger.specs.declared.faults.DebuggerFault.TheVariants as code
use Rattle.jdwp_debugger.specs.declared.heads.Head.TheVariants as head
use Rattle.jdwp_debugger.specs.declared.turning.Read.{Read}
use Rattle.jdwp_across.specs.Programs.{lost_with, settled}

-- nothing waits to leave
abbrev pub drained : Debugger → Debugger
drained d = record d { end = record d.end { outgoing = [] } }

-- and these are the limits
abbrev pub flowing : Limits → Debugger → Debugger
flowing limits d = record d { end = record d.end { limits = limits; outgoing = [] } }

-- ---- as the session ends or goes on

flows-closed : (limits : Limits) (b : Bool) (d : Debugger) → flowing limits (closed_where b d) ≡ closed_where b (flowing limits d)
flows-closed limits true d = refl
flows-closed limits false d = refl

flows-measured : (limits : Limits) (b : Bool) (w : Widths) (d : Debugger) → flowing limits (measured_where b w d) ≡ measured_where b w (flowing limits d)
flows-measured limits true w d = refl
flows-measured limits false w d = refl

pub flows-settled : (limits : Limits) (b : Bool) (d : Debugger) → flowing limits (settled b d) ≡ settled b (flowing limits d)
flows-settled limits true d = refl
flows-settled limits false d = refl

pub drains-settled : (b : Bool) (d : Debugger) → drained (settled b d) ≡ settled b (drained d)
drains-settled true d = refl
drains-settled false d = refl

-- the tickets that are lost
pub flows-lost : (limits : Limits) (b : Bool) (d : Debugger) → lost_with b (flowing limits d) ≡ lost_with b d
flows-lost limits true d = refl
flows-lost limits false d = refl

pub drains-lost : (b : Bool) (d : Debugger) → lost_with b (drained d) ≡ lost_with b d
drains-lost true d = refl
drains-lost false d = refl

-- ---- a turn that reads

enters-flowing : (limits : Limits) (header : Header) (body : List ℕ) (used : ℕ) (d : Debugger) (t : Told) (after : Debugger) (news : News) → Enters (streams.Packet header body) used header news d t after
    → Enters (streams.Packet header body) used header news (flowing limits d) t (flowing limits after)
enters-flowing limits header body used d t after (Waits bytes) (told, is) = (told, ap (flowing limits) is)
enters-flowing limits header body used d t after (Happens c) (told, (mirror, learned, ledger, follows, is)) =
    (told, (mirror, learned, ledger, follows, ap (flowing limits) is ∙ flows-closed limits (ends (Report c)) (record (turns.with_read (streams.Packet header body) used (head.Composite header ∷ []) d) { mirror = mirror; ledger = ledger })))
enters-flowing limits header body used d t after (Answers place ticket answer) (told, (mirror, learned, ledger, follows, is)) =
    (told, (mirror, learned, ledger, follows, ap (flowing limits) is ∙ flows-closed limits (ends (Reply (Some ticket) (turns.command_at place d.pending) answer)) (record (turns.with_read (streams.Packet header body) used (turns.reply_head header (turns.command_at place d.pending) ∷ []) d) { mirror = mirror; pending = remove d.pending place; ledger = ledger })))
enters-flowing limits header body used d t after (Measures place answer w cs) (told, (mirror, learned, ledger, follows, is)) =
    (told, (mirror, learned, ledger, follows, ap (flowing limits) is ∙ flows-measured limits (list_any ends (turns.reports cs)) w (turns.with_ledger ledger (turns.with_sizes (streams.Packet header body) used header place mirror w d))))

-- What the other debugger is behind the same turn: the same, but for what it put, which waits to leave.
pub record Flows (limits : Limits) (f : NextMessage) (d : Debugger) (r : Read) (after : Debugger) : Type 0 where
  pub twin : Debugger
  pub so : turns.TurnsAt f (flowing limits d) (Ok r) twin
  pub same : drained twin ≡ flowing limits after

flows-handled : (limits : Limits) (message : streams.Message) (used : ℕ) (d : Debugger) (r : Read) (after : Debugger) → turns.HandlesAt message used d (Ok r) after → Flows limits (Whole message used) d r after
flows-handled limits streams.Handshake used d r after (told, none, is) = record {
  twin = turns.greeted used (flowing limits d);
  so = (told, none, refl);
  same = sym (ap (flowing limits) is);
}
flows-handled limits (streams.Packet header body) used d r after h = record {
  twin = flowing limits after;
  so = record { news = h.news; said = h.said; unrefused = h.unrefused; entered = enters-flowing limits header body used d (read_meaning r) after h.news h.entered };
  same = refl;
}

pub flows : (limits : Limits) (f : NextMessage) (d : Debugger) (r : Read) (after : Debugger) → turns.TurnsAt f d (Ok r) after → Flows limits f d r after
flows limits (Whole message used) d r after h = flows-handled limits message used d r after h
flows limits More d r after (told, is) = record { twin = record (flowing limits d) { last = [] }; so = (told, refl); same = sym (ap (flowing limits) is) }
flows limits (Fault fault) d r after (told, is) = absurd (cc)

-- ---- a turn that fails

pub record FailsAlike (limits : Limits) (f : NextMessage) (d : Debugger) (fault : DebuggerFault) (after : Debugger) : Type 0 where
  pub twin : Debugger
  pub so : turns.TurnsAt f (flowing limits d) (Err fault) twin
  pub kept : fault ≡ code.NoMemory → after ≡ d

record FailsPacket (limits : Limits) (header : Header) (body : List ℕ) (d : Debugger) (fault : DebuggerFault) (after : Debugger) : Type 0 where
  twin : Debugger
  so : FailsAt header body (flowing limits d) fault twin
  kept : fault ≡ code.NoMemory → after ≡ d

fails-packet : (limits : Limits) (header : Header) (body : List ℕ) (d : Debugger) (fault : DebuggerFault) (after : Debugger) → FailsAt header body d fault after → FailsPacket limits header body d fault after
fails-packet limits header body d code.NoMemory after (wants, same) = record { twin = flowing limits d; so = (wants, refl); kept = λ e. same }
fails-packet limits header body d fault after (refuses, same) = record { twin = turns.refused (flowing limits d); so = (refuses, refl); kept = λ e. absurd (cc) }

fails-message : (limits : Limits) (message : streams.Message) (used : ℕ) (d : Debugger) (fault : DebuggerFault) (after : Debugger) → turns.HandlesAt message used d (Err fault) after → FailsAlike limits (Whole message used) d fault after
fails-message limits streams.Handshake used d fault after (is, same) = record { twin = flowing limits d; so = (is, refl); kept = λ e. same }
fails-message limits (streams.Packet header body) used d fault after h =
    let p = fails-packet limits header body d fault after h in
    record { twin = p.twin; so = p.so; kept = p.kept }

pub fails-alike : (limits : Limits) (f : NextMessage) (d : Debugger) (fault : DebuggerFault) (after : Debugger) → turns.TurnsAt f d (Err fault) after → FailsAlike limits f d fault after
fails-alike limits (Whole message used) d fault after h = fails-message limits message used d fault after h
fails-alike limits More d fault after (told, is) = absurd (cc)
fails-alike limits (Fault frame) d fault after (told, is) = record { twin = turns.refused (flowing limits d); so = (told, refl); kept = λ e. absurd (cc) }

-- ---- a command

fits-too : (refuse : Option Refused) (bad long longer : Bool) → longer ≡ false → cond bad refuse (cond long (Some refused.TooLong) None) ≡ None → cond bad refuse (cond longer (Some refused.TooLong) None) ≡ None
fits-too refuse true long longer e h = h
fits-too refuse false long longer e h = ap (λ b. cond b (Some refused.TooLong) None) e

fits-all : (all bad long longer : Bool) → longer ≡ false → cond all (Some refused.Busy) (cond bad (Some refused.BadCommand) (cond long (Some refused.TooLong) None)) ≡ None
    → cond all (Some refused.Busy) (cond bad (Some refused.BadCommand) (cond longer (Some refused.TooLong) None)) ≡ None
fits-all true bad long longer e h = absurd (cc)
fits-all false bad long longer e h = fits-too (Some refused.BadCommand) bad long longer e h

flows-too : (busy paused all runs bad long longer : Bool) → runs ≡ false → longer ≡ false
    → cond (busy || (paused || all)) (Some refused.Busy) (cond bad (Some refused.BadCommand) (cond long (Some refused.TooLong) None)) ≡ None
    → cond (busy || (runs || all)) (Some refused.Busy) (cond bad (Some refused.BadCommand) (cond longer (Some refused.TooLong) None)) ≡ None
flows-too true paused all runs bad long longer e f h = absurd (cc)
flows-too false true all runs bad long longer e f h = absurd (cc)
flows-too false false all runs bad long longer e f h =
    ap (λ b. cond (b || all) (Some refused.Busy) (cond bad (Some refused.BadCommand) (cond longer (Some refused.TooLong) None))) e ∙ fits-all all bad long longer f h

asks-by : (limits : Limits) (d : Debugger) (c : Command) (o : Option Widths) → limits.pending ≡ d.end.limits.pending → nat_le limits.packet 0 ≡ false → ((w : Widths) → o ≡ Some w → packet_length w c ≤ limits.packet)
    → refusal_by o d c ≡ None → refusal_by o (flowing limits d) c ≡ None
asks-by limits d c None same runs fits h = h
asks-by limits d c (Some w) same runs fits h =
    subst (λ n. cond (nat_le n (length d.pending) || (nat_le limits.packet 0 || nat_le LAST_TICKET d.tickets)) (Some refused.Busy) (cond (not (is_for_target w c)) (Some refused.BadCommand) (cond (nat_lt limits.packet (packet_length w c)) (Some refused.TooLong) None)) ≡ None) (sym same)
    (flows-too (nat_le d.end.limits.pending (length d.pending)) (is_paused d.end) (nat_le LAST_TICKET d.tickets) (nat_le limits.packet 0) (not (is_for_target w c)) (nat_lt d.end.limits.packet (packet_length w c)) (nat_lt limits.packet (packet_length w c)) runs
    (le-ltb limits.packet (packet_length w c) (fits w refl)) h)

asks-open : (limits : Limits) (d : Debugger) (c : Command) (b : Bool) → (refusal_by d.sizes d c ≡ None → refusal_by d.sizes (flowing limits d) c ≡ None) → cond b (refusal_by d.sizes d c) (Some refused.Closed) ≡ None → cond b (refusal_by d.sizes (flowing limits d) c) (Some refused.Closed) ≡ None
asks-open limits d c true f h = f h
asks-open limits d c false f h = absurd (cc)

abbrev some_widths : Widths → Option Widths
some_widths w = Some w

-- The other debugger may ask it, too, and is the same behind it, but that its packet waits to leave.
pub record AsksAlike (limits : Limits) (c : Command) (d after : Debugger) : Type 0 where
  pub unrefused : refusal_of_ask (flowing limits d) c ≡ None
  pub twin : Debugger
  pub done : HasAsked c (flowing limits d) twin
  pub same : drained twin ≡ flowing limits after

same-widths : (v w : Widths) → some_widths v ≡ some_widths w → v ≡ w
same-widths v w e = cc

pub asks-alike : (limits : Limits) (c : Command) (d after : Debugger) → limits.pending ≡ d.end.limits.pending → nat_le limits.packet 0 ≡ false → (h : HasAsked c d after) → packet_length h.widths c ≤ limits.packet
    → refusal_of_ask d c ≡ None → AsksAlike limits c d after
asks-alike limits c d after same runs h fits free =
    let fit : (w : Widths) → d.sizes ≡ Some w → packet_length w c ≤ limits.packet = λ w e. subst (λ v. packet_length v c ≤ limits.packet) (same-widths h.widths w (sym h.known ∙ e)) fits in
    record {
      unrefused = asks-open limits d c (is_open d.end) (asks-by limits d c d.sizes same runs fit) free;
      twin = asked h.widths h.id c (flowing limits d);
      done = record {
        established = h.established;
        widths = h.widths;
        known = h.known;
        id = h.id;
        next = h.next;
        encoded = h.encoded;
        sendable = record { length_counts_all = h.sendable.length_counts_all; within_limit = fits; id_fits = h.sendable.id_fits; kind_fits = h.sendable.kind_fits };
        is = refl;
      };
      same = sym (ap (flowing limits) h.is);
    }

-- ---- what no turn changes

closed-limits : (b : Bool) (d : Debugger) → (closed_where b d).end.limits ≡ d.end.limits
closed-limits true d = refl
closed-limits false d = refl

measured-limits : (b : Bool) (w : Widths) (d : Debugger) → (measured_where b w d).end.limits ≡ d.end.limits
measured-limits true w d = refl
measured-limits false w d = refl

pub settled-limits : (b : Bool) (d : Debugger) → (settled b d).end.limits ≡ d.end.limits
settled-limits true d = refl
settled-limits false d = refl

enters-limits : (header : Header) (body : List ℕ) (used : ℕ) (d : Debugger) (t : Told) (after : Debugger) (news : News) → Enters (streams.Packet header body) used header news d t after → after.end.limits ≡ d.end.limits
enters-limits header body used d t after (Waits bytes) (told, is) = ap (λ v. v.end.limits) is
enters-limits header body used d t after (Happens c) (told, (mirror, learned, ledger, follows, is)) = ap (λ v. v.end.limits) is ∙ closed-limits (ends (Report c)) (record (turns.with_read (streams.Packet header body) used (head.Composite header ∷ []) d) { mirror = mirror; ledger = ledger })
enters-limits header body used d t after (Answers place ticket answer) (told, (mirror, learned, ledger, follows, is)) =
    ap (λ v. v.end.limits) is ∙ closed-limits (ends (Reply (Some ticket) (turns.command_at place d.pending) answer)) (record (turns.with_read (streams.Packet header body) used (turns.reply_head header (turns.command_at place d.pending) ∷ []) d) { mirror = mirror; pending = remove d.pending place; ledger = ledger })
enters-limits header body used d t after (Measures place answer w cs) (told, (mirror, learned, ledger, follows, is)) =
    ap (λ v. v.end.limits) is ∙ measured-limits (list_any ends (turns.reports cs)) w (turns.with_ledger ledger (turns.with_sizes (streams.Packet header body) used header place mirror w d))

handled-limits : (message : streams.Message) (used : ℕ) (d : Debugger) (r : Read) (after : Debugger) → turns.HandlesAt message used d (Ok r) after → after.end.limits ≡ d.end.limits
handled-limits streams.Handshake used d r after (told, none, is) = ap (λ v. v.end.limits) is
handled-limits (streams.Packet header body) used d r after h = enters-limits header body used d (read_meaning r) after h.news h.entered

pub turn-limits : (f : NextMessage) (d : Debugger) (r : Read) (after : Debugger) → turns.TurnsAt f d (Ok r) after → after.end.limits ≡ d.end.limits
turn-limits (Whole message used) d r after h = handled-limits message used d r after h
turn-limits More d r after (told, is) = ap (λ v. v.end.limits) is
turn-limits (Fault fault) d r after (told, is) = absurd (cc)
