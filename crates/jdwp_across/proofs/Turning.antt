-- what a turn of a debugger leaves of its session
use Rattle.std.proofs.Common.{◌≡◌, ℕ, ◌≤◌, Bool, true, false, cond, List, [], length, remove, Option, Some, None, Ok, Err, refl, sym, ap, subst, arith}
use Rattle.std.specs.List.{list_any}
use Rattle.std.proofs.lemmas.List.{nil_from_length}
use Rattle.jdwp_wire.specs.Streams as streams
use Rattle.jdwp_wire.specs.Streams.{Fault, More, NextMessage, Whole}
use Rattle.jdwp_wire.specs.Widths.{Widths}
use Rattle.jdwp_wire.specs.declared.packet.Header.{Header}
use Rattle.jdwp_end.specs.declared.phase.Phase.{Phase}
use Rattle.jdwp_end.specs.declared.phase.Phase.TheVariants.{AwaitingHandshake, Closed, Established}
use Rattle.jdwp_end.specs.Ends.{End, front_of, is_open, is_open_phase, is_paused, next_at, room_of}
use Rattle.jdwp_action.specs.Actions.{Command}
use Rattle.jdwp_mirror.specs.Messages.{Reply, Report}
use Rattle.jdwp_mirror.specs.Mirror.{ends}
use Rattle.jdwp_debugger.specs.Asking.{refusal_by, refusal_of_ask}
use Rattle.jdwp_debugger.specs.Debuggers.{Debugger}
use Rattle.jdwp_debugger.specs.DebuggerTurns as turns
use Rattle.jdwp_debugger.specs.DebuggerTurns.{Enters, HandlesAt, Told, TurnsAt, closed_where, measured_where, read_meaning, refused}
use Rattle.jdwp_debugger.specs.News.{Answers, Happens, Measures, News, Waits}
use Rattle.jdwp_debugger.specs.declared.asking.Refused.{Refused}
use Rattle.jdwp_debugger.specs.declared.asking.Refused.TheVariants as refusal
use Rattle.jdwp_debugger.specs.declared.faults.DebuggerFault.{DebuggerFault}
use Rattle.jdwp_debugger.specs.declared.turning.Read.{Read}
use Rattle.jdwp_debugger.specs.declared.turning.Read.TheVariants as read

-- ---- an end that is closed

shut-front : (paused : Bool) (limit : ℕ) (phase : Phase) (bytes : List ℕ) → is_open_phase phase ≡ false → cond paused More (next_at limit phase bytes) ≡ More
shut-front true limit phase bytes shut = refl
shut-front false limit Closed bytes shut = refl
shut-front false limit AwaitingHandshake bytes shut = absurd (cc)
shut-front false limit Established bytes shut = absurd (cc)

-- nothing stands in front of it
pub none-in-front : (end : End) → is_open end ≡ false → front_of end ≡ More
none-in-front end shut = shut-front (is_paused end) end.limits.packet end.phase end.incoming shut

no-room : (unshut : Bool) (n k : ℕ) → unshut ≡ false → k ≤ cond unshut n 0 → k ≡ 0
no-room true n k shut h = absurd (cc)
no-room false n k shut h = omega (arith, h)

-- nothing comes to it
pub none-comes : (end : End) (bytes : List ℕ) → is_open end ≡ false → length bytes ≤ room_of end → bytes ≡ []
none-comes end bytes shut h = nil_from_length bytes (no-room (is_open end) _ (length bytes) shut h)

-- no command is asked there
open-by : (unshut : Bool) (refused : Option Refused) → cond unshut refused (Some refusal.Closed) ≡ None → unshut ≡ true
open-by true refused h = refl
open-by false refused h = absurd (cc)

pub asks-open : (d : Debugger) (c : Command) → refusal_of_ask d c ≡ None → is_open d.end ≡ true
asks-open d c h = open-by (is_open d.end) (refusal_by d.sizes d c) h

-- ---- what stays

-- the bytes that came in the session, and those that left
pub record Stays (old new : Debugger) : Type 0 where
  pub fed : new.end.session.fed ≡ old.end.session.fed
  pub taken : new.end.session.taken ≡ old.end.session.taken

same-stays : (old new : Debugger) → new ≡ old → Stays old new
same-stays old new same = record { fed = ap (λ (d : Debugger). d.end.session.fed) same; taken = ap (λ (d : Debugger). d.end.session.taken) same }

closed-stays : (b : Bool) (old mid : Debugger) → Stays old mid → Stays old (closed_where b mid)
closed-stays true old mid h = record { fed = h.fed; taken = h.taken }
closed-stays false old mid h = h

measured-stays : (b : Bool) (w : Widths) (old mid : Debugger) → Stays old mid → Stays old (measured_where b w mid)
measured-stays true w old mid h = record { fed = h.fed; taken = h.taken }
measured-stays false w old mid h = h

stays-is : (old new now : Debugger) → new ≡ now → Stays old now → Stays old new
stays-is old new now is h = subst (Stays old) (sym is) h

enters-stays : (message : streams.Message) (used : ℕ) (header : Header) (news : News) (old new : Debugger) (told : Told) → Enters message used header news old told new → Stays old new
enters-stays message used header (Waits bytes) old new told (tells, is) = stays-is old new _ is (record { fed = refl; taken = refl })
enters-stays message used header (Happens c) old new told (tells, (mirror, learned, ledger, follows, is)) =
    let mid = record (turns.with_read message used _ old) { mirror = mirror; ledger = ledger } in
    stays-is old new _ is (closed-stays (ends (Report c)) old mid (record { fed = refl; taken = refl }))
enters-stays message used header (Answers place ticket answer) old new told (tells, (mirror, learned, ledger, follows, is)) =
    let mid = record (turns.with_read message used _ old) { mirror = mirror; pending = remove old.pending place; ledger = ledger } in
    stays-is old new _ is (closed-stays (ends (Reply (Some ticket) (turns.command_at place old.pending) answer)) old mid (record { fed = refl; taken = refl }))
enters-stays message used header (Measures place answer w cs) old new told (tells, (mirror, learned, ledger, follows, is)) =
    let mid = turns.with_ledger ledger (turns.with_sizes message used header place mirror w old) in
    stays-is old new _ is (measured-stays (list_any ends (turns.reports cs)) w old mid (record { fed = refl; taken = refl }))

handles-stays : (message : streams.Message) (used : ℕ) (old new : Debugger) (r : Read) → HandlesAt message used old (Ok r) new → Stays old new
handles-stays streams.Handshake used old new r h = stays-is old new (turns.greeted used old) h.2 (record { fed = refl; taken = refl })
handles-stays (streams.Packet header body) used old new r h = enters-stays (streams.Packet header body) used header h.news old new (read_meaning r) h.entered

-- a turn leaves both as they are
pub turn-stays : (next : NextMessage) (old new : Debugger) (r : Read) → TurnsAt next old (Ok r) new → Stays old new
turn-stays (Whole message used) old new r h = handles-stays message used old new r h
turn-stays More old new r h = stays-is old new (record old { last = [] }) h.1 (record { fed = refl; taken = refl })
turn-stays (Fault fault) old new r h = absurd (let e = h.0 in cc)

-- where nothing stands in front
pub none-turns : (next : NextMessage) (old new : Debugger) (r : Read) → next ≡ More → TurnsAt next old (Ok r) new → (r ≡ read.Nothing) × (new ≡ record old { last = [] })
none-turns next old new r none h =
    let so = subst (λ x. TurnsAt x old (Ok r) new) none h in
    (let e = so.0 in cc, so.1)

pub none-fails : (next : NextMessage) (old new : Debugger) (fault : DebuggerFault) → next ≡ More → TurnsAt next old (Err fault) new → ⊥
none-fails next old new fault none h = let so = subst (λ x. TurnsAt x old (Err fault) new) none h in let e = so.0 in cc
