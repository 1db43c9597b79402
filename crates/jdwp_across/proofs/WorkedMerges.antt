-- The merges that were worked out by hand: one act after the other. `atN` are both programs after N acts, and `mergedN` that these acts
-- lead there.
use Rattle.std.proofs.Common.{◌≡◌, ◌⊎◌, ◌^◌, ℕ, ◌+◌, ◌==◌, pos, Bool, true, false, Some, None, List, [], ◌∷◌, ◌++◌, length, take, drop, inl, inr, refl, ap, subst, arith}
use Rattle.std.specs.Prelude.{nat_le, nat_lt}
use Rattle.std.proofs.lemmas.Bool.{eqb-true, leb-true, ltb-true}
use Rattle.jdwp_wire.specs.ErrorCodes.{NONE}
use Rattle.jdwp_wire.specs.Basic.{int_canonical}
use Rattle.jdwp_wire.specs.Frames.{IsPacket, KindFits}
use Rattle.jdwp_wire.specs.Handshake.{handshake_bytes}
use Rattle.jdwp_wire.specs.Streams.{Message, Handshake, Packet, stream}
use Rattle.jdwp_wire.specs.declared.packet.Header.{Header}
use Rattle.jdwp_wire.specs.declared.packet.PacketKind.TheVariants as kind
use Rattle.jdwp_wire.specs.Listed.{list_canonical}
use Rattle.jdwp_wire.specs.Numbers.{greatest_int}
use Rattle.jdwp_value.specs.Locations.{EncodesLocation, location_canonical}
use Rattle.jdwp_layout.specs.CommandNumbers.{COMPOSITE, EVENT, RESUME}
use Rattle.jdwp_layout.specs.declared.item.Field.TheVariants as field
use Rattle.jdwp_layout.specs.Grammar.{EncodesEntry, EncodesItem}
use Rattle.jdwp_layout.specs.Meanings.{Byte, Int, Located, Object, One}
use Rattle.jdwp_layout.specs.Shapes.{Events, Modifiers, OneOf}
use Rattle.jdwp_layout.specs.Writes.{data_canonical, entry_canonical, scalar_canonical}
use Rattle.jdwp_event.specs.CompositeBytes.{EncodesComposite, composite_canonical}
use Rattle.jdwp_event.specs.Composites.{composite_data, vm_start}
use Rattle.jdwp_action.specs.Actions.{Command}
use Rattle.jdwp_action.specs.AnswerPackets.{EncodesAnswer, answer_bytes, sizes_answer}
use Rattle.jdwp_action.specs.CommandPackets.{carried_bytes, packet_length}
use Rattle.jdwp_debuggee.specs.Answers.{int_answer}
use Rattle.jdwp_mirror.specs.KnownThreads.{count_in, is_held_in}
use Rattle.jdwp_mirror.specs.Messages.{Asks, Reply, Report, id_sizes}
use Rattle.jdwp_mirror.specs.Mirror.{Kept, held_after, learned, requests_after}
use Rattle.jdwp_mirror.specs.Mirrors.{Learned, Mirror, empty_mirror}
use Rattle.jdwp_mirror.specs.declared.threads.Known.{Known}
use Rattle.jdwp_target.specs.Sends.{report_of}
use Rattle.jdwp_target.specs.Targets as targets
use Rattle.jdwp_target.specs.declared.target.Stepped.TheVariants as stepping
use Rattle.jdwp_target.specs.declared.target.Turn.TheVariants as turning
use Rattle.jdwp_target.proofs.Encoded.{start-encoded}
use Rattle.jdwp_debugger.specs.Asking.{EncodesCommand, asked, command_header}
use Rattle.jdwp_debugger.specs.Debuggers as debuggers
use Rattle.jdwp_debugger.specs.DebuggerTurns as turns
use Rattle.jdwp_debugger.specs.DebuggerTurns.{Sizes, read_meaning}
use Rattle.jdwp_debugger.specs.News.{Answers, Happens, Measures, Waits}
use Rattle.jdwp_debugger.specs.declared.heads.Head.TheVariants as head
use Rattle.jdwp_debugger.specs.declared.turning.Read.{Read}
use Rattle.jdwp_debugger.specs.declared.turning.Read.TheVariants as reading
use Rattle.jdwp_model.specs.Events
use Rattle.jdwp_model.specs.Headline.{MayBegin}
use Rattle.jdwp_model.specs.Worked.{at_three, command, reached}
use Rattle.jdwp_model.specs.WorkedMachine.{Small, location, settings, small, small_opening, widths}
use Rattle.jdwp_link.specs.EventParts.{outcomes_of, told_did}
use Rattle.jdwp_link.specs.Told.{told_outcomes}
use Rattle.jdwp_link.specs.Wires.{call_sent}
use Rattle.jdwp_across.specs.Programs.{Act, ComesToDebugger, ComesToTarget, Connects, DebuggerAsks, DebuggerLoses, DebuggerTurns, Does, LeavesDebugger, LeavesTarget, Programs, TargetLoses, TargetSteps, TargetTurns, events_in, new_programs, told_in, where_did}
use Rattle.jdwp_across.specs.Headline.{MayStart}
use Rattle.jdwp_across.specs.Merges.{Merged, More, Start}
use Rattle.jdwp_across.specs.Worked.{MergesAsWorked, begun_again, breakpoint, events_until_loss, first_ticket, greeted, greets, lost, second_ticket, stopped, until_loss}

-- ---- an act more

either : (b : Bool) → (b ≡ true) ⊎ (b ≡ false)
either true = inl refl
either false = inr refl

abbrev pub first : Programs Small
first = new_programs small settings small_opening 1

then : (acts : List Act) (act : Act) (old new : Programs Small) → Merged small first acts old → Does small act old new
    → new.debugger.end.session.enqueued ≡ new.target.end.session.fed ++ drop (length new.target.end.session.fed) new.debugger.end.session.enqueued
    → new.target.end.session.enqueued ≡ new.debugger.end.session.fed ++ drop (length new.debugger.end.session.fed) new.target.end.session.enqueued
    → Merged small first (acts ++ act ∷ []) new
then acts act old new merged does a b = More acts act old new merged does (record { to_target = (_, a); to_debugger = (_, b) })

-- ---- what is sent can be read, and is within the limit

is-packet : (header : Header) (body : List ℕ) → header.length ≡ 11 + length body → nat_le header.length 65536 ≡ true → nat_lt header.id (2 ^ 32) ≡ true → KindFits header.kind → IsPacket 65536 header body
is-packet header body is most id fits = record { length_counts_all = is; within_limit = leb-true _ _ most; id_fits = ltb-true _ _ id; kind_fits = fits }

-- ---- a session begins

merged0 : Merged small first [] first
merged0 = Start

abbrev pub at1 : Programs Small
at1 = record { target = targets.opened_target first.target; debugger = debuggers.attached first.debugger }

pub merged1 : Merged small first (Connects ∷ []) at1
merged1 = then [] Connects first at1 merged0 (refl, refl, refl, refl) refl refl

abbrev pub at2 : Programs Small
at2 = record at1 { debugger = debuggers.with_taken handshake_bytes at1.debugger }

abbrev pub at3 : Programs Small
at3 = record at2 { target = targets.with_fed (take 5 handshake_bytes) at2.target }

abbrev pub at4 : Programs Small
at4 = record at3 { target = targets.with_fed (drop 5 handshake_bytes) at3.target }

abbrev pub at5 : Programs Small
at5 = record at4 { target = targets.with_handled small Handshake 14 at4.target }

merged4 : Merged small first (Connects ∷ LeavesDebugger handshake_bytes ∷ ComesToTarget (take 5 handshake_bytes) ∷ ComesToTarget (drop 5 handshake_bytes) ∷ []) at4
merged4 =
    let m2 = then (Connects ∷ []) (LeavesDebugger handshake_bytes) at1 at2 merged1 refl refl refl in
    let m3 = then (Connects ∷ LeavesDebugger handshake_bytes ∷ []) (ComesToTarget (take 5 handshake_bytes)) at2 at3 m2 refl refl refl in
    then (Connects ∷ LeavesDebugger handshake_bytes ∷ ComesToTarget (take 5 handshake_bytes) ∷ []) (ComesToTarget (drop 5 handshake_bytes)) at3 at4 m3 refl refl refl

abbrev pub start_body : List ℕ
start_body = data_canonical widths (composite_data (vm_start 0 1))

abbrev pub start_header : Header
start_header = record { length = 29; id = 1; kind = kind.Command EVENT COMPOSITE.number }

start-sendable : IsPacket 65536 start_header start_body
start-sendable = is-packet start_header start_body refl refl refl (leb-true 65 256 refl, leb-true 101 256 refl)

pub merged5 : Merged small first greets at5
merged5 =
    then (Connects ∷ LeavesDebugger handshake_bytes ∷ ComesToTarget (take 5 handshake_bytes) ∷ ComesToTarget (drop 5 handshake_bytes) ∷ []) (TargetTurns turning.Hello) at4 at5 merged4
    ((refl, refl), start-encoded widths 0 1 (leb-true 1 256 refl) refl, (tt, (start-sendable, tt)), refl) refl refl

-- ---- the widths of ids

abbrev pub started : List Message
started = Handshake ∷ report_of widths 1 (vm_start 0 1) ∷ []

abbrev pub at6 : Programs Small
at6 = record at5 { target = targets.with_taken (stream started) at5.target }

abbrev pub at7 : Programs Small
at7 = record at6 { debugger = debuggers.with_fed (stream started) at6.debugger }

abbrev pub at8 : Programs Small
at8 = record at7 { debugger = turns.greeted 14 at7.debugger }

abbrev pub at9 : Programs Small
at9 = record at8 { debugger = record (turns.with_read (Packet start_header start_body) 29 [] at8.debugger) { parked = record { header = start_header; body = start_body } ∷ [] } }

abbrev pub acts7 : List Act
acts7 = greets ++ LeavesTarget (stream started) ∷ ComesToDebugger (stream started) ∷ []

merged7 : Merged small first acts7 at7
merged7 =
    let m6 = then greets (LeavesTarget (stream started)) at5 at6 merged5 refl refl refl in
    then (greets ++ LeavesTarget (stream started) ∷ []) (ComesToDebugger (stream started)) at6 at7 m6 refl refl refl

abbrev pub acts9 : List Act
acts9 = acts7 ++ DebuggerTurns reading.Hello [] ∷ DebuggerTurns reading.Parked [] ∷ []

merged9 : Merged small first acts9 at9
merged9 =
    let m8 = then acts7 (DebuggerTurns reading.Hello []) at7 at8 merged7 (at8.debugger, (refl, refl, refl), refl, refl) refl refl in
    then (acts7 ++ DebuggerTurns reading.Hello [] ∷ []) (DebuggerTurns reading.Parked []) at8 at9 m8
    (at9.debugger, record { news = Waits start_body; said = refl; unrefused = refl; entered = (refl, refl) }, refl, refl) refl refl

abbrev pub asks_sizes : List Message
asks_sizes = call_sent widths 1 (Asks None id_sizes) ∷ []

abbrev pub at10 : Programs Small
at10 = record at9 { debugger = debuggers.with_taken (stream asks_sizes) at9.debugger }

abbrev pub at11 : Programs Small
at11 = record at10 { target = targets.with_fed (stream asks_sizes) at10.target }

abbrev pub at12 : Programs Small
at12 = record at11 { target = targets.with_handled small (call_sent widths 1 (Asks None id_sizes)) 11 at11.target }

abbrev pub acts12 : List Act
acts12 = acts9 ++ LeavesDebugger (stream asks_sizes) ∷ ComesToTarget (stream asks_sizes) ∷ TargetTurns (turning.Replied 1 NONE) ∷ []

-- an int of 8
abbrev eight : List ℕ
eight = int_canonical (pos 8)

eight-encoded : EncodesItem widths (OneOf field.Int) (One (Int (pos 8))) eight
eight-encoded = (refl, (8, refl, (ltb-true 8 (256 ^ 4) refl, refl)))

sizes-encoded : EncodesAnswer widths id_sizes.set id_sizes.number (sizes_answer widths)
sizes-encoded =
    let one = eight ++ [] in
    let two = eight ++ one in
    let three = eight ++ two in
    let four = eight ++ three in
    (eight, four, eight-encoded, (eight, three, eight-encoded, (eight, two, eight-encoded, (eight, one, eight-encoded, (eight, [], eight-encoded, refl, refl), refl), refl), refl), refl)

abbrev pub sizes_header : Header
sizes_header = record { length = 31; id = 1; kind = kind.Reply NONE }

abbrev pub sizes_body : List ℕ
sizes_body = answer_bytes widths (sizes_answer widths)

sizes-sendable : IsPacket 65536 sizes_header sizes_body
sizes-sendable = is-packet sizes_header sizes_body refl refl refl (ltb-true 0 (2 ^ 16) refl)

merged12 : Merged small first acts12 at12
merged12 =
    let m10 = then acts9 (LeavesDebugger (stream asks_sizes)) at9 at10 merged9 refl refl refl in
    let m11 = then (acts9 ++ LeavesDebugger (stream asks_sizes) ∷ []) (ComesToTarget (stream asks_sizes)) at10 at11 m10 refl refl refl in
    then (acts9 ++ LeavesDebugger (stream asks_sizes) ∷ ComesToTarget (stream asks_sizes) ∷ []) (TargetTurns (turning.Replied 1 NONE)) at11 at12 m11
    ((refl, refl), sizes-encoded, (sizes-sendable, tt), refl) refl refl

abbrev pub tells_sizes : List Message
tells_sizes = Packet sizes_header sizes_body ∷ []

abbrev pub at13 : Programs Small
at13 = record at12 { target = targets.with_taken (stream tells_sizes) at12.target }

abbrev pub at14 : Programs Small
at14 = record at13 { debugger = debuggers.with_fed (stream tells_sizes) at13.debugger }

-- the mirror that knows the first thread, which runs
abbrev pub runs : List Known
runs = record { id = record { 0 = 1 }; count = 0; held = false } ∷ []

abbrev pub knows : Mirror
knows = record { threads = runs; requests = [] }

first-or-not : (t : ℕ) (P : ℕ → Type 0) → P 1 → ((1 == t) ≡ false → P t) → P t
first-or-not t P a b = elim (either (1 == t)) [ inl h ↦ subst P (eqb-true 1 t h) a | inr h ↦ b h ]

learns-start : Learned empty_mirror (Report (vm_start 0 1)) knows
learns-start = record {
  counts = λ t. refl;
  held = λ t. first-or-not t (λ u. is_held_in runs u ≡ held_after (Report (vm_start 0 1)) u false (count_in runs u)) refl (λ h. rw h refl);
  order = record { met = Some 1; ids = refl; unknown = refl };
  requests = refl;
}

learns-sizes : Learned knows (Reply None id_sizes (sizes_answer widths)) knows
learns-sizes = record {
  counts = λ t. refl;
  held = λ t. first-or-not t (λ u. is_held_in runs u ≡ held_after (Reply None id_sizes (sizes_answer widths)) u (is_held_in runs u) (count_in runs u)) refl (λ h. rw h refl);
  order = record { met = None; ids = refl; unknown = tt };
  requests = refl;
}

abbrev pub at15 : Programs Small
at15 = record at14 { debugger = turns.with_sizes (Packet sizes_header sizes_body) 31 sizes_header 0 knows widths at14.debugger }

merged14 : Merged small first (acts12 ++ LeavesTarget (stream tells_sizes) ∷ ComesToDebugger (stream tells_sizes) ∷ []) at14
merged14 =
    let m13 = then acts12 (LeavesTarget (stream tells_sizes)) at12 at13 merged12 refl refl refl in
    then (acts12 ++ LeavesTarget (stream tells_sizes) ∷ []) (ComesToDebugger (stream tells_sizes)) at13 at14 m13 refl refl refl

pub merged15 : (sizes : Read) → read_meaning sizes ≡ Sizes (vm_start 0 1 ∷ []) → Merged small first (greeted sizes) at15
merged15 sizes h =
    then (acts12 ++ LeavesTarget (stream tells_sizes) ∷ ComesToDebugger (stream tells_sizes) ∷ []) (DebuggerTurns sizes []) at14 at15 merged14
    (at15.debugger, record { news = Measures 0 (sizes_answer widths) widths (vm_start 0 1 ∷ []); said = refl; unrefused = refl; entered = (h, (knows, (knows, learns-start, (knows, learns-sizes, refl)), None, refl, refl)) }, refl, refl) refl refl

-- ---- a breakpoint

abbrev pub asks_breakpoint : List Message
asks_breakpoint = call_sent widths 2 (Asks (Some 1) breakpoint) ∷ []

abbrev pub at16 : Programs Small
at16 = record at15 { debugger = asked widths 2 breakpoint at15.debugger }

abbrev pub at17 : Programs Small
at17 = record at16 { debugger = debuggers.with_taken (stream asks_breakpoint) at16.debugger }

abbrev pub at18 : Programs Small
at18 = record at17 { target = targets.with_fed (stream asks_breakpoint) at17.target }

abbrev pub at19 : Programs Small
at19 = record at18 { target = targets.with_handled small (call_sent widths 2 (Asks (Some 1) breakpoint)) (packet_length widths breakpoint) at18.target }

-- what the command carries
abbrev place : List ℕ
place = location_canonical widths (location 3)

place-encoded : EncodesLocation widths (location 3) place
place-encoded = (ltb-true 10 (256 ^ 8) refl, ltb-true 20 (256 ^ 8) refl, ltb-true 3 (256 ^ 8) refl, refl)

abbrev modifier : List ℕ
modifier = 7 ∷ (place ++ [])

modifier-encoded : EncodesEntry widths Modifiers at_three modifier
modifier-encoded = (7, ltb-true 7 256 refl, (field.Location ∷ [], Located (location 3) ∷ [], place ++ [], refl, (place, [], (refl, place-encoded), refl, refl), refl, refl))

abbrev modifiers : List ℕ
modifiers = list_canonical (entry_canonical widths) (at_three ∷ [])

breakpoint-encoded : EncodesCommand widths breakpoint
breakpoint-encoded =
    (2 ∷ [], 2 ∷ (modifiers ++ []), (refl, (ltb-true 2 256 refl, refl)), (2 ∷ [], modifiers ++ [], (refl, (ltb-true 2 256 refl, refl)), (modifiers, [], (leb-true 1 greatest_int refl, modifier ++ [], (modifier, [], modifier-encoded, refl, refl), refl), refl, refl), refl), refl)

breakpoint-sendable : IsPacket 65536 (command_header widths 2 breakpoint) (carried_bytes widths breakpoint.carried)
breakpoint-sendable = is-packet (command_header widths 2 breakpoint) (carried_bytes widths breakpoint.carried) refl refl refl (leb-true 16 256 refl, leb-true 2 256 refl)

one-encoded : EncodesAnswer widths breakpoint.set breakpoint.number (int_answer 1)
one-encoded = (int_canonical (pos 1), [], (refl, (1, refl, (ltb-true 1 (256 ^ 4) refl, refl))), refl, refl)

abbrev pub one_header : Header
one_header = record { length = 15; id = 2; kind = kind.Reply NONE }

abbrev pub one_body : List ℕ
one_body = answer_bytes widths (int_answer 1)

one-sendable : IsPacket 65536 one_header one_body
one-sendable = is-packet one_header one_body refl refl refl (ltb-true 0 (2 ^ 16) refl)

abbrev pub acts16 : Read → List Act
acts16 sizes = greeted sizes ++ DebuggerAsks breakpoint first_ticket ∷ []

abbrev pub acts19 : Read → List Act
acts19 sizes = acts16 sizes ++ LeavesDebugger (stream asks_breakpoint) ∷ ComesToTarget (stream asks_breakpoint) ∷ TargetTurns (turning.Replied 2 NONE) ∷ []

merged19 : (sizes : Read) → read_meaning sizes ≡ Sizes (vm_start 0 1 ∷ []) → Merged small first (acts19 sizes) at19
merged19 sizes h =
    let m16 = then (greeted sizes) (DebuggerAsks breakpoint first_ticket) at15 at16 (merged15 sizes h)
    (refl, refl, record { established = refl; widths = widths; known = refl; id = 2; next = record { passed = 0; is = refl; free = refl; others = λ n less. absurd (omega (less, arith)) }; encoded = breakpoint-encoded; sendable = breakpoint-sendable; is = refl }, refl) refl refl in
    let m17 = then (acts16 sizes) (LeavesDebugger (stream asks_breakpoint)) at16 at17 m16 refl refl refl in
    let m18 = then (acts16 sizes ++ LeavesDebugger (stream asks_breakpoint) ∷ []) (ComesToTarget (stream asks_breakpoint)) at17 at18 m17 refl refl refl in
    then (acts16 sizes ++ LeavesDebugger (stream asks_breakpoint) ∷ ComesToTarget (stream asks_breakpoint) ∷ []) (TargetTurns (turning.Replied 2 NONE)) at18 at19 m18
    ((refl, refl), one-encoded, (one-sendable, tt), refl) refl refl

abbrev pub tells_one : List Message
tells_one = Packet one_header one_body ∷ []

abbrev pub at20 : Programs Small
at20 = record at19 { target = targets.with_taken (stream tells_one) at19.target }

abbrev pub at21 : Programs Small
at21 = record at20 { debugger = debuggers.with_fed (stream tells_one) at20.debugger }

-- it knows the request, too
abbrev pub requests : List Kept
requests = requests_after (Reply (Some 1) breakpoint (int_answer 1)) []

abbrev pub knows_request : Mirror
knows_request = record { threads = runs; requests = requests }

learns-request : Learned knows (Reply (Some 1) breakpoint (int_answer 1)) knows_request
learns-request = record {
  counts = λ t. refl;
  held = λ t. first-or-not t (λ u. is_held_in runs u ≡ held_after (Reply (Some 1) breakpoint (int_answer 1)) u (is_held_in runs u) (count_in runs u)) refl (λ h. rw h refl);
  order = record { met = None; ids = refl; unknown = tt };
  requests = refl;
}

abbrev pub at22 : Programs Small
at22 = record at21 { debugger = record (turns.with_read (Packet one_header one_body) 15 (turns.reply_head one_header breakpoint ∷ []) at21.debugger) { mirror = knows_request; pending = [] } }

abbrev pub acts22 : Read → List Act
acts22 sizes = acts19 sizes ++ LeavesTarget (stream tells_one) ∷ ComesToDebugger (stream tells_one) ∷ DebuggerTurns (reading.Answered first_ticket (int_answer 1)) [] ∷ []

merged22 : (sizes : Read) → read_meaning sizes ≡ Sizes (vm_start 0 1 ∷ []) → Merged small first (acts22 sizes) at22
merged22 sizes h =
    let m20 = then (acts19 sizes) (LeavesTarget (stream tells_one)) at19 at20 (merged19 sizes h) refl refl refl in
    let m21 = then (acts19 sizes ++ LeavesTarget (stream tells_one) ∷ []) (ComesToDebugger (stream tells_one)) at20 at21 m20 refl refl refl in
    then (acts19 sizes ++ LeavesTarget (stream tells_one) ∷ ComesToDebugger (stream tells_one) ∷ []) (DebuggerTurns (reading.Answered first_ticket (int_answer 1)) []) at21 at22 m21
    (at22.debugger, record { news = Answers 0 1 (int_answer 1); said = refl; unrefused = refl; entered = (refl, (knows_request, learns-request, None, refl, refl)) }, refl, refl) refl refl

-- the first thread enters a method, and steps to the breakpoint
abbrev pub at23 : Programs Small
at23 = record at22 { target = targets.with_step small 1 at22.target }

abbrev pub at24 : Programs Small
at24 = record at23 { target = targets.with_step small 1 at23.target }

abbrev event : List ℕ
event = entry_canonical widths (Byte 2 ∷ Int (pos 1) ∷ Object 1 ∷ Located (location 3) ∷ [])

event-encoded : EncodesEntry widths Events (Byte 2 ∷ Int (pos 1) ∷ Object 1 ∷ Located (location 3) ∷ []) event
event-encoded =
    let id = scalar_canonical widths (Object 1) in (
      2,
      ltb-true 2 256 refl,
      (
        field.Int ∷ field.ObjectId ∷ field.Location ∷ [],
        Int (pos 1) ∷ Object 1 ∷ Located (location 3) ∷ [],
        int_canonical (pos 1) ++ (id ++ (place ++ [])),
        refl,
        (int_canonical (pos 1), id ++ (place ++ []), (refl, (1, refl, (ltb-true 1 (256 ^ 4) refl, refl))), (id, place ++ [], (refl, (ltb-true 1 (256 ^ 8) refl, refl)), (place, [], (refl, place-encoded), refl, refl), refl), refl),
        refl,
        refl,
      ),
    )

reached-encoded : EncodesComposite widths (reached 2) (composite_canonical widths (reached 2))
reached-encoded = (list_canonical (entry_canonical widths) (reached 2).events, ltb-true 2 256 refl, (leb-true 1 greatest_int refl, event ++ [], (event, [], event-encoded, refl, refl), refl), refl)

abbrev pub reached_body : List ℕ
reached_body = data_canonical widths (composite_data (reached 2))

abbrev pub reached_header : Header
reached_header = record { length = 11 + length reached_body; id = 2; kind = kind.Command EVENT COMPOSITE.number }

reached-sendable : IsPacket 65536 reached_header reached_body
reached-sendable = is-packet reached_header reached_body refl refl refl (leb-true 65 256 refl, leb-true 101 256 refl)

abbrev pub acts24 : Read → List Act
acts24 sizes = acts22 sizes ++ TargetSteps 1 stepping.Quiet ∷ TargetSteps 1 stepping.Reported ∷ []

merged24 : (sizes : Read) → read_meaning sizes ≡ Sizes (vm_start 0 1 ∷ []) → Merged small first (acts24 sizes) at24
merged24 sizes h =
    let m23 = then (acts22 sizes) (TargetSteps 1 stepping.Quiet) at22 at23 (merged22 sizes h) ((refl, refl), tt, tt, refl) refl refl in
    then (acts22 sizes ++ TargetSteps 1 stepping.Quiet ∷ []) (TargetSteps 1 stepping.Reported) at23 at24 m23 ((refl, refl), reached-encoded, (reached-sendable, tt), refl) refl refl

abbrev pub tells_event : List Message
tells_event = Packet reached_header reached_body ∷ []

abbrev pub at25 : Programs Small
at25 = record at24 { target = targets.with_taken (stream tells_event) at24.target }

abbrev pub at26 : Programs Small
at26 = record at25 { debugger = debuggers.with_fed (stream tells_event) at25.debugger }

-- it holds the thread
abbrev pub stands : List Known
stands = record { id = record { 0 = 1 }; count = 1; held = true } ∷ []

abbrev pub holds : Mirror
holds = record { threads = stands; requests = requests }

learns-event : Learned knows_request (Report (reached 2)) holds
learns-event = record {
  counts = λ t. first-or-not t (λ u. count_in stands u ≡ learned (Report (reached 2)) u (count_in runs u)) refl (λ h. rw h refl);
  held = λ t. first-or-not t (λ u. is_held_in stands u ≡ held_after (Report (reached 2)) u (is_held_in runs u) (count_in stands u)) refl (λ h. rw h refl);
  order = record { met = None; ids = refl; unknown = tt };
  requests = refl;
}

abbrev pub at27 : Programs Small
at27 = record at26 { debugger = record (turns.with_read (Packet reached_header reached_body) (11 + length reached_body) (head.Composite reached_header ∷ []) at26.debugger) { mirror = holds } }

pub merged27 : (sizes : Read) → read_meaning sizes ≡ Sizes (vm_start 0 1 ∷ []) → Merged small first (stopped sizes) at27
merged27 sizes h =
    let m25 = then (acts24 sizes) (LeavesTarget (stream tells_event)) at24 at25 (merged24 sizes h) refl refl refl in
    let m26 = then (acts24 sizes ++ LeavesTarget (stream tells_event) ∷ []) (ComesToDebugger (stream tells_event)) at25 at26 m25 refl refl refl in
    then (acts24 sizes ++ LeavesTarget (stream tells_event) ∷ ComesToDebugger (stream tells_event) ∷ []) (DebuggerTurns (reading.Seen (reached 2)) []) at26 at27 m26
    (at27.debugger, record { news = Happens (reached 2); said = refl; unrefused = refl; entered = (refl, (holds, learns-event, None, refl, refl)) }, refl, refl) refl refl

-- ---- a loss

abbrev pub resume : Command
resume = command RESUME []

abbrev pub at28 : Programs Small
at28 = record at27 { debugger = asked widths 3 resume at27.debugger }

resume-sendable : IsPacket 65536 (command_header widths 3 resume) (carried_bytes widths resume.carried)
resume-sendable = is-packet (command_header widths 3 resume) (carried_bytes widths resume.carried) refl refl refl (leb-true 2 256 refl, leb-true 10 256 refl)

abbrev pub at29 : Programs Small
at29 = record at28 { target = targets.lost_target at28.target }

abbrev pub at30 : Programs Small
at30 = record at29 { debugger = debuggers.lost_debugger at29.debugger }

pub merged30 : (sizes : Read) → read_meaning sizes ≡ Sizes (vm_start 0 1 ∷ []) → Merged small first (lost sizes) at30
merged30 sizes h =
    let m28 = then (stopped sizes) (DebuggerAsks resume second_ticket) at27 at28 (merged27 sizes h)
    (refl, refl, record { established = refl; widths = widths; known = refl; id = 3; next = record { passed = 0; is = refl; free = refl; others = λ n less. absurd (omega (less, arith)) }; encoded = refl; sendable = resume-sendable; is = refl }, refl) refl refl in
    let m29 = then (stopped sizes ++ DebuggerAsks resume second_ticket ∷ []) TargetLoses at28 at29 m28 refl refl refl in
    then (stopped sizes ++ DebuggerAsks resume second_ticket ∷ TargetLoses ∷ []) (DebuggerLoses (second_ticket ∷ [])) at29 at30 m29 (refl, refl) refl refl

-- ---- a session anew

abbrev pub at31 : Programs Small
at31 = record { target = targets.opened_target at30.target; debugger = debuggers.attached at30.debugger }

abbrev pub at32 : Programs Small
at32 = record at31 { debugger = debuggers.with_taken handshake_bytes at31.debugger }

abbrev pub at33 : Programs Small
at33 = record at32 { target = targets.with_fed (take 5 handshake_bytes) at32.target }

abbrev pub at34 : Programs Small
at34 = record at33 { target = targets.with_fed (drop 5 handshake_bytes) at33.target }

abbrev pub at35 : Programs Small
at35 = record at34 { target = targets.with_handled small Handshake 14 at34.target }

abbrev pub acts35 : Read → List Act
acts35 sizes = lost sizes ++ greets

merged35 : (sizes : Read) → read_meaning sizes ≡ Sizes (vm_start 0 1 ∷ []) → Merged small first (acts35 sizes) at35
merged35 sizes h =
    let m31 = then (lost sizes) Connects at30 at31 (merged30 sizes h) (refl, refl, refl, refl) refl refl in
    let m32 = then (lost sizes ++ Connects ∷ []) (LeavesDebugger handshake_bytes) at31 at32 m31 refl refl refl in
    let m33 = then (lost sizes ++ Connects ∷ LeavesDebugger handshake_bytes ∷ []) (ComesToTarget (take 5 handshake_bytes)) at32 at33 m32 refl refl refl in
    let m34 = then (lost sizes ++ Connects ∷ LeavesDebugger handshake_bytes ∷ ComesToTarget (take 5 handshake_bytes) ∷ []) (ComesToTarget (drop 5 handshake_bytes)) at33 at34 m33 refl refl refl in
    then (lost sizes ++ Connects ∷ LeavesDebugger handshake_bytes ∷ ComesToTarget (take 5 handshake_bytes) ∷ ComesToTarget (drop 5 handshake_bytes) ∷ []) (TargetTurns turning.Hello) at34 at35 m34
    ((refl, refl), tt, (tt, tt), refl) refl refl

abbrev pub greeting : List Message
greeting = Handshake ∷ []

abbrev pub at36 : Programs Small
at36 = record at35 { target = targets.with_taken (stream greeting) at35.target }

abbrev pub at37 : Programs Small
at37 = record at36 { debugger = debuggers.with_fed (stream greeting) at36.debugger }

abbrev pub at38 : Programs Small
at38 = record at37 { debugger = turns.greeted 14 at37.debugger }

pub merged38 : (sizes : Read) → read_meaning sizes ≡ Sizes (vm_start 0 1 ∷ []) → Merged small first (begun_again sizes) at38
merged38 sizes h =
    let m36 = then (acts35 sizes) (LeavesTarget (stream greeting)) at35 at36 (merged35 sizes h) refl refl refl in
    let m37 = then (acts35 sizes ++ LeavesTarget (stream greeting) ∷ []) (ComesToDebugger (stream greeting)) at36 at37 m36 refl refl refl in
    then (acts35 sizes ++ LeavesTarget (stream greeting) ∷ ComesToDebugger (stream greeting) ∷ []) (DebuggerTurns reading.Hello []) at37 at38 m37
    (at38.debugger, (refl, refl, refl), refl, refl) refl refl

-- ---- what is told of them

told-so : (sizes : Read) → read_meaning sizes ≡ Sizes (vm_start 0 1 ∷ []) → told_in (lost sizes) ≡ until_loss
told-so sizes h = ap (λ q. (told_outcomes (outcomes_of q) ++ []) ++ drop 1 until_loss) h

events-so : (sizes : Read) → read_meaning sizes ≡ Sizes (vm_start 0 1 ∷ []) → events_in (lost sizes) ≡ events_until_loss
events-so sizes h = ap (λ q. take 5 events_until_loss ++ (where_did (told_did q) Events.DebuggerTurn ++ drop 6 events_until_loss)) h

-- ---- how they start

pub starts : MayBegin small settings small_opening → MayStart small settings small_opening 1
starts begins = record {
  begins = begins;
  limits = record {
    packet_least = leb-true _ _ refl;
    packet_most = leb-true _ _ refl;
    live_is = (leb-true _ _ refl, leb-true _ _ refl);
    requests_is = (leb-true _ _ refl, leb-true _ _ refl);
    pending_is = (leb-true _ _ refl, leb-true _ _ refl);
    composite_fits = leb-true _ _ refl;
  };
  id_fits = ltb-true 1 (2 ^ 32) refl;
}

-- ---- all of them

pub worked : MergesAsWorked
worked = record {
  nothing = (first, merged0, refl);
  connects = (at1, merged1, refl);
  handles = (at5, merged5, refl);
  stops = λ sizes h. (at27, merged27 sizes h, (refl, refl, refl));
  loses = λ sizes h. (at30, merged30 sizes h, (refl, refl));
  told = told-so;
  events = events-so;
  begins_again = λ sizes h. (at38, merged38 sizes h, refl);
}
