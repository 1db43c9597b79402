-- How far a session of a run is, from turn to turn and from line to line.
use Rattle.std.proofs.Common.{◌≡◌, ◌≢◌, ◌∙◌, ℕ, zero, suc, ◌+◌, ◌<◌, ◌^◌, ◌==◌, ◌||◌, ◌++◌, ◌∷◌, List, [], Bool, true, false, Option, Some, None, Ok, Err, ◌⊎◌, inl, inr, is_some, slice_get, if◌then◌else◌, ap, refl, subst, sym, append_assoc, arith}
use Rattle.std.specs.Prelude.{remove}
use Rattle.std.specs.List.{AllByRecursion, list_any}
use Rattle.std.proofs.lemmas.Bool.{eqb-true}
use Rattle.std.proofs.lemmas.List.{append-nil}
use Rattle.jdwp_wire.specs.declared.error_code.ErrorCode.{ErrorCode}
use Rattle.jdwp_wire.specs.declared.frame.NextHello.{NextHello}
use Rattle.jdwp_wire.specs.declared.frame.NextHello.TheVariants as hello
use Rattle.jdwp_wire.specs.declared.packet.Header.{Header}
use Rattle.jdwp_wire.specs.declared.packet.PacketKind.{PacketKind}
use Rattle.jdwp_wire.specs.declared.packet.PacketKind.TheVariants as kind
use Rattle.jdwp_wire.specs.Frames.{Front, front, header_bytes}
use Rattle.jdwp_wire.specs.Frames as frames
use Rattle.jdwp_wire.specs.Handshake.{handshake_front}
use Rattle.jdwp_wire.specs.Streams.{NextMessage, Whole, More, Fault, after_handshake, at_handshake}
use Rattle.jdwp_wire.specs.Streams as streams
use Rattle.jdwp_wire.specs.Widths.{Widths}
use Rattle.jdwp_layout.specs.declared.answer.Answer.{Answer}
use Rattle.jdwp_event.specs.Composites.{CompositeMeaning}
use Rattle.jdwp_end.specs.declared.phase.Phase.{Phase}
use Rattle.jdwp_end.specs.declared.phase.Phase.TheVariants.{AwaitingHandshake, Established}
use Rattle.jdwp_end.specs.Ends.{End, front_of, is_open, is_paused, next_at, next_of}
use Rattle.jdwp_action.specs.Actions.{Command}
use Rattle.jdwp_debugger.specs.declared.faults.DebuggerFault.TheVariants as code
use Rattle.jdwp_debugger.specs.declared.pending.Ticket.{Ticket}
use Rattle.jdwp_debugger.specs.declared.turning.Read.{Read}
use Rattle.jdwp_debugger.specs.declared.turning.Read.TheVariants as read
use Rattle.jdwp_debugger.specs.Asking.{HasAsked, IsNextFree, asked as with_asked, command_bytes, id_after, is_outstanding}
use Rattle.jdwp_debugger.specs.Debuggers.{Asked, Debugger, Parked as Waiting}
use Rattle.jdwp_debugger.specs.DebuggerTurns.{Enters, TurnsAt, Told, closed_where, command_at, greeted, measured_where, reading_of, reports, sizes_header, read_meaning}
use Rattle.jdwp_mirror.specs.Messages.{Reply, Report, id_sizes}
use Rattle.jdwp_mirror.specs.Mirror.{ends}
use Rattle.jdwp_debugger.specs.News.{EIGHT, News, Waits, Happens, Answers, Measures, Reading, answer_says, event_says, event_says_by, place_of, reply_at, reply_to, says, sizes_say, unless_bad, answer_by, widths_by, with_composites, composites_in}
use Rattle.jdwp_mirror.specs.Widths.{widths_in}
use Rattle.jdwp_attach.specs.declared.plans.plan_line.PlanLine.{PlanLine}
use Rattle.jdwp_attach.specs.declared.plans.plan_line.PlanLine.TheVariants as line
use Rattle.jdwp_attach.specs.OwnCounts.{AsksDue, Count, Line, Step, suspend_count}
use Rattle.jdwp_attach.specs.PlanAsks.{CountsIds, HasPut, HasPutNone, IsNthId, KnowsSizes, PutsStep, PutsSteps, Stands, asks, asks_of, command_asked, step_asks}
use Rattle.jdwp_attach.specs.PlanRuns.{IsAsk}
use Rattle.jdwp_attach.proofs.Turned.{asked-of, packet-enqueued}

-- ---- what was put

-- nothing, or what these lines ask, in ids so wide
abbrev pub Puts : List Step → Debugger → Debugger → Type 0
Puts steps base d = HasPutNone steps base d ⊎ ((w : Widths) × HasPut w steps base d)

-- nothing more was put
pub puts-same : (steps : List Step) (base old new : Debugger) → new.end.session.enqueued ≡ old.end.session.enqueued → Puts steps base old → Puts steps base new
puts-same steps base old new same (inl h) = inl (h.0, same ∙ h.1)
puts-same steps base old new same (inr (w, (bytes, lines, is))) = inr (w, (bytes, lines, same ∙ is))

-- IDSizes alone was put
sizes-put : (w : Widths) (steps : List Step) (base d : Debugger) → steps ≡ [] → d.end.session.enqueued ≡ base.end.session.enqueued ++ header_bytes (sizes_header base.next_id) → HasPut w steps base d
sizes-put w steps base d none is =
    rw none ([], refl, is ∙ ap (λ (x : List ℕ). base.end.session.enqueued ++ x) (sym (append-nil (header_bytes (sizes_header base.next_id)))))

pub stands-puts : (steps : List Step) (base d : Debugger) → Stands steps base d → Puts steps base d
stands-puts steps base d (inl a) = inl a.0
stands-puts steps base d (inr (inl s)) = inr (EIGHT, sizes-put EIGHT steps base d s.0 s.1)
stands-puts steps base d (inr (inr k)) = inr (k.0, k.2)

-- the widths of ids are known
pub stands-known : (steps : List Step) (base d : Debugger) → is_some d.sizes ≡ true → Stands steps base d → KnowsSizes steps base d
stands-known steps base d known (inl a) = absurd (let e = sym known ∙ ap (λ (o : Option Widths). is_some o) a.2 in cc)
stands-known steps base d known (inr (inl s)) = absurd (let e = sym known ∙ ap (λ (o : Option Widths). is_some o) s.2 in cc)
stands-known steps base d known (inr (inr k)) = k

-- ---- steps

pub asks-append : (steps : List Step) (step : Step) → asks (steps ++ step ∷ []) ≡ asks steps + step_asks step
asks-append [] step = omega arith
asks-append (first ∷ steps) step = omega (arith, asks-append steps step)

pub asks-both : (a b : List Step) → asks (a ++ b) ≡ asks a + asks b
asks-both [] b = omega arith
asks-both (step ∷ a) b = omega (arith, asks-both a b)

steps-more : (w : Widths) (first n m : ℕ) (steps : List Step) (step : Step) (bytes more : List ℕ) → m ≡ n + asks steps → PutsSteps w first n steps bytes → PutsStep w first m step more
    → PutsSteps w first n (steps ++ step ∷ []) (bytes ++ more)
steps-more w first n m [] step bytes more at none puts =
    let same : m ≡ n = omega (arith, at) in
    (more, [], subst (λ (x : ℕ). PutsStep w first x step more) same puts, refl, ap (λ (x : List ℕ). x ++ more) none ∙ sym (append-nil more))
steps-more w first n m (s ∷ steps) step bytes more at (a, rest, puts, lines, is) last = (
  a,
  rest ++ more,
  puts,
  steps-more w first (n + step_asks s) m steps step rest more (omega (arith, at)) lines last,
  ap (λ (x : List ℕ). x ++ more) is ∙ append_assoc a rest more,
)

put-more : (w : Widths) (steps : List Step) (step : Step) (base old new : Debugger) (more : List ℕ) → HasPut w steps base old → PutsStep w base.next_id (asks steps + 1) step more
    → new.end.session.enqueued ≡ old.end.session.enqueued ++ more → HasPut w (steps ++ step ∷ []) base new
put-more w steps step base old new more (bytes, lines, is) puts more-is =
    let start = base.end.session.enqueued in
    let sizes = header_bytes (sizes_header base.next_id) in (
      bytes ++ more,
      steps-more w base.next_id 1 (asks steps + 1) steps step bytes more (omega arith) lines puts,
      more-is ∙ ap (λ (x : List ℕ). x ++ more) is ∙ append_assoc start (sizes ++ bytes) more ∙ ap (λ (x : List ℕ). start ++ x) (append_assoc sizes bytes more),
    )

-- a line that asks nothing puts nothing
puts-nothing : (w : Widths) (first n : ℕ) (line : PlanLine) → asks_of line ≡ 0 → PutsStep w first n (Line line) []
puts-nothing w first n (line.Ask set number carried) none = absurd (let e = none in cc)
puts-nothing w first n other none = refl

pub stands-line : (steps : List Step) (line : PlanLine) (base d : Debugger) → asks_of line ≡ 0 → is_some d.sizes ≡ true → Stands steps base d → Stands (steps ++ Line line ∷ []) base d
stands-line steps line base d none known s =
    let k = stands-known steps base d known s in
    let same : asks steps + 1 ≡ asks (steps ++ Line line ∷ []) + 1 = omega (arith, asks-append steps (Line line), none) in
    inr (inr (
      k.0,
      k.1,
      put-more k.0 steps (Line line) base d d [] k.2 (puts-nothing k.0 base.next_id (asks steps + 1) line none) (sym (append-nil d.end.session.enqueued)),
      k.3,
      k.4,
      subst (λ (x : ℕ). CountsIds base.next_id x d) same k.5,
    ))

-- ---- ids

ids-differ : (first k n : ℕ) → k < n → n < 2 ^ 32 → id_after first k ≡ id_after first n → ⊥
ids-differ first k n less below e = absurd (omega (arith, less, below, e))

-- none of those that wait has the next id
next-free : (ps : List Asked) (id first n : ℕ) → id ≡ id_after first n → n < 2 ^ 32 → AllByRecursion (λ (p : Asked). (k : ℕ) × (k < n) × (p.id ≡ id_after first k)) ps → is_outstanding ps id ≡ true → ⊥
next-free [] id first n is below ids found = cc
next-free (p ∷ ps) id first n is below ids found = by (p.id == id) refl (next-free ps id first n is below ids.1) found
  where
    by : (b : Bool) → (p.id == id) ≡ b → (is_outstanding ps id ≡ true → ⊥) → (b || is_outstanding ps id) ≡ true → ⊥
    by true same rest more = ids-differ first ids.0.0 n ids.0.1 below (sym ids.0.2 ∙ eqb-true p.id id same ∙ is)
    by false other rest more = rest more

next-by : (ps : List Asked) (from id first n passed : ℕ) → from ≡ id_after first n → n < 2 ^ 32 → AllByRecursion (λ (p : Asked). (k : ℕ) × (k < n) × (p.id ≡ id_after first k)) ps
    → id ≡ id_after from passed → ((m : ℕ) → m < passed → is_outstanding ps (id_after from m) ≡ true) → id ≡ id_after first n
next-by ps from id first n zero start below ids is others = omega (arith, start, is)
next-by ps from id first n (suc passed) start below ids is others = absurd (next-free ps (id_after from 0) first n (omega (arith, start)) below ids (others 0 (omega arith)))

-- the id of a command that is asked
next-is : (ps : List Asked) (from id first n : ℕ) → from ≡ id_after first n → n < 2 ^ 32 → AllByRecursion (λ (p : Asked). (k : ℕ) × (k < n) × (p.id ≡ id_after first k)) ps
    → IsNextFree ps from id → id ≡ id_after first n
next-is ps from id first n start below ids next = next-by ps from id first n next.passed start below ids next.is next.others

-- ---- commands that wait

all-append : (P : Asked → Type 0) (ps qs : List Asked) → AllByRecursion P ps → AllByRecursion P qs → AllByRecursion P (ps ++ qs)
all-append P [] qs a b = b
all-append P (p ∷ ps) qs a b = (a.0, all-append P ps qs a.1 b)

all-removed : (P : Asked → Type 0) (ps : List Asked) (place : ℕ) → AllByRecursion P ps → AllByRecursion P (remove ps place)
all-removed P [] zero a = a
all-removed P [] (suc place) a = a
all-removed P (p ∷ ps) zero a = a.1
all-removed P (p ∷ ps) (suc place) a = (a.0, all-removed P ps place a.1)

all-more : (first n : ℕ) (ps : List Asked) → AllByRecursion (λ (p : Asked). (k : ℕ) × (k < n) × (p.id ≡ id_after first k)) ps
    → AllByRecursion (λ (p : Asked). (k : ℕ) × (k < n + 1) × (p.id ≡ id_after first k)) ps
all-more first n [] a = a
all-more first n (p ∷ ps) a = ((a.0.0, omega (arith, a.0.1), a.0.2), all-more first n ps a.1)

-- ---- a command that was asked

pub one-asked : (line : PlanLine) (set number : ℕ) (bytes : List ℕ) → IsAsk line set number bytes → asks_of line ≡ 1
one-asked (line.Ask s n carried) set number bytes h = refl
one-asked other set number bytes h = absurd h

-- such a step puts the packet of this command
abbrev PutsCommand : Step → Command → Widths → Type 0
PutsCommand step command w = (first n id : ℕ) → IsNthId first n id → PutsStep w first n step (command_bytes w id command)

puts-asked : (w : Widths) (line : PlanLine) (set number : ℕ) (bytes : List ℕ) (command : Command) → IsAsk line set number bytes → command_asked w set number bytes ≡ Some command → PutsCommand (Line line) command w
puts-asked w (line.Ask s m carried) set number bytes command h is first n id nth = (id, command, nth, rw (h.0, h.1, h.2) is, refl)
puts-asked w other set number bytes command h is first n id nth = absurd h

puts-count : (w : Widths) (thread : ℕ) → PutsCommand (Count thread) (suspend_count thread) w
puts-count w thread first n id nth = (id, nth, refl)

-- one id more was given
counts-more : (w : Widths) (first n id : ℕ) (command : Command) (old : Debugger) → IsNextFree old.pending old.next_id id → CountsIds first n old → CountsIds first (n + 1) (with_asked w id command old)
counts-more w first n id command old next counts below =
    let before = counts (omega (arith, below)) in
    let is = next-is old.pending old.next_id id first n before.0 (omega (arith, below)) before.1 next in (
      omega (arith, is),
      all-append (λ (p : Asked). (k : ℕ) × (k < n + 1) × (p.id ≡ id_after first k)) old.pending _ (all-more first n old.pending before.1) ((n, omega arith, is), tt),
    )

stands-step : (steps : List Step) (step : Step) (base old new : Debugger) (w : Widths) (command : Command) → step_asks step ≡ 1 → old.sizes ≡ Some w → PutsCommand step command w → HasAsked command old new
    → Stands steps base old → Stands (steps ++ step ∷ []) base new
stands-step steps step base old new w command one known puts-it h s =
    let k = stands-known steps base old (ap (λ (o : Option Widths). is_some o) known) s in
    let same : k.0 ≡ w = let e = sym k.1 ∙ known in cc in
    let same' : h.widths ≡ w = let e = sym h.known ∙ known in cc in
    let put : HasPut w steps base old = rw (← same) k.2 in
    let n : ℕ = asks steps + 1 in
    let nth : IsNthId base.next_id n h.id = λ below. next-is old.pending old.next_id h.id base.next_id n (k.5 below).0 below (k.5 below).1 h.next in
    let puts : PutsStep w base.next_id n step (command_bytes h.widths h.id command) = rw same' (puts-it base.next_id n h.id nth) in
    let count : asks steps + 1 + 1 ≡ asks (steps ++ step ∷ []) + 1 = omega (arith, asks-append steps step, one) in
    rw h.is (inr (inr (
      w,
      known,
      put-more w steps step base old (with_asked h.widths h.id command old) (command_bytes h.widths h.id command) put puts refl,
      k.3,
      all-append (λ (p : Asked). is_some p.ticket ≡ true) old.pending _ k.4 (refl, tt),
      subst (λ (x : ℕ). CountsIds base.next_id x (with_asked h.widths h.id command old)) count (counts-more h.widths base.next_id n h.id command old h.next k.5),
    )))

pub stands-asked : (steps : List Step) (line : PlanLine) (base old new : Debugger) (set number : ℕ) (bytes : List ℕ) (w : Widths) (command : Command) → IsAsk line set number bytes
    → old.sizes ≡ Some w → command_asked w set number bytes ≡ Some command → HasAsked command old new → Stands steps base old → Stands (steps ++ Line line ∷ []) base new
stands-asked steps line base old new set number bytes w command asks-it known is h s =
    stands-step steps (Line line) base old new w command (one-asked line set number bytes asks-it) known (puts-asked w line set number bytes command asks-it is) h s

-- the count that was due
pub stands-due : (due : Option ℕ) (steps own : List Step) (base old new : Debugger) → AsksDue due old new own → Stands steps base old → Stands (steps ++ own) base new
stands-due None steps own base old new (none, same) s = rw (none, same, append-nil steps) s
stands-due (Some thread) steps own base old new (inl (one, unrefused, h)) s =
    rw one (stands-step steps (Count thread) base old new h.widths (suspend_count thread) refl h.known (puts-count h.widths thread) h s)
stands-due (Some thread) steps own base old new (inr (none, refused, same)) s = rw (none, same, append-nil steps) s

-- what was put behind a turn that may have closed the session
pub puts-due : (due : Option ℕ) (steps own : List Step) (base old new : Debugger) → AsksDue due old new own → (is_open old.end ≡ true → Stands steps base old) → Puts steps base old → Puts (steps ++ own) base new
puts-due None steps own base old new (none, same) stands puts = rw (none, same, append-nil steps) puts
puts-due (Some thread) steps own base old new (inl (one, unrefused, h)) stands puts =
    stands-puts (steps ++ own) base new (stands-due (Some thread) steps own base old new (inl (one, unrefused, h)) (stands (rw h.established refl)))
puts-due (Some thread) steps own base old new (inr (none, refused, same)) stands puts = rw (none, same, append-nil steps) puts

-- ---- what stands in front

not-paused : (b : Bool) (next : NextMessage) (message : streams.Message) (used : ℕ) → (if b then More else next) ≡ Whole message used → next ≡ Whole message used
not-paused true next message used e = absurd (let h = e in cc)
not-paused false next message used e = e

front-at : (end : End) (phase : Phase) (message : streams.Message) (used : ℕ) → end.phase ≡ phase → front_of end ≡ Whole message used → next_at end.limits.packet phase end.incoming ≡ Whole message used
front-at end phase message used is e =
    ap (λ (x : Phase). next_at end.limits.packet x end.incoming) (sym is) ∙ not-paused (is_paused end) (next_of end) message used e

no-hello : (f : Front) (used : ℕ) → after_handshake f ≡ Whole streams.Handshake used → ⊥
no-hello (frames.Whole header body n) used e = cc
no-hello frames.More used e = cc
no-hello (frames.Fault fault) used e = cc

no-packet : (h : NextHello) (header : Header) (body : List ℕ) (used : ℕ) → at_handshake h ≡ Whole (streams.Packet header body) used → ⊥
no-packet hello.Whole header body used e = cc
no-packet hello.More header body used e = cc
no-packet (hello.Fault fault) header body used e = cc

hello-awaited : (end : End) (used : ℕ) → end.phase ≡ Established → front_of end ≡ Whole streams.Handshake used → ⊥
hello-awaited end used is e = no-hello (front end.limits.packet end.incoming) used (front-at end Established streams.Handshake used is e)

packet-awaited : (end : End) (header : Header) (body : List ℕ) (used : ℕ) → end.phase ≡ AwaitingHandshake → front_of end ≡ Whole (streams.Packet header body) used → ⊥
packet-awaited end header body used is e = no-packet (handshake_front end.incoming) header body used (front-at end AwaitingHandshake (streams.Packet header body) used is e)

-- ---- which command has the widths of ids as its answer

waits-or-not : (b : Bool) (bytes : List ℕ) (place : ℕ) (answer : Answer) (w : Widths) (cs : List CompositeMeaning)
    → (if b then Err code.TooManyParked else Ok (Waits bytes)) ≡ Ok (Measures place answer w cs) → ⊥
waits-or-not true bytes place answer w cs e = cc
waits-or-not false bytes place answer w cs e = cc

happens-not : (c : Option CompositeMeaning) (place : ℕ) (answer : Answer) (w : Widths) (cs : List CompositeMeaning) → event_says_by c ≡ Ok (Measures place answer w cs) → ⊥
happens-not None place answer w cs e = cc
happens-not (Some c) place answer w cs e = cc

event-not : (sizes : Option Widths) (parked : List Waiting) (bytes : List ℕ) (place : ℕ) (answer : Answer) (w : Widths) (cs : List CompositeMeaning)
    → event_says sizes parked bytes ≡ Ok (Measures place answer w cs) → ⊥
event-not None parked bytes place answer w cs e = waits-or-not _ bytes place answer w cs e
event-not (Some v) parked bytes place answer w cs e = happens-not _ place answer w cs e

command-not : (b : Bool) (sizes : Option Widths) (parked : List Waiting) (bytes : List ℕ) (place : ℕ) (answer : Answer) (w : Widths) (cs : List CompositeMeaning)
    → (if b then event_says sizes parked bytes else Err code.BadEvent) ≡ Ok (Measures place answer w cs) → ⊥
command-not true sizes parked bytes place answer w cs e = event-not sizes parked bytes place answer w cs e
command-not false sizes parked bytes place answer w cs e = cc

composites-at : (at : ℕ) (a : Answer) (v : Widths) (found : Option (List CompositeMeaning)) (place : ℕ) (answer : Answer) (w : Widths) (cs : List CompositeMeaning)
    → with_composites at a v found ≡ Ok (Measures place answer w cs) → at ≡ place
composites-at at a v None place answer w cs e = absurd cc
composites-at at a v (Some c) place answer w cs e = cc

sizes-at : (parked : List Waiting) (at : ℕ) (a : Answer) (v : Option Widths) (place : ℕ) (answer : Answer) (w : Widths) (cs : List CompositeMeaning)
    → sizes_say parked at a v ≡ Ok (Measures place answer w cs) → at ≡ place
sizes-at parked at a None place answer w cs e = absurd cc
sizes-at parked at a (Some v) place answer w cs e = composites-at at a v (composites_in v parked) place answer w cs e

measures-of : (parked : List Waiting) (at : ℕ) (k : Option Ticket) (a : Option Answer) (place : ℕ) (answer : Answer) (w : Widths) (cs : List CompositeMeaning)
    → answer_says parked at k a ≡ Ok (Measures place answer w cs) → (at ≡ place) × (k ≡ None)
measures-of parked at k None place answer w cs e = absurd cc
measures-of parked at (Some k) (Some a) place answer w cs e = absurd cc
measures-of parked at None (Some a) place answer w cs e = (sizes-at parked at a (widths_in a) place answer w cs e, refl)

reply-of : (r : Reading) (e : ErrorCode) (bytes : List ℕ) (at : ℕ) (found : Option Asked) (place : ℕ) (answer : Answer) (w : Widths) (cs : List CompositeMeaning) → slice_get r.pending at ≡ found
    → reply_to r e bytes at found ≡ Ok (Measures place answer w cs) → (asked : Asked) × (slice_get r.pending place ≡ Some asked) × (asked.ticket ≡ None)
reply-of r e bytes at None place answer w cs there h = absurd cc
reply-of r e bytes at (Some asked) place answer w cs there h =
    let a = measures-of r.parked at asked.ticket (unless_bad asked.command (answer_by r.order (widths_by r.sizes) asked.command e bytes)) place answer w cs h in
    (asked, rw (← a.0) there, a.1)

reply-placed : (r : Reading) (e : ErrorCode) (bytes : List ℕ) (at : Option ℕ) (place : ℕ) (answer : Answer) (w : Widths) (cs : List CompositeMeaning)
    → reply_at r e bytes at ≡ Ok (Measures place answer w cs) → (asked : Asked) × (slice_get r.pending place ≡ Some asked) × (asked.ticket ≡ None)
reply-placed r e bytes None place answer w cs h = absurd cc
reply-placed r e bytes (Some at) place answer w cs h = reply-of r e bytes at (slice_get r.pending at) place answer w cs refl h

measured-of : (r : Reading) (id : ℕ) (k : PacketKind) (bytes : List ℕ) (place : ℕ) (answer : Answer) (w : Widths) (cs : List CompositeMeaning)
    → says r id k bytes ≡ Ok (Measures place answer w cs) → (asked : Asked) × (slice_get r.pending place ≡ Some asked) × (asked.ticket ≡ None)
measured-of r id (kind.Command set number) bytes place answer w cs e = absurd (command-not _ r.sizes r.parked bytes place answer w cs e)
measured-of r id (kind.Reply error) bytes place answer w cs e = reply-placed r error bytes (place_of id r.pending) place answer w cs e

-- ---- where they wait

ticketed-there : (ps : List Asked) (place : ℕ) (asked : Asked) → AllByRecursion (λ (p : Asked). is_some p.ticket ≡ true) ps → slice_get ps place ≡ Some asked → is_some asked.ticket ≡ true
ticketed-there [] place asked a there = absurd cc
ticketed-there (p ∷ ps) zero asked a there =
    let same : p ≡ asked = cc in
    rw (← same) a.0
ticketed-there (p ∷ ps) (suc place) asked a there = ticketed-there ps place asked a.1 there

-- the only one
only-of : (p asked : Asked) (place : ℕ) → slice_get (p ∷ []) place ≡ Some asked → (place ≡ 0) × (p ≡ asked)
only-of p asked zero there = (refl, cc)
only-of p asked (suc place) there = absurd cc

only-there : (ps : List Asked) (p asked : Asked) (place : ℕ) → ps ≡ p ∷ [] → slice_get ps place ≡ Some asked → (place ≡ 0) × (p ≡ asked)
only-there ps p asked place is there = only-of p asked place (rw is at there)

-- one of them was answered
counts-removed : (first n : ℕ) (old : Debugger) (place : ℕ) → CountsIds first n old → n < 2 ^ 32
    → (old.next_id ≡ id_after first n) × AllByRecursion (λ (p : Asked). (k : ℕ) × (k < n) × (p.id ≡ id_after first k)) (remove old.pending place)
counts-removed first n old place counts below =
    let before = counts below in
    (before.0, all-removed (λ (p : Asked). (k : ℕ) × (k < n) × (p.id ≡ id_after first k)) old.pending place before.1)

-- ---- turns

where-open : (b : Bool) (mid : Debugger) → is_open (closed_where b mid).end ≡ true → closed_where b mid ≡ mid
where-open true mid opened = absurd (let e = opened in cc)
where-open false mid opened = refl

measured-open : (b : Bool) (w : Widths) (mid : Debugger) → is_open (measured_where b w mid).end ≡ true → measured_where b w mid ≡ mid
measured-open true w mid opened = absurd (let e = opened in cc)
measured-open false w mid opened = refl

hello-stands : (steps : List Step) (base old : Debugger) (used : ℕ) → front_of old.end ≡ Whole streams.Handshake used → old.pending ≡ [] → Stands steps base old → Stands steps base (greeted used old)
hello-stands steps base old used front none (inl (empty, phase, sizes, pending, id)) =
    let asked : Asked = record { id = old.next_id; ticket = None; command = id_sizes } in
    inr (inl (
      empty.0,
      ap (λ (x : List ℕ). x ++ header_bytes (sizes_header old.next_id)) empty.1 ∙ ap (λ (x : ℕ). base.end.session.enqueued ++ header_bytes (sizes_header x)) id,
      sizes,
      (asked, refl, ap (λ (x : List Asked). x ++ asked ∷ []) none),
      ap (λ (x : ℕ). id_after x 1) id,
    ))
hello-stands steps base old used front none (inr (inl s)) = absurd (let e = sym none ∙ s.3.2 in cc)
hello-stands steps base old used front none (inr (inr k)) = absurd (hello-awaited old.end used k.3 front)

packet-stands : (steps : List Step) (base old : Debugger) (header : Header) (body : List ℕ) (used : ℕ) (news : News) (new : Debugger) (t : Told)
    → front_of old.end ≡ Whole (streams.Packet header body) used → says (reading_of old) header.id header.kind body ≡ Ok news
    → Enters (streams.Packet header body) used header news old t new → is_open new.end ≡ true → Stands steps base old → Stands steps base new
packet-stands steps base old header body used news new t front said h opened (inl a) = absurd (packet-awaited old.end header body used a.1 front)
packet-stands steps base old header body used (Waits bytes) new t front said h opened (inr (inl s)) = rw h.1 (inr (inl s))
packet-stands steps base old header body used (Waits bytes) new t front said h opened (inr (inr k)) = rw h.1 (inr (inr (k.0, k.1, k.2, refl, k.4, k.5)))
packet-stands steps base old header body used (Happens c) new t front said h opened (inr (inl s)) =
    rw (h.1.4 ∙ where-open (ends (Report c)) _ (rw h.1.4 at opened)) (inr (inl s))
packet-stands steps base old header body used (Happens c) new t front said h opened (inr (inr k)) =
    rw (h.1.4 ∙ where-open (ends (Report c)) _ (rw h.1.4 at opened)) (inr (inr (k.0, k.1, k.2, refl, k.4, k.5)))
packet-stands steps base old header body used (Answers place ticket answer) new t front said h opened (inr (inl s)) =
    let a = asked-of (reading_of old) header.id header.kind body place ticket answer said in
    let only = only-there old.pending s.3.0 a.0 place s.3.2 a.1 in
    absurd (let e = sym s.3.1 ∙ ap (λ (p : Asked). p.ticket) only.1 ∙ a.2 in cc)
packet-stands steps base old header body used (Answers place ticket answer) new t front said h opened (inr (inr k)) =
    rw (h.1.4 ∙ where-open (ends (Reply (Some ticket) (command_at place old.pending) answer)) _ (rw h.1.4 at opened))
    (inr (inr (k.0, k.1, k.2, refl, all-removed (λ (p : Asked). is_some p.ticket ≡ true) old.pending place k.4, counts-removed base.next_id (asks steps + 1) old place k.5)))
packet-stands steps base old header body used (Measures place answer w cs) new t front said h opened (inr (inl s)) =
    let a = measured-of (reading_of old) header.id header.kind body place answer w cs said in
    let only = only-there old.pending s.3.0 a.0 place s.3.2 a.1 in
    rw (h.1.4 ∙ measured-open (list_any ends (reports cs)) w _ (rw h.1.4 at opened))
    (inr (inr (
      w,
      refl,
      sizes-put w steps base old s.0 s.1,
      refl,
      rw (only.0, s.3.2) tt,
      rw s.0 (λ below. (s.4, rw (only.0, s.3.2) tt)),
    )))
packet-stands steps base old header body used (Measures place answer w cs) new t front said h opened (inr (inr k)) =
    let a = measured-of (reading_of old) header.id header.kind body place answer w cs said in
    absurd (let e = sym (ticketed-there old.pending place a.0 k.4 a.1) ∙ ap (λ (o : Option Ticket). is_some o) a.2 in cc)

-- a turn that read something
pub turned-stands : (next : NextMessage) (steps : List Step) (base old new : Debugger) (r : Read) → front_of old.end ≡ next → TurnsAt next old (Ok r) new → r ≢ read.Nothing
    → is_open new.end ≡ true → Stands steps base old → Stands steps base new
turned-stands (Whole streams.Handshake used) steps base old new r front h some opened s = rw h.2 (hello-stands steps base old used front h.1 s)
turned-stands (Whole (streams.Packet header body) used) steps base old new r front h some opened s =
    packet-stands steps base old header body used h.news new (read_meaning r) front h.said h.entered opened s
turned-stands More steps base old new r front h some opened s = absurd (some (let e = h.0 in cc))
turned-stands (Fault fault) steps base old new r front h some opened s = absurd (let e = h.0 in cc)

-- what was put by one, whether it closed the session or not
pub turned-puts : (next : NextMessage) (steps : List Step) (base old new : Debugger) (r : Read) → front_of old.end ≡ next → TurnsAt next old (Ok r) new → r ≢ read.Nothing
    → Stands steps base old → Puts steps base new
turned-puts (Whole streams.Handshake used) steps base old new r front h some s = rw h.2 (stands-puts steps base (greeted used old) (hello-stands steps base old used front h.1 s))
turned-puts (Whole (streams.Packet header body) used) steps base old new r front h some s =
    puts-same steps base old new (packet-enqueued (streams.Packet header body) used header h.news old new (read_meaning r) h.entered) (stands-puts steps base old s)
turned-puts More steps base old new r front h some s = absurd (some (let e = h.0 in cc))
turned-puts (Fault fault) steps base old new r front h some s = absurd (let e = h.0 in cc)
