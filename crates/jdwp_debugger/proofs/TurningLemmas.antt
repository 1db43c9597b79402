-- What turns leave is what is to be learned from what was read.
use Rattle.std.proofs.Common.{◌≡◌, ℕ, ◌≤◌, arith, ◌||◌, ◌&&◌, not, Bool, true, false, List, [], ◌∷◌, ◌++◌, length, refl, sym, ap, ◌∙◌, subst, Option, Some, None, if◌then◌else◌}
use Rattle.std.specs.Prelude.{◌==◌, nat_le}
use Rattle.std.specs.Prelude.{Result, Ok, Err, OnOk, IfErr, IfOk}
use Rattle.jdwp_wire.specs.Frames as frames
use Rattle.std.specs.Result.{IsErrOf}
use Rattle.jdwp_wire.specs.declared.packet.Header.{Header}
use Rattle.jdwp_wire.specs.Widths.{Widths}
use Rattle.jdwp_wire.specs.Streams.{Handshake, Packet, NextMessage, Whole, More, Fault, after_handshake}
use Rattle.jdwp_end.specs.declared.phase.Phase.{Phase}
use Rattle.jdwp_end.specs.declared.phase.Phase.TheVariants.{Closed, AwaitingHandshake, Established}
use Rattle.jdwp_end.specs.Ends.{End, front_of, is_paused, next_at}
use Rattle.jdwp_debugger.specs.declared.faults.DebuggerFault.{DebuggerFault}
use Rattle.jdwp_debugger.specs.declared.faults.DebuggerFault.TheVariants as code
use Rattle.jdwp_debugger.specs.declared.order.Order.{Order}
use Rattle.jdwp_debugger.specs.declared.order.Order.TheVariants.{One, Apart}
use Rattle.jdwp_debugger.specs.declared.turning.Read.{Read}
use Rattle.jdwp_debugger.specs.Debuggers.{Debugger}
use Rattle.jdwp_layout.specs.declared.answer.Answer.{Answer}
use Rattle.jdwp_layout.specs.declared.answer.Answer.TheVariants.{Data, Error}
use Rattle.jdwp_event.specs.Composites.{CompositeMeaning, POLICY_NONE, POLICY_ALL}
use Rattle.jdwp_event.specs.Told.{composite_thread, is_vm_death}
use Rattle.jdwp_action.specs.Actions
use Rattle.jdwp_action.specs.Actions.{Action, Command, action_of, is_dispose}
use Rattle.jdwp_mirror.specs.CommandKinds.{kind_of}
use Rattle.jdwp_debugger.specs.DebuggerTurns.{AreFew, Told, Hello, Parked, Sizes, Answered, Seen, read_meaning, Enters, EntersAt, EntersOrFails, FailsAt, FailsOnly, FailsTo, HandlesAt, LearnedAll, MayTakeMemory, MayWantMemory, TurnsAt, WantsMemory, bad_where, reading_of, refusal_by, reports}
use Rattle.jdwp_debugger.specs.Orders.{LearnedIn, has_bad_event_apart, has_bad_in, is_bad_in, none_known}
use Rattle.jdwp_mirror.specs.Faults.{PARKED_MOST, count_of_thread, has_bad_event, is_bad_event, is_of_two}
use Rattle.jdwp_mirror.specs.FaultParts.{IsData, is_dispose_kind}
use Rattle.jdwp_mirror.specs.KnownThreads.{count_in}
use Rattle.jdwp_mirror.specs.Messages.{Message, Report}
use Rattle.jdwp_mirror.specs.Mirror.{is_positive, learned}
use Rattle.jdwp_mirror.specs.Mirrors.{Mirror}
use Rattle.jdwp_debugger.specs.News.{News, Waits, Happens, Answers, Measures, Fails, says}
use Rattle.jdwp_debugger.proofs.Saying.{Backs, as-many, backs}
use Rattle.jdwp_mirror.specs.Widths.{widths_in}

-- ---- events are judged by counts alone

same-count : (f g : ℕ → Option ℕ) → ((t : ℕ) → f t ≡ g t) → (th : Option ℕ) → count_of_thread f th ≡ count_of_thread g th
same-count f g e None = refl
same-count f g e (Some t) = e t

same-event : (f g : ℕ → Option ℕ) → ((t : ℕ) → f t ≡ g t) → (c : CompositeMeaning) → is_bad_event f c ≡ is_bad_event g c
same-event f g e c =
    ap (λ (n : Option ℕ). (length c.events == 0) || (not (nat_le c.policy POLICY_ALL) || (is_of_two c.events || (is_positive n || (is_vm_death c && (not (length c.events == 1) || not (c.policy == POLICY_NONE)))))))
    (same-count f g e (composite_thread c))

pub same-bad : (f g : ℕ → Option ℕ) → ((t : ℕ) → f t ≡ g t) → (cs : List CompositeMeaning) → has_bad_event f (reports cs) ≡ has_bad_event g (reports cs)
same-bad f g e [] = refl
same-bad f g e (c ∷ cs) =
    ap (λ (b : Bool). b || has_bad_event (λ t. learned (Report c) t (f t)) (reports cs)) (same-event f g e c)
    ∙ ap (λ (b : Bool). is_bad_event g c || b) (same-bad (λ t. learned (Report c) t (f t)) (λ t. learned (Report c) t (g t)) (λ t. ap (learned (Report c) t) (e t)) cs)

-- the rest is judged by the mirror that learned the first
pub bad-rest : (o : Order) (c : CompositeMeaning) (cs : List CompositeMeaning) (old middle : Mirror) → is_bad_in o (count_in old.threads) c ≡ false → LearnedIn o old (Report c) middle
    → has_bad_in o (count_in old.threads) (reports (c ∷ cs)) ≡ has_bad_in o (count_in middle.threads) (reports cs)
bad-rest One c cs old middle good l =
    ap (λ (b : Bool). b || has_bad_event (λ t. learned (Report c) t (count_in old.threads t)) (reports cs)) good
    ∙ same-bad (λ t. learned (Report c) t (count_in old.threads t)) (count_in middle.threads) (λ t. sym (l.counts t)) cs
bad-rest Apart c cs old middle good l = ap (λ (b : Bool). b || has_bad_event_apart (reports cs)) good

pub bad-first : (o : Order) (c : CompositeMeaning) (cs : List CompositeMeaning) (counts : ℕ → Option ℕ) → is_bad_in o counts c ≡ true → has_bad_in o counts (reports (c ∷ cs)) ≡ true
bad-first One c cs counts bad = ap (λ (b : Bool). b || has_bad_event (λ t. learned (Report c) t (counts t)) (reports cs)) bad
bad-first Apart c cs counts bad = ap (λ (b : Bool). b || has_bad_event_apart (reports cs)) bad

pub same-bad-in : (o : Order) (f g : ℕ → Option ℕ) → ((t : ℕ) → f t ≡ g t) → (cs : List CompositeMeaning) → has_bad_in o f (reports cs) ≡ has_bad_in o g (reports cs)
same-bad-in One f g e cs = same-bad f g e cs
same-bad-in Apart f g e cs = refl

-- ---- one message more

pub learned-then : (o : Order) (messages : List Message) (last : Message) (old middle new : Mirror) → LearnedAll o old messages middle → LearnedIn o middle last new → LearnedAll o old (messages ++ last ∷ []) new
learned-then o [] last old middle new e l = (new, subst (λ (m : Mirror). LearnedIn o m last new) e l, refl)
learned-then o (message ∷ messages) last old middle new (next, first, others) l = (next, first, learned-then o messages last next middle new others l)

-- ---- which answers end a session

dispose-kind : (a : Action) → is_dispose_kind (kind_of a) ≡ is_dispose a
dispose-kind Actions.Suspend = refl
dispose-kind Actions.Resume = refl
dispose-kind Actions.Dispose = refl
dispose-kind Actions.Exit = refl
dispose-kind Actions.HoldEvents = refl
dispose-kind Actions.ReleaseEvents = refl
dispose-kind (Actions.SetRequest kind policy entries) = refl
dispose-kind (Actions.ClearRequest kind id) = refl
dispose-kind Actions.ClearBreakpoints = refl
dispose-kind (Actions.SuspendThread t) = refl
dispose-kind (Actions.ResumeThread t) = refl
dispose-kind (Actions.SuspendCount t) = refl
dispose-kind (Actions.ThreadStatus t) = refl
dispose-kind (Actions.SetSlots t f slots) = refl
dispose-kind (Actions.AskFrames t) = refl
dispose-kind (Actions.AskThread t) = refl
dispose-kind Actions.AllThreads = refl
dispose-kind Actions.IdSizes = refl
dispose-kind Actions.Ask = refl

pub disposes : (c : Command) → is_dispose_kind (kind_of (action_of c)) ≡ is_dispose (action_of c)
disposes c = dispose-kind (action_of c)

-- ---- composites, one after the other

abbrev pub AllLearned : Order → Mirror → List CompositeMeaning → Mirror → Type 0
AllLearned o old cs new = (has_bad_in o (count_in old.threads) (reports cs) ≡ false) × LearnedAll o old (reports cs) new

pub all-learned : {U E : Type 0} (o : Order) (r : Result U E) (c : CompositeMeaning) (cs : List CompositeMeaning) (old middle new : Mirror) → is_bad_in o (count_in old.threads) c ≡ false → LearnedIn o old (Report c) middle
    → OnOk r (AllLearned o middle cs new) → OnOk r (AllLearned o old (c ∷ cs) new)
all-learned o (Ok u) c cs old middle new good l (fine, all) = (bad-rest o c cs old middle good l ∙ fine, (middle, l, all))
all-learned o (Err e) c cs old middle new good l h = tt

pub all-failed : {U : Type 0} (o : Order) (r : Result U DebuggerFault) (c : CompositeMeaning) (cs : List CompositeMeaning) (old middle : Mirror) → is_bad_in o (count_in old.threads) c ≡ false → LearnedIn o old (Report c) middle
    → IfErr r (λ f. FailsOnly f (has_bad_in o (count_in middle.threads) (reports cs))) → IfErr r (λ f. FailsOnly f (has_bad_in o (count_in old.threads) (reports (c ∷ cs))))
all-failed o (Ok u) c cs old middle good l h = tt
all-failed o (Err f) c cs old middle good l h = subst (λ (b : Bool). FailsOnly f b) (sym (bad-rest o c cs old middle good l)) h

-- ---- the phase in which the handshake stands in front

no-packet : (f : frames.Front) (n : ℕ) → after_handshake f ≡ Whole Handshake n → ⊥
no-packet (frames.Whole header body used) n h = cc
no-packet frames.More n h = cc
no-packet (frames.Fault fault) n h = cc

handshake-next : (limit : ℕ) (p : Phase) (bytes : List ℕ) (n : ℕ) → next_at limit p bytes ≡ Whole Handshake n → p ≡ AwaitingHandshake
handshake-next limit Closed bytes n h = absurd (cc)
handshake-next limit AwaitingHandshake bytes n h = refl
handshake-next limit Established bytes n h = absurd (no-packet (frames.front limit bytes) n h)

handshake-unpaused : (b : Bool) (limit : ℕ) (p : Phase) (bytes : List ℕ) (n : ℕ) → (if b then More else next_at limit p bytes) ≡ Whole Handshake n → p ≡ AwaitingHandshake
handshake-unpaused true limit p bytes n h = absurd (cc)
handshake-unpaused false limit p bytes n h = handshake-next limit p bytes n h

pub handshake-phase : (e : End) (n : ℕ) → front_of e ≡ Whole Handshake n → e.phase ≡ AwaitingHandshake
handshake-phase e n h = handshake-unpaused (is_paused e) e.limits.packet e.phase e.incoming n h

-- ---- what a turn answers

pub widths-data : (a : Answer) (w : Widths) → widths_in a ≡ Some w → IsData a
widths-data (Data content) w h = tt
widths-data (Error e) w h = absurd (cc)

-- what is said of a packet is what the turn reads of it
pub handles : (header : Header) (body : List ℕ) (used : ℕ) (old new : Debugger) (n : News) (r : Result Read DebuggerFault) → says (reading_of old) header.id header.kind body ≡ Ok n
    → (WantsMemory n → MayWantMemory header.kind) → EntersAt header body used n old r new → HandlesAt (Packet header body) used old r new
handles header body used old new n (Ok r) said wants (unrefused, entered) = record { news = n; said = said; unrefused = unrefused; entered = entered }
handles header body used old new n (Err code.NoMemory) said wants (memory, left) = (wants memory, left)
handles header body used old new n (Err (code.Frame f)) said wants (refused, left) = (ap (refusal_by old.order old.mirror) said ∙ refused, left)
handles header body used old new n (Err code.UnknownReply) said wants (refused, left) = (ap (refusal_by old.order old.mirror) said ∙ refused, left)
handles header body used old new n (Err code.BadReply) said wants (refused, left) = (ap (refusal_by old.order old.mirror) said ∙ refused, left)
handles header body used old new n (Err code.TooManyParked) said wants (refused, left) = (ap (refusal_by old.order old.mirror) said ∙ refused, left)
handles header body used old new n (Err code.BadEvent) said wants (refused, left) = (ap (refusal_by old.order old.mirror) said ∙ refused, left)

-- a packet that says nothing
pub fails : (header : Header) (body : List ℕ) (old new : Debugger) (f : DebuggerFault) → Fails f (says (reading_of old) header.id header.kind body)
    → (f ≡ code.NoMemory → MayWantMemory header.kind) → FailsTo f old new → FailsAt header body old f new
fails header body old new code.NoMemory said memory left = (memory refl, left)
fails header body old new (code.Frame f) said memory left = (ap (refusal_by old.order old.mirror) said, left)
fails header body old new code.UnknownReply said memory left = (ap (refusal_by old.order old.mirror) said, left)
fails header body old new code.BadReply said memory left = (ap (refusal_by old.order old.mirror) said, left)
fails header body old new code.TooManyParked said memory left = (ap (refusal_by old.order old.mirror) said, left)
fails header body old new code.BadEvent said memory left = (ap (refusal_by old.order old.mirror) said, left)

-- composites that waited are refused where one of them is bad
pub fails-measuring : (f : DebuggerFault) (old new : Debugger) (place : ℕ) (answer : Answer) (w : Widths) (cs : List CompositeMeaning) → FailsOnly f (has_bad_in old.order none_known (reports cs)) → FailsTo f old new
    → EntersOrFails (Measures place answer w cs) old f new
fails-measuring code.NoMemory old new place answer w cs only left = (tt, left)
fails-measuring code.BadEvent old new place answer w cs only left = (ap bad_where only, left)
fails-measuring (code.Frame f) old new place answer w cs only left = absurd only
fails-measuring code.UnknownReply old new place answer w cs only left = absurd only
fails-measuring code.BadReply old new place answer w cs only left = absurd only
fails-measuring code.TooManyParked old new place answer w cs only left = absurd only

-- only what a turn may want memory for fails by want of memory
memory-fault : (header : Header) (body : List ℕ) (old new : Debugger) (f : DebuggerFault) → FailsAt header body old f new → f ≡ code.NoMemory → MayWantMemory header.kind
memory-fault header body old new code.NoMemory h e = h.0
memory-fault header body old new (code.Frame f) h e = absurd (cc)
memory-fault header body old new code.UnknownReply h e = absurd (cc)
memory-fault header body old new code.BadReply h e = absurd (cc)
memory-fault header body old new code.TooManyParked h e = absurd (cc)
memory-fault header body old new code.BadEvent h e = absurd (cc)

pub turn-memory : (front : NextMessage) (old new : Debugger) (r : Result Read DebuggerFault) → TurnsAt front old r new → IsErrOf r code.NoMemory → MayTakeMemory front
turn-memory (Whole Handshake used) old new r t e = tt
turn-memory (Whole (Packet header body) used) old new (Ok r) t e = absurd (cc)
turn-memory (Whole (Packet header body) used) old new (Err f) t e = (let is : f ≡ code.NoMemory = cc in memory-fault header body old new f t is)
turn-memory More old new r t e = absurd (let is = t.0 in cc)
turn-memory (Fault fault) old new r t e = absurd (let is = t.0 in cc)

-- ---- no more composites are told than may wait

told-few : (r : Told) (t : Told) → r ≡ t → AreFew t → AreFew r
told-few r t is few = subst AreFew (sym is) few

few-entered : (header : Header) (body : List ℕ) (used : ℕ) (n : News) (old new : Debugger) (t : Told) → length old.parked ≤ PARKED_MOST → Backs (reading_of old) header.id header.kind n
    → Enters (Packet header body) used header n old t new → AreFew t
few-entered header body used (Waits bytes) old new t few b e = told-few t Parked e.0 tt
few-entered header body used (Happens c) old new t few b e = told-few t (Seen c) e.0 tt
few-entered header body used (Answers place ticket answer) old new t few b e = told-few t (Answered ticket answer) e.0 tt
few-entered header body used (Measures place answer w cs) old new t few b e = told-few t (Sizes cs) e.0 (omega (arith, as-many w old.parked cs b.2, few))

pub turn-few : (front : NextMessage) (old new : Debugger) (r : Result Read DebuggerFault) → length old.parked ≤ PARKED_MOST → TurnsAt front old r new → IfOk r (λ x. AreFew (read_meaning x))
turn-few (Whole Handshake used) old new (Ok x) few t = told-few (read_meaning x) Hello t.0 tt
turn-few (Whole Handshake used) old new (Err f) few t = tt
turn-few (Whole (Packet header body) used) old new (Ok x) few t =
    few-entered header body used t.news old new (read_meaning x) few (backs (reading_of old) header.id header.kind body t.news t.said) t.entered
turn-few (Whole (Packet header body) used) old new (Err f) few t = tt
turn-few More old new r few t = subst (λ (q : Result Read DebuggerFault). IfOk q (λ x. AreFew (read_meaning x))) (sym t.0) tt
turn-few (Fault fault) old new r few t = subst (λ (q : Result Read DebuggerFault). IfOk q (λ x. AreFew (read_meaning x))) (sym t.0) tt
