-- What closes a session: Dispose, and the death of the machine.
use Rattle.std.proofs.Common.{◌≡◌, ◌∙◌, ℕ, ◌==◌, ◌&&◌, ◌||◌, List, [], ◌∷◌, length, Bool, true, false, if◌then◌else◌, ◌⊎◌, inl, inr, Option, Some, None, Result, Ok, Err, sym, refl, arith}
use Rattle.std.proofs.lemmas.Bool.{cases_Bool, eqb-true}
use Rattle.jdwp_wire.specs.Streams.{Message, Handshake, Packet}
use Rattle.jdwp_wire.specs.Widths.{Widths}
use Rattle.jdwp_wire.specs.declared.data_fault.DataFault.{DataFault}
use Rattle.jdwp_wire.specs.declared.error_code.ErrorCode.{ErrorCode}
use Rattle.jdwp_wire.specs.declared.packet.PacketKind.{PacketKind}
use Rattle.jdwp_wire.specs.declared.packet.PacketKind.TheVariants as kind
use Rattle.jdwp_wire.specs.ErrorCodes.{ILLEGAL_ARGUMENT}
use Rattle.jdwp_layout.specs.CommandNumbers.{is_command, VIRTUAL_MACHINE, STACK_FRAME, ALL_THREADS, DISPOSE, ID_SIZES, SUSPEND, RESUME, EXIT, HOLD_EVENTS, RELEASE_EVENTS, SUSPEND_THREAD, RESUME_THREAD, THREAD_STATUS, FRAMES, FRAME_COUNT, SUSPEND_COUNT, SET_REQUEST, CLEAR_REQUEST, CLEAR_ALL_BREAKPOINTS, SET_SLOTS}
use Rattle.jdwp_layout.specs.Meanings.{Byte, Int, Object, Frame, DatumMeaning, One, Many}
use Rattle.jdwp_end.specs.declared.phase.Phase.{Phase}
use Rattle.jdwp_end.specs.declared.phase.Phase.TheVariants.{Closed, AwaitingHandshake, Established}
use Rattle.jdwp_end.specs.Ends.{is_open_phase}
use Rattle.jdwp_machine.specs.Meanings.{Meaning}
use Rattle.jdwp_action.specs.Actions
use Rattle.jdwp_action.specs.Actions.{Action, Carried, Command, Content, action_by, action_of, clear_action, other_action, set_action, slots_of, thread_action, thread_of, is_dispose}
use Rattle.jdwp_action.specs.CommandReads.{content_read}
use Rattle.jdwp_machine.specs.declared.profile.Profile.{Profile}
use Rattle.jdwp_debuggee.specs.Strings.{makes_string}
use Rattle.jdwp_debuggee.specs.Answers.{query_of}
use Rattle.jdwp_debuggee.specs.Answering.{is_read, read_as, unread_as, with_bytes}
use Rattle.jdwp_machine.specs.Profiles.{adds_raw}
use Rattle.jdwp_layout.specs.CommandTable.{row_at}
use Rattle.jdwp_layout.specs.Reads.{data_at}
use Rattle.jdwp_action.specs.RowLayouts.{row_request}
use Rattle.jdwp_debuggee.specs.Effects.{Effect, does, effect_by}
use Rattle.jdwp_debuggee.specs.Effects as effects
use Rattle.jdwp_debuggee.specs.Settings.{Settings}
use Rattle.jdwp_debuggee.specs.State.{Moment, State, Thread, count_of}
use Rattle.jdwp_debuggee.specs.Steps.{Step, death_by, ended_by, happens, may_step, occurs, occurs_by, report_by}
use Rattle.jdwp_target.specs.Closings.{Closes, IsDispose}
use Rattle.jdwp_target.specs.Standings.{Act, Handles, Loses, Standing, Steps, behind, carried_out, established, greets_by, handles, handles_packet, phase_after, react, replies_by, steps_apart, steps_at, steps_by, steps_in_session}

-- ---- tests

pub both : (a b : Bool) → (a && b) ≡ true → (a ≡ true) × (b ≡ true)
both true b e = (refl, e)
both false b e = absurd (cc)

-- ---- the command whose action is Dispose

never : (b : Bool) (x y : Action) → is_dispose x ≡ false → is_dispose y ≡ false → is_dispose (if b then x else y) ≡ false
never true x y e d = e
never false x y e d = d

later : (b : Bool) (x y : Action) → is_dispose x ≡ false → is_dispose (if b then x else y) ≡ true → is_dispose y ≡ true
later true x y e d = absurd (let f = sym e ∙ d in cc)
later false x y e d = d

here : (b : Bool) (x y : Action) → is_dispose y ≡ false → is_dispose (if b then x else y) ≡ true → b ≡ true
here true x y e d = refl
here false x y e d = absurd (let f = sym e ∙ d in cc)

slots-never : (t : ℕ) (carried : Carried) → is_dispose (slots_of t carried) ≡ false
slots-never t (Content (One (Object o) ∷ One (Frame f) ∷ Many entries ∷ [])) = refl
slots-never t carried = refl

set-never : (carried : Carried) → is_dispose (set_action carried) ≡ false
set-never (Content (One (Byte kind) ∷ One (Byte policy) ∷ Many entries ∷ [])) = refl
set-never carried = refl

clear-never : (carried : Carried) → is_dispose (clear_action carried) ≡ false
clear-never (Content (One (Byte kind) ∷ One (Int id) ∷ [])) = refl
clear-never carried = refl

thread-never : (t : ℕ) (c : Command) → is_dispose (thread_action t c) ≡ false
thread-never t c =
    never (is_command SUSPEND_THREAD c.set c.number) _ _ refl
    (never (is_command RESUME_THREAD c.set c.number) _ _ refl
    (never (is_command SUSPEND_COUNT c.set c.number) _ _ refl
    (never (is_command THREAD_STATUS c.set c.number) _ _ refl
    (never (is_command SET_SLOTS c.set c.number) _ _ (slots-never t c.carried)
    (never ((c.set == STACK_FRAME) || (is_command FRAMES c.set c.number || is_command FRAME_COUNT c.set c.number)) (Actions.AskFrames t) (Actions.AskThread t) refl refl)))))

other-dispose : (c : Command) → is_dispose (other_action c) ≡ true → is_command DISPOSE c.set c.number ≡ true
other-dispose c e =
    let rest : is_dispose (
    if is_command EXIT c.set c.number then Actions.Exit else
    (if is_command HOLD_EVENTS c.set c.number then Actions.HoldEvents else
    (if is_command RELEASE_EVENTS c.set c.number then Actions.ReleaseEvents else
    (if is_command ALL_THREADS c.set c.number then Actions.AllThreads else
    (if is_command ID_SIZES c.set c.number then Actions.IdSizes else
    (if is_command SET_REQUEST c.set c.number then set_action c.carried else
    (if is_command CLEAR_REQUEST c.set c.number then clear_action c.carried else
    (if is_command CLEAR_ALL_BREAKPOINTS c.set c.number then Actions.ClearBreakpoints else Actions.Ask)))))))
    ) ≡ false =
    never (is_command EXIT c.set c.number) _ _ refl
    (never (is_command HOLD_EVENTS c.set c.number) _ _ refl
    (never (is_command RELEASE_EVENTS c.set c.number) _ _ refl
    (never (is_command ALL_THREADS c.set c.number) _ _ refl
    (never (is_command ID_SIZES c.set c.number) _ _ refl
    (never (is_command SET_REQUEST c.set c.number) _ _ (set-never c.carried)
    (never (is_command CLEAR_REQUEST c.set c.number) _ _ (clear-never c.carried)
    (never (is_command CLEAR_ALL_BREAKPOINTS c.set c.number) _ _ refl refl)))))))
    in
    here (is_command DISPOSE c.set c.number) Actions.Dispose _ rest
    (later (is_command RESUME c.set c.number) _ _ refl (later (is_command SUSPEND c.set c.number) _ _ refl e))

dispose-by : (t : Option ℕ) (c : Command) → is_dispose (action_by t c) ≡ true → is_command DISPOSE c.set c.number ≡ true
dispose-by (Some t) c e = absurd (let f = sym (thread-never t c) ∙ e in cc)
dispose-by None c e = other-dispose c e

-- ---- what reads as it

record IsOf (s n : ℕ) (c : Command) : Type 0 where
  set : c.set ≡ s
  number : c.number ≡ n

content-of : (set number : ℕ) (read : Result (List DatumMeaning) DataFault) (c : Command) → content_read set number read ≡ Ok c → IsOf set number c
content-of set number (Ok content) c e = record { set = let f = e in cc; number = let f = e in cc }
content-of set number (Err fault) c e = absurd cc

read-of : (set number : ℕ) (body : List ℕ) (found : Result (List DatumMeaning) DataFault) (b r : Bool) (c : Command) → (if b then content_read set number found else unread_as set number body r) ≡ Ok c → IsOf set number c
read-of set number body found true r c e = content-of set number found c e
read-of set number body found false true c e = record { set = let f = e in cc; number = let f = e in cc }
read-of set number body found false false c e = absurd cc

nonzero : (byte : ℕ) (body : List ℕ) → (length (byte ∷ body) == 0) ≡ false
nonzero byte body = elim (cases_Bool (length (byte ∷ body) == 0)) [ inl e ↦ absurd (omega (arith, eqb-true (length (byte ∷ body)) 0 e)) | inr e ↦ e ]

extra-read : (p : Profile) (w : Widths) (byte : ℕ) (body : List ℕ) → read_as p w VIRTUAL_MACHINE DISPOSE.number (byte ∷ body) ≡ Err ILLEGAL_ARGUMENT
extra-read p w byte body = rw (nonzero byte body) refl

bare-read : (p : Profile) (w : Widths) (body : List ℕ) (c : Command) → read_as p w VIRTUAL_MACHINE DISPOSE.number body ≡ Ok c → body ≡ []
bare-read p w [] c e = refl
bare-read p w (byte ∷ body) c e = absurd (let f = sym (extra-read p w byte body) ∙ e in cc)

dispose-read : (p : Profile) (w : Widths) (set number : ℕ) (body : List ℕ) (c : Command) → read_as p w set number body ≡ Ok c → is_dispose (action_of c) ≡ true → (set ≡ VIRTUAL_MACHINE) × (number ≡ DISPOSE.number) × (body ≡ [])
dispose-read p w set number body c e d =
    let of = read-of set number body (data_at w (row_request (row_at set number)) body) (is_read p (with_bytes set number body)) (adds_raw p set number) c e in
    let is = both _ _ (dispose-by (thread_of c) c d) in
    let at : set ≡ VIRTUAL_MACHINE = sym of.set ∙ eqb-true c.set VIRTUAL_MACHINE is.0 in
    let as-number : number ≡ DISPOSE.number = sym of.number ∙ eqb-true c.number DISPOSE.number is.1 in
    (at, as-number, bare-read p w body c (rw (at, as-number) at e))

-- ---- what a command closes

-- a command closes the session where it is Dispose or the machine is dead, and where it tells of a death the machine is dead
record Why {S : Type 0} (a : Action) (e : Effect S) : Type 0 where
  closes : e.closes ≡ true → (is_dispose a ≡ true) ⊎ (e.after.state.alive ≡ false)
  dies : e.dies ≡ true → e.after.state.alive ≡ false

goes-on : {S : Type 0} (a : Action) (e : Effect S) → e.closes ≡ false → e.dies ≡ false → Why a e
goes-on a e c d = record { closes = λ x. absurd (let y = sym c ∙ x in cc); dies = λ x. absurd (let y = sym d ∙ x in cc) }

suspend-why : {S : Type 0} (a : Action) (now : Moment S) (b : Bool) → Why a (effects.suspend_by now b)
suspend-why a now true = goes-on a _ refl refl
suspend-why a now false = goes-on a _ refl refl

suspend_at-why : {S : Type 0} (a : Action) (now : Moment S) (t : ℕ) (b : Bool) → Why a (effects.suspend_thread_at now t b)
suspend_at-why a now t true = goes-on a _ refl refl
suspend_at-why a now t false = goes-on a _ refl refl

suspend_thread-why : {S : Type 0} (a : Action) (settings : Settings) (now : Moment S) (t : ℕ) (o : Option ℕ) → Why a (effects.suspend_thread_by settings now t o)
suspend_thread-why a settings now t None = goes-on a _ refl refl
suspend_thread-why a settings now t (Some count) = suspend_at-why a now t _

resume_thread-why : {S : Type 0} (a : Action) (now : Moment S) (t : ℕ) (o : Option ℕ) → Why a (effects.resume_thread_by now t o)
resume_thread-why a now t None = goes-on a _ refl refl
resume_thread-why a now t (Some count) = goes-on a _ refl refl

slots_at-why : {S : Type 0} (a : Action) (m : Meaning S) (now : Moment S) (t f : ℕ) (values : _) (b : Bool) → Why a (effects.slots_at m now t f values b)
slots_at-why a m now t f values true = goes-on a _ refl refl
slots_at-why a m now t f values false = goes-on a _ refl refl

slots-why : {S : Type 0} (a : Action) (m : Meaning S) (now : Moment S) (t f : ℕ) (values : _) (o : Option ℕ) → Why a (effects.slots_by m now t f values o)
slots-why a m now t f values None = goes-on a _ refl refl
slots-why a m now t f values (Some count) = slots_at-why a m now t f values _

set-why : {S : Type 0} (a : Action) (m : Meaning S) (now : Moment S) (byte policy : ℕ) (modifiers : _) (o : Option ErrorCode) → Why a (effects.set_by m now byte policy modifiers o)
set-why a m now byte policy modifiers (Some e) = goes-on a _ refl refl
set-why a m now byte policy modifiers None = goes-on a _ refl refl

asks-why : {S : Type 0} (a : Action) (m : Meaning S) (settings : Settings) (now : Moment S) (c : Command) (b : Bool) → Why a (effects.asks_by m settings now c b)
asks-why a m settings now c true = goes-on a _ refl refl
asks-why a m settings now c false = goes-on a _ refl refl

does-why : {S : Type 0} (m : Meaning S) (settings : Settings) (now : Moment S) (c : Command) (a : Action) → Why a (does m settings now c a)
does-why m settings now c Actions.Suspend = suspend-why _ now _
does-why m settings now c Actions.Resume = goes-on _ _ refl refl
does-why m settings now c Actions.Dispose = record { closes = λ e. inl refl; dies = λ e. absurd cc }
does-why m settings now c Actions.Exit = record { closes = λ e. inr refl; dies = λ e. refl }
does-why m settings now c Actions.HoldEvents = goes-on _ _ refl refl
does-why m settings now c Actions.ReleaseEvents = goes-on _ _ refl refl
does-why m settings now c (Actions.SetRequest byte policy entries) = set-why _ m now byte policy _ _
does-why m settings now c (Actions.ClearRequest byte id) = goes-on _ _ refl refl
does-why m settings now c Actions.ClearBreakpoints = goes-on _ _ refl refl
does-why m settings now c (Actions.SuspendThread t) = suspend_thread-why _ settings now t _
does-why m settings now c (Actions.ResumeThread t) = resume_thread-why _ now t _
does-why m settings now c (Actions.SuspendCount t) = goes-on _ _ refl refl
does-why m settings now c (Actions.ThreadStatus t) = goes-on _ _ refl refl
does-why m settings now c (Actions.SetSlots t f values) = slots-why _ m now t f values (count_of now.state t)
does-why m settings now c (Actions.AskFrames t) = goes-on _ _ refl refl
does-why m settings now c (Actions.AskThread t) = goes-on _ _ refl refl
does-why m settings now c Actions.AllThreads = goes-on _ _ refl refl
does-why m settings now c Actions.IdSizes = goes-on _ _ refl refl
does-why m settings now c Actions.Ask = asks-why _ m settings now c (makes_string (query_of c))

effect-why : {S : Type 0} (m : Meaning S) (settings : Settings) (now : Moment S) (c : Command) (b : Bool) → Why (action_of c) (effect_by m settings now c b)
effect-why m settings now c false = goes-on _ _ refl refl
effect-why m settings now c true = does-why m settings now c (action_of c)

-- ---- what a message closes

closes-of : (closes : Bool) → is_open_phase (phase_after closes) ≡ false → closes ≡ true
closes-of true e = refl
closes-of false e = absurd cc

replied-why : {S : Type 0} (now : Standing S) (w : Widths) (id : ℕ) (a : Action) (e : Effect S) (dies : Bool) → e.dies ≡ dies → Why a e → is_open_phase (replies_by now w id e dies).after.phase ≡ false
    → (is_dispose a ≡ true) ⊎ ((replies_by now w id e dies).after.moment.state.alive ≡ false)
replied-why now w id a e true is why closed = inr (why.dies is)
replied-why now w id a e false is why closed = why.closes (closes-of e.closes closed)

-- why a message closed the session
abbrev pub Ends : {S : Type 0} → Message → Standing S → Type 0
Ends message after = IsDispose message ⊎ (after.moment.state.alive ≡ false)

command-why : {S : Type 0} (m : Meaning S) (settings : Settings) (now : Standing S) (id set number : ℕ) (body : List ℕ) (r : Result Command ErrorCode) → read_as settings.profile (m.sizes now.moment.machine) set number body ≡ r
    → is_open_phase (replies_by now (m.sizes now.moment.machine) id (carried_out m settings now.moment r) (carried_out m settings now.moment r).dies).after.phase ≡ false
    → ((set ≡ VIRTUAL_MACHINE) × (number ≡ DISPOSE.number) × (body ≡ []))
    ⊎ ((replies_by now (m.sizes now.moment.machine) id (carried_out m settings now.moment r) (carried_out m settings now.moment r).dies).after.moment.state.alive ≡ false)
command-why m settings now id set number body (Err error) e closed = absurd cc
command-why m settings now id set number body (Ok c) e closed =
    elim (replied-why now (m.sizes now.moment.machine) id (action_of c) (carried_out m settings now.moment (Ok c)) _ refl (effect-why m settings now.moment c _) closed) [
      | inl d ↦ inl (dispose-read settings.profile (m.sizes now.moment.machine) set number body c e d)
      | inr d ↦ inr d
    ]

packet-why : {S : Type 0} (m : Meaning S) (settings : Settings) (now : Standing S) (id : ℕ) (k : PacketKind) (body : List ℕ) → is_open_phase (handles_packet m settings (established now) id k body).after.phase ≡ false
    → ((k ≡ kind.Command VIRTUAL_MACHINE DISPOSE.number) × (body ≡ [])) ⊎ ((handles_packet m settings (established now) id k body).after.moment.state.alive ≡ false)
packet-why m settings now id (kind.Command set number) body closed =
    elim (command-why m settings (established now) id set number body _ refl closed) [
      | inl d ↦ inl (rw (d.0, d.1) refl, d.2)
      | inr d ↦ inr d
    ]
packet-why m settings now id (kind.Reply error) body closed = absurd cc

greeted-open : {S : Type 0} (m : Meaning S) (settings : Settings) (now : Standing S) (b : Bool) → is_open_phase (greets_by m settings (established now) b).after.phase ≡ true
greeted-open m settings now true = refl
greeted-open m settings now false = refl

pub message-why : {S : Type 0} (m : Meaning S) (settings : Settings) (now : Standing S) (message : Message) → is_open_phase (handles m settings (established now) message).after.phase ≡ false
    → Ends message (handles m settings (established now) message).after
message-why m settings now Handshake closed = absurd (let e = sym (greeted-open m settings now now.moment.state.handshaken) ∙ closed in cc)
message-why m settings now (Packet header body) closed = packet-why m settings now header.id header.kind body closed

-- ---- what a step closes

ended-dies : (threads : List Thread) (state : State) → (ended_by threads state).1 ≡ true → (ended_by threads state).0.alive ≡ false
ended-dies [] state e = refl
ended-dies (thread ∷ threads) state e = absurd cc

death-dies : {S : Type 0} (m : Meaning S) (s : S) (t : ℕ) (h : _) (state : State) (o : _) → (death_by m s t h state o).dies ≡ true → (death_by m s t h state o).after.state.alive ≡ false
death-dies m s t h state None e = ended-dies _ _ e
death-dies m s t h state (Some c) e = absurd cc

report-dies : {S : Type 0} (m : Meaning S) (s : S) (t : ℕ) (h : _) (state : State) (o : _) → (report_by m s t h state o).dies ≡ true → (report_by m s t h state o).after.state.alive ≡ false
report-dies m s t h state None e = absurd cc
report-dies m s t h state (Some c) e = absurd cc

happens-dies : {S : Type 0} (m : Meaning S) (now : Moment S) (t : ℕ) (h : _) (b : Bool) → (happens m now t h b).dies ≡ true → (happens m now t h b).after.state.alive ≡ false
happens-dies m now t h true e = death-dies m now.machine t h now.state _ e
happens-dies m now t h false e = report-dies m now.machine t h now.state _ e

occurs-dies : {S : Type 0} (m : Meaning S) (now : Moment S) (t : ℕ) (b : Bool) → (occurs_by m now t b).dies ≡ true → (occurs_by m now t b).after.state.alive ≡ false
occurs-dies m now t true e = ended-dies _ _ e
occurs-dies m now t false e = happens-dies m now t _ _ e

in-session : {S : Type 0} (w : Widths) (id : ℕ) (o : Step S) (now : Standing S) (dies : Bool) → is_open_phase now.phase ≡ true → (dies ≡ true → o.after.state.alive ≡ false)
    → is_open_phase (steps_in_session w id o now dies).after.phase ≡ false → (steps_in_session w id o now dies).after.moment.state.alive ≡ false
in-session w id o now true opened dead closed = dead refl
in-session w id o now false opened dead closed = absurd (let e = sym opened ∙ closed in cc)

apart : {S : Type 0} (now : Standing S) (dies : Bool) → is_open_phase now.phase ≡ true → (dies ≡ true → now.moment.state.alive ≡ false) → is_open_phase (steps_apart now dies).after.phase ≡ false
    → (steps_apart now dies).after.moment.state.alive ≡ false
apart now true opened dead closed = dead refl
apart now false opened dead closed = absurd (let e = sym opened ∙ closed in cc)

at-phase : {S : Type 0} (w : Widths) (id : ℕ) (o : Step S) (now : Standing S) (phase : Phase) → is_open_phase now.phase ≡ true → (o.dies ≡ true → o.after.state.alive ≡ false)
    → is_open_phase (steps_at w id o (behind o now) phase).after.phase ≡ false → (steps_at w id o (behind o now) phase).after.moment.state.alive ≡ false
at-phase w id o now Established opened dead closed = in-session w id o (behind o now) o.dies opened dead closed
at-phase w id o now AwaitingHandshake opened dead closed = apart (behind o now) o.dies opened dead closed
at-phase w id o now Closed opened dead closed = apart (behind o now) o.dies opened dead closed

pub step-why : {S : Type 0} (m : Meaning S) (now : Standing S) (t : ℕ) (may : Bool) → is_open_phase now.phase ≡ true → is_open_phase (steps_by m now t may).after.phase ≡ false
    → (steps_by m now t may).after.moment.state.alive ≡ false
step-why m now t true opened closed = at-phase _ _ (occurs m now.moment t) now now.phase opened (occurs-dies m now.moment t _) closed
step-why m now t false opened closed = absurd (let e = sym opened ∙ closed in cc)

pub may-alive : {S : Type 0} (m : Meaning S) (settings : Settings) (now : Moment S) (t : ℕ) → may_step m settings now t ≡ true → now.state.alive ≡ true
may-alive m settings now t e = (both _ _ (both _ _ e).1).0

-- ---- what an act closes

pub act-why : {S : Type 0} (m : Meaning S) (settings : Settings) (now : Standing S) (act : Act) → is_open_phase now.phase ≡ true → is_open_phase (react m settings now act).after.phase ≡ false
    → Closes act (react m settings now act).after
act-why m settings now (Handles message) opened closed = message-why m settings now message closed
act-why m settings now (Steps t) opened closed = step-why m now t _ opened closed
act-why m settings now Loses opened closed = tt
