-- Turns in the protocol's words.
use Rattle.std.proofs.Common.{◌≡◌, ◌≢◌, ◌∙◌, ℕ, ℤ, ◌+◌, ◌-◌, ◌==◌, List, ◌++◌, Bool, true, false, cond, Option, Some, None, Result, Ok, Err, IfOk, sym, ap, refl, subst, arith}
use Rattle.std.specs.Option.{option_map}
use Rattle.std.proofs.lemmas.Bool.{eqb-true}
use Rattle.std.proofs.lemmas.Bool.Decides.{nat_tests}
use Rattle.jdwp_wire.specs.ErrorCodes.{NONE}
use Rattle.jdwp_wire.specs.Streams.{Message, Handshake, Packet, NextMessage, Whole, More, Fault, stream}
use Rattle.jdwp_wire.specs.Widths.{Widths}
use Rattle.jdwp_wire.specs.declared.error_code.ErrorCode.{ErrorCode}
use Rattle.jdwp_wire.specs.declared.frame.FrameFault.{FrameFault}
use Rattle.jdwp_wire.specs.declared.packet.Header.{Header}
use Rattle.jdwp_wire.specs.declared.packet.PacketKind.{PacketKind}
use Rattle.jdwp_wire.specs.declared.packet.PacketKind.TheVariants as kind
use Rattle.jdwp_value.specs.declared.value.Value.{Value}
use Rattle.jdwp_layout.specs.Meanings.{ScalarMeaning}
use Rattle.jdwp_layout.specs.declared.answer.Answer.{Answer}
use Rattle.jdwp_layout.specs.declared.answer.Answer.TheVariants.{Data, Error}
use Rattle.jdwp_end.specs.declared.phase.Phase.TheVariants.{Closed}
use Rattle.jdwp_end.specs.Ends.{End, front_of, is_open_phase}
use Rattle.jdwp_event.specs.Modifiers.{ModifierMeaning, modifiers_of}
use Rattle.jdwp_event.specs.RequestLists.{without, without_breakpoints}
use Rattle.jdwp_event.specs.Requests.{new_request}
use Rattle.jdwp_machine.specs.Meanings.{Meaning}
use Rattle.jdwp_action.specs.Actions
use Rattle.jdwp_debuggee.specs.Strings.{makes_string}
use Rattle.jdwp_debuggee.specs.Answers.{query_of}
use Rattle.jdwp_debuggee.specs.Answering.{is_answered, read_as}
use Rattle.jdwp_action.specs.Actions.{Action, Command, action_of}
use Rattle.jdwp_action.specs.AnswerPackets.{EncodesAnswer, error_of}
use Rattle.jdwp_debuggee.specs.Effects.{Effect, asked, asks_by, does, effect_by, first_origin, resume_thread_by, set_by, slots_at, slots_by, step_thread, suspend_by, suspend_thread_at, suspend_thread_by}
use Rattle.jdwp_debuggee.specs.Facts.{is_data}
use Rattle.jdwp_debuggee.specs.Settings.{Settings}
use Rattle.jdwp_debuggee.specs.State.{Moment, State, Thread, changed, cleared, count_in, count_of, lowered, only, raised, restopped, with_counts}
use Rattle.jdwp_debuggee.specs.ThreadLaws.{count-changed}
use Rattle.jdwp_target.specs.declared.target.Turn.{Turn}
use Rattle.jdwp_target.specs.declared.target.Turn.TheVariants as turn
use Rattle.jdwp_target.specs.declared.target.TargetFault.{TargetFault}
use Rattle.jdwp_target.specs.declared.target.TargetFault.TheVariants as fault
use Rattle.jdwp_target.specs.Deeds.{defers}
use Rattle.jdwp_target.specs.Protocol.{AddsRequest, Answers, EachCount, HasReplied, IsOver, OneCount, Puts, requests}
use Rattle.jdwp_target.specs.Sends.{reply_to}
use Rattle.jdwp_target.specs.Standings.{Standing, carried_out, established, replies, replies_by, reset_moment}
use Rattle.jdwp_target.specs.Targets.{Target, full_standing, lost_target, standing, with_handled}
use Rattle.jdwp_target.specs.Turns.{EncodesByKind, EncodesNext, EncodesUnless, TurnsAt, told_of_packet, told_where}

-- ---- a command that was handled at once

-- the effect of the command that these data read as, or of its refusal
abbrev pub effect_at : {S : Type 0} → Meaning S → Target S → ℕ → ℕ → List ℕ → Effect S
effect_at m old set number body = carried_out m old.settings old.moment (read_as old.settings.profile (m.sizes old.moment.machine) set number body)

-- a packet in front was a command that was handled at once, and its reply has this id and error code
pub record Handled {S : Type 0} (m : Meaning S) (old new : Target S) (header : Header) (body : List ℕ) (used id : ℕ) (error : ErrorCode) : Type 0 where
  pub set : ℕ
  pub number : ℕ
  pub command : header.kind ≡ kind.Command set number
  pub same : header.id ≡ id
  pub at_once : defers (full_standing old) (Packet header body) ≡ false
  pub told : error_of (effect_at m old set number body).answer ≡ error
  pub encoded : EncodesAnswer (m.sizes old.moment.machine) set number (effect_at m old set number body).answer
  pub new_is : new ≡ with_handled m (Packet header body) used old

handled-kind : {S : Type 0} (m : Meaning S) (old new : Target S) (header : Header) (body : List ℕ) (used id : ℕ) (error : ErrorCode) (k : PacketKind) → header.kind ≡ k
    → turn.Replied id error ≡ told_of_packet m old header.id k body → EncodesByKind m old k body → defers (full_standing old) (Packet header body) ≡ false → new ≡ with_handled m (Packet header body) used old
    → Handled m old new header body used id error
handled-kind m old new header body used id error (kind.Command set number) is tells encoded at_once new_is = record {
  set = set;
  number = number;
  command = is;
  same = let f = tells in cc;
  at_once = at_once;
  told = let f = tells in cc;
  encoded = encoded;
  new_is = new_is;
}
handled-kind m old new header body used id error (kind.Reply code) is tells encoded at_once new_is = absurd (let f = tells in cc)

handled-where : {S : Type 0} (m : Meaning S) (old new : Target S) (header : Header) (body : List ℕ) (used id : ℕ) (error : ErrorCode) (b : Bool) → defers (full_standing old) (Packet header body) ≡ b
    → turn.Replied id error ≡ told_where m old (Packet header body) b → EncodesUnless m old (Packet header body) b → new ≡ with_handled m (Packet header body) used old
    → Handled m old new header body used id error
handled-where m old new header body used id error true is tells encoded new_is = absurd (let f = tells in cc)
handled-where m old new header body used id error false is tells encoded new_is = handled-kind m old new header body used id error header.kind refl tells encoded is new_is

-- what a turn that told a reply handled
pub record HasHandled {S : Type 0} (m : Meaning S) (old new : Target S) (next : NextMessage) (id : ℕ) (error : ErrorCode) : Type 0 where
  pub header : Header
  pub body : List ℕ
  pub used : ℕ
  pub front : next ≡ Whole (Packet header body) used
  pub handled : Handled m old new header body used id error

has-handled : {S : Type 0} (m : Meaning S) (old new : Target S) (next : NextMessage) (id : ℕ) (error : ErrorCode) → TurnsAt m next old (Ok (turn.Replied id error)) new → EncodesNext m next old
    → HasHandled m old new next id error
has-handled m old new (Whole Handshake used) id error turns encoded = absurd (let f = turns.0 in cc)
has-handled m old new (Whole (Packet header body) used) id error turns encoded = record {
  header = header;
  body = body;
  used = used;
  front = refl;
  handled = handled-where m old new header body used id error (defers (full_standing old) (Packet header body)) refl turns.0 encoded turns.1;
}
has-handled m old new More id error turns encoded = absurd (let f = turns.0 in cc)
has-handled m old new (Fault f) id error turns encoded = absurd (let f = turns.0 in cc)

-- ---- what it leaves

-- an effect left a target so, and put the reply behind what waited
pub record Leaves {S : Type 0} (m : Meaning S) (old new : Target S) (id : ℕ) (e : Effect S) : Type 0 where
  pub stands : standing new ≡ (replies (established (standing old)) (m.sizes old.moment.machine) id e).after
  pub puts : Puts (reply_to (m.sizes old.moment.machine) id e.answer) old.end new.end

puts-by : {S : Type 0} (now : Standing S) (w : Widths) (id : ℕ) (e : Effect S) (b : Bool) (old new : End) → new.outgoing ≡ old.outgoing ++ stream (replies_by now w id e b).sends → Puts (reply_to w id e.answer) old new
puts-by now w id e true old new is = (_, is)
puts-by now w id e false old new is = (_, is)

leaves : {S : Type 0} (m : Meaning S) (old new : Target S) (header : Header) (body : List ℕ) (used id : ℕ) (error : ErrorCode) (h : Handled m old new header body used id error)
    → Leaves m old new id (effect_at m old h.set h.number body)
leaves m old new header body used id error h =
    let w = m.sizes old.moment.machine in
    let e = effect_at m old h.set h.number body in
    record {
      stands = rw (h.new_is, h.at_once, h.command, h.same) refl;
      puts = puts-by (established (standing old)) w id e e.dies old.end new.end (rw (h.new_is, h.at_once, h.command, h.same) refl);
    }

-- ---- a command that was answered without an error

-- it was carried out
pub record Carried {S : Type 0} (m : Meaning S) (old new : Target S) (id : ℕ) (e : Effect S) : Type 0 where
  pub answers : is_data e.answer ≡ true
  pub left : Leaves m old new id e

data-of : (w : Widths) (set number : ℕ) (x : Answer) → error_of x ≡ NONE → EncodesAnswer w set number x → is_data x ≡ true
data-of w set number (Data content) none encoded = refl
data-of w set number (Error e) none encoded = absurd (encoded (ap (λ (x : ErrorCode). x.0) none))

effect-does : {S : Type 0} (m : Meaning S) (settings : Settings) (now : Moment S) (c : Command) (b : Bool) → is_data (effect_by m settings now c b).answer ≡ true → effect_by m settings now c b ≡ does m settings now c (action_of c)
effect-does m settings now c true e = refl
effect-does m settings now c false e = absurd cc

-- what a turn ensures that told a reply
abbrev pub Turned : {S : Type 0} → Meaning S → Target S → Target S → Result Turn TargetFault → Type 0
Turned m old new result = TurnsAt m (front_of old.end) old result new × IfOk result (λ told. EncodesNext m (front_of old.end) old)

carried-by : {S : Type 0} (m : Meaning S) (action : Action) (old new : Target S) (result : Result Turn TargetFault) (a : Answers m action old result) → Handled m old new a.header a.body a.used a.header.id NONE
    → Carried m old new a.header.id (does m old.settings old.moment a.command action)
carried-by {S = S} m action old new result a h =
    let w = m.sizes old.moment.machine in
    let kinds : kind.Command h.set h.number ≡ kind.Command a.set a.number = sym h.command ∙ a.is_command in
    let set : h.set ≡ a.set = let f = kinds in cc in
    let number : h.number ≡ a.number = let f = kinds in cc in
    let is : effect_at m old h.set h.number a.body ≡ effect_by m old.settings old.moment a.command (is_answered old.settings.profile a.command) = rw (set, number, a.reads) refl in
    let answers : is_data (effect_at m old h.set h.number a.body).answer ≡ true = data-of w h.set h.number _ h.told h.encoded in
    let whole = is
    ∙ (effect-does m old.settings old.moment a.command _ (subst (λ (e : Effect S). is_data e.answer ≡ true) is answers)
    ∙ ap (λ (x : Action). does m old.settings old.moment a.command x) a.asks) in
    subst (λ (e : Effect S). Carried m old new a.header.id e) whole (record { answers = answers; left = leaves m old new a.header a.body a.used a.header.id NONE h })

pub carried : {S : Type 0} (m : Meaning S) (action : Action) (old new : Target S) (result : Result Turn TargetFault) → Turned m old new result → (a : Answers m action old result)
    → Carried m old new a.header.id (does m old.settings old.moment a.command action)
carried m action old new result turned a =
    let turns : TurnsAt m (Whole (Packet a.header a.body) a.used) old (Ok (turn.Replied a.header.id NONE)) new = rw (a.front, a.answered) at turned.0 in
    let encoded : EncodesNext m (Whole (Packet a.header a.body) a.used) old = rw (a.front, a.answered) at turned.1 in
    carried-by m action old new result a (handled-where m old new a.header a.body a.used a.header.id NONE (defers (full_standing old) (Packet a.header a.body)) refl turns.0 encoded turns.1)

-- ---- suspend counts

-- the state behind an effect
abbrev pub behind : {S : Type 0} → Standing S → Widths → ℕ → Effect S → State
behind now w id e = (replies now w id e).after.moment.state

-- the state of the target is that
state-is : {S : Type 0} (m : Meaning S) (old new : Target S) (id : ℕ) (e : Effect S) → Leaves m old new id e → new.moment.state ≡ behind (established (standing old)) (m.sizes old.moment.machine) id e
state-is {S = S} m old new id e left = ap (λ (s : Standing S). s.moment.state) left.stands

-- all counts changed
each-count : {S : Type 0} (old new : Target S) (f : ℕ → ℕ → ℕ) → new.moment.state.threads ≡ changed f old.moment.state.threads → (t : ℕ) → count_of new.moment.state t ≡ option_map (f t) (count_of old.moment.state t)
each-count old new f is t = ap (λ (ts : List Thread). count_in ts t) is ∙ count-changed f old.moment.state.threads t

map-same : (f g : ℕ → ℕ) (c : Option ℕ) → ((n : ℕ) → f n ≡ g n) → option_map f c ≡ option_map g c
map-same f g None same = refl
map-same f g (Some n) same = ap Some (same n)

map-itself : (f : ℕ → ℕ) (c : Option ℕ) → ((n : ℕ) → f n ≡ n) → option_map f c ≡ c
map-itself f None same = refl
map-itself f (Some n) same = ap Some (same n)

-- that of one thread did
only-it : (t : ℕ) (change : ℕ → ℕ → ℕ) (n : ℕ) → only t change t n ≡ change t n
only-it t change n = ap (λ (b : Bool). cond b (change t n) n) (let same : (t == t) ≡ true = grind (arith, nat_tests) in same)

only-another : (t u : ℕ) (change : ℕ → ℕ → ℕ) (n : ℕ) → u ≢ t → only t change u n ≡ n
only-another t u change n other =
    elim (t == u) as (λ (b : Bool). (t == u) ≡ b → cond b (change u n) n ≡ n) [
      | true ↦ λ same. absurd (other (sym (eqb-true t u same)))
      | false ↦ λ _. refl
    ] refl

one-count : {S : Type 0} (old new : Target S) (t : ℕ) (change : ℕ → ℕ → ℕ) (by : ℕ → ℕ) → ((n : ℕ) → change t n ≡ by n) → new.moment.state.threads ≡ changed (only t change) old.moment.state.threads → OneCount t by old new
one-count old new t change by same is = (
  each-count old new (only t change) is t ∙ map-same (only t change t) by (count_of old.moment.state t) (λ (n : ℕ). only-it t change n ∙ same n),
  λ u other. each-count old new (only t change) is u ∙ map-itself (only t change u) (count_of old.moment.state u) (λ (n : ℕ). only-another t u change n other),
)

-- VirtualMachine.Suspend and Resume

suspended : {S : Type 0} (now : Standing S) (w : Widths) (id : ℕ) (b : Bool) → is_data (suspend_by now.moment b).answer ≡ true → behind now w id (suspend_by now.moment b) ≡ with_counts raised now.moment.state
suspended now w id true answers = absurd cc
suspended now w id false answers = refl

pub turned-suspend : {S : Type 0} (m : Meaning S) (old new : Target S) (result : Result Turn TargetFault) → Turned m old new result → Answers m Actions.Suspend old result → EachCount (λ n. n + 1) old new
turned-suspend m old new result turned a =
    let c = carried m Actions.Suspend old new result turned a in
    each-count old new raised (ap (λ (s : State). s.threads) (state-is m old new a.header.id _ c.left ∙ suspended (established (standing old)) (m.sizes old.moment.machine) a.header.id _ c.answers))

pub turned-resume : {S : Type 0} (m : Meaning S) (old new : Target S) (result : Result Turn TargetFault) → Turned m old new result → Answers m Actions.Resume old result → EachCount (λ n. n - 1) old new
turned-resume m old new result turned a =
    let c = carried m Actions.Resume old new result turned a in
    each-count old new lowered (ap (λ (s : State). s.threads) (state-is m old new a.header.id _ c.left))

-- ThreadReference.Suspend and Resume

suspended-at : {S : Type 0} (now : Standing S) (w : Widths) (id t : ℕ) (b : Bool) → is_data (suspend_thread_at now.moment t b).answer ≡ true → behind now w id (suspend_thread_at now.moment t b) ≡ with_counts (only t raised) now.moment.state
suspended-at now w id t true answers = absurd cc
suspended-at now w id t false answers = refl

suspended-thread : {S : Type 0} (settings : Settings) (now : Standing S) (w : Widths) (id t : ℕ) (o : Option ℕ) → is_data (suspend_thread_by settings now.moment t o).answer ≡ true
    → behind now w id (suspend_thread_by settings now.moment t o) ≡ with_counts (only t raised) now.moment.state
suspended-thread settings now w id t None answers = absurd cc
suspended-thread settings now w id t (Some count) answers = suspended-at now w id t _ answers

resumed-thread : {S : Type 0} (now : Standing S) (w : Widths) (id t : ℕ) (o : Option ℕ) → is_data (resume_thread_by now.moment t o).answer ≡ true → behind now w id (resume_thread_by now.moment t o) ≡ restopped (with_counts (only t lowered) now.moment.state)
resumed-thread now w id t None answers = absurd cc
resumed-thread now w id t (Some count) answers = refl

pub turned-suspend-thread : {S : Type 0} (m : Meaning S) (old new : Target S) (result : Result Turn TargetFault) → Turned m old new result → (t : ℕ) → Answers m (Actions.SuspendThread t) old result → OneCount t (λ n. n + 1) old new
turned-suspend-thread m old new result turned t a =
    let c = carried m (Actions.SuspendThread t) old new result turned a in
    one-count old new t raised (λ n. n + 1) (λ n. refl)
    (ap (λ (s : State). s.threads) (state-is m old new a.header.id _ c.left ∙ suspended-thread old.settings (established (standing old)) (m.sizes old.moment.machine) a.header.id t _ c.answers))

pub turned-resume-thread : {S : Type 0} (m : Meaning S) (old new : Target S) (result : Result Turn TargetFault) → Turned m old new result → (t : ℕ) → Answers m (Actions.ResumeThread t) old result → OneCount t (λ n. n - 1) old new
turned-resume-thread m old new result turned t a =
    let c = carried m (Actions.ResumeThread t) old new result turned a in
    one-count old new t lowered (λ n. n - 1) (λ n. refl)
    (ap (λ (s : State). s.threads) (state-is m old new a.header.id _ c.left ∙ resumed-thread (established (standing old)) (m.sizes old.moment.machine) a.header.id t _ c.answers))

-- ---- the end of a session

pub over-reset : {S : Type 0} (old new : Target S) → new.moment ≡ reset_moment old.moment → new.end.phase ≡ Closed → IsOver old new
over-reset {S = S} old new reset closed = record {
  counts = each-count old new cleared (ap (λ (x : Moment S). x.state.threads) reset);
  requests = ap (λ (x : Moment S). x.state.requests) reset;
  closed = ap is_open_phase closed;
  machine = ap (λ (x : Moment S). x.machine) reset;
}

pub over-lost : {S : Type 0} (old : Target S) → IsOver old (lost_target old)
over-lost old = over-reset old (lost_target old) refl refl

pub turned-dispose : {S : Type 0} (m : Meaning S) (old new : Target S) (result : Result Turn TargetFault) → Turned m old new result → Answers m Actions.Dispose old result → IsOver old new
turned-dispose {S = S} m old new result turned a =
    let c = carried m Actions.Dispose old new result turned a in
    over-reset old new (ap (λ (s : Standing S). s.moment) c.left.stands) (ap (λ (s : Standing S). s.phase) c.left.stands)

pub turned-fault : {S : Type 0} (m : Meaning S) (old new : Target S) (next : NextMessage) (f : FrameFault) → TurnsAt m next old (Err (fault.Frame f)) new → IsOver old new
turned-fault {S = S} m old new (Whole message used) f turns = absurd (let e = turns.0 in cc)
turned-fault {S = S} m old new More f turns = absurd (let e = turns.0 in cc)
turned-fault {S = S} m old new (Fault g) f turns = subst (λ (v : Target S). IsOver old v) (sym turns.1) (over-lost old)

-- ---- event requests

added : {S : Type 0} (m : Meaning S) (now : Standing S) (w : Widths) (id byte policy : ℕ) (modifiers : List ModifierMeaning) (o : Option ErrorCode) → is_data (set_by m now.moment byte policy modifiers o).answer ≡ true
    → o ≡ None
added m now w id byte policy modifiers None answers = refl
added m now w id byte policy modifiers (Some e) answers = absurd cc

pub turned-set : {S : Type 0} (m : Meaning S) (old new : Target S) (result : Result Turn TargetFault) → Turned m old new result → (byte policy : ℕ) (entries : List (List ScalarMeaning))
    → (a : Answers m (Actions.SetRequest byte policy entries) old result) → AddsRequest m a.header.id byte policy (modifiers_of entries) old new
turned-set {S = S} m old new result turned byte policy entries a =
    let c = carried m (Actions.SetRequest byte policy entries) old new result turned a in
    let w = m.sizes old.moment.machine in
    let now = established (standing old) in
    let none = added m now w a.header.id byte policy (modifiers_of entries) _ c.answers in
    let left : Leaves m old new a.header.id (set_by m old.moment byte policy (modifiers_of entries) None) =
    subst (λ (o : Option ErrorCode). Leaves m old new a.header.id (set_by m old.moment byte policy (modifiers_of entries) o)) none c.left in
    record {
      request = new_request (asked old.moment.state byte policy (modifiers_of entries)) (first_origin m old.moment.machine (step_thread (modifiers_of entries)));
      added = ap (λ (s : Standing S). s.moment.state.requests) left.stands;
      of_kind = refl;
      of_policy = refl;
      of_modifiers = refl;
      told = left.puts;
    }

pub turned-clear : {S : Type 0} (m : Meaning S) (old new : Target S) (result : Result Turn TargetFault) → Turned m old new result → (byte : ℕ) (id : ℤ) → Answers m (Actions.ClearRequest byte id) old result
    → requests new ≡ without byte id (requests old)
turned-clear {S = S} m old new result turned byte id a =
    let c = carried m (Actions.ClearRequest byte id) old new result turned a in
    ap (λ (s : Standing S). s.moment.state.requests) c.left.stands

pub turned-clear-breakpoints : {S : Type 0} (m : Meaning S) (old new : Target S) (result : Result Turn TargetFault) → Turned m old new result → Answers m Actions.ClearBreakpoints old result
    → requests new ≡ without_breakpoints (requests old)
turned-clear-breakpoints {S = S} m old new result turned a =
    let c = carried m Actions.ClearBreakpoints old new result turned a in
    ap (λ (s : Standing S). s.moment.state.requests) c.left.stands

-- ---- a command that was refused

-- where an effect is a refusal the state stays, and the machine does not die by it
abbrev pub Refuses : {S : Type 0} → Moment S → Effect S → Type 0
Refuses now e = is_data e.answer ≡ false → (e.after.state ≡ now.state) × (e.dies ≡ false)

suspend-refuses : {S : Type 0} (now : Moment S) (b : Bool) → Refuses now (suspend_by now b)
suspend-refuses now true none = (refl, refl)
suspend-refuses now false none = absurd cc

suspend_at-refuses : {S : Type 0} (now : Moment S) (t : ℕ) (b : Bool) → Refuses now (suspend_thread_at now t b)
suspend_at-refuses now t true none = (refl, refl)
suspend_at-refuses now t false none = absurd cc

suspend_thread-refuses : {S : Type 0} (settings : Settings) (now : Moment S) (t : ℕ) (o : Option ℕ) → Refuses now (suspend_thread_by settings now t o)
suspend_thread-refuses settings now t None none = (refl, refl)
suspend_thread-refuses settings now t (Some count) none = suspend_at-refuses now t _ none

resume_thread-refuses : {S : Type 0} (now : Moment S) (t : ℕ) (o : Option ℕ) → Refuses now (resume_thread_by now t o)
resume_thread-refuses now t None none = (refl, refl)
resume_thread-refuses now t (Some count) none = absurd cc

slots_at-refuses : {S : Type 0} (m : Meaning S) (now : Moment S) (t f : ℕ) (values : List (ℤ × Value)) (b : Bool) → Refuses now (slots_at m now t f values b)
slots_at-refuses m now t f values true none = (refl, refl)
slots_at-refuses m now t f values false none = (refl, refl)

slots-refuses : {S : Type 0} (m : Meaning S) (now : Moment S) (t f : ℕ) (values : List (ℤ × Value)) (o : Option ℕ) → Refuses now (slots_by m now t f values o)
slots-refuses m now t f values None none = (refl, refl)
slots-refuses m now t f values (Some count) none = slots_at-refuses m now t f values _ none

set-refuses : {S : Type 0} (m : Meaning S) (now : Moment S) (byte policy : ℕ) (modifiers : List ModifierMeaning) (o : Option ErrorCode) → Refuses now (set_by m now byte policy modifiers o)
set-refuses m now byte policy modifiers (Some e) none = (refl, refl)
set-refuses m now byte policy modifiers None none = absurd cc

asks-refuses : {S : Type 0} (m : Meaning S) (settings : Settings) (now : Moment S) (c : Command) (b : Bool) → Refuses now (asks_by m settings now c b)
asks-refuses m settings now c true none = (refl, refl)
asks-refuses m settings now c false none = (refl, refl)

does-refuses : {S : Type 0} (m : Meaning S) (settings : Settings) (now : Moment S) (c : Command) (a : Action) → Refuses now (does m settings now c a)
does-refuses m settings now c Actions.Suspend none = suspend-refuses now _ none
does-refuses m settings now c Actions.Resume none = absurd cc
does-refuses m settings now c Actions.Dispose none = absurd cc
does-refuses m settings now c Actions.Exit none = absurd cc
does-refuses m settings now c Actions.HoldEvents none = absurd cc
does-refuses m settings now c Actions.ReleaseEvents none = absurd cc
does-refuses m settings now c (Actions.SetRequest byte policy entries) none = set-refuses m now byte policy _ _ none
does-refuses m settings now c (Actions.ClearRequest byte id) none = absurd cc
does-refuses m settings now c Actions.ClearBreakpoints none = absurd cc
does-refuses m settings now c (Actions.SuspendThread t) none = suspend_thread-refuses settings now t _ none
does-refuses m settings now c (Actions.ResumeThread t) none = resume_thread-refuses now t _ none
does-refuses m settings now c (Actions.SuspendCount t) none = (refl, refl)
does-refuses m settings now c (Actions.ThreadStatus t) none = (refl, refl)
does-refuses m settings now c (Actions.SetSlots t f values) none = slots-refuses m now t f values (count_of now.state t) none
does-refuses m settings now c (Actions.AskFrames t) none = (refl, refl)
does-refuses m settings now c (Actions.AskThread t) none = (refl, refl)
does-refuses m settings now c Actions.AllThreads none = (refl, refl)
does-refuses m settings now c Actions.IdSizes none = (refl, refl)
does-refuses m settings now c Actions.Ask none = asks-refuses m settings now c (makes_string (query_of c)) none

effect-refuses : {S : Type 0} (m : Meaning S) (settings : Settings) (now : Moment S) (c : Command) (b : Bool) → Refuses now (effect_by m settings now c b)
effect-refuses m settings now c false none = (refl, refl)
effect-refuses m settings now c true none = does-refuses m settings now c (action_of c) none

carried_out-refuses : {S : Type 0} (m : Meaning S) (settings : Settings) (now : Moment S) (r : Result Command ErrorCode) → Refuses now (carried_out m settings now r)
carried_out-refuses m settings now (Err e) none = (refl, refl)
carried_out-refuses m settings now (Ok c) none = effect-refuses m settings now c _ none

error-of : (x : Answer) (error : ErrorCode) → error_of x ≡ error → error ≢ NONE → is_data x ≡ false
error-of (Data content) error is some = absurd (some (sym is))
error-of (Error e) error is some = refl

still : {S : Type 0} (now : Standing S) (w : Widths) (id : ℕ) (e : Effect S) (b : Bool) → b ≡ false → (replies_by now w id e b).after.moment.state ≡ e.after.state
still now w id e true dies = absurd cc
still now w id e false dies = refl

refused-by : {S : Type 0} (m : Meaning S) (old new : Target S) (id : ℕ) (error : ErrorCode) (header : Header) (body : List ℕ) (used : ℕ) (h : Handled m old new header body used id error)
    → Leaves m old new id (effect_at m old h.set h.number body) → ((effect_at m old h.set h.number body).after.state ≡ old.moment.state) × ((effect_at m old h.set h.number body).dies ≡ false)
    → new.moment.state ≡ old.moment.state
refused-by m old new id error header body used h left refuses =
    let e = effect_at m old h.set h.number body in
    state-is m old new id e left ∙ (still (established (standing old)) (m.sizes old.moment.machine) id e e.dies refuses.1 ∙ refuses.0)

refused-found : {S : Type 0} (m : Meaning S) (old new : Target S) (id : ℕ) (error : ErrorCode) (next : NextMessage) → HasHandled m old new next id error → error ≢ NONE → new.moment.state ≡ old.moment.state
refused-found m old new id error next found some =
    let h = found.handled in
    let e = effect_at m old h.set h.number found.body in
    refused-by m old new id error found.header found.body found.used h (leaves m old new found.header found.body found.used id error h)
    (carried_out-refuses m old.settings old.moment (read_as old.settings.profile (m.sizes old.moment.machine) h.set h.number found.body) (error-of e.answer error h.told some))

pub turned-refused : {S : Type 0} (m : Meaning S) (old new : Target S) (id : ℕ) (error : ErrorCode) → Turned m old new (Ok (turn.Replied id error)) → error ≢ NONE → new.moment.state ≡ old.moment.state
turned-refused m old new id error turned some = refused-found m old new id error (front_of old.end) (has-handled m old new (front_of old.end) id error turned.0 turned.1) some

-- ---- replies

replied-found : {S : Type 0} (m : Meaning S) (old new : Target S) (id : ℕ) (error : ErrorCode) → HasHandled m old new (front_of old.end) id error → HasReplied m id error old new
replied-found m old new id error found =
    let h = found.handled in
    ((found.header, found.used, (found.body, found.front), h.same), ((effect_at m old h.set h.number found.body).answer, h.told, (leaves m old new found.header found.body found.used id error h).puts))

pub turned-replied : {S : Type 0} (m : Meaning S) (old new : Target S) (id : ℕ) (error : ErrorCode) → Turned m old new (Ok (turn.Replied id error)) → HasReplied m id error old new
turned-replied m old new id error turned = replied-found m old new id error (has-handled m old new (front_of old.end) id error turned.0 turned.1)

-- ---- nothing, and want of memory

whole-nothing : {S : Type 0} (m : Meaning S) (old : Target S) (header : Header) (body : List ℕ) (k : PacketKind) → turn.Nothing ≡ told_of_packet m old header.id k body → ⊥
whole-nothing m old header body (kind.Command set number) tells = cc
whole-nothing m old header body (kind.Reply code) tells = cc

told-nothing : {S : Type 0} (m : Meaning S) (old : Target S) (message : Message) (b : Bool) → turn.Nothing ≡ told_where m old message b → ⊥
told-nothing m old Handshake b tells = cc
told-nothing m old (Packet header body) true tells = cc
told-nothing m old (Packet header body) false tells = whole-nothing m old header body header.kind tells

pub turned-nothing : {S : Type 0} (m : Meaning S) (old new : Target S) (next : NextMessage) → TurnsAt m next old (Ok turn.Nothing) new → new ≡ old
turned-nothing m old new (Whole message used) turns = absurd (told-nothing m old message _ turns.0)
turned-nothing m old new More turns = turns.1
turned-nothing m old new (Fault f) turns = absurd (let e = turns.0 in cc)

pub turned-wanting : {S : Type 0} (m : Meaning S) (old new : Target S) (next : NextMessage) → TurnsAt m next old (Err fault.NoMemory) new → new ≡ old
turned-wanting m old new (Whole message used) turns = turns.2
turned-wanting m old new More turns = absurd (let e = turns.0 in cc)
turned-wanting m old new (Fault f) turns = absurd (let e = turns.0 in cc)
