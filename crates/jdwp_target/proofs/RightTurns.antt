-- Turns of a target over any machine.
use Rattle.std.proofs.Common.{◌≡◌, ◌∙◌, ℕ, ◌+◌, ◌≤◌, List, [], ◌∷◌, ◌++◌, ◌==◌, length, Bool, true, false, cond, if◌then◌else◌, not, ◌&&◌, ◌||◌, Some, None, Result, Ok, Err, pos, sym, ap, refl, subst, arith}
use Rattle.std.proofs.lemmas.Bool.{leb-false}
use Rattle.std.proofs.lemmas.List.{append-nil, length-append}
use Rattle.byteorder.specs.Endian.{big_bytes}
use Rattle.byteorder.specs.Numbers.{length-bytes_high_first}
use Rattle.jdwp_wire.specs.Basic.{int_canonical}
use Rattle.jdwp_wire.specs.Frames.{header_bytes}
use Rattle.jdwp_wire.specs.Bytes.{IsBytes}
use Rattle.jdwp_wire.specs.Limits.{Limits, least_packet_limit}
use Rattle.jdwp_wire.specs.Streams.{Message, Handshake, Packet, NextMessage, Whole, AreSendable, message_bytes, stream}
use Rattle.jdwp_wire.specs.Widths.{Widths}
use Rattle.jdwp_wire.specs.declared.data_fault.DataFault.{DataFault}
use Rattle.jdwp_wire.specs.declared.error_code.ErrorCode.{ErrorCode}
use Rattle.jdwp_wire.specs.declared.packet.Header.{Header}
use Rattle.jdwp_wire.specs.declared.packet.PacketKind.{PacketKind}
use Rattle.jdwp_wire.specs.declared.packet.PacketKind.TheVariants as kind
use Rattle.jdwp_end.specs.declared.phase.Phase.{Phase}
use Rattle.jdwp_end.specs.declared.phase.Phase.TheVariants.{Closed, AwaitingHandshake, Established}
use Rattle.jdwp_end.specs.Ends.{End, front_of, is_established_phase, most_outgoing, with_enqueued}
use Rattle.jdwp_end.specs.Ends as ends
use Rattle.jdwp_end.specs.FrontLaws.{IsDue, front-whole, in-front}
use Rattle.jdwp_layout.specs.Meanings.{DatumMeaning}
use Rattle.jdwp_layout.specs.CommandTable.{row_at}
use Rattle.jdwp_layout.specs.CommandNumbers.{EVENT, COMPOSITE}
use Rattle.jdwp_layout.specs.Reads.{data_at}
use Rattle.jdwp_layout.specs.Writes.{data_canonical}
use Rattle.jdwp_event.specs.Composites.{composite_data, vm_death, vm_start}
use Rattle.jdwp_event.specs.Modifiers.{modifiers_of}
use Rattle.jdwp_machine.specs.Meanings.{Meaning}
use Rattle.jdwp_action.specs.Actions
use Rattle.jdwp_action.specs.Actions.{Action, Command, Raw, action_of, is_dispose, is_exit}
use Rattle.jdwp_action.specs.CommandReads.{content_read, with_content}
use Rattle.jdwp_machine.specs.declared.profile.Profile.{Profile}
use Rattle.jdwp_debuggee.specs.Strings.{makes_string}
use Rattle.jdwp_debuggee.specs.Answers.{query_of}
use Rattle.jdwp_debuggee.specs.Answering.{is_answered, is_read, read_as, unread_as, with_bytes}
use Rattle.jdwp_debuggee.proofs.OwnRefusals.{or-left, or-right, unread-raw}
use Rattle.jdwp_machine.specs.Profiles.{adds_raw}
use Rattle.jdwp_action.specs.RowLayouts.{row_request}
use Rattle.jdwp_debuggee.specs.Askings.{Asking, action_meaning, asked_meaning, asking, asking_of, asks, is_short}
use Rattle.jdwp_debuggee.specs.Debuggees.{Debuggee, at_moment, visiting}
use Rattle.jdwp_debuggee.specs.Effects.{Effect, asks_by, carried, carried_by, does, effect_by, raises_counts, suspend_by, set_by, suspend_thread_by, suspend_thread_at, resume_thread_by, slots_by, slots_at}
use Rattle.jdwp_debuggee.specs.Refusals.{set_refusal}
use Rattle.jdwp_action.specs.AnswerPackets.{answer_bytes, error_of}
use Rattle.jdwp_debuggee.specs.Sending.{Did, IsSent, is_short_asked, sent_bytes}
use Rattle.jdwp_debuggee.specs.Settings.{Settings}
use Rattle.jdwp_debuggee.specs.State.{Moment, at_limit, count_of}
use Rattle.jdwp_debuggee.specs.Visits.{visits_carried}
use Rattle.jdwp_debuggee.specs.declared.command as code
use Rattle.jdwp_debuggee.specs.declared.reply.Reply.TheVariants as reply
use Rattle.jdwp_debuggee.specs.declared.reply.Sent.{Sent}
use Rattle.jdwp_debuggee.specs.declared.reply.Sent.TheVariants as sent
use Rattle.jdwp_target.specs.declared.target.TargetFault.{TargetFault}
use Rattle.jdwp_target.specs.declared.target.TargetFault.TheVariants as fault
use Rattle.jdwp_target.specs.declared.target.Turn.{Turn}
use Rattle.jdwp_target.specs.declared.target.Turn.TheVariants as turn
use Rattle.jdwp_target.specs.declared.turning.Done.{Done}
use Rattle.jdwp_target.specs.Deeds.{Does, defers, perform}
use Rattle.jdwp_target.specs.Insides.{Deferral, IsRightTarget, target_of}
use Rattle.jdwp_target.specs.Sends.{reply_to, report_of}
use Rattle.jdwp_target.specs.Standings.{Handles, Standing, carried_out, greets_by, handles, handles_packet, phase_after, replies_by, stands}
use Rattle.jdwp_target.specs.Targets.{Ran, Target, full_standing, in_phase, with_handled}
use Rattle.jdwp_target.specs.StepParts.{debuggee_after, end_after}
use Rattle.jdwp_target.specs.TurnParts.{IsAnswered, IsDone, IsHandled, after_deaths, closed_where, deaths, reply_of}
use Rattle.jdwp_target.specs.Turns.{HasData, NeedsMemory, NeedsMemoryToHandle, SendsAt, TurnsAt, told_of_packet, told_where}
use Rattle.jdwp_target.specs.Visits.{visits_hello, visits_read}
use Rattle.jdwp_target.proofs.EnqueueLemmas.{two_enqueued}
use Rattle.jdwp_target.proofs.TargetRuns.{ran-handled}

-- what is taken off an end that is as it was is taken off the end
pub taken-off : (end read new : End) (message : Message) (used : ℕ) → read ≡ end → front_of end ≡ Whole message used
    → ((m : Message) → front_of read ≡ Whole m used → new ≡ ends.with_handled m used read) → new ≡ ends.with_handled message used end
taken-off end read new message used same front off = off message (ap (λ (e : End). front_of e) same ∙ front) ∙ ap (λ (e : End). ends.with_handled message used e) same

-- a packet comes in an established session
pub packet-phase : (limit : ℕ) (phase : Phase) (header : Header) (body : List ℕ) → IsDue limit phase (Packet header body) → phase ≡ Established
packet-phase limit Closed header body due = absurd due
packet-phase limit AwaitingHandshake header body due = absurd (let e = due in cc)
packet-phase limit Established header body due = refl

-- ---- what an action leaves: whether the machine dies, whether the session closes, and that the first handshake stays completed

record Ending {S : Type 0} (now : Moment S) (a : Action) (e : Effect S) : Type 0 where
  pub dies : e.dies ≡ is_exit a
  pub closes : (e.dies || e.closes) ≡ (is_exit a || is_dispose a)
  pub bare : (w : Widths) → is_exit a ≡ true → length (answer_bytes w e.answer) ≡ 0
  pub handshaken : e.after.state.handshaken ≡ now.state.handshaken

-- an action that ends nothing
goes-on : {S : Type 0} (now : Moment S) (a : Action) (e : Effect S) → is_exit a ≡ false → is_dispose a ≡ false → e.dies ≡ false → e.closes ≡ false → e.after.state.handshaken ≡ now.state.handshaken → Ending now a e
goes-on now a e exit dispose dies closes handshaken = record {
  dies = dies ∙ sym exit;
  closes = rw (dies, closes, exit, dispose) refl;
  bare = λ w is. absurd (let no = exit in cc);
  handshaken = handshaken;
}

ending : {S : Type 0} (m : Meaning S) (settings : Settings) (now : Moment S) (c : Command) (a : Action) → Ending now a (does m settings now c a)
ending m settings now c Actions.Suspend =
    elim (at_limit settings.count_limit now.state) as (λ b. Ending now Actions.Suspend (suspend_by now b)) [
      | true ↦ goes-on now _ _ refl refl refl refl refl
      | false ↦ goes-on now _ _ refl refl refl refl refl
    ]
ending m settings now c Actions.Resume = goes-on now _ _ refl refl refl refl refl
ending m settings now c Actions.Dispose = record { dies = refl; closes = refl; bare = λ w is. refl; handshaken = refl }
ending m settings now c Actions.Exit = record { dies = refl; closes = refl; bare = λ w is. refl; handshaken = refl }
ending m settings now c Actions.HoldEvents = goes-on now _ _ refl refl refl refl refl
ending m settings now c Actions.ReleaseEvents = goes-on now _ _ refl refl refl refl refl
ending m settings now c (Actions.SetRequest byte policy entries) =
    elim (set_refusal m settings now byte policy (modifiers_of entries)) as (λ v. Ending now (Actions.SetRequest byte policy entries) (set_by m now byte policy (modifiers_of entries) v)) [
      | None ↦ goes-on now _ _ refl refl refl refl refl
      | Some e ↦ goes-on now _ _ refl refl refl refl refl
    ]
ending m settings now c (Actions.ClearRequest byte id) = goes-on now _ _ refl refl refl refl refl
ending m settings now c Actions.ClearBreakpoints = goes-on now _ _ refl refl refl refl refl
ending m settings now c (Actions.SuspendThread t) =
    elim (count_of now.state t) as (λ v. Ending now (Actions.SuspendThread t) (suspend_thread_by settings now t v)) [
      | None ↦ goes-on now _ _ refl refl refl refl refl
      | Some n ↦ elim (n == settings.count_limit) as (λ b. Ending now (Actions.SuspendThread t) (suspend_thread_at now t b)) [
        | true ↦ goes-on now _ _ refl refl refl refl refl
        | false ↦ goes-on now _ _ refl refl refl refl refl
      ]
    ]
ending m settings now c (Actions.ResumeThread t) =
    elim (count_of now.state t) as (λ v. Ending now (Actions.ResumeThread t) (resume_thread_by now t v)) [
      | None ↦ goes-on now _ _ refl refl refl refl refl
      | Some n ↦ goes-on now _ _ refl refl refl refl refl
    ]
ending m settings now c (Actions.SuspendCount t) = goes-on now _ _ refl refl refl refl refl
ending m settings now c (Actions.ThreadStatus t) = goes-on now _ _ refl refl refl refl refl
ending m settings now c (Actions.SetSlots t f values) =
    elim (count_of now.state t) as (λ v. Ending now (Actions.SetSlots t f values) (slots_by m now t f values v)) [
      | None ↦ goes-on now _ _ refl refl refl refl refl
      | Some n ↦ elim (n == 0) as (λ b. Ending now (Actions.SetSlots t f values) (slots_at m now t f values b)) [
        | true ↦ goes-on now _ _ refl refl refl refl refl
        | false ↦ goes-on now _ _ refl refl refl refl refl
      ]
    ]
ending m settings now c (Actions.AskFrames t) = goes-on now _ _ refl refl refl refl refl
ending m settings now c (Actions.AskThread t) = goes-on now _ _ refl refl refl refl refl
ending m settings now c Actions.AllThreads = goes-on now _ _ refl refl refl refl refl
ending m settings now c Actions.IdSizes = goes-on now _ _ refl refl refl refl refl
ending m settings now c Actions.Ask =
    elim (makes_string (query_of c)) as (λ b. Ending now Actions.Ask (asks_by m settings now c b)) [
      | true ↦ goes-on now _ _ refl refl refl refl refl
      | false ↦ goes-on now _ _ refl refl refl refl refl
    ]

-- ---- what a command reads as

-- a command that reads is answered
abbrev read_ok : Command → Result Command ErrorCode
read_ok c = Ok c

abbrev asking_ok : Asking → Result Asking ErrorCode
asking_ok a = Ok a

command-same : (x y : Command) → read_ok x ≡ read_ok y → x ≡ y
command-same x y e = cc

pub asking-same : (x y : Asking) → asking_ok x ≡ asking_ok y → x ≡ y
asking-same x y e = cc

pub record WasRead (p : Profile) (s n : ℕ) (c : Command) : Type 0 where
  pub implemented : is_answered p c ≡ true
  pub set : c.set ≡ s
  pub number : c.number ≡ n

was-read-content : (p : Profile) (set number : ℕ) (found : Result (List DatumMeaning) DataFault) (c : Command) → is_answered p (record { set = set; number = number; carried = Raw [] }) ≡ true
    → content_read set number found ≡ Ok c → WasRead p set number c
was-read-content p set number (Ok content) c impl e =
    subst (λ (x : Command). WasRead p set number x) (command-same (with_content set number content) c e) (record { implemented = impl; set = refl; number = refl })
was-read-content p set number (Err fault) c impl e = absurd cc

was-read-by : (p : Profile) (set number : ℕ) (bytes : List ℕ) (found : Result (List DatumMeaning) DataFault) (b : Bool) (c : Command) → is_read p (with_bytes set number bytes) ≡ b
    → (if b then content_read set number found else unread_as set number bytes (adds_raw p set number)) ≡ Ok c → WasRead p set number c
was-read-by p set number bytes found true c is e = was-read-content p set number found c (or-left (is_read p (with_bytes set number bytes)) (adds_raw p set number) is) e
was-read-by p set number bytes found false c is e =
    let raw = unread-raw set number bytes c (adds_raw p set number) e in
    subst (λ (x : Command). WasRead p set number x) raw.1 (record { implemented = or-right (is_read p (with_bytes set number bytes)) (adds_raw p set number) raw.0; set = refl; number = refl })

pub was-read : (p : Profile) (w : Widths) (set number : ℕ) (bytes : List ℕ) (c : Command) → read_as p w set number bytes ≡ Ok c → WasRead p set number c
was-read p w set number bytes c e = was-read-by p set number bytes (data_at w (row_request (row_at set number)) bytes) (is_read p (with_bytes set number bytes)) c refl e

-- ---- a command that was carried out or refused

abbrev effect_read : {S : Type 0} → Meaning S → Debuggee S → Result Command ErrorCode → Effect S
effect_read m d read = carried_out m d.settings d.moment read

-- it is refused
done-refused-by : {S : Type 0} (m : Meaning S) (w : Widths) (d : Debuggee S) (error : ErrorCode) (read : Result Command ErrorCode) → Err error ≡ asks read
    → IsDone w (effect_read m d read) (visits_read m d.settings d.moment read d.visits) d d (record { sent = sent.Short (reply.Refused error); dies = false; closes = false })
done-refused-by m w d error (Ok c) e = absurd cc
done-refused-by m w d error (Err x) e =
    let same : error ≡ x = cc in
    rw (← same) (record {
      after = refl;
      sends = record { error = refl; bytes = refl };
      fits = λ least. omega arith;
      dies = refl;
      bare = λ is. refl;
      closes = refl;
      handshaken = refl;
    })

pub done-refused : {S : Type 0} (m : Meaning S) (d : Debuggee S) (w : Widths) (set number : ℕ) (body : List ℕ) (error : ErrorCode) → Err error ≡ asks (read_as d.settings.profile w set number body)
    → IsDone w (carried_out m d.settings d.moment (read_as d.settings.profile w set number body)) (visits_read m d.settings d.moment (read_as d.settings.profile w set number body) d.visits) d d (record { sent = sent.Short (reply.Refused error); dies = false; closes = false })
done-refused m d w set number body error e = done-refused-by m w d error (read_as d.settings.profile w set number body) e

-- it is carried out
pub record HasEnding (a : code.Action.Action) (done : Done) : Type 0 where
  pub dies : done.dies ≡ is_exit (action_meaning a)
  pub closes : done.closes ≡ (is_exit (action_meaning a) || is_dispose (action_meaning a))

-- after the first handshake nothing is too early
pub carried-shaken : {S : Type 0} (m : Meaning S) (settings : Settings) (now : Moment S) (c : Command) (a : Action) → now.state.handshaken ≡ true → carried m settings now c a ≡ does m settings now c a
carried-shaken m settings now c a h =
    ap (λ (b : Bool). carried_by m settings now c a (raises_counts a && not b)) h
    ∙ elim (raises_counts a) as (λ (x : Bool). carried_by m settings now c a (x && not true) ≡ does m settings now c a) [ true ↦ refl | false ↦ refl ]

did-done : {S : Type 0} (m : Meaning S) (d new : Debuggee S) (a : code.Action.Action) (c : Command) (done : Done) → is_answered d.settings.profile c ≡ true → action_meaning a ≡ action_of c
    → HasEnding a done → d.moment.state.handshaken ≡ true → Did m c d new done.sent → IsDone (m.sizes d.moment.machine) (effect_by m d.settings d.moment c (is_answered d.settings.profile c))
    (visits_carried d.moment (action_of c) (effect_by m d.settings d.moment c (is_answered d.settings.profile c)) d.visits) d new done
did-done m d new a c done impl same ends shaken did =
    let on : carried m d.settings d.moment c (action_of c) ≡ does m d.settings d.moment c (action_of c) = carried-shaken m d.settings d.moment c (action_of c) shaken in
    let e = does m d.settings d.moment c (action_of c) in
    let x = ending m d.settings d.moment c (action_of c) in
    let exit : done.dies ≡ is_exit (action_of c) = ends.dies ∙ ap is_exit same in
    rw impl (record {
      after = rw on at did.after;
      sends = rw on at did.sends;
      fits = did.fits;
      dies = exit ∙ sym x.dies;
      bare = λ is. ap length (rw on at did.sends).bytes ∙ x.bare (m.sizes d.moment.machine) (sym exit ∙ is);
      closes = ends.closes ∙ (ap (λ (y : Action). is_exit y || is_dispose y) same ∙ sym x.closes);
      handshaken = x.handshaken;
    })

done-carried-by : {S : Type 0} (m : Meaning S) (d new : Debuggee S) (a : code.Action.Action) (done : Done) (read : Result Command ErrorCode)
    → ((c : Command) → read ≡ Ok c → is_answered d.settings.profile c ≡ true) → Ok (asking a) ≡ asks read → HasEnding a done → d.moment.state.handshaken ≡ true → ((c : Command) → asking a ≡ asking_of c → Did m c d new done.sent)
    → IsDone (m.sizes d.moment.machine) (effect_read m d read) (visits_read m d.settings d.moment read d.visits) d new done
done-carried-by m d new a done (Ok c) impl e ends shaken did =
    let same : asking a ≡ asking_of c = asking-same (asking a) (asking_of c) e in
    did-done m d new a c done (impl c refl) (ap (λ (x : Asking). x.action) same) ends shaken (did c same)
done-carried-by m d new a done (Err x) impl e ends shaken did = absurd cc

pub done-carried : {S : Type 0} (m : Meaning S) (d new : Debuggee S) (set number : ℕ) (body : List ℕ) (a : code.Action.Action) (done : Done)
    → Ok (asking a) ≡ asks (read_as d.settings.profile (m.sizes d.moment.machine) set number body) → HasEnding a done → d.moment.state.handshaken ≡ true → ((c : Command) → asking a ≡ asking_of c → Did m c d new done.sent)
    → IsDone (m.sizes d.moment.machine) (carried_out m d.settings d.moment (read_as d.settings.profile (m.sizes d.moment.machine) set number body)) (visits_read m d.settings d.moment (read_as d.settings.profile (m.sizes d.moment.machine) set number body) d.visits) d new done
done-carried m d new set number body a done e ends shaken did =
    done-carried-by m d new a done (read_as d.settings.profile (m.sizes d.moment.machine) set number body) (λ (c : Command). λ read. (was-read d.settings.profile (m.sizes d.moment.machine) set number body c read).implemented) e ends shaken did

-- Exit and Dispose close
pub closes-by : (a : Action) (b : Bool) → (is_dispose a ≡ true → b ≡ true) → (is_exit a ≡ true → b ≡ true) → (is_dispose a ≡ false → is_exit a ≡ false → b ≡ false) → b ≡ (is_exit a || is_dispose a)
closes-by a b dispose exit other =
    elim (is_exit a) as (λ (x : Bool). (x ≡ true → b ≡ true) → (is_dispose a ≡ false → x ≡ false → b ≡ false) → b ≡ (x || is_dispose a)) [
      | true ↦ λ on off. on refl
      | false ↦ λ on off. elim (is_dispose a) as (λ (y : Bool). (y ≡ true → b ≡ true) → (y ≡ false → b ≡ false) → b ≡ y) [
        | true ↦ λ yes no. yes refl
        | false ↦ λ yes no. no refl
      ] dispose (λ e. off e refl)
    ] exit other

-- ---- what a reply leaves

died : {S : Type 0} (now : Standing S) (w : Widths) (id : ℕ) (e : Effect S) (b : Bool) (visits : ℕ) (d : Debuggee S) → after_deaths b (visiting visits (at_moment e.after d)) ≡ visiting visits (debuggee_after (replies_by now w id e b) d)
died now w id e true visits d = refl
died now w id e false visits d = refl

closed-by : {S : Type 0} (now : Standing S) (w : Widths) (id : ℕ) (e : Effect S) (b : Bool) (end : End)
    → closed_where (b || e.closes) (with_enqueued (stream (reply_to w id e.answer ∷ deaths w e.after.state.next_packet b)) (in_phase Established end)) ≡ end_after (replies_by now w id e b) end
closed-by now w id e true end = refl
closed-by now w id e false end =
    elim e.closes as (λ (x : Bool). closed_where x (with_enqueued (stream (reply_to w id e.answer ∷ [])) (in_phase Established end)) ≡ in_phase (phase_after x) (with_enqueued (stream (reply_to w id e.answer ∷ [])) end)) [
      | true ↦ refl
      | false ↦ refl
    ]

shaken-by : {S : Type 0} (now : Standing S) (w : Widths) (id : ℕ) (e : Effect S) (b : Bool) → (replies_by now w id e b).after.moment.state.handshaken ≡ e.after.state.handshaken
shaken-by now w id e true = refl
shaken-by now w id e false = refl

reply-is : (w : Widths) (id : ℕ) (x : Sent) {S : Type 0} (e : Effect S) → IsSent w e.answer x → reply_of w id x ≡ reply_to w id e.answer
reply-is w id x e is = rw (is.error, is.bytes) refl

handled-kind : {S : Type 0} (m : Meaning S) (header : Header) (body : List ℕ) (k : PacketKind) (old new : Debuggee S) (end after : End) → header.kind ≡ k
    → IsHandled m (Packet (record { length = header.length; id = header.id; kind = k }) body) old new end after → IsHandled m (Packet header body) old new end after
handled-kind m header body k old new end after e h =
    subst (λ (x : PacketKind). IsHandled m (Packet (record { length = header.length; id = header.id; kind = x }) body) old new end after) (sym e) h

sent-is : (w : Widths) (id : ℕ) {S : Type 0} (e : Effect S) (visits : ℕ) (d mid : Debuggee S) (done : Done) (end : End) → IsDone w e visits d mid done
    → closed_where done.closes (with_enqueued (stream (reply_of w id done.sent ∷ deaths w mid.moment.state.next_packet done.dies)) end)
    ≡ closed_where (e.dies || e.closes) (with_enqueued (stream (reply_to w id e.answer ∷ deaths w e.after.state.next_packet e.dies)) end)
sent-is w id {S = S} e visits d mid done end h =
    ap (λ (b : Bool). closed_where b (with_enqueued (stream (reply_of w id done.sent ∷ deaths w mid.moment.state.next_packet done.dies)) end)) h.closes
    ∙ (ap (λ (x : Message). closed_where (e.dies || e.closes) (with_enqueued (stream (x ∷ deaths w mid.moment.state.next_packet done.dies)) end)) (reply-is w id done.sent e h.sends)
    ∙ (ap (λ (x : Debuggee S). closed_where (e.dies || e.closes) (with_enqueued (stream (reply_to w id e.answer ∷ deaths w x.moment.state.next_packet done.dies)) end)) h.after
    ∙ ap (λ (b : Bool). closed_where (e.dies || e.closes) (with_enqueued (stream (reply_to w id e.answer ∷ deaths w e.after.state.next_packet b)) end)) h.dies))

-- what is sent for it
died-sends : {S : Type 0} (now : Standing S) (w : Widths) (id : ℕ) (e : Effect S) (b : Bool) → reply_to w id e.answer ∷ deaths w e.after.state.next_packet b ≡ (replies_by now w id e b).sends
died-sends now w id e true = refl
died-sends now w id e false = refl

sends-are : {S : Type 0} (limit : ℕ) (now : Standing S) (w : Widths) (id : ℕ) (e : Effect S) (visits : ℕ) (d mid : Debuggee S) (done : Done) → IsDone w e visits d mid done
    → AreSendable limit (reply_of w id done.sent ∷ deaths w mid.moment.state.next_packet done.dies) → AreSendable limit (replies_by now w id e e.dies).sends
sends-are {S = S} limit now w id e visits d mid done h fits =
    subst (λ (x : List Message). AreSendable limit x)
    (ap (λ (x : Message). x ∷ deaths w mid.moment.state.next_packet done.dies) (reply-is w id done.sent e h.sends)
    ∙ (ap (λ (x : Debuggee S). reply_to w id e.answer ∷ deaths w x.moment.state.next_packet done.dies) h.after
    ∙ (ap (λ (b : Bool). reply_to w id e.answer ∷ deaths w e.after.state.next_packet b) h.dies ∙ died-sends now w id e e.dies)))
    fits

-- a command was handled, which was taken off an end that is established
command-handled : {S : Type 0} (m : Meaning S) (d mid new : Debuggee S) (header : Header) (body : List ℕ) (set number : ℕ) (end after : End) (done : Done) → header.kind ≡ kind.Command set number → end.phase ≡ Established
    → IsDone (m.sizes d.moment.machine) (carried_out m d.settings d.moment (read_as d.settings.profile (m.sizes d.moment.machine) set number body)) (visits_read m d.settings d.moment (read_as d.settings.profile (m.sizes d.moment.machine) set number body) d.visits) d mid done → d.moment.state.handshaken ≡ true
    → new ≡ after_deaths done.dies mid
    → after ≡ closed_where done.closes (with_enqueued (stream (reply_of (m.sizes d.moment.machine) header.id done.sent ∷ deaths (m.sizes d.moment.machine) mid.moment.state.next_packet done.dies)) end)
    → AreSendable end.limits.packet (reply_of (m.sizes d.moment.machine) header.id done.sent ∷ deaths (m.sizes d.moment.machine) mid.moment.state.next_packet done.dies)
    → IsHandled m (Packet header body) d new end after
command-handled {S = S} m d mid new header body set number end after done is session h shaken new-is after-is fits =
    let w = m.sizes d.moment.machine in
    let e = carried_out m d.settings d.moment (read_as d.settings.profile w set number body) in
    let now = stands d.moment Established in
    let visits = visits_read m d.settings d.moment (read_as d.settings.profile w set number body) d.visits in
    let debuggee : new ≡ visiting visits (debuggee_after (replies_by now w header.id e e.dies) d) = new-is ∙ (rw (h.dies, h.after) refl ∙ died now w header.id e e.dies visits d) in
    let same : end ≡ in_phase Established end = ap (λ (p : Phase). in_phase p end) session in
    handled-kind m header body (kind.Command set number) d new end after is (record {
      debuggee = debuggee;
      left = after-is
          ∙ (sent-is w header.id e visits d mid done end h
          ∙ (ap (λ (x : End). closed_where (e.dies || e.closes) (with_enqueued (stream (reply_to w header.id e.answer ∷ deaths w e.after.state.next_packet e.dies)) x)) same ∙ closed-by now w header.id e e.dies end));
      handshaken = ap (λ (x : Debuggee S). x.moment.state.handshaken) debuggee ∙ (shaken-by now w header.id e e.dies ∙ (h.handshaken ∙ shaken));
      sends = sends-are end.limits.packet now w header.id e visits d mid done h fits;
    })

-- the same, where the widths have a name of their own
command-replied : {S : Type 0} (m : Meaning S) (d mid new : Debuggee S) (header : Header) (body : List ℕ) (set number : ℕ) (end after : End) (done : Done) (w : Widths) → header.kind ≡ kind.Command set number → end.phase ≡ Established
    → IsDone (m.sizes d.moment.machine) (carried_out m d.settings d.moment (read_as d.settings.profile (m.sizes d.moment.machine) set number body)) (visits_read m d.settings d.moment (read_as d.settings.profile (m.sizes d.moment.machine) set number body) d.visits) d mid done → d.moment.state.handshaken ≡ true
    → new ≡ after_deaths done.dies mid → w ≡ m.sizes d.moment.machine
    → after ≡ closed_where done.closes (with_enqueued (stream (reply_of w header.id done.sent ∷ deaths w mid.moment.state.next_packet done.dies)) end)
    → end.limits ≡ d.settings.limits → least_packet_limit ≤ end.limits.packet
    → ((limit : ℕ) → least_packet_limit ≤ limit → 11 + length (sent_bytes w done.sent) ≤ limit → AreSendable limit (reply_of w header.id done.sent ∷ deaths w mid.moment.state.next_packet done.dies))
    → IsHandled m (Packet header body) d new end after
command-replied m d mid new header body set number end after done w is session h shaken new-is w-is after-is limits least fits =
    let enough : least_packet_limit ≤ d.settings.limits.packet = subst (λ (l : Limits). least_packet_limit ≤ l.packet) limits least in
    let within : 11 + length (sent_bytes w done.sent) ≤ d.settings.limits.packet =
    subst (λ (x : Widths). 11 + length (sent_bytes x done.sent) ≤ d.settings.limits.packet) (sym w-is) (h.fits enough) in
    let sends : AreSendable end.limits.packet (reply_of w header.id done.sent ∷ deaths w mid.moment.state.next_packet done.dies) =
    subst (λ (l : Limits). AreSendable l.packet (reply_of w header.id done.sent ∷ deaths w mid.moment.state.next_packet done.dies)) (sym limits) (fits d.settings.limits.packet enough within) in
    command-handled m d mid new header body set number end after done is session h shaken new-is
    (after-is ∙ ap (λ (x : Widths). closed_where done.closes (with_enqueued (stream (reply_of x header.id done.sent ∷ deaths x mid.moment.state.next_packet done.dies)) end)) w-is)
    (subst (λ (x : Widths). AreSendable end.limits.packet (reply_of x header.id done.sent ∷ deaths x mid.moment.state.next_packet done.dies)) w-is sends)

-- the same of a command as it was read
pub command-came : {S : Type 0} (m : Meaning S) (d mid new : Debuggee S) (header : Header) (body : List ℕ) (end after : End) (done : Done) (w : Widths) (id : ℕ)
    → IsAnswered m d mid header.id header.kind body id done → end.phase ≡ Established → w ≡ m.sizes d.moment.machine
    → d.moment.state.handshaken ≡ true → new ≡ after_deaths done.dies mid
    → after ≡ closed_where done.closes (with_enqueued (stream (reply_of w id done.sent ∷ deaths w mid.moment.state.next_packet done.dies)) end)
    → end.limits ≡ d.settings.limits → least_packet_limit ≤ end.limits.packet
    → ((limit : ℕ) → least_packet_limit ≤ limit → 11 + length (sent_bytes w done.sent) ≤ limit → AreSendable limit (reply_of w id done.sent ∷ deaths w mid.moment.state.next_packet done.dies))
    → IsHandled m (Packet header body) d new end after
command-came m d mid new header body end after done w id (set, number, is, same, did) session w-is shaken new-is after-is limits least fits =
    command-replied m d mid new header body set number end after done w is session did.becomes shaken new-is w-is
    (after-is ∙ ap (λ (n : ℕ). closed_where done.closes (with_enqueued (stream (reply_of w n done.sent ∷ deaths w mid.moment.state.next_packet done.dies)) end)) same)
    limits least
    (λ limit enough within. subst (λ (n : ℕ). AreSendable limit (reply_of w n done.sent ∷ deaths w mid.moment.state.next_packet done.dies)) same (fits limit enough within))

-- the same at a turn, where the end without the message has a name of its own
pub command-taken : {S : Type 0} (m : Meaning S) (d mid new : Debuggee S) (header : Header) (body : List ℕ) (used : ℕ) (end off after : End) (done : Done) (w : Widths) (id : ℕ)
    → IsAnswered m d mid header.id header.kind body id done → w ≡ m.sizes d.moment.machine
    → d.moment.state.handshaken ≡ true → new ≡ after_deaths done.dies mid → off ≡ ends.with_handled (Packet header body) used end
    → after ≡ closed_where done.closes (with_enqueued (stream (reply_of w id done.sent ∷ deaths w mid.moment.state.next_packet done.dies)) off)
    → end.limits ≡ d.settings.limits → least_packet_limit ≤ end.limits.packet
    → ((limit : ℕ) → least_packet_limit ≤ limit → 11 + length (sent_bytes w done.sent) ≤ limit → AreSendable limit (reply_of w id done.sent ∷ deaths w mid.moment.state.next_packet done.dies))
    → IsHandled m (Packet header body) d new (ends.with_handled (Packet header body) used end) after
command-taken m d mid new header body used end off after done w id read w-is shaken new-is off-is after-is limits least fits =
    command-came m d mid new header body (ends.with_handled (Packet header body) used end) after done w id read refl w-is shaken new-is
    (after-is ∙ ap (λ (x : End). closed_where done.closes (with_enqueued (stream (reply_of w id done.sent ∷ deaths w mid.moment.state.next_packet done.dies)) x)) off-is)
    limits least fits

-- nothing was put
pub nothing-put : (message : Message) (used : ℕ) (end : End) → ends.with_handled message used end ≡ in_phase Established (with_enqueued [] (ends.with_handled message used end))
nothing-put message used end = rw (append-nil end.outgoing, append-nil end.session.enqueued) refl

-- a reply that came was ignored
pub reply-handled : {S : Type 0} (m : Meaning S) (d new : Debuggee S) (header : Header) (body : List ℕ) (used : ℕ) (error : ErrorCode) (end after : End) → header.kind ≡ kind.Reply error
    → d.moment.state.handshaken ≡ true → new ≡ d → after ≡ ends.with_handled (Packet header body) used end → IsHandled m (Packet header body) d new (ends.with_handled (Packet header body) used end) after
reply-handled {S = S} m d new header body used error end after is shaken same after-is =
    handled-kind m header body (kind.Reply error) d new (ends.with_handled (Packet header body) used end) after is (record {
      debuggee = same;
      left = after-is ∙ nothing-put (Packet header body) used end;
      handshaken = ap (λ (x : Debuggee S). x.moment.state.handshaken) same ∙ shaken;
      sends = tt;
    })

-- the handshake was answered
greeted-end : {S : Type 0} (m : Meaning S) (settings : Settings) (now : Moment S) (b : Bool) (end : End)
    → with_enqueued (stream (greets_by m settings (stands now Established) b).sends) (ends.with_handled Handshake 14 end) ≡ end_after (greets_by m settings (stands now Established) b) (ends.with_handled Handshake 14 end)
greeted-end m settings now true end = refl
greeted-end m settings now false end = refl

greeted-shaken : {S : Type 0} (m : Meaning S) (settings : Settings) (now : Moment S) (b : Bool) → now.state.handshaken ≡ b → (greets_by m settings (stands now Established) b).after.moment.state.handshaken ≡ true
greeted-shaken m settings now true e = e
greeted-shaken m settings now false e = refl

pub greeted : {S : Type 0} (m : Meaning S) (d new : Debuggee S) (end mid after : End) → mid ≡ ends.with_handled Handshake 14 end
    → new ≡ visiting (visits_hello d.settings d.moment.state d.moment.state.handshaken d.visits) (debuggee_after (greets_by m d.settings (stands d.moment Established) d.moment.state.handshaken) d)
    → after ≡ with_enqueued (stream (greets_by m d.settings (stands d.moment Established) d.moment.state.handshaken).sends) mid
    → end.limits ≡ d.settings.limits → AreSendable d.settings.limits.packet (greets_by m d.settings (stands d.moment Established) d.moment.state.handshaken).sends
    → IsHandled m Handshake d new (ends.with_handled Handshake 14 end) after
greeted {S = S} m d new end mid after mid-is new-is after-is limits fits =
    let b = d.moment.state.handshaken in
    record {
      debuggee = new-is;
      left = after-is ∙ (ap (λ (x : End). with_enqueued (stream (greets_by m d.settings (stands d.moment Established) b).sends) x) mid-is ∙ greeted-end m d.settings d.moment b end);
      handshaken = ap (λ (x : Debuggee S). x.moment.state.handshaken) new-is ∙ greeted-shaken m d.settings d.moment b refl;
      sends = subst (λ (l : Limits). AreSendable l.packet (greets_by m d.settings (stands d.moment Established) b).sends) (sym limits) fits;
    }

-- ---- the target behind a message

-- a packet comes after the first handshake
pub packet-handshaken : {S : Type 0} (m : Meaning S) (d : Debuggee S) (x : Deferral) (began : List (Debuggee S)) (phases : List Phase) (steps : ℕ) (end : End) (header : Header) (body : List ℕ) (used : ℕ)
    → IsRightTarget m d x began phases steps end → IsBytes end.incoming → front_of end ≡ Whole (Packet header body) used → d.moment.state.handshaken ≡ true
packet-handshaken m d x began phases steps end header body used right fits front =
    right.handshaken (packet-phase end.limits.packet end.phase header body (in-front end (Packet header body) used fits front).1)

-- what is deferred behind a message that is handled
abbrev pub deferral_handled : {S : Type 0} → Meaning S → Message → Debuggee S → Deferral → Deferral
deferral_handled m message d x = record x { commands = cond (is_established_phase (handles m d.settings (stands d.moment Established) message).after.phase) x.commands [] }

-- the same, as the end tells it behind the message
pub left-deferred : {S : Type 0} (m : Meaning S) (message : Message) (d new : Debuggee S) (x y : Deferral) (end after : End) (goes_on : Bool) → IsHandled m message d new end after
    → goes_on ≡ is_established_phase after.phase → y ≡ record x { commands = cond goes_on x.commands [] } → y ≡ deferral_handled m message d x
left-deferred m message d new x y end after goes_on h same left =
    left ∙ (ap (λ (b : Bool). record x { commands = cond b x.commands [] }) same ∙ ap (λ (e : End). record x { commands = cond (is_established_phase e.phase) x.commands [] }) h.left)

-- the handshake and replies leave all that is deferred
greets-stays : {S : Type 0} (m : Meaning S) (settings : Settings) (now : Moment S) (x : Deferral) (b : Bool) → x ≡ record x { commands = cond (is_established_phase (greets_by m settings (stands now Established) b).after.phase) x.commands [] }
greets-stays m settings now x true = refl
greets-stays m settings now x false = refl

pub hello-stays : {S : Type 0} (m : Meaning S) (d : Debuggee S) (x : Deferral) → x ≡ deferral_handled m Handshake d x
hello-stays m d x = greets-stays m d.settings d.moment x d.moment.state.handshaken

reply-stays-by : {S : Type 0} (m : Meaning S) (d : Debuggee S) (x : Deferral) (id : ℕ) (k : PacketKind) (body : List ℕ) (error : ErrorCode) → k ≡ kind.Reply error
    → x ≡ record x { commands = cond (is_established_phase (handles_packet m d.settings (stands d.moment Established) id k body).after.phase) x.commands [] }
reply-stays-by m d x id k body error is = rw is refl

pub reply-stays : {S : Type 0} (m : Meaning S) (d : Debuggee S) (x : Deferral) (header : Header) (body : List ℕ) (error : ErrorCode) → header.kind ≡ kind.Reply error → x ≡ deferral_handled m (Packet header body) d x
reply-stays m d x header body error is = reply-stays-by m d x header.id header.kind body error is

pub handled-view : {S : Type 0} (m : Meaning S) (d new : Debuggee S) (x y : Deferral) (began : List (Debuggee S)) (phases : List Phase) (steps : ℕ) (end after : End) (message : Message) (used : ℕ)
    → IsRightTarget m d x began phases steps end → defers (full_standing (target_of d x began phases steps end)) message ≡ false → y ≡ deferral_handled m message d x → IsHandled m message d new (ends.with_handled message used end) after
    → target_of new y began phases steps after ≡ with_handled m message used (target_of d x began phases steps end)
handled-view m d new x y began phases steps end after message used right at_once left h =
    let split = right.some.2 in
    rw (h.debuggee, h.left, left, at_once, split) refl

-- what is sent for a message that is handled at once
pub sends-at-once : {S : Type 0} (m : Meaning S) (v : Target S) (message : Message) → defers (full_standing v) message ≡ false → AreSendable v.end.limits.packet (handles m v.settings (stands v.moment Established) message).sends
    → AreSendable v.end.limits.packet (perform m v.settings (full_standing v) (Does (Handles message))).sends
sends-at-once m v message at_once fits = rw at_once fits

pub right-handled : {S : Type 0} (m : Meaning S) (d new : Debuggee S) (x y : Deferral) (began : List (Debuggee S)) (phases : List Phase) (steps : ℕ) (end after : End) (message : Message) (used : ℕ)
    → IsRightTarget m d x began phases steps end → IsBytes end.incoming → front_of end ≡ Whole message used → defers (full_standing (target_of d x began phases steps end)) message ≡ false → y ≡ deferral_handled m message d x
    → IsHandled m message d new (ends.with_handled message used end) after → IsRightTarget m new y began phases steps after
right-handled m d new x y began phases steps end after message used right fits front at_once left h =
    let old = target_of d x began phases steps end in
    record {
      some = right.some;
      handshaken = λ _. h.handshaken;
      limits = rw (h.debuggee, h.left) right.limits;
      ran = subst (Ran m) (sym (handled-view m d new x y began phases steps end after message used right at_once left h)) (ran-handled m old message used fits front (sends-at-once m old message at_once h.sends) right.ran);
    }

pub turns-whole : {S : Type 0} (m : Meaning S) (old new : Target S) (message : Message) (used : ℕ) (told : Turn) (b : Bool) → front_of old.end ≡ Whole message used → defers (full_standing old) message ≡ b
    → told ≡ told_where m old message b → new ≡ with_handled m message used old → TurnsAt m (front_of old.end) old (Ok told) new
turns-whole m old new message used told b front deferred tells same =
    subst (λ (x : NextMessage). TurnsAt m x old (Ok told) new) (sym front) (tells ∙ ap (λ (x : Bool). told_where m old message x) (sym deferred), same)

pub sends-whole : {S : Type 0} (m : Meaning S) (old : Target S) (message : Message) (used : ℕ) → front_of old.end ≡ Whole message used → defers (full_standing old) message ≡ false
    → AreSendable old.end.limits.packet (handles m old.settings (stands old.moment Established) message).sends → SendsAt m (front_of old.end) old
sends-whole m old message used front at_once fits = subst (λ (x : NextMessage). SendsAt m x old) (sym front) (sends-at-once m old message at_once fits)

-- ---- room, and want of memory

-- where something is in front, less than a packet may have waits to leave
pub front-room : (end : End) (message : Message) (used : ℕ) → front_of end ≡ Whole message used → length end.outgoing + 1 ≤ end.limits.packet
front-room end message used found = omega (arith, leb-false end.limits.packet (length end.outgoing) (front-whole end message used found).0)

-- there is room for what is sent for a command
pub command-room : {S : Type 0} (m : Meaning S) (d mid : Debuggee S) (header : Header) (body : List ℕ) (end : End) (done : Done) (w : Widths) (id : ℕ)
    → IsAnswered m d mid header.id header.kind body id done → w ≡ m.sizes d.moment.machine
    → end.limits ≡ d.settings.limits → least_packet_limit ≤ end.limits.packet → length end.outgoing + 1 ≤ end.limits.packet
    → length end.outgoing + (11 + length (sent_bytes w done.sent)) ≤ most_outgoing end.limits
command-room m d mid header body end done w id (set, number, is, same, did) w-is limits least room =
    let small : 11 + length (sent_bytes w done.sent) ≤ end.limits.packet = rw (w-is, limits) (did.becomes.fits (subst (λ (x : Limits). least_packet_limit ≤ x.packet) limits least)) in
    omega (arith, room, small)

not-short : (a b : Bool) → (a ≡ true → b ≡ true) → b ≡ false → a ≡ false
not-short true b short long = absurd (let same = short refl in cc)
not-short false b short long = refl

-- what wants memory is no short command
pub wants-long : (set number : ℕ) (asked : code.ParsedCommand.ParsedCommand) → (is_short set number ≡ true → is_short_asked (asked_meaning asked) ≡ true) → is_short_asked (asked_meaning asked) ≡ false
    → is_short set number ≡ false
wants-long set number asked short long = not-short (is_short set number) (is_short_asked (asked_meaning asked)) short long

-- at a turn, where it is handled at once
pub needs-at-once : {S : Type 0} (m : Meaning S) (old : Target S) (message : Message) → defers (full_standing old) message ≡ false → NeedsMemoryToHandle m old message → NeedsMemory m old message
needs-at-once m old message at_once needs = rw at_once needs

-- and where it is put off
pub needs-to-defer : {S : Type 0} (m : Meaning S) (old : Target S) (message : Message) → defers (full_standing old) message ≡ true → HasData message → NeedsMemory m old message
needs-to-defer m old message deferred some = rw deferred some

pub turns-wanting : {S : Type 0} (m : Meaning S) (old new : Target S) (message : Message) (used : ℕ) (result : Result Turn TargetFault) → front_of old.end ≡ Whole message used
    → result ≡ Err fault.NoMemory → NeedsMemory m old message → new ≡ old → TurnsAt m (front_of old.end) old result new
turns-wanting m old new message used result front is needs same =
    subst (λ (x : NextMessage). TurnsAt m x old result new) (sym front) (subst (λ (x : Result Turn TargetFault). TurnsAt m (Whole message used) old x new) (sym is) (refl, needs, same))

-- what is told of a command that was carried out
pub told-command : {S : Type 0} (m : Meaning S) (old : Target S) (header : Header) (body : List ℕ) (id set number : ℕ) (error : ErrorCode) → header.kind ≡ kind.Command set number → id ≡ header.id
    → error ≡ error_of (carried_out m old.settings old.moment (read_as old.settings.profile (m.sizes old.moment.machine) set number body)).answer
    → turn.Replied id error ≡ told_of_packet m old header.id header.kind body
told-command m old header body id set number error is same tells =
    subst (λ (x : PacketKind). turn.Replied id error ≡ told_of_packet m old header.id x body) (sym is)
    (ap (λ (n : ℕ). turn.Replied n error) same ∙ ap (λ (x : ErrorCode). turn.Replied header.id x) tells)

-- ---- VM_START

abbrev int_bytes : ℕ → List ℕ
int_bytes n = int_canonical (pos n)

-- the data of VM_START before its thread
abbrev pub start_front : ℕ → List ℕ
start_front policy = (policy ∷ []) ++ (int_bytes 1 ++ ((90 ∷ []) ++ int_bytes 0))

start-data : (w : Widths) (policy thread : ℕ) → data_canonical w (composite_data (vm_start policy thread)) ≡ start_front policy ++ big_bytes w.object thread
start-data w policy thread =
    let t = big_bytes w.object thread in
    let bare : ((t ++ []) ++ []) ++ [] ≡ t = append-nil ((t ++ []) ++ []) ∙ (append-nil (t ++ []) ∙ append-nil t) in
    ap (λ (x : List ℕ). start_front policy ++ x) bare

pub start-bytes : (w : Widths) (id policy thread : ℕ) → message_bytes (report_of w id (vm_start policy thread))
    ≡ header_bytes (record { length = 11 + (10 + w.object); id = id; kind = kind.Command EVENT COMPOSITE.number }) ++ (start_front policy ++ big_bytes w.object thread)
start-bytes w id policy thread =
    let body = data_canonical w (composite_data (vm_start policy thread)) in
    let size : length (big_bytes w.object thread) ≡ w.object = length-bytes_high_first w.object thread in
    let same = start-data w policy thread in
    let front : length (start_front policy) ≡ 10 = refl in
    let all : length body ≡ 10 + w.object = ap length same ∙ (length-append (start_front policy) (big_bytes w.object thread) ∙ rw (front, size) refl) in
    ap (λ (n : ℕ). header_bytes (record { length = 11 + n; id = id; kind = kind.Command EVENT COMPOSITE.number }) ++ body) all
    ∙ ap (λ (x : List ℕ). header_bytes (record { length = 11 + (10 + w.object); id = id; kind = kind.Command EVENT COMPOSITE.number }) ++ x) same

-- there is room behind what was enqueued
pub room-behind : (e f : End) (bytes : List ℕ) (n k : ℕ) → f ≡ with_enqueued bytes e → length bytes ≡ k → length e.outgoing + (k + n) ≤ most_outgoing e.limits → length f.outgoing + n ≤ most_outgoing f.limits
room-behind e f bytes n k is size room = rw is (omega (arith, length-append e.outgoing bytes, size, room))

-- ---- a reply, alone or with VM_DEATH behind it

pub put-alone : (e f : End) (w : Widths) (id next : ℕ) (x : Sent) (b : Bool) → b ≡ false → f ≡ with_enqueued (message_bytes (reply_of w id x)) e
    → f ≡ with_enqueued (stream (reply_of w id x ∷ deaths w next b)) e
put-alone e f w id next x b is f-is = rw is (f-is ∙ ap (λ (y : List ℕ). with_enqueued y e) (sym (append-nil (message_bytes (reply_of w id x)))))

pub put-death : (e f h : End) (w : Widths) (id next taken : ℕ) (x : Sent) (b : Bool) → b ≡ true → f ≡ with_enqueued (message_bytes (reply_of w id x)) e
    → h ≡ with_enqueued (message_bytes (report_of w taken vm_death)) f → taken ≡ next → h ≡ with_enqueued (stream (reply_of w id x ∷ deaths w next b)) e
put-death e f h w id next taken x b is f-is h-is same =
    rw is
    (two_enqueued e f h (message_bytes (reply_of w id x)) (message_bytes (report_of w taken vm_death)) (message_bytes (reply_of w id x)) (stream (report_of w next vm_death ∷ [])) refl
    (ap (λ (n : ℕ). message_bytes (report_of w n vm_death)) same ∙ sym (append-nil (message_bytes (report_of w next vm_death)))) f-is h-is)
