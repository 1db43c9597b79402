-- What a command is answered is encoded by the bytes that are sent for it, whether it was carried out or refused.
use Rattle.std.proofs.Common.{◌≡◌, ◌≢◌, ℕ, Bool, true, false, List, Some, Result, Ok, Err, if◌then◌else◌, refl, sym, subst, arith}
use Rattle.std.specs.Prelude.{IfErr, IfOk}
use Rattle.jdwp_wire.specs.ErrorCodes.{ILLEGAL_ARGUMENT, NONE, NOT_IMPLEMENTED}
use Rattle.jdwp_wire.specs.Streams.{Message, NextMessage, Packet, Whole}
use Rattle.jdwp_wire.specs.Widths.{Widths}
use Rattle.jdwp_wire.specs.declared.data_fault.DataFault.{DataFault}
use Rattle.jdwp_wire.specs.declared.error_code.ErrorCode.{ErrorCode}
use Rattle.jdwp_wire.specs.declared.no_memory.NoMemory.{NoMemory}
use Rattle.jdwp_wire.specs.declared.packet.Header.{Header}
use Rattle.jdwp_wire.specs.declared.packet.PacketKind.{PacketKind}
use Rattle.jdwp_wire.specs.declared.packet.PacketKind.TheVariants as kind
use Rattle.jdwp_end.specs.Ends.{front_of}
use Rattle.jdwp_layout.specs.CommandTable.{row_at}
use Rattle.jdwp_layout.specs.Meanings.{DatumMeaning}
use Rattle.jdwp_layout.specs.Reads.{data_at}
use Rattle.jdwp_machine.specs.Meanings.{Meaning}
use Rattle.jdwp_action.specs.Actions.{Command, action_of}
use Rattle.jdwp_action.specs.CommandReads.{content_read}
use Rattle.jdwp_machine.specs.declared.profile.Profile.{Profile}
use Rattle.jdwp_debuggee.specs.Answering.{is_read, read_as, unread_as, with_bytes}
use Rattle.jdwp_machine.specs.Profiles.{adds_raw}
use Rattle.jdwp_action.specs.RowLayouts.{row_request}
use Rattle.jdwp_debuggee.specs.Askings.{asked_meaning, asking, asking_of, asks}
use Rattle.jdwp_debuggee.specs.Debuggees.{Debuggee}
use Rattle.jdwp_debuggee.specs.Effects.{carried, does, effect, effect_by}
use Rattle.jdwp_action.specs.AnswerPackets.{EncodesAnswer}
use Rattle.jdwp_debuggee.specs.Sending.{is_question}
use Rattle.jdwp_debuggee.specs.Settings.{Settings}
use Rattle.jdwp_debuggee.specs.State.{Moment}
use Rattle.jdwp_debuggee.specs.Steps.{start_event}
use Rattle.jdwp_debuggee.specs.declared.command as code
use Rattle.jdwp_target.specs.Standings.{carried_out}
use Rattle.jdwp_target.specs.Deeds.{defers}
use Rattle.jdwp_target.specs.Targets.{Target, full_standing}
use Rattle.jdwp_target.specs.Sends.{IsEncoded}
use Rattle.jdwp_target.specs.TurnParts.{IsCarriedOut, IsDone}
use Rattle.jdwp_target.specs.Turns.{EncodesByKind, EncodesFor, EncodesNext, EncodesStart, EncodesUnless}
use Rattle.jdwp_target.specs.Visits.{visits_read}
use Rattle.jdwp_target.specs.declared.turning.Done.{Done}
use Rattle.jdwp_target.proofs.RightTurns.{WasRead, asking-same, carried-shaken, was-read}

-- ---- a command that is refused unread

abbrev read_err : ErrorCode → Result Command ErrorCode
read_err e = Err e

error-same : (x y : ErrorCode) → read_err x ≡ read_err y → x ≡ y
error-same x y e = cc

refused-content : (set number : ℕ) (found : Result (List DatumMeaning) DataFault) (x : ErrorCode) → content_read set number found ≡ Err x → x.0 ≢ NONE.0
refused-content set number (Ok content) x e = absurd cc
refused-content set number (Err fault) x e = subst (λ (y : ErrorCode). y.0 ≢ NONE.0) (error-same ILLEGAL_ARGUMENT x e) (omega arith)

refused-by : (set number : ℕ) (bytes : List ℕ) (found : Result (List DatumMeaning) DataFault) (b r : Bool) (x : ErrorCode) → (if b then content_read set number found else unread_as set number bytes r) ≡ Err x → x.0 ≢ NONE.0
refused-by set number bytes found true r x e = refused-content set number found x e
refused-by set number bytes found false true x e = absurd cc
refused-by set number bytes found false false x e = subst (λ (y : ErrorCode). y.0 ≢ NONE.0) (error-same NOT_IMPLEMENTED x e) (omega arith)

was-refused : (p : Profile) (w : Widths) (set number : ℕ) (bytes : List ℕ) (x : ErrorCode) → read_as p w set number bytes ≡ Err x → x.0 ≢ NONE.0
was-refused p w set number bytes x e = refused-by set number bytes (data_at w (row_request (row_at set number)) bytes) (is_read p (with_bytes set number bytes)) (adds_raw p set number) x e

refused-read : {S : Type 0} (m : Meaning S) (settings : Settings) (now : Moment S) (w : Widths) (set number : ℕ) (error : ErrorCode) (read : Result Command ErrorCode)
    → ((x : ErrorCode) → read ≡ Err x → x.0 ≢ NONE.0) → Err error ≡ asks read → EncodesAnswer w set number (carried_out m settings now read).answer
refused-read m settings now w set number error (Ok c) other e = absurd cc
refused-read m settings now w set number error (Err x) other e = other x refl

pub refused-encoded : {S : Type 0} (m : Meaning S) (settings : Settings) (now : Moment S) (w : Widths) (set number : ℕ) (body : List ℕ) (error : ErrorCode)
    → Err error ≡ asks (read_as settings.profile w set number body) → EncodesAnswer w set number (carried_out m settings now (read_as settings.profile w set number body)).answer
refused-encoded m settings now w set number body error e =
    refused-read m settings now w set number error (read_as settings.profile w set number body) (was-refused settings.profile w set number body) e

-- ---- a command that is carried out

by-question : (b : Bool) (P : Type 0) → (b ≡ true → P) → (b ≡ false → P) → P
by-question true P asked own = asked refl
by-question false P asked own = own refl

answer-encoded : {S : Type 0} (m : Meaning S) (settings : Settings) (now : Moment S) (w : Widths) (set number : ℕ) (c : Command) → WasRead settings.profile set number c
    → now.state.handshaken ≡ true → EncodesAnswer w c.set c.number (carried m settings now c (action_of c)).answer → EncodesAnswer w set number (effect m settings now c).answer
answer-encoded m settings now w set number c r shaken h =
    let answer = (does m settings now c (action_of c)).answer in
    let on : EncodesAnswer w c.set c.number answer = rw (carried-shaken m settings now c (action_of c) shaken) at h in
    let here : EncodesAnswer w set c.number answer = subst (λ (x : ℕ). EncodesAnswer w x c.number answer) r.set on in
    let there : EncodesAnswer w set number answer = subst (λ (x : ℕ). EncodesAnswer w set x answer) r.number here in
    subst (λ (b : Bool). EncodesAnswer w set number (effect_by m settings now c b).answer) (sym r.implemented) there

carried-read : {S : Type 0} (m : Meaning S) (settings : Settings) (now : Moment S) (w : Widths) (set number : ℕ) (a : code.Action.Action) (read : Result Command ErrorCode)
    → ((c : Command) → read ≡ Ok c → WasRead settings.profile set number c) → Ok (asking a) ≡ asks read → now.state.handshaken ≡ true
    → ((c : Command) → asking a ≡ asking_of c → is_question (action_of c) ≡ true → EncodesAnswer w c.set c.number (carried m settings now c (action_of c)).answer)
    → ((c : Command) → is_question (action_of c) ≡ false → EncodesAnswer w c.set c.number (carried m settings now c (action_of c)).answer)
    → EncodesAnswer w set number (carried_out m settings now read).answer
carried-read m settings now w set number a (Ok c) was e shaken asked own =
    let same = asking-same (asking a) (asking_of c) e in
    let of-it = EncodesAnswer w c.set c.number (carried m settings now c (action_of c)).answer in
    answer-encoded m settings now w set number c (was c refl) shaken (by-question (is_question (action_of c)) of-it (asked c same) (own c))
carried-read m settings now w set number a (Err x) was e shaken asked own = absurd cc

pub carried-encoded : {S : Type 0} (m : Meaning S) (settings : Settings) (now : Moment S) (w : Widths) (set number : ℕ) (body : List ℕ) (a : code.Action.Action)
    → Ok (asking a) ≡ asks (read_as settings.profile w set number body) → now.state.handshaken ≡ true
    → ((c : Command) → asking a ≡ asking_of c → is_question (action_of c) ≡ true → EncodesAnswer w c.set c.number (carried m settings now c (action_of c)).answer)
    → ((c : Command) → is_question (action_of c) ≡ false → EncodesAnswer w c.set c.number (carried m settings now c (action_of c)).answer)
    → EncodesAnswer w set number (carried_out m settings now (read_as settings.profile w set number body)).answer
carried-encoded m settings now w set number body a e shaken asked own =
    carried-read m settings now w set number a (read_as settings.profile w set number body) (was-read settings.profile w set number body) e shaken asked own

-- ---- a command that was read, and carried out or refused

pub carried-out : {S : Type 0} (m : Meaning S) (old new : Debuggee S) (set number : ℕ) (body : List ℕ) (asked : code.ParsedCommand.ParsedCommand) (result : Result Done NoMemory)
    → asked_meaning asked ≡ asks (read_as old.settings.profile (m.sizes old.moment.machine) set number body)
    → IfOk result (λ done. (s n : ℕ) (b : List ℕ) → asked_meaning asked ≡ asks (read_as old.settings.profile (m.sizes old.moment.machine) s n b)
    → IsDone (m.sizes old.moment.machine) (carried_out m old.settings old.moment (read_as old.settings.profile (m.sizes old.moment.machine) s n b)) (visits_read m old.settings old.moment (read_as old.settings.profile (m.sizes old.moment.machine) s n b) old.visits) old new done)
    → IfOk result (λ _. (s n : ℕ) (b : List ℕ) → asked_meaning asked ≡ asks (read_as old.settings.profile (m.sizes old.moment.machine) s n b)
    → EncodesAnswer (m.sizes old.moment.machine) s n (carried_out m old.settings old.moment (read_as old.settings.profile (m.sizes old.moment.machine) s n b)).answer)
    → IfOk result (IsCarriedOut m old new set number body)
carried-out m old new set number body asked (Ok done) value did encoded = record { becomes = did set number body value; encoded = encoded set number body value }
carried-out m old new set number body asked (Err e) value did encoded = tt

-- what holds where memory is wanted
pub wants-both : (result : Result Done NoMemory) (P Q R : Type 0) → IfErr result (λ _. P) → IfErr result (λ _. Q) → (P → Q → R) → IfErr result (λ _. R)
wants-both (Ok done) P Q R p q h = tt
wants-both (Err e) P Q R p q h = h p q

-- ---- by what there is to handle

pub encodes-whole : {S : Type 0} (m : Meaning S) (v : Target S) (message : Message) (used : ℕ) → front_of v.end ≡ Whole message used → defers (full_standing v) message ≡ false → EncodesFor m v message
    → EncodesNext m (front_of v.end) v
encodes-whole m v message used front at_once h = subst (λ (x : NextMessage). EncodesNext m x v) (sym front) (subst (λ (b : Bool). EncodesUnless m v message b) (sym at_once) h)

-- nothing is sent for a command that is put off
pub encodes-nothing : {S : Type 0} (m : Meaning S) (v : Target S) (message : Message) (used : ℕ) → front_of v.end ≡ Whole message used → defers (full_standing v) message ≡ true → EncodesNext m (front_of v.end) v
encodes-nothing m v message used front deferred = subst (λ (x : NextMessage). EncodesNext m x v) (sym front) (subst (λ (b : Bool). EncodesUnless m v message b) (sym deferred) tt)

-- VM_START, where the handshake is the first
pub encodes-start : {S : Type 0} (m : Meaning S) (v : Target S) (b : Bool) → (b ≡ false → IsEncoded (m.sizes v.moment.machine) (Some (start_event v.settings v.moment.state))) → EncodesStart m v b
encodes-start m v true h = tt
encodes-start m v false h = h refl

pub encodes-command : {S : Type 0} (m : Meaning S) (v : Target S) (header : Header) (body : List ℕ) (set number : ℕ) → header.kind ≡ kind.Command set number
    → EncodesAnswer (m.sizes v.moment.machine) set number (carried_out m v.settings v.moment (read_as v.settings.profile (m.sizes v.moment.machine) set number body)).answer
    → EncodesFor m v (Packet header body)
encodes-command m v header body set number is h = subst (λ (x : PacketKind). EncodesByKind m v x body) (sym is) h

pub encodes-ignored : {S : Type 0} (m : Meaning S) (v : Target S) (header : Header) (body : List ℕ) (error : ErrorCode) → header.kind ≡ kind.Reply error → EncodesFor m v (Packet header body)
encodes-ignored m v header body error is = subst (λ (x : PacketKind). EncodesByKind m v x body) (sym is) tt
