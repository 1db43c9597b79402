-- Commands for which there was no memory: the debuggee refuses them by itself, or it may want memory for them.
use Rattle.std.proofs.Common.{◌≡◌, ◌≤◌, ℕ, false, List, None, Result, Ok, Err, refl, sym, subst, arith}
use Rattle.std.proofs.Common.{inl, inr}
use Rattle.jdwp_wire.specs.Widths.{Widths}
use Rattle.jdwp_wire.specs.declared.error_code.ErrorCode.{ErrorCode}
use Rattle.jdwp_layout.specs.declared.answer.Answer.TheVariants.{Error}
use Rattle.jdwp_machine.specs.Meanings.{Meaning}
use Rattle.jdwp_action.specs.Actions
use Rattle.jdwp_action.specs.Actions.{Action, Command, action_of}
use Rattle.jdwp_action.specs.AnswerPackets.{EncodesAnswer}
use Rattle.jdwp_debuggee.specs.Answering.{read_as}
use Rattle.jdwp_debuggee.specs.Askings.{asked_meaning, asks, is_short, question_of}
use Rattle.jdwp_debuggee.specs.Debuggees.{Debuggee}
use Rattle.jdwp_debuggee.specs.Effects.{Effect, effect, refused}
use Rattle.jdwp_debuggee.specs.Settings.{Settings}
use Rattle.jdwp_debuggee.specs.State.{Moment, Thread}
use Rattle.jdwp_debuggee.specs.Visits.{visits_by, visits_carried}
use Rattle.jdwp_debuggee.specs.Wants.{MayWantAsRead, MayWantAsked, ReadsData, own_refusal}
use Rattle.jdwp_debuggee.specs.declared.command as code
use Rattle.jdwp_debuggee.specs.declared.reply.Reply.TheVariants as reply
use Rattle.jdwp_debuggee.specs.declared.reply.Sent.TheVariants as sent
use Rattle.jdwp_debuggee.proofs.OwnRefusals.{wanting-admitted}
use Rattle.jdwp_target.specs.Standings.{carried_out}
use Rattle.jdwp_target.specs.TurnParts.{IsCarriedOut, IsDone}
use Rattle.jdwp_target.specs.Visits.{visits_read}
use Rattle.jdwp_target.specs.declared.turning.Done.{Done}
use Rattle.jdwp_machine.specs.declared.profile.Profile.{Profile}
use Rattle.jdwp_target.proofs.RightTurns.{WasRead, was-read}

-- ---- it may want memory

-- to be carried out, behind reading
wants-by : {S : Type 0} (p : Profile) (m : Meaning S) (settings : Settings) (now : Moment S) (set number : ℕ) (read : Result Command ErrorCode) → ((c : Command) → read ≡ Ok c → WasRead p set number c) → is_short set number ≡ false
    → MayWantAsked m settings now (asks read) → MayWantAsRead m settings now read
wants-by p m settings now set number (Ok c) was long wants =
    let read = was c refl in
    record { long = rw (read.set, read.number) long; admitted = wanting-admitted m settings now (question_of c) (action_of c) wants; for = inr wants }
wants-by p m settings now set number (Err e) was long wants = wants

pub wants-carried : {S : Type 0} (m : Meaning S) (settings : Settings) (now : Moment S) (w : Widths) (set number : ℕ) (body : List ℕ) (asked : code.ParsedCommand.ParsedCommand)
    → asked_meaning asked ≡ asks (read_as settings.profile w set number body) → is_short set number ≡ false → MayWantAsked m settings now (asked_meaning asked) → MayWantAsRead m settings now (read_as settings.profile w set number body)
wants-carried m settings now w set number body asked value long wants =
    wants-by settings.profile m settings now set number (read_as settings.profile w set number body) (was-read settings.profile w set number body) long (rw value at wants)

-- to be read
unread-by : {S : Type 0} (p : Profile) (m : Meaning S) (settings : Settings) (now : Moment S) (set number : ℕ) (read : Result Command ErrorCode) → ((c : Command) → read ≡ Ok c → WasRead p set number c) → is_short set number ≡ false
    → ReadsData read → ((c : Command) → read ≡ Ok c → None ≡ own_refusal settings now.state (action_of c)) → MayWantAsRead m settings now read
unread-by p m settings now set number (Ok c) was long kept admitted =
    let read = was c refl in
    record { long = rw (read.set, read.number) long; admitted = sym (admitted c refl); for = inl kept }
unread-by p m settings now set number (Err e) was long kept admitted = kept

pub wants-unread : {S : Type 0} (m : Meaning S) (settings : Settings) (now : Moment S) (w : Widths) (set number : ℕ) (body : List ℕ) → is_short set number ≡ false → ReadsData (read_as settings.profile w set number body)
    → ((c : Command) → read_as settings.profile w set number body ≡ Ok c → is_short set number ≡ false → None ≡ own_refusal settings now.state (action_of c)) → MayWantAsRead m settings now (read_as settings.profile w set number body)
wants-unread m settings now w set number body long kept admitted =
    unread-by settings.profile m settings now set number (read_as settings.profile w set number body) (was-read settings.profile w set number body) long kept (λ (c : Command). λ read. admitted c read long)

-- ---- it is refused

abbrev refusal : ErrorCode → Done
refusal e = record { sent = sent.Short (reply.Refused e); dies = false; closes = false }

-- an error leaves the visits
error-visits : (a : Action) (e : ErrorCode) (before after : List Thread) (visits : ℕ) → visits_by a (Error e) before after visits ≡ visits
error-visits Actions.Suspend e before after visits = refl
error-visits Actions.Resume e before after visits = refl
error-visits a e before after visits = refl

refused-at : {S : Type 0} (w : Widths) (d : Debuggee S) (e : ErrorCode) (visits : ℕ) → visits ≡ d.visits → IsDone w (refused d.moment e) visits d d (refusal e)
refused-at w d e visits same =
    rw same (record {
      after = refl;
      sends = record { error = refl; bytes = refl };
      fits = λ least. omega arith;
      dies = refl;
      bare = λ is. refl;
      closes = refl;
      handshaken = refl;
    })

refused-by : {S : Type 0} (m : Meaning S) (w : Widths) (d : Debuggee S) (e : ErrorCode) (read : Result Command ErrorCode) → ReadsData read → ((c : Command) → read ≡ Ok c → effect m d.settings d.moment c ≡ refused d.moment e)
    → IsDone w (carried_out m d.settings d.moment read) (visits_read m d.settings d.moment read d.visits) d d (refusal e)
refused-by {S = S} m w d e (Ok c) kept is =
    subst (λ (x : Effect S). IsDone w x (visits_carried d.moment (action_of c) x d.visits) d d (refusal e)) (sym (is c refl))
    (refused-at w d e (visits_by (action_of c) (Error e) d.moment.state.threads d.moment.state.threads d.visits) (error-visits (action_of c) e d.moment.state.threads d.moment.state.threads d.visits))
refused-by m w d e (Err x) kept is = absurd kept

error-encoded : (w : Widths) (set number : ℕ) (e : ErrorCode) → 1 ≤ e.0 → EncodesAnswer w set number (Error e)
error-encoded w set number e h = omega arith

encoded-by : {S : Type 0} (m : Meaning S) (w : Widths) (set number : ℕ) (d : Debuggee S) (e : ErrorCode) (read : Result Command ErrorCode) → 1 ≤ e.0 → ReadsData read
    → ((c : Command) → read ≡ Ok c → effect m d.settings d.moment c ≡ refused d.moment e) → EncodesAnswer w set number (carried_out m d.settings d.moment read).answer
encoded-by {S = S} m w set number d e (Ok c) some kept is = subst (λ (x : Effect S). EncodesAnswer w set number x.answer) (sym (is c refl)) (error-encoded w set number e some)
encoded-by m w set number d e (Err x) some kept is = absurd kept

pub refused-unread : {S : Type 0} (m : Meaning S) (d : Debuggee S) (w : Widths) (set number : ℕ) (body : List ℕ) (e : ErrorCode) (done : Done) → w ≡ m.sizes d.moment.machine → is_short set number ≡ false
    → ReadsData (read_as d.settings.profile w set number body)
    → ((c : Command) → read_as d.settings.profile w set number body ≡ Ok c → is_short set number ≡ false → effect m d.settings d.moment c ≡ refused d.moment e) → 1 ≤ e.0 → done ≡ refusal e → IsCarriedOut m d d set number body done
refused-unread m d w set number body e done same long kept is some told =
    let here : ReadsData (read_as d.settings.profile (m.sizes d.moment.machine) set number body) = rw same at kept in
    let found : (c : Command) → read_as d.settings.profile (m.sizes d.moment.machine) set number body ≡ Ok c → effect m d.settings d.moment c ≡ refused d.moment e =
    λ (c : Command). λ read. is c (subst (λ (x : Widths). read_as d.settings.profile x set number body ≡ Ok c) (sym same) read) long in
    rw told (record {
      becomes = refused-by m (m.sizes d.moment.machine) d e (read_as d.settings.profile (m.sizes d.moment.machine) set number body) here found;
      encoded = encoded-by m (m.sizes d.moment.machine) set number d e (read_as d.settings.profile (m.sizes d.moment.machine) set number body) some here found;
    })
