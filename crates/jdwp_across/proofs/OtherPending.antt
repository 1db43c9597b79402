-- a target does the same however many commands may wait at its debugger
use Rattle.std.proofs.Common.{◌≡◌, ℕ, ◌+◌, Bool, true, false, Option, Some, None, List, [], ◌∷◌, Ok, Err, Result, refl, sym, ◌∙◌, ap, subst}
use Rattle.jdwp_wire.specs.Limits.{Limits}
use Rattle.jdwp_wire.specs.Streams as streams
use Rattle.jdwp_wire.specs.Streams.{AreSendable, Fault, Handshake, More, NextMessage, Packet, Whole}
use Rattle.jdwp_wire.specs.declared.error_code.ErrorCode.{ErrorCode}
use Rattle.jdwp_wire.specs.declared.packet.PacketKind.{PacketKind}
use Rattle.jdwp_wire.specs.declared.packet.PacketKind.TheVariants as kind
use Rattle.jdwp_end.specs.Ends as ends
use Rattle.jdwp_machine.specs.Meanings.{Meaning}
use Rattle.jdwp_action.specs.Actions
use Rattle.jdwp_action.specs.Actions.{Action, Command, action_of}
use Rattle.jdwp_action.specs.AnswerPackets.{EncodesAnswer, error_of}
use Rattle.jdwp_debuggee.specs.Answering.{is_answered, read_as}
use Rattle.jdwp_debuggee.specs.Deferring.{released_at}
use Rattle.jdwp_debuggee.specs.Effects.{does, effect, effect_by}
use Rattle.jdwp_debuggee.specs.Settings.{Settings}
use Rattle.jdwp_debuggee.specs.State.{Moment}
use Rattle.jdwp_debuggee.specs.Visits.{visits_carried}
use Rattle.jdwp_target.specs.Deeds.{Does, FullStanding, Releases, behind_reaction, defers, handles_where, perform, releases_by}
use Rattle.jdwp_target.specs.Standings.{Handles, Standing, Steps, carried_out, established, handles, handles_packet, replies}
use Rattle.jdwp_target.specs.Targets.{Target, full_standing, lost_target, visiting, with_handled, with_performance, with_release, with_step}
use Rattle.jdwp_target.specs.Turns as turns
use Rattle.jdwp_target.specs.Turns.{EncodesByKind, EncodesFor, EncodesNext, EncodesReleased, EncodesStart, EncodesUnless, EncodesWhere, ReleasesAt, SendsAt, SendsReleased, SendsWhere, StepsWhere, told_of, told_of_packet, told_where}
use Rattle.jdwp_target.specs.Visits.{visits_handled, visits_packet, visits_read, visits_released, visits_where}
use Rattle.jdwp_target.specs.declared.target.Stepped.{Stepped}
use Rattle.jdwp_target.specs.declared.target.TargetFault.{TargetFault}
use Rattle.jdwp_target.specs.declared.target.TargetFault.TheVariants as fault
use Rattle.jdwp_target.specs.declared.target.Turn.{Turn}
use Rattle.jdwp_target.specs.declared.target.Turn.TheVariants as turning
use Rattle.jdwp_across.specs.OwnLimits.{settings_between, target_within}

-- ---- what a command does

does-same : {S : Type 0} (m : Meaning S) (settings : Settings) (limits : Limits) (now : Moment S) (c : Command) (action : Action) → does m (settings_between settings limits) now c action ≡ does m settings now c action
does-same m settings limits now c Actions.Suspend = refl
does-same m settings limits now c (Actions.SetRequest byte policy entries) = refl
does-same m settings limits now c (Actions.SuspendThread t) = refl
does-same m settings limits now c action = refl

effect-by-same : {S : Type 0} (m : Meaning S) (settings : Settings) (limits : Limits) (now : Moment S) (c : Command) (b : Bool) → effect_by m (settings_between settings limits) now c b ≡ effect_by m settings now c b
effect-by-same m settings limits now c true = does-same m settings limits now c (action_of c)
effect-by-same m settings limits now c false = refl

effect-same : {S : Type 0} (m : Meaning S) (settings : Settings) (limits : Limits) (now : Moment S) (c : Command) → effect m (settings_between settings limits) now c ≡ effect m settings now c
effect-same m settings limits now c = effect-by-same m settings limits now c (is_answered settings.profile c)

carried-same : {S : Type 0} (m : Meaning S) (settings : Settings) (limits : Limits) (now : Moment S) (read : Result Command ErrorCode) → carried_out m (settings_between settings limits) now read ≡ carried_out m settings now read
carried-same m settings limits now (Ok c) = effect-same m settings limits now c
carried-same m settings limits now (Err e) = refl

-- ---- what a deed does

packet-same : {S : Type 0} (m : Meaning S) (settings : Settings) (limits : Limits) (now : Standing S) (id : ℕ) (k : PacketKind) (body : List ℕ)
    → handles_packet m (settings_between settings limits) now id k body ≡ handles_packet m settings now id k body
packet-same m settings limits now id (kind.Command set number) body =
    ap (replies now (m.sizes now.moment.machine) id) (carried-same m settings limits now.moment (read_as settings.profile (m.sizes now.moment.machine) set number body))
packet-same m settings limits now id (kind.Reply error) body = refl

handles-same : {S : Type 0} (m : Meaning S) (settings : Settings) (limits : Limits) (now : Standing S) (message : streams.Message) → handles m (settings_between settings limits) now message ≡ handles m settings now message
handles-same m settings limits now Handshake = refl
handles-same m settings limits now (Packet header body) = packet-same m settings limits now header.id header.kind body

where-same : {S : Type 0} (m : Meaning S) (settings : Settings) (limits : Limits) (now : FullStanding S) (message : streams.Message) (b : Bool)
    → handles_where m (settings_between settings limits) now message b ≡ handles_where m settings now message b
where-same m settings limits now message true = refl
where-same m settings limits now message false = ap (behind_reaction now (message ∷ [])) (handles-same m settings limits (established now.standing) message)

released-same : {S : Type 0} (m : Meaning S) (settings : Settings) (limits : Limits) (now : FullStanding S) (found : Option (streams.Message × List streams.Message))
    → releases_by m (settings_between settings limits) now found ≡ releases_by m settings now found
released-same m settings limits now None = refl
released-same m settings limits now (Some (message, others)) =
    ap (behind_reaction (record now { deferred = others }) (message ∷ [])) (handles-same m settings limits (established now.standing) message)

handled-performs : {S : Type 0} (m : Meaning S) (settings : Settings) (limits : Limits) (now : FullStanding S) (message : streams.Message)
    → perform m (settings_between settings limits) now (Does (Handles message)) ≡ perform m settings now (Does (Handles message))
handled-performs m settings limits now message = where-same m settings limits now message (defers now message)

step-performs : {S : Type 0} (m : Meaning S) (settings : Settings) (limits : Limits) (now : FullStanding S) (t : ℕ)
    → perform m (settings_between settings limits) now (Does (Steps t)) ≡ perform m settings now (Does (Steps t))
step-performs m settings limits now t = refl

release-performs : {S : Type 0} (m : Meaning S) (settings : Settings) (limits : Limits) (now : FullStanding S) (place : ℕ)
    → perform m (settings_between settings limits) now (Releases place) ≡ perform m settings now (Releases place)
release-performs m settings limits now place = released-same m settings limits now (released_at place now.deferred)

-- ---- how many threads are visited

read-visits : {S : Type 0} (m : Meaning S) (settings : Settings) (limits : Limits) (now : Moment S) (read : Result Command ErrorCode) (visits : ℕ)
    → visits_read m (settings_between settings limits) now read visits ≡ visits_read m settings now read visits
read-visits m settings limits now (Ok c) visits = ap (λ e. visits_carried now (action_of c) e visits) (effect-same m settings limits now c)
read-visits m settings limits now (Err e) visits = refl

packet-visits : {S : Type 0} (m : Meaning S) (settings : Settings) (limits : Limits) (now : Moment S) (k : PacketKind) (body : List ℕ) (visits : ℕ)
    → visits_packet m (settings_between settings limits) now k body visits ≡ visits_packet m settings now k body visits
packet-visits m settings limits now (kind.Command set number) body visits = read-visits m settings limits now (read_as settings.profile (m.sizes now.machine) set number body) visits
packet-visits m settings limits now (kind.Reply error) body visits = refl

handled-visits : {S : Type 0} (m : Meaning S) (settings : Settings) (limits : Limits) (now : Moment S) (message : streams.Message) (visits : ℕ)
    → visits_handled m (settings_between settings limits) now message visits ≡ visits_handled m settings now message visits
handled-visits m settings limits now Handshake visits = refl
handled-visits m settings limits now (Packet header body) visits = packet-visits m settings limits now header.kind body visits

where-visits : {S : Type 0} (m : Meaning S) (settings : Settings) (limits : Limits) (now : Moment S) (message : streams.Message) (visits : ℕ) (b : Bool)
    → visits_where m (settings_between settings limits) now message visits b ≡ visits_where m settings now message visits b
where-visits m settings limits now message visits true = refl
where-visits m settings limits now message visits false = handled-visits m settings limits now message visits

released-visits : {S : Type 0} (m : Meaning S) (settings : Settings) (limits : Limits) (now : Moment S) (found : Option (streams.Message × List streams.Message)) (visits : ℕ)
    → visits_released m (settings_between settings limits) now found visits ≡ visits_released m settings now found visits
released-visits m settings limits now None visits = refl
released-visits m settings limits now (Some (message, others)) visits = handled-visits m settings limits now message visits

-- ---- what a target becomes

handled-within : {S : Type 0} (m : Meaning S) (limits : Limits) (t : Target S) (message : streams.Message) (used : ℕ) → target_within limits (with_handled m message used t) ≡ with_handled m message used (target_within limits t)
handled-within m limits t message used =
    let other = target_within limits t in
    let end = ends.with_handled message used other.end in
    let b = defers (full_standing t) message in
    let visits = visits_where m t.settings t.moment message t.visits b in
    ap (λ p. visiting visits (with_performance p end other)) (sym (handled-performs m t.settings limits (full_standing t) message))
    ∙ ap (λ n. visiting n (with_performance (perform m other.settings (full_standing t) (Does (Handles message))) end other)) (sym (where-visits m t.settings limits t.moment message t.visits b))

stepped-within : {S : Type 0} (m : Meaning S) (limits : Limits) (u : Target S) (t : ℕ) → target_within limits (with_step m t u) ≡ with_step m t (target_within limits u)
stepped-within m limits u t = refl

released-within : {S : Type 0} (m : Meaning S) (limits : Limits) (t : Target S) (place : ℕ) → target_within limits (with_release m place t) ≡ with_release m place (target_within limits t)
released-within m limits t place =
    let other = target_within limits t in
    let from = record other { releases = other.releases + 1 } in
    let found = released_at place t.deferred in
    let visits = visits_released m t.settings t.moment found t.visits in
    ap (λ p. visiting visits (with_performance p other.end from)) (sym (release-performs m t.settings limits (full_standing t) place))
    ∙ ap (λ n. visiting n (with_performance (perform m other.settings (full_standing t) (Releases place)) other.end from)) (sym (released-visits m t.settings limits t.moment found t.visits))

-- ---- turns

told-packet : {S : Type 0} (m : Meaning S) (limits : Limits) (t : Target S) (id : ℕ) (k : PacketKind) (body : List ℕ) → told_of_packet m (target_within limits t) id k body ≡ told_of_packet m t id k body
told-packet m limits t id (kind.Command set number) body =
    ap (λ e. turning.Replied id (error_of e.answer)) (carried-same m t.settings limits t.moment (read_as t.settings.profile (m.sizes t.moment.machine) set number body))
told-packet m limits t id (kind.Reply error) body = refl

told-same : {S : Type 0} (m : Meaning S) (limits : Limits) (t : Target S) (message : streams.Message) → told_of m (target_within limits t) message ≡ told_of m t message
told-same m limits t Handshake = refl
told-same m limits t (Packet header body) = told-packet m limits t header.id header.kind body

told-where : {S : Type 0} (m : Meaning S) (limits : Limits) (t : Target S) (message : streams.Message) (b : Bool) → told_where m (target_within limits t) message b ≡ told_where m t message b
told-where m limits t Handshake b = refl
told-where m limits t (Packet header body) true = refl
told-where m limits t (Packet header body) false = told-packet m limits t header.id header.kind body

pub turns-within : {S : Type 0} (m : Meaning S) (limits : Limits) (f : NextMessage) (t new : Target S) (turn : Turn) → turns.TurnsAt m f t (Ok turn) new → turns.TurnsAt m f (target_within limits t) (Ok turn) (target_within limits new)
turns-within m limits (Whole message used) t new turn (told, is) =
    (told ∙ sym (told-where m limits t message (defers (full_standing t) message)), ap (target_within limits) is ∙ handled-within m limits t message used)
turns-within m limits More t new turn (told, is) = (told, ap (target_within limits) is)
turns-within m limits (Fault frame) t new turn (told, is) = absurd (cc)

starts-within : {S : Type 0} (m : Meaning S) (limits : Limits) (t : Target S) (b : Bool) → EncodesStart m t b → EncodesStart m (target_within limits t) b
starts-within m limits t true h = h
starts-within m limits t false h = h

kind-within : {S : Type 0} (m : Meaning S) (limits : Limits) (t : Target S) (k : PacketKind) (body : List ℕ) → EncodesByKind m t k body → EncodesByKind m (target_within limits t) k body
kind-within m limits t (kind.Command set number) body h =
    subst (λ e. EncodesAnswer (m.sizes t.moment.machine) set number e.answer) (sym (carried-same m t.settings limits t.moment (read_as t.settings.profile (m.sizes t.moment.machine) set number body))) h
kind-within m limits t (kind.Reply error) body h = h

encodes-for : {S : Type 0} (m : Meaning S) (limits : Limits) (t : Target S) (message : streams.Message) → EncodesFor m t message → EncodesFor m (target_within limits t) message
encodes-for m limits t Handshake h = starts-within m limits t t.moment.state.handshaken h
encodes-for m limits t (Packet header body) h = kind-within m limits t header.kind body h

encodes-unless : {S : Type 0} (m : Meaning S) (limits : Limits) (t : Target S) (message : streams.Message) (b : Bool) → EncodesUnless m t message b → EncodesUnless m (target_within limits t) message b
encodes-unless m limits t message true h = h
encodes-unless m limits t message false h = encodes-for m limits t message h

pub encodes-within : {S : Type 0} (m : Meaning S) (limits : Limits) (f : NextMessage) (t : Target S) → EncodesNext m f t → EncodesNext m f (target_within limits t)
encodes-within m limits (Whole message used) t h = encodes-unless m limits t message (defers (full_standing t) message) h
encodes-within m limits More t h = h
encodes-within m limits (Fault frame) t h = h

pub sends-within : {S : Type 0} (m : Meaning S) (limits : Limits) (f : NextMessage) (t : Target S) → SendsAt m f t → SendsAt m f (target_within limits t)
sends-within m limits (Whole message used) t h = subst (λ p. AreSendable t.end.limits.packet p.sends) (sym (handled-performs m t.settings limits (full_standing t) message)) h
sends-within m limits More t h = h
sends-within m limits (Fault frame) t h = h

-- ---- releases

pub releases-within : {S : Type 0} (m : Meaning S) (limits : Limits) (place : ℕ) (found : Option (streams.Message × List streams.Message)) (t new : Target S) (turn : Turn)
    → ReleasesAt m place found t (Ok turn) new → ReleasesAt m place found (target_within limits t) (Ok turn) (target_within limits new)
releases-within m limits place None t new turn (told, is) = (told, ap (target_within limits) is)
releases-within m limits place (Some (message, others)) t new turn (told, is) = (told ∙ sym (told-same m limits t message), ap (target_within limits) is ∙ released-within m limits t place)

pub encodes-released : {S : Type 0} (m : Meaning S) (limits : Limits) (found : Option (streams.Message × List streams.Message)) (t : Target S) → EncodesReleased m found t → EncodesReleased m found (target_within limits t)
encodes-released m limits None t h = h
encodes-released m limits (Some (message, others)) t h = encodes-for m limits t message h

pub sends-released : {S : Type 0} (m : Meaning S) (limits : Limits) (place : ℕ) (found : Option (streams.Message × List streams.Message)) (t : Target S) → SendsReleased m place found t → SendsReleased m place found (target_within limits t)
sends-released m limits place None t h = h
sends-released m limits place (Some released) t h = subst (λ p. AreSendable t.end.limits.packet p.sends) (sym (release-performs m t.settings limits (full_standing t) place)) h

-- ---- steps

pub steps-within : {S : Type 0} (m : Meaning S) (limits : Limits) (t : ℕ) (old new : Target S) (stepped : Stepped) (frozen : Bool) → StepsWhere m t old stepped new frozen → StepsWhere m t (target_within limits old) stepped (target_within limits new) frozen
steps-within m limits t old new stepped true (told, is) = (told, ap (target_within limits) is)
steps-within m limits t old new stepped false (told, is) = (told, ap (target_within limits) is ∙ stepped-within m limits old t)

pub encodes-step : {S : Type 0} (m : Meaning S) (limits : Limits) (t : ℕ) (old : Target S) (frozen : Bool) → EncodesWhere m t old frozen → EncodesWhere m t (target_within limits old) frozen
encodes-step m limits t old true h = h
encodes-step m limits t old false h = h

pub sends-step : {S : Type 0} (m : Meaning S) (limits : Limits) (t : ℕ) (old : Target S) (frozen : Bool) → SendsWhere m t old frozen → SendsWhere m t (target_within limits old) frozen
sends-step m limits t old true h = h
sends-step m limits t old false h = subst (λ p. AreSendable old.end.limits.packet p.sends) (sym (step-performs m old.settings limits (full_standing old) t)) h

-- ---- a turn that fails

-- Where the other wants memory alone, so does this one.
pub wants-memory : {S : Type 0} (m : Meaning S) (limits : Limits) (f : NextMessage) (t after : Target S) (why : TargetFault)
    → ((other : Target S) → turns.TurnsAt m f (target_within limits t) (Err why) other → why ≡ fault.NoMemory)
    → turns.TurnsAt m f t (Err why) after → (why ≡ fault.NoMemory) × (after ≡ t)
wants-memory m limits (Whole message used) t after why alike (is, wants, same) = (is, same)
wants-memory m limits More t after why alike (told, same) = absurd (cc)
wants-memory m limits (Fault frame) t after why alike (told, same) = absurd (let none = alike (lost_target (target_within limits t)) (told, refl) in cc)
