-- What a target sends in a session is a conversation: the handshake, and then packets within the limit.
use Rattle.std.proofs.Common.{◌≡◌, ◌≢◌, ℕ, ◌++◌, List, [], ◌∷◌, ◌⊎◌, inl, inr, Bool, true, false, Option, Some, None, sym, refl, subst}
use Rattle.std.specs.List.{AllByRecursion}
use Rattle.std.proofs.lemmas.List.{append-nil}
use Rattle.jdwp_wire.specs.Streams.{Message, Handshake, Packet, AreSendable, IsConversation, IsPacketMessage}
use Rattle.jdwp_wire.specs.Widths.{Widths}
use Rattle.jdwp_wire.specs.declared.packet.PacketKind.{PacketKind}
use Rattle.jdwp_wire.specs.declared.packet.PacketKind.TheVariants as kind
use Rattle.jdwp_end.specs.declared.phase.Phase.{Phase}
use Rattle.jdwp_end.specs.declared.phase.Phase.TheVariants.{Closed, AwaitingHandshake, Established}
use Rattle.jdwp_end.specs.FrontLaws.{IsDue}
use Rattle.jdwp_event.specs.Composites.{CompositeMeaning}
use Rattle.jdwp_machine.specs.Meanings.{Meaning}
use Rattle.jdwp_debuggee.specs.Answering.{read_as}
use Rattle.jdwp_debuggee.specs.Effects.{Effect}
use Rattle.jdwp_debuggee.specs.Settings.{Settings}
use Rattle.jdwp_debuggee.specs.Steps.{Step, may_step, occurs}
use Rattle.jdwp_debuggee.specs.Deferring.{released_at}
use Rattle.jdwp_target.specs.Standings.{Act, Handles, Steps, Loses, Standing, behind, established, handled, react, carried_out, greets_by, handles, handles_packet, phase_after, replies_by, reports, steps_apart, steps_at, steps_by, steps_in_session}
use Rattle.jdwp_target.specs.Deeds.{Deed, Does, FullStanding, Performance, Releases, SetsDeferring, acts_in, after, defers, handles_where, perform, releases_by, sent}

-- ---- the phase after an act

replied : {S : Type 0} (now : Standing S) (w : Widths) (id : ℕ) (e : Effect S) (dies : Bool) → ((replies_by now w id e dies).after.phase ≡ Closed) ⊎ ((replies_by now w id e dies).after.phase ≡ Established)
replied now w id e true = inl refl
replied now w id e false = elim e.closes as (λ b. (phase_after b ≡ Closed) ⊎ (phase_after b ≡ Established)) [ true ↦ inl refl | false ↦ inr refl ]

packet-phase : {S : Type 0} (m : Meaning S) (settings : Settings) (now : Standing S) (id : ℕ) (k : PacketKind) (body : List ℕ)
    → ((handles_packet m settings (established now) id k body).after.phase ≡ Closed) ⊎ ((handles_packet m settings (established now) id k body).after.phase ≡ Established)
packet-phase m settings now id (kind.Command set number) body =
    let e = carried_out m settings now.moment (read_as settings.profile (m.sizes now.moment.machine) set number body) in
    replied (established now) (m.sizes now.moment.machine) id e e.dies
packet-phase m settings now id (kind.Reply error) body = inr refl

greeted-phase : {S : Type 0} (m : Meaning S) (settings : Settings) (now : Standing S) (b : Bool) → (greets_by m settings (established now) b).after.phase ≡ Established
greeted-phase m settings now true = refl
greeted-phase m settings now false = refl

pub message-phase : {S : Type 0} (m : Meaning S) (settings : Settings) (now : Standing S) (message : Message)
    → ((handles m settings (established now) message).after.phase ≡ Closed) ⊎ ((handles m settings (established now) message).after.phase ≡ Established)
message-phase m settings now Handshake = inr (greeted-phase m settings now now.moment.state.handshaken)
message-phase m settings now (Packet header body) = packet-phase m settings now header.id header.kind body

-- ---- nothing is sent before the handshake is handled

no-wait : (phase : Phase) → (phase ≡ Closed) ⊎ (phase ≡ Established) → phase ≡ AwaitingHandshake → ⊥
no-wait phase (inl e) w = cc
no-wait phase (inr e) w = cc

apart-silent : {S : Type 0} (now : Standing S) (dies : Bool) → (steps_apart now dies).sends ≡ []
apart-silent now true = refl
apart-silent now false = refl

apart-closed : {S : Type 0} (now : Standing S) (dies : Bool) → now.phase ≡ Closed → (steps_apart now dies).after.phase ≡ Closed
apart-closed now true is = refl
apart-closed now false is = is

session-phase : {S : Type 0} (w : Widths) (id : ℕ) (o : Step S) (now : Standing S) (dies : Bool) → now.phase ≡ Established
    → ((steps_in_session w id o now dies).after.phase ≡ Closed) ⊎ ((steps_in_session w id o now dies).after.phase ≡ Established)
session-phase w id o now true is = inl refl
session-phase w id o now false is = inr is

step-waits : {S : Type 0} (w : Widths) (id : ℕ) (o : Step S) (now : Standing S) (phase : Phase) → now.phase ≡ phase → (steps_at w id o now phase).after.phase ≡ AwaitingHandshake
    → (phase ≡ AwaitingHandshake) × ((steps_at w id o now phase).sends ≡ [])
step-waits w id o now Established is e = absurd (no-wait _ (session-phase w id o now o.dies is) e)
step-waits w id o now AwaitingHandshake is e = (refl, apart-silent now o.dies)
step-waits w id o now Closed is e = absurd (no-wait _ (inl (apart-closed now o.dies is)) e)

step-by-waits : {S : Type 0} (m : Meaning S) (now : Standing S) (t : ℕ) (may : Bool) → (steps_by m now t may).after.phase ≡ AwaitingHandshake → (now.phase ≡ AwaitingHandshake) × ((steps_by m now t may).sends ≡ [])
step-by-waits m now t false e = (e, refl)
step-by-waits m now t true e =
    let o = occurs m now.moment t in
    step-waits (m.sizes now.moment.machine) now.moment.state.next_packet o (behind o now) now.phase refl e

act-waits : {S : Type 0} (m : Meaning S) (settings : Settings) (now : Standing S) (act : Act) → (react m settings now act).after.phase ≡ AwaitingHandshake
    → (now.phase ≡ AwaitingHandshake) × ((react m settings now act).sends ≡ [])
act-waits m settings now (Handles message) e = absurd (no-wait _ (message-phase m settings now message) e)
act-waits m settings now (Steps t) e = step-by-waits m now t (may_step m settings now.moment t) e
act-waits m settings now Loses e = absurd cc

-- what a deed waits for, and sends
abbrev Waits : {S : Type 0} → FullStanding S → Performance S → Type 0
Waits now p = p.after.standing.phase ≡ AwaitingHandshake → (now.standing.phase ≡ AwaitingHandshake) × (p.sends ≡ [])

where-waits : {S : Type 0} (m : Meaning S) (settings : Settings) (now : FullStanding S) (message : Message) (b : Bool) → Waits now (handles_where m settings now message b)
where-waits m settings now message true e = (e, refl)
where-waits m settings now message false e = act-waits m settings now.standing (Handles message) e

released-waits : {S : Type 0} (m : Meaning S) (settings : Settings) (now : FullStanding S) (o : Option (Message × List Message)) → Waits now (releases_by m settings now o)
released-waits m settings now None e = (e, refl)
released-waits m settings now (Some (message, others)) e = act-waits m settings now.standing (Handles message) e

deed-waits : {S : Type 0} (m : Meaning S) (settings : Settings) (now : FullStanding S) (deed : Deed) → Waits now (perform m settings now deed)
deed-waits m settings now (Does (Handles message)) e = where-waits m settings now message (defers now message) e
deed-waits m settings now (Does (Steps t)) e = act-waits m settings now.standing (Steps t) e
deed-waits m settings now (Does Loses) e = act-waits m settings now.standing Loses e
deed-waits m settings now (SetsDeferring deferring) e = (e, refl)
deed-waits m settings now (Releases place) e = released-waits m settings now (released_at place now.deferred) e

waits-before : {S : Type 0} (m : Meaning S) (settings : Settings) (now : FullStanding S) (deeds : List Deed) → (after m settings now deeds).standing.phase ≡ AwaitingHandshake → now.standing.phase ≡ AwaitingHandshake
waits-before m settings now [] e = e
waits-before m settings now (deed ∷ deeds) e = (deed-waits m settings now deed (waits-before m settings (perform m settings now deed).after deeds e)).0

pub waits-silent : {S : Type 0} (m : Meaning S) (settings : Settings) (now : FullStanding S) (deeds : List Deed) → (after m settings now deeds).standing.phase ≡ AwaitingHandshake → sent m settings now deeds ≡ []
waits-silent m settings now [] e = refl
waits-silent m settings now (deed ∷ deeds) e =
    let rest = waits-silent m settings (perform m settings now deed).after deeds e in
    let first = (deed-waits m settings now deed (waits-before m settings (perform m settings now deed).after deeds e)).1 in
    rw (first, rest) refl

-- ---- the handshake is answered

append-some : (xs ys : List Message) → ys ≢ [] → xs ++ ys ≢ []
append-some [] ys some e = some e
append-some (x ∷ xs) ys some e = cc

greeting-some : {S : Type 0} (m : Meaning S) (settings : Settings) (now : Standing S) (b : Bool) (ys : List Message) → (greets_by m settings now b).sends ++ ys ≢ []
greeting-some m settings now true ys e = cc
greeting-some m settings now false ys e = cc

pub some-sent : {S : Type 0} (m : Meaning S) (settings : Settings) (limit : ℕ) (now : FullStanding S) (deeds : List Deed) → IsConversation limit (handled (acts_in deeds)) → handled (acts_in deeds) ≢ []
    → sent m settings now deeds ≢ []
some-sent m settings limit now [] c some = absurd (some refl)
some-sent m settings limit now (Does (Handles Handshake) ∷ deeds) c some =
    greeting-some m settings (established now.standing) now.standing.moment.state.handshaken (sent m settings (perform m settings now (Does (Handles Handshake))).after deeds)
some-sent m settings limit now (Does (Handles (Packet header body)) ∷ deeds) c some = absurd c
some-sent m settings limit now (Does (Steps t) ∷ deeds) c some =
    append-some (perform m settings now (Does (Steps t))).sends (sent m settings (perform m settings now (Does (Steps t))).after deeds)
    (some-sent m settings limit (perform m settings now (Does (Steps t))).after deeds c some)
some-sent m settings limit now (Does Loses ∷ deeds) c some = some-sent m settings limit (perform m settings now (Does Loses)).after deeds c some
some-sent m settings limit now (SetsDeferring deferring ∷ deeds) c some = some-sent m settings limit (perform m settings now (SetsDeferring deferring)).after deeds c some
some-sent m settings limit now (Releases place ∷ deeds) c some =
    append-some (perform m settings now (Releases place)).sends (sent m settings (perform m settings now (Releases place)).after deeds)
    (some-sent m settings limit (perform m settings now (Releases place)).after deeds c some)

-- ---- an act more

all-append : (limit : ℕ) (xs ys : List Message) → AllByRecursion (IsPacketMessage limit) xs → AllByRecursion (IsPacketMessage limit) ys → AllByRecursion (IsPacketMessage limit) (xs ++ ys)
all-append limit [] ys a b = b
all-append limit (x ∷ xs) ys a b = (a.0, all-append limit xs ys a.1 b)

goes-on : (limit : ℕ) (xs ys : List Message) → IsConversation limit xs → xs ≢ [] → AllByRecursion (IsPacketMessage limit) ys → IsConversation limit (xs ++ ys)
goes-on limit [] ys c some all = absurd (some refl)
goes-on limit (Handshake ∷ xs) ys c some all = all-append limit xs ys c all
goes-on limit (Packet header body ∷ xs) ys c some all = absurd c

nothing-more : (limit : ℕ) (xs ys : List Message) → IsConversation limit xs → ys ≡ [] → IsConversation limit (xs ++ ys)
nothing-more limit xs ys c e = rw (e, append-nil xs) c

reply-packets : {S : Type 0} (limit : ℕ) (now : Standing S) (w : Widths) (id : ℕ) (e : Effect S) (dies : Bool) → AreSendable limit (replies_by now w id e dies).sends
    → AllByRecursion (IsPacketMessage limit) (replies_by now w id e dies).sends
reply-packets limit now w id e true h = h
reply-packets limit now w id e false h = h

kind-packets : {S : Type 0} (limit : ℕ) (m : Meaning S) (settings : Settings) (now : Standing S) (id : ℕ) (k : PacketKind) (body : List ℕ)
    → AreSendable limit (handles_packet m settings now id k body).sends → AllByRecursion (IsPacketMessage limit) (handles_packet m settings now id k body).sends
kind-packets limit m settings now id (kind.Command set number) body h =
    let e = carried_out m settings now.moment (read_as settings.profile (m.sizes now.moment.machine) set number body) in
    reply-packets limit now (m.sizes now.moment.machine) id e e.dies h
kind-packets limit m settings now id (kind.Reply error) body h = tt

greeting : {S : Type 0} (limit : ℕ) (m : Meaning S) (settings : Settings) (now : Standing S) (b : Bool) → AreSendable limit (greets_by m settings now b).sends → IsConversation limit (greets_by m settings now b).sends
greeting limit m settings now true h = tt
greeting limit m settings now false h = h.1

pub handling-converses : {S : Type 0} (m : Meaning S) (settings : Settings) (now : Standing S) (phase : Phase) (limit : ℕ) (xs : List Message) (message : Message) → IsDue limit phase message
    → IsConversation limit xs → (phase ≡ AwaitingHandshake → xs ≡ []) → (phase ≡ Established → xs ≢ []) → AreSendable limit (handles m settings now message).sends
    → IsConversation limit (xs ++ (handles m settings now message).sends)
handling-converses m settings now Closed limit xs message due c none some fits = absurd due
handling-converses m settings now AwaitingHandshake limit xs message due c none some fits =
    let hello : AreSendable limit (handles m settings now Handshake).sends = subst (λ (x : Message). AreSendable limit (handles m settings now x).sends) due fits in
    let whole : IsConversation limit (handles m settings now Handshake).sends = greeting limit m settings now now.moment.state.handshaken hello in
    let one : IsConversation limit (handles m settings now message).sends = subst (λ (x : Message). IsConversation limit (handles m settings now x).sends) (sym due) whole in
    subst (λ (x : List Message). IsConversation limit (x ++ (handles m settings now message).sends)) (sym (none refl)) one
handling-converses m settings now Established limit xs Handshake due c none some fits = absurd due
handling-converses m settings now Established limit xs (Packet header body) due c none some fits =
    goes-on limit xs (handles_packet m settings now header.id header.kind body).sends c (some refl) (kind-packets limit m settings now header.id header.kind body fits)

report-packets : (limit : ℕ) (w : Widths) (id : ℕ) (c : Option CompositeMeaning) (more : List Message) → (AreSendable limit more → AllByRecursion (IsPacketMessage limit) more)
    → AreSendable limit (reports w id c ++ more) → AllByRecursion (IsPacketMessage limit) (reports w id c ++ more)
report-packets limit w id None more rest h = rest h
report-packets limit w id (Some c) more rest h = (h.0, rest h.1)

alone-packets : (limit : ℕ) (w : Widths) (id : ℕ) (c : Option CompositeMeaning) → AreSendable limit (reports w id c) → AllByRecursion (IsPacketMessage limit) (reports w id c)
alone-packets limit w id None h = h
alone-packets limit w id (Some c) h = h

step-packets : {S : Type 0} (limit : ℕ) (w : Widths) (id : ℕ) (o : Step S) (now : Standing S) (dies : Bool) → AreSendable limit (steps_in_session w id o now dies).sends
    → AllByRecursion (IsPacketMessage limit) (steps_in_session w id o now dies).sends
step-packets limit w id o now true h = report-packets limit w id o.sends _ (λ k. k) h
step-packets limit w id o now false h = alone-packets limit w id o.sends h

at-converses : {S : Type 0} (limit : ℕ) (w : Widths) (id : ℕ) (o : Step S) (now : Standing S) (phase : Phase) (xs : List Message) → IsConversation limit xs → (phase ≡ Established → xs ≢ [])
    → AreSendable limit (steps_at w id o now phase).sends → IsConversation limit (xs ++ (steps_at w id o now phase).sends)
at-converses limit w id o now Established xs c some fits = goes-on limit xs _ c (some refl) (step-packets limit w id o now o.dies fits)
at-converses limit w id o now AwaitingHandshake xs c some fits = nothing-more limit xs _ c (apart-silent now o.dies)
at-converses limit w id o now Closed xs c some fits = nothing-more limit xs _ c (apart-silent now o.dies)

-- a packet that is put off, or that was and is released now, calls for packets
pub kind-converses : {S : Type 0} (m : Meaning S) (settings : Settings) (now : Standing S) (limit : ℕ) (xs : List Message) (message : Message) → message ≢ Handshake → IsConversation limit xs → xs ≢ []
    → AreSendable limit (handles m settings now message).sends → IsConversation limit (xs ++ (handles m settings now message).sends)
kind-converses m settings now limit xs Handshake packet c some fits = absurd (packet refl)
kind-converses m settings now limit xs (Packet header body) packet c some fits =
    goes-on limit xs (handles_packet m settings now header.id header.kind body).sends c some (kind-packets limit m settings now header.id header.kind body fits)

pub stepping-converses : {S : Type 0} (m : Meaning S) (now : Standing S) (t : ℕ) (may : Bool) (limit : ℕ) (xs : List Message) → IsConversation limit xs → (now.phase ≡ Established → xs ≢ [])
    → AreSendable limit (steps_by m now t may).sends → IsConversation limit (xs ++ (steps_by m now t may).sends)
stepping-converses m now t false limit xs c some fits = nothing-more limit xs [] c refl
stepping-converses m now t true limit xs c some fits =
    let o = occurs m now.moment t in
    at-converses limit (m.sizes now.moment.machine) now.moment.state.next_packet o (behind o now) now.phase xs c some fits
