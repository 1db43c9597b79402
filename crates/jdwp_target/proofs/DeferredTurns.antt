-- Turns that put a command off, and releases.
use Rattle.std.proofs.Common.{◌≡◌, ◌∙◌, ℕ, ◌+◌, ◌<◌, ◌≤◌, List, [], ◌∷◌, ◌++◌, length, Bool, true, false, not, ◌&&◌, Option, Some, None, Result, Ok, Err, sym, ap, refl, subst, arith}
use Rattle.std.specs.Prelude.{IfErr, IfOk, nat_lt}
use Rattle.std.proofs.lemmas.Bool.{leb-false, ltb-true}
use Rattle.jdwp_wire.specs.Bytes.{IsBytes}
use Rattle.jdwp_wire.specs.Streams.{Message, Packet, NextMessage, Whole, AreSendable}
use Rattle.jdwp_wire.specs.Widths.{Widths}
use Rattle.jdwp_wire.specs.declared.error_code.ErrorCode.{ErrorCode}
use Rattle.jdwp_wire.specs.declared.packet.Header.{Header}
use Rattle.jdwp_wire.specs.declared.packet.PacketKind.{PacketKind}
use Rattle.jdwp_wire.specs.declared.packet.PacketKind.TheVariants as kind
use Rattle.jdwp_end.specs.declared.phase.Phase.{Phase}
use Rattle.jdwp_end.specs.declared.phase.Phase.TheVariants.{Closed, AwaitingHandshake, Established}
use Rattle.jdwp_end.specs.Ends.{End, front_of, is_established, is_established_phase, is_paused}
use Rattle.jdwp_end.specs.Ends as ends
use Rattle.jdwp_end.specs.FrontLaws.{IsDue, in-front}
use Rattle.jdwp_machine.specs.Meanings.{Meaning}
use Rattle.jdwp_debuggee.specs.Answering.{read_as}
use Rattle.jdwp_debuggee.specs.Debuggees.{Debuggee}
use Rattle.jdwp_debuggee.specs.Wants.{MayWantAsRead}
use Rattle.jdwp_target.specs.declared.deferral.DeferredCommand.{DeferredCommand}
use Rattle.jdwp_target.specs.declared.target.TargetFault.{TargetFault}
use Rattle.jdwp_target.specs.declared.target.TargetFault.TheVariants as fault
use Rattle.jdwp_target.specs.declared.target.Turn.{Turn}
use Rattle.jdwp_target.specs.declared.target.Turn.TheVariants as turn
use Rattle.jdwp_target.specs.declared.turning.Done.{Done}
use Rattle.jdwp_debuggee.specs.Deferring.{MOST_DEFERRED, is_deferrable, released_at}
use Rattle.jdwp_target.specs.Standings.{Handles, handles, stands}
use Rattle.jdwp_target.specs.Deeds.{Does, FullStanding, Releases, defers, defers_kind, perform}
use Rattle.jdwp_target.specs.Insides.{Deferral, IsRightTarget, message_of, target_of}
use Rattle.jdwp_target.specs.Targets.{Ran, Target, full_standing, with_handled, with_release}
use Rattle.jdwp_target.specs.TurnParts.{IsAnswered, IsCarriedOut, IsCopied, IsHandled, IsWanting, puts_off}
use Rattle.jdwp_target.specs.Turns.{EncodesFor, EncodesReleased, NeedsMemory, NeedsMemoryToHandle, ReleasesAt, SendsAt, SendsReleased, at_place, deferred_at, kind_needs_memory, told_of, told_of_packet}
use Rattle.jdwp_target.specs.ReleaseLaws.{none-found}
use Rattle.jdwp_target.proofs.RightTurns.{deferral_handled, needs-at-once, nothing-put, packet-phase}
use Rattle.jdwp_target.proofs.TargetRuns.{ran-handled, ran-released}

-- ---- which commands are put off

-- whether a target takes the next one that may be deferred
abbrev pub takes : Bool → ℕ → Bool
takes deferring count = deferring && nat_lt count MOST_DEFERRED

taken-apart : (a b c : Bool) → (true && (a && (b && c))) ≡ ((a && c) && b)
taken-apart true true true = refl
taken-apart true true false = refl
taken-apart true false true = refl
taken-apart true false false = refl
taken-apart false b c = refl

kind-defers : {S : Type 0} (now : FullStanding S) (k : PacketKind) → now.standing.phase ≡ Established → defers_kind now k ≡ puts_off (takes now.deferring (length now.deferred)) k
kind-defers now (kind.Command set number) session = rw session (taken-apart now.deferring (is_deferrable set) (nat_lt (length now.deferred) MOST_DEFERRED))
kind-defers now (kind.Reply error) session = refl

-- as the code tells of it
pub as-told : {S : Type 0} (v : Target S) (header : Header) (body : List ℕ) (used : ℕ) (told b : Bool) → IsBytes v.end.incoming → front_of v.end ≡ Whole (Packet header body) used → told ≡ takes v.deferring (length v.deferred)
    → puts_off told header.kind ≡ b → defers (full_standing v) (Packet header body) ≡ b
as-told v header body used told b fits front same is =
    let session = packet-phase v.end.limits.packet v.end.phase header body (in-front v.end (Packet header body) used fits front).1 in
    kind-defers (full_standing v) header.kind session ∙ (ap (λ (x : Bool). puts_off x header.kind) (sym same) ∙ is)

pub reply-apart : (told : Bool) (k : PacketKind) (error : ErrorCode) → k ≡ kind.Reply error → puts_off told k ≡ false
reply-apart told k error is = rw is refl

pub told-ignored : {S : Type 0} (m : Meaning S) (old : Target S) (header : Header) (body : List ℕ) (error : ErrorCode) → header.kind ≡ kind.Reply error → turn.Ignored ≡ told_of_packet m old header.id header.kind body
told-ignored m old header body error is = rw is refl

room-by : (session on may less : Bool) → (session && (on && (may && less))) ≡ true → less ≡ true
room-by true true true true e = refl
room-by true true true false e = absurd (cc)
room-by true true false less e = absurd (cc)
room-by true false may less e = absurd (cc)
room-by false on may less e = absurd (cc)

pub room-left : {S : Type 0} (now : FullStanding S) (k : PacketKind) → defers_kind now k ≡ true → length now.deferred < 16
room-left now (kind.Command set number) e =
    ltb-true (length now.deferred) 16 (room-by (is_established_phase now.standing.phase) now.deferring (is_deferrable set) (nat_lt (length now.deferred) 16) e)
room-left now (kind.Reply error) e = absurd (cc)

-- what may want memory: a command that is not put off
reads-kind : {S : Type 0} (m : Meaning S) (d : Debuggee S) (old : Target S) (k : PacketKind) (body : List ℕ) → d.settings ≡ old.settings → d.moment ≡ old.moment → IsWanting m d k body → kind_needs_memory m old k body
reads-kind m d old k body settings moment (set, number, is, wants) =
    let here : MayWantAsRead m old.settings old.moment (read_as old.settings.profile (m.sizes old.moment.machine) set number body) = rw (settings, moment) at wants in
    subst (λ (x : PacketKind). kind_needs_memory m old x body) (sym is) here

pub needs-as-read : {S : Type 0} (m : Meaning S) (d : Debuggee S) (old : Target S) (header : Header) (body : List ℕ) (set number : ℕ) → defers (full_standing old) (Packet header body) ≡ false
    → header.kind ≡ kind.Command set number → d.settings ≡ old.settings → d.moment ≡ old.moment
    → MayWantAsRead m d.settings d.moment (read_as d.settings.profile (m.sizes d.moment.machine) set number body) → NeedsMemory m old (Packet header body)
needs-as-read m d old header body set number at_once is settings moment wants =
    needs-at-once m old (Packet header body) at_once (reads-kind m d old header.kind body settings moment (set, number, is, wants))

-- a reply is never put off
pub never-deferred : {S : Type 0} (v : Target S) (header : Header) (body : List ℕ) (used : ℕ) (error : ErrorCode) → IsBytes v.end.incoming → front_of v.end ≡ Whole (Packet header body) used → header.kind ≡ kind.Reply error
    → defers (full_standing v) (Packet header body) ≡ false
never-deferred v header body used error fits front is =
    let told = takes v.deferring (length v.deferred) in
    as-told v header body used told false fits front refl (reply-apart told header.kind error is)

-- ---- what was put off

-- the length in a header is that of the packet
due-length : (limit : ℕ) (phase : Phase) (header : Header) (body : List ℕ) → IsDue limit phase (Packet header body) → header.length ≡ 11 + length body
due-length limit Closed header body due = absurd due
due-length limit AwaitingHandshake header body due = absurd (let e = due in cc)
due-length limit Established header body due = due.length_counts_all

as-came : (header : Header) (body : List ℕ) (c : DeferredCommand) → IsCopied header body c → header.length ≡ 11 + length body → message_of c ≡ Packet header body
as-came header body c (is, id, body-is) size = rw (body-is, id, ← size, ← is) refl

pub put-off-came : (end : End) (header : Header) (body : List ℕ) (used : ℕ) (c : DeferredCommand) → IsBytes end.incoming → front_of end ≡ Whole (Packet header body) used
    → IsCopied header body c → message_of c ≡ Packet header body
put-off-came end header body used c fits front copied =
    as-came header body c copied (due-length end.limits.packet end.phase header body (in-front end (Packet header body) used fits front).1)

pub put-off-view : {S : Type 0} (m : Meaning S) (d : Debuggee S) (x y : Deferral) (began : List (Debuggee S)) (phases : List Phase) (steps : ℕ) (end after : End) (header : Header) (body : List ℕ) (used : ℕ)
    → IsBytes end.incoming → front_of end ≡ Whole (Packet header body) used → defers (full_standing (target_of d x began phases steps end)) (Packet header body) ≡ true
    → y ≡ record x { commands = x.commands ++ Packet header body ∷ [] } → after ≡ ends.with_handled (Packet header body) used end
    → target_of d y began phases steps after ≡ with_handled m (Packet header body) used (target_of d x began phases steps end)
put-off-view m d x y began phases steps end after header body used fits front deferred left after-is =
    let session = packet-phase end.limits.packet end.phase header body (in-front end (Packet header body) used fits front).1 in
    let put = nothing-put (Packet header body) used end in
    rw (deferred, left, after-is, session) (ap (λ (e : End). target_of d (record x { commands = x.commands ++ Packet header body ∷ [] }) began phases steps e) put)

nothing-sent : {S : Type 0} (m : Meaning S) (v : Target S) (message : Message) → defers (full_standing v) message ≡ true → AreSendable v.end.limits.packet (perform m v.settings (full_standing v) (Does (Handles message))).sends
nothing-sent m v message deferred = rw deferred tt

pub sends-nothing : {S : Type 0} (m : Meaning S) (v : Target S) (message : Message) (used : ℕ) → front_of v.end ≡ Whole message used → defers (full_standing v) message ≡ true → SendsAt m (front_of v.end) v
sends-nothing m v message used front deferred = subst (λ (x : NextMessage). SendsAt m x v) (sym front) (nothing-sent m v message deferred)

-- what holds whatever is answered
pub whatever-came : (result : Result Turn TargetFault) (P : Type 0) → P → IfOk result (λ _. P)
whatever-came (Ok turn) P h = h
whatever-came (Err fault) P h = tt

-- what follows from what holds of an answer, holds of it
pub ok-also : {T E : Type 0} (result : Result T E) (P Q : T → Type 0) → ((x : T) → P x → Q x) → IfOk result P → IfOk result Q
ok-also (Ok x) P Q f h = f x h
ok-also (Err e) P Q f h = tt

pub err-also : {T E : Type 0} (result : Result T E) (P Q : E → Type 0) → ((e : E) → P e → Q e) → IfErr result P → IfErr result Q
err-also (Ok x) P Q f h = tt
err-also (Err e) P Q f h = f e h

pub right-put-off : {S : Type 0} (m : Meaning S) (d : Debuggee S) (x y : Deferral) (began : List (Debuggee S)) (phases : List Phase) (steps : ℕ) (end after : End) (header : Header) (body : List ℕ) (used : ℕ)
    → IsRightTarget m d x began phases steps end → IsBytes end.incoming → front_of end ≡ Whole (Packet header body) used → defers (full_standing (target_of d x began phases steps end)) (Packet header body) ≡ true
    → y ≡ record x { commands = x.commands ++ Packet header body ∷ [] } → after ≡ ends.with_handled (Packet header body) used end → IsRightTarget m d y began phases steps after
right-put-off m d x y began phases steps end after header body used right fits front deferred left after-is =
    let old = target_of d x began phases steps end in
    let session = packet-phase end.limits.packet end.phase header body (in-front end (Packet header body) used fits front).1 in
    record {
      some = right.some;
      handshaken = λ _. right.handshaken session;
      limits = rw after-is right.limits;
      ran = subst (Ran m) (sym (put-off-view m d x y began phases steps end after header body used fits front deferred left after-is))
          (ran-handled m old (Packet header body) used fits front (nothing-sent m old (Packet header body) deferred) right.ran);
    }

-- ---- which command is released

by-place : {S : Type 0} (v : Target S) (found : Option (Message × List Message)) (b : Bool) → found ≡ None → at_place v found b ≡ None
by-place v found true none = none
by-place v found false none = refl

apart : {S : Type 0} (v : Target S) (found : Option (Message × List Message)) (b : Bool) → at_place v found (b && not true) ≡ None
apart v found true = refl
apart v found false = refl

-- none, where no session is established, where the end is paused, and behind the last
pub no-session : {S : Type 0} (v : Target S) (place : ℕ) → is_established v.end ≡ false → deferred_at place v ≡ None
no-session v place session = rw session refl

pub paused-end : {S : Type 0} (v : Target S) (place : ℕ) → is_paused v.end ≡ true → deferred_at place v ≡ None
paused-end v place paused = rw paused (apart v (released_at place v.deferred) (is_established v.end))

pub past-the-last : {S : Type 0} (v : Target S) (place : ℕ) → length v.deferred ≤ place → deferred_at place v ≡ None
past-the-last v place past = by-place v (released_at place v.deferred) (is_established v.end && not (is_paused v.end)) (none-found place v.deferred past)

pub there : {S : Type 0} (v : Target S) (place : ℕ) (message : Message) (others : List Message) → is_established v.end ≡ true → is_paused v.end ≡ false → released_at place v.deferred ≡ Some (message, others)
    → deferred_at place v ≡ Some (message, others)
there v place message others session flows found = rw (session, flows) found

-- ---- a release

pub nothing-released : {S : Type 0} (m : Meaning S) (old new : Target S) (place : ℕ) → deferred_at place old ≡ None → new ≡ old → ReleasesAt m place (deferred_at place old) old (Ok turn.Nothing) new
nothing-released m old new place none same = subst (λ (o : Option (Message × List Message)). ReleasesAt m place o old (Ok turn.Nothing) new) (sym none) (refl, same)

pub nothing-encoded : {S : Type 0} (m : Meaning S) (old : Target S) (place : ℕ) → deferred_at place old ≡ None → EncodesReleased m (deferred_at place old) old
nothing-encoded m old place none = subst (λ (o : Option (Message × List Message)). EncodesReleased m o old) (sym none) tt

pub nothing-sendable : {S : Type 0} (m : Meaning S) (old : Target S) (place : ℕ) → deferred_at place old ≡ None → SendsReleased m place (deferred_at place old) old
nothing-sendable m old place none = subst (λ (o : Option (Message × List Message)). SendsReleased m place o old) (sym none) tt

pub releases-wanting : {S : Type 0} (m : Meaning S) (old new : Target S) (place : ℕ) (message : Message) (others : List Message) (result : Result Turn TargetFault) → deferred_at place old ≡ Some (message, others)
    → result ≡ Err fault.NoMemory → NeedsMemoryToHandle m old message → new ≡ old → ReleasesAt m place (deferred_at place old) old result new
releases-wanting m old new place message others result found is needs same =
    subst (λ (o : Option (Message × List Message)). ReleasesAt m place o old result new) (sym found)
    (subst (λ (x : Result Turn TargetFault). ReleasesAt m place (Some (message, others)) old x new) (sym is) (refl, needs, same))

pub releases-one : {S : Type 0} (m : Meaning S) (old new : Target S) (place : ℕ) (message : Message) (others : List Message) (told : Turn) → deferred_at place old ≡ Some (message, others) → told ≡ told_of m old message
    → new ≡ with_release m place old → ReleasesAt m place (deferred_at place old) old (Ok told) new
releases-one m old new place message others told found tells same = subst (λ (o : Option (Message × List Message)). ReleasesAt m place o old (Ok told) new) (sym found) (tells, same)

pub encodes-released : {S : Type 0} (m : Meaning S) (old : Target S) (place : ℕ) (message : Message) (others : List Message) → deferred_at place old ≡ Some (message, others) → EncodesFor m old message
    → EncodesReleased m (deferred_at place old) old
encodes-released m old place message others found h = subst (λ (o : Option (Message × List Message)). EncodesReleased m o old) (sym found) h

-- what is sent for it
sends-one : {S : Type 0} (m : Meaning S) (v : Target S) (place : ℕ) (message : Message) (others : List Message) → released_at place v.deferred ≡ Some (message, others)
    → AreSendable v.end.limits.packet (handles m v.settings (stands v.moment Established) message).sends → AreSendable v.end.limits.packet (perform m v.settings (full_standing v) (Releases place)).sends
sends-one m v place message others found fits = rw found fits

pub sends-released : {S : Type 0} (m : Meaning S) (old : Target S) (place : ℕ) (message : Message) (others : List Message) → deferred_at place old ≡ Some (message, others) → released_at place old.deferred ≡ Some (message, others)
    → AreSendable old.end.limits.packet (handles m old.settings (stands old.moment Established) message).sends → SendsReleased m place (deferred_at place old) old
sends-released m old place message others at found fits = subst (λ (o : Option (Message × List Message)). SendsReleased m place o old) (sym at) (sends-one m old place message others found fits)

-- the target behind it
pub released-view : {S : Type 0} (m : Meaning S) (d new : Debuggee S) (x y : Deferral) (began : List (Debuggee S)) (phases : List Phase) (steps : ℕ) (end after : End) (place : ℕ) (message : Message) (others : List Message)
    → IsRightTarget m d x began phases steps end → released_at place x.commands ≡ Some (message, others) → y ≡ deferral_handled m message d (record x { commands = others; released = x.released + 1 }) → IsHandled m message d new end after
    → target_of new y began phases steps after ≡ with_release m place (target_of d x began phases steps end)
released-view m d new x y began phases steps end after place message others right found left h =
    let split = right.some.2 in
    rw (h.debuggee, h.left, left, found, split) refl

pub right-released : {S : Type 0} (m : Meaning S) (d new : Debuggee S) (x y : Deferral) (began : List (Debuggee S)) (phases : List Phase) (steps : ℕ) (end after : End) (place : ℕ) (message : Message) (others : List Message)
    → IsRightTarget m d x began phases steps end → is_established end ≡ true → place < length x.commands → released_at place x.commands ≡ Some (message, others)
    → y ≡ deferral_handled m message d (record x { commands = others; released = x.released + 1 }) → IsHandled m message d new end after → IsRightTarget m new y began phases steps after
right-released m d new x y began phases steps end after place message others right session less found left h =
    let old = target_of d x began phases steps end in
    record {
      some = right.some;
      handshaken = λ _. h.handshaken;
      limits = rw (h.debuggee, h.left) right.limits;
      ran = subst (Ran m) (sym (released-view m d new x y began phases steps end after place message others right found left h))
          (ran-released m old place session less (sends-one m old place message others found h.sends) right.ran);
    }

-- a deferred command that was carried out
pub deferred-done : {S : Type 0} (m : Meaning S) (d new : Debuggee S) (c : DeferredCommand) (bytes : List ℕ) (done : Done) → bytes ≡ c.body.items → IsCarriedOut m d new c.set c.number bytes done
    → IsCarriedOut m d new c.set c.number c.body.items done
deferred-done m d new c bytes done same did = subst (λ (b : List ℕ). IsCarriedOut m d new c.set c.number b done) same did

pub deferred-read : {S : Type 0} (m : Meaning S) (d new : Debuggee S) (c : DeferredCommand) (done : Done) → IsCarriedOut m d new c.set c.number c.body.items done
    → IsAnswered m d new c.id (kind.Command c.set c.number) c.body.items c.id done
deferred-read m d new c done did = (c.set, c.number, refl, refl, did)

pub deferred-needs : {S : Type 0} (m : Meaning S) (old : Target S) (w : Widths) (c : DeferredCommand) → w ≡ m.sizes old.moment.machine
    → MayWantAsRead m old.settings old.moment (read_as old.settings.profile w c.set c.number c.body.items) → NeedsMemoryToHandle m old (message_of c)
deferred-needs m old w c w-is wants = subst (λ (x : Widths). MayWantAsRead m old.settings old.moment (read_as old.settings.profile x c.set c.number c.body.items)) w-is wants

established-is : (p : Phase) → is_established_phase p ≡ true → p ≡ Established
established-is Closed h = absurd (cc)
established-is AwaitingHandshake h = absurd (cc)
established-is Established h = refl

pub in-session : (end : End) → is_established end ≡ true → end.phase ≡ Established
in-session end session = established-is end.phase session

pub flowing-room : (end : End) → is_paused end ≡ false → length end.outgoing + 1 ≤ end.limits.packet
flowing-room end flows = omega (arith, leb-false end.limits.packet (length end.outgoing) flows)
