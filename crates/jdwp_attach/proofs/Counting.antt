-- How many composites were handled, from call to call.
use Rattle.std.proofs.Common.{◌≡◌, ◌≢◌, ◌∙◌, ℕ, ◌+◌, ◌<◌, ◌≤◌, ◌^◌, ◌++◌, List, [], ◌∷◌, length, Bool, true, false, cond, Option, Some, None, is_some, Ok, Err, if◌then◌else◌, slice_get, inl, inr, sym, ap, refl, subst, zero-add, arith}
use Rattle.std.specs.Prelude.{count_by}
use Rattle.std.specs.List.{AllByRecursion, list_any}
use Rattle.std.proofs.lemmas.Grind.{flat_map-append}
use Rattle.std.proofs.lemmas.List.{append-nil, length-append}
use Rattle.std.proofs.lemmas.List.Sums.{sum_by-append}
use Rattle.jdwp_wire.specs.Bytes.{IsBytes}
use Rattle.jdwp_wire.specs.FrameLaws.{front_found}
use Rattle.jdwp_wire.specs.Frames.{Front, front}
use Rattle.jdwp_wire.specs.Frames as frames
use Rattle.jdwp_wire.specs.Handshake.{handshake_front}
use Rattle.jdwp_wire.specs.Streams.{Message, Handshake, Packet, NextMessage, Whole, More, Fault, IsConversation, IsPacketMessage, after_handshake, at_handshake, message_bytes, stream}
use Rattle.jdwp_wire.specs.Widths.{Widths}
use Rattle.jdwp_wire.specs.declared.error_code.ErrorCode.{ErrorCode}
use Rattle.jdwp_wire.specs.declared.frame.NextHello.{NextHello}
use Rattle.jdwp_wire.specs.declared.frame.NextHello.TheVariants as hello
use Rattle.jdwp_wire.specs.declared.packet.Header.{Header}
use Rattle.jdwp_wire.specs.declared.packet.PacketKind.{PacketKind}
use Rattle.jdwp_wire.specs.declared.packet.PacketKind.TheVariants as kind
use Rattle.jdwp_layout.specs.CommandNumbers.{COMPOSITE, is_command}
use Rattle.jdwp_layout.specs.declared.answer.Answer.{Answer}
use Rattle.jdwp_event.specs.Composites.{CompositeMeaning}
use Rattle.jdwp_end.specs.declared.phase.Phase.{Phase}
use Rattle.jdwp_end.specs.declared.phase.Phase.TheVariants.{Closed, AwaitingHandshake, Established}
use Rattle.jdwp_end.specs.Ends.{End, front_of, is_open, is_paused, next_at, next_of}
use Rattle.jdwp_mirror.specs.Messages.{Reply, Report}
use Rattle.jdwp_mirror.specs.Mirror.{ends}
use Rattle.jdwp_mirror.specs.Widths.{widths_in}
use Rattle.jdwp_action.specs.Actions.{Command}
use Rattle.jdwp_debugger.specs.declared.faults.DebuggerFault.TheVariants as code
use Rattle.jdwp_debugger.specs.declared.pending.Ticket.{Ticket}
use Rattle.jdwp_debugger.specs.declared.turning.Read.{Read}
use Rattle.jdwp_debugger.specs.declared.turning.Read.TheVariants as read
use Rattle.jdwp_debugger.specs.Asking.{HasAsked}
use Rattle.jdwp_debugger.specs.Debuggers.{Asked, Debugger, Parked as Waiting, attached, with_taken}
use Rattle.jdwp_debugger.specs.DebuggerTurns.{Enters, HandlesAt, Told, TurnsAt, closed_where, command_at, measured_where, reading_of, reports, read_meaning}
use Rattle.jdwp_debugger.specs.News.{News, Waits, Happens, Answers, Measures, Reading, answer_by, answer_says, composite_in, composites_in, event_says, event_says_by, place_of, reply_at, reply_to, says, sizes_say, unless_bad, widths_by, with_composites, with_first}
use Rattle.jdwp_attach.specs.OwnCounts.{AsksDue, Step}
use Rattle.jdwp_attach.specs.PlanWaits.{Counts, HandlesComposites, HandlesFewer, composites_of, is_composite, is_composite_kind}

-- ---- what packets say

-- a composite, which waits where the widths of ids are not known
abbrev IsEvent : Option Widths → News → Type 0
IsEvent sizes (Waits bytes) = sizes ≡ None
IsEvent sizes (Happens c) = Unit {0}
IsEvent sizes other = ⊥

-- an answer; that with the widths of ids has all composites that waited for them
abbrev IsAnswer : List Waiting → News → Type 0
IsAnswer parked (Answers place ticket answer) = Unit {0}
IsAnswer parked (Measures place answer w cs) = length cs ≡ length parked
IsAnswer parked other = ⊥

-- what is said in a packet of this kind
abbrev pub SaysIn : PacketKind → Option Widths → List Waiting → News → Type 0
SaysIn (kind.Command set number) sizes parked news = (is_command COMPOSITE set number ≡ true) × IsEvent sizes news
SaysIn (kind.Reply error) sizes parked news = IsAnswer parked news

waits-so : (b : Bool) (bytes : List ℕ) (news : News) → (if b then Err code.TooManyParked else Ok (Waits bytes)) ≡ Ok news → IsEvent None news
waits-so true bytes news e = absurd cc
waits-so false bytes news e =
    let same : Waits bytes ≡ news = cc in
    subst (λ (n : News). IsEvent None n) same refl

happens-so : (w : Widths) (c : Option CompositeMeaning) (news : News) → event_says_by c ≡ Ok news → IsEvent (Some w) news
happens-so w None news e = absurd cc
happens-so w (Some c) news e =
    let same : Happens c ≡ news = cc in
    subst (λ (n : News). IsEvent (Some w) n) same tt

event-so : (sizes : Option Widths) (parked : List Waiting) (bytes : List ℕ) (news : News) → event_says sizes parked bytes ≡ Ok news → IsEvent sizes news
event-so None parked bytes news e = waits-so _ bytes news e
event-so (Some w) parked bytes news e = happens-so w _ news e

command-so : (b : Bool) (sizes : Option Widths) (parked : List Waiting) (bytes : List ℕ) (news : News) → (if b then event_says sizes parked bytes else Err code.BadEvent) ≡ Ok news
    → (b ≡ true) × IsEvent sizes news
command-so true sizes parked bytes news e = (refl, event-so sizes parked bytes news e)
command-so false sizes parked bytes news e = absurd cc

-- as many composites as waited
first-counts : (c : Option CompositeMeaning) (rest : Option (List CompositeMeaning)) (cs : List CompositeMeaning) (n : ℕ) → ((ds : List CompositeMeaning) → rest ≡ Some ds → length ds ≡ n)
    → with_first c rest ≡ Some cs → length cs ≡ n + 1
first-counts None rest cs n counts e = absurd cc
first-counts (Some c) None cs n counts e = absurd cc
first-counts (Some c) (Some ds) cs n counts e =
    let same : c ∷ ds ≡ cs = cc in
    omega (arith, ap (λ (x : List CompositeMeaning). length x) same, counts ds refl)

parked-counts : (w : Widths) (parked : List Waiting) (cs : List CompositeMeaning) → composites_in w parked ≡ Some cs → length cs ≡ length parked
parked-counts w [] cs e =
    let same : [] ≡ cs = cc in
    sym (ap (λ (x : List CompositeMeaning). length x) same)
parked-counts w (p ∷ ps) cs e = omega (arith, first-counts (composite_in w p.body) (composites_in w ps) cs (length ps) (λ ds is. parked-counts w ps ds is) e)

composites-so : (parked : List Waiting) (place : ℕ) (a : Answer) (w : Widths) (found : Option (List CompositeMeaning)) (news : News) → composites_in w parked ≡ found
    → with_composites place a w found ≡ Ok news → IsAnswer parked news
composites-so parked place a w None news is e = absurd cc
composites-so parked place a w (Some cs) news is e =
    let same : Measures place a w cs ≡ news = cc in
    subst (λ (n : News). IsAnswer parked n) same (parked-counts w parked cs is)

sizes-so : (parked : List Waiting) (place : ℕ) (a : Answer) (w : Option Widths) (news : News) → sizes_say parked place a w ≡ Ok news → IsAnswer parked news
sizes-so parked place a None news e = absurd cc
sizes-so parked place a (Some w) news e = composites-so parked place a w (composites_in w parked) news refl e

answer-so : (parked : List Waiting) (place : ℕ) (k : Option Ticket) (a : Option Answer) (news : News) → answer_says parked place k a ≡ Ok news → IsAnswer parked news
answer-so parked place k None news e = absurd cc
answer-so parked place (Some k) (Some a) news e =
    let same : Answers place k.0 a ≡ news = cc in
    subst (λ (n : News). IsAnswer parked n) same tt
answer-so parked place None (Some a) news e = sizes-so parked place a (widths_in a) news e

reply-so : (r : Reading) (e : ErrorCode) (bytes : List ℕ) (place : ℕ) (found : Option Asked) (news : News) → reply_to r e bytes place found ≡ Ok news → IsAnswer r.parked news
reply-so r e bytes place None news h = absurd cc
reply-so r e bytes place (Some asked) news h = answer-so r.parked place asked.ticket (unless_bad asked.command (answer_by r.order (widths_by r.sizes) asked.command e bytes)) news h

placed-so : (r : Reading) (e : ErrorCode) (bytes : List ℕ) (place : Option ℕ) (news : News) → reply_at r e bytes place ≡ Ok news → IsAnswer r.parked news
placed-so r e bytes None news h = absurd cc
placed-so r e bytes (Some place) news h = reply-so r e bytes place (slice_get r.pending place) news h

pub says-so : (r : Reading) (id : ℕ) (k : PacketKind) (bytes : List ℕ) (news : News) → says r id k bytes ≡ Ok news → SaysIn k r.sizes r.parked news
says-so r id (kind.Command set number) bytes news e = command-so (is_command COMPOSITE set number) r.sizes r.parked bytes news e
says-so r id (kind.Reply error) bytes news e = placed-so r error bytes (place_of id r.pending) news e

-- so many composites a packet counts for
abbrev of_news : News → ℕ
of_news (Waits bytes) = 1
of_news (Happens c) = 1
of_news (Answers place ticket answer) = 0
of_news (Measures place answer w cs) = 0

abbrev one_if : Bool → ℕ
one_if b = cond b 1 0

kind-counts : (k : PacketKind) (sizes : Option Widths) (parked : List Waiting) (news : News) → SaysIn k sizes parked news → of_news news ≡ one_if (is_composite_kind k)
kind-counts (kind.Command set number) sizes parked (Waits bytes) said = rw said.0 refl
kind-counts (kind.Command set number) sizes parked (Happens c) said = rw said.0 refl
kind-counts (kind.Command set number) sizes parked (Answers place ticket answer) said = absurd said.1
kind-counts (kind.Command set number) sizes parked (Measures place answer w cs) said = absurd said.1
kind-counts (kind.Reply error) sizes parked (Waits bytes) said = absurd said
kind-counts (kind.Reply error) sizes parked (Happens c) said = absurd said
kind-counts (kind.Reply error) sizes parked (Answers place ticket answer) said = refl
kind-counts (kind.Reply error) sizes parked (Measures place answer w cs) said = refl

pub measures-all : (k : PacketKind) (sizes : Option Widths) (parked : List Waiting) (place : ℕ) (answer : Answer) (w : Widths) (cs : List CompositeMeaning)
    → SaysIn k sizes parked (Measures place answer w cs) → length cs ≡ length parked
measures-all (kind.Command set number) sizes parked place answer w cs said = absurd said.1
measures-all (kind.Reply error) sizes parked place answer w cs said = said

-- what waits does so since the widths of ids are not known
waits-unknown : (k : PacketKind) (sizes : Option Widths) (parked : List Waiting) (bytes : List ℕ) → SaysIn k sizes parked (Waits bytes) → sizes ≡ None
waits-unknown (kind.Command set number) sizes parked bytes said = said.1
waits-unknown (kind.Reply error) sizes parked bytes said = absurd said

-- ---- what stands in front

-- the handshake is the first message, and packets follow it
abbrev IsDue : ℕ → Phase → Message → Type 0
IsDue limit Closed message = ⊥
IsDue limit AwaitingHandshake message = message ≡ Handshake
IsDue limit Established message = IsPacketMessage limit message

hello-due : (found : NextHello) (message : Message) (used : ℕ) → at_handshake found ≡ Whole message used → message ≡ Handshake
hello-due hello.Whole message used e = cc
hello-due hello.More message used e = absurd cc
hello-due (hello.Fault fault) message used e = absurd cc

packet-due : (limit : ℕ) (bytes : List ℕ) (found : Front) (message : Message) (used : ℕ) → IsBytes bytes → front limit bytes ≡ found → after_handshake found ≡ Whole message used
    → IsPacketMessage limit message
packet-due limit bytes (frames.Whole header body n) message used fits is e =
    let same : Packet header body ≡ message = cc in
    subst (λ (m : Message). IsPacketMessage limit m) same (front_found limit bytes header body n fits is).0
packet-due limit bytes frames.More message used fits is e = absurd cc
packet-due limit bytes (frames.Fault fault) message used fits is e = absurd cc

next-due : (limit : ℕ) (phase : Phase) (bytes : List ℕ) (message : Message) (used : ℕ) → IsBytes bytes → next_at limit phase bytes ≡ Whole message used → IsDue limit phase message
next-due limit Closed bytes message used fits e = absurd cc
next-due limit AwaitingHandshake bytes message used fits e = hello-due (handshake_front bytes) message used e
next-due limit Established bytes message used fits e = packet-due limit bytes (front limit bytes) message used fits refl e

unpaused : (b : Bool) (next : NextMessage) (message : Message) (used : ℕ) → (if b then More else next) ≡ Whole message used → next ≡ Whole message used
unpaused true next message used e = absurd cc
unpaused false next message used e = e

front-due : (end : End) (message : Message) (used : ℕ) → IsBytes end.incoming → front_of end ≡ Whole message used → IsDue end.limits.packet end.phase message
front-due end message used fits e = next-due end.limits.packet end.phase end.incoming message used fits (unpaused (is_paused end) (next_of end) message used e)

-- ---- one message more

packets-more : (k : ℕ) (ms : List Message) (m : Message) → AllByRecursion (IsPacketMessage k) ms → IsPacketMessage k m → AllByRecursion (IsPacketMessage k) (ms ++ m ∷ [])
packets-more k [] m all one = (one, tt)
packets-more k (n ∷ ms) m all one = (all.0, packets-more k ms m all.1 one)

packet-more : (k : ℕ) (ms : List Message) (m : Message) → IsConversation k ms → ms ≢ [] → IsPacketMessage k m → IsConversation k (ms ++ m ∷ [])
packet-more k [] m c some one = absurd (some refl)
packet-more k (Handshake ∷ ms) m c some one = packets-more k ms m c one
packet-more k (Packet h body ∷ ms) m c some one = absurd c

first-is : (k : ℕ) (ms : List Message) (m : Message) → ms ≡ [] → m ≡ Handshake → IsConversation k (ms ++ m ∷ [])
first-is k ms m e h = rw (e, h) tt

conversation-more : (k : ℕ) (phase : Phase) (ms : List Message) (m : Message) → IsConversation k ms → (phase ≡ AwaitingHandshake → ms ≡ []) → (phase ≡ Established → ms ≢ [])
    → IsDue k phase m → IsConversation k (ms ++ m ∷ [])
conversation-more k Closed ms m c none some due = absurd due
conversation-more k AwaitingHandshake ms m c none some due = first-is k ms m (none refl) due
conversation-more k Established ms m c none some due = packet-more k ms m c (some refl) due

not-empty : (ms : List Message) (m : Message) → ms ++ m ∷ [] ≢ []
not-empty [] m e = cc
not-empty (n ∷ ms) m e = cc

stream-more : (ms : List Message) (m : Message) → stream (ms ++ m ∷ []) ≡ stream ms ++ message_bytes m
stream-more ms m = flat_map-append message_bytes ms (m ∷ []) ∙ ap (λ (x : List ℕ). stream ms ++ x) (append-nil (message_bytes m))

count-more : (ms : List Message) (m : Message) → count_by is_composite (ms ++ m ∷ []) ≡ count_by is_composite ms + one_if (is_composite m)
count-more ms m =
    sum_by-append (λ (n : Message). one_if (is_composite n)) ms (m ∷ []) ∙ ap (λ (x : ℕ). count_by is_composite ms + x) (zero-add (one_if (is_composite m)))

-- ---- calls that handle nothing

-- as much was handled, and as many composites wait
pub record Keeps (old new : Debugger) : Type 0 where
  pub limit : new.end.limits.packet ≡ old.end.limits.packet
  pub handled : new.end.session.handled ≡ old.end.session.handled
  pub phase : new.end.phase ≡ old.end.phase
  pub parked : new.parked ≡ old.parked
  pub sizes : new.sizes ≡ old.sizes

pub counts-kept : (n left : ℕ) (old new : Debugger) → Keeps old new → Counts n left old → Counts n left new
counts-kept n left old new k c = record {
  messages = c.messages;
  handled = (subst (λ (x : ℕ). IsConversation x c.messages) (sym k.limit) c.handled.0, k.handled ∙ c.handled.1);
  awaiting = λ e. c.awaiting (sym k.phase ∙ e);
  established = λ e. c.established (sym k.phase ∙ e);
  counted = omega (arith, c.counted, ap (λ (x : List Waiting). length x) k.parked);
  none_wait = λ known. k.parked ∙ c.none_wait (ap (λ (o : Option Widths). is_some o) (sym k.sizes) ∙ known);
  most = omega (arith, c.most, ap (λ (x : List Waiting). length x) k.parked);
}

-- a command was asked, and its packet left
pub asked-keeps : (command : Command) (old mid : Debugger) → HasAsked command old mid → Keeps old (with_taken mid.end.outgoing mid)
asked-keeps command old mid h = rw h.is (record { limit = refl; handled = refl; phase = refl; parked = refl; sizes = refl })

-- the count that was due behind a turn was asked, or none
pub due-keeps : (due : Option ℕ) (old mid : Debugger) (own : List Step) → AsksDue due old mid own → Keeps old (with_taken mid.end.outgoing mid)
due-keeps None old mid own (none, same) = rw same (record { limit = refl; handled = refl; phase = refl; parked = refl; sizes = refl })
due-keeps (Some thread) old mid own (inl (one, unrefused, h)) = asked-keeps _ old mid h
due-keeps (Some thread) old mid own (inr (none, refused, same)) = rw same (record { limit = refl; handled = refl; phase = refl; parked = refl; sizes = refl })

-- as many composites as were counted were handled
pub counts-handled : (n left count : ℕ) (d : Debugger) → count ≤ n → Counts n left d → HandlesComposites count d
counts-handled n left count d most c = (c.messages, c.handled, omega (arith, most, c.counted))

-- and no more
pub counts-missing : (n left count : ℕ) (d : Debugger) → n < count → is_some d.sizes ≡ true → Counts n left d → HandlesFewer count d
counts-missing n left count d fewer known c = (c.messages, c.handled, omega (arith, fewer, c.counted, ap (λ (x : List Waiting). length x) (c.none_wait known)))

-- fewer turns are left
pub counts-later : (n left left' : ℕ) (d : Debugger) → left' ≤ left → Counts n left d → Counts n left' d
counts-later n left left' d fewer c = record {
  messages = c.messages;
  handled = c.handled;
  awaiting = c.awaiting;
  established = c.established;
  counted = c.counted;
  none_wait = c.none_wait;
  most = omega (arith, fewer, c.most);
}

-- a session begins
pub begun-counts : (left : ℕ) (d : Debugger) → left < 2 ^ 64 → d ≡ attached d → Counts 0 left d
begun-counts left d most begun = record {
  messages = [];
  handled = (tt, ap (λ (x : Debugger). x.end.session.handled) begun);
  awaiting = λ e. refl;
  established = λ e. absurd (let f = sym (ap (λ (x : Debugger). x.end.phase) begun) ∙ e in cc);
  counted = omega (arith, ap (λ (x : Debugger). length x.parked) begun);
  none_wait = λ known. ap (λ (x : Debugger). x.parked) begun;
  most = omega (arith, most, ap (λ (x : Debugger). length x.parked) begun);
}

-- ---- a turn that read something

-- a message was handled, and these composites wait then
record Handled (message : Message) (more : ℕ) (old new : Debugger) : Type 0 where
  limit : new.end.limits.packet ≡ old.end.limits.packet
  handled : new.end.session.handled ≡ old.end.session.handled ++ message_bytes message
  phase : new.end.phase ≢ AwaitingHandshake
  counted : more + length new.parked ≡ length old.parked + one_if (is_composite message)
  none_wait : (is_some old.sizes ≡ true → old.parked ≡ []) → is_some new.sizes ≡ true → new.parked ≡ []
  most : more + length new.parked ≤ length old.parked + 1

counts-more : (n more left : ℕ) (message : Message) (old new : Debugger) → IsDue old.end.limits.packet old.end.phase message → Handled message more old new → Counts n (left + 1) old
    → Counts (n + more) left new
counts-more n more left message old new due h c =
    let all = c.messages ++ message ∷ [] in
    record {
      messages = all;
      handled = (
        subst (λ (x : ℕ). IsConversation x all) (sym h.limit) (conversation-more old.end.limits.packet old.end.phase c.messages message c.handled.0 c.awaiting c.established due),
        h.handled ∙ ap (λ (x : List ℕ). x ++ message_bytes message) c.handled.1 ∙ sym (stream-more c.messages message),
      );
      awaiting = λ e. absurd (h.phase e);
      established = λ e. not-empty c.messages message;
      counted = omega (arith, c.counted, h.counted, count-more c.messages message);
      none_wait = h.none_wait c.none_wait;
      most = omega (arith, c.most, h.most);
    }

-- the session was not closed by it
handled-where : (b : Bool) (message : Message) (more : ℕ) (old mid : Debugger) → is_open (closed_where b mid).end ≡ true → Handled message more old mid → Handled message more old (closed_where b mid)
handled-where true message more old mid opened h = absurd (let e = opened in cc)
handled-where false message more old mid opened h = h

handled-measured : (b : Bool) (w : Widths) (message : Message) (more : ℕ) (old mid : Debugger) → is_open (measured_where b w mid).end ≡ true → Handled message more old mid
    → Handled message more old (measured_where b w mid)
handled-measured true w message more old mid opened h = absurd (let e = opened in cc)
handled-measured false w message more old mid opened h = h

handles-packet : (header : Header) (body : List ℕ) (used : ℕ) (news : News) (old new : Debugger) (t : Told) → SaysIn header.kind old.sizes old.parked news
    → Enters (Packet header body) used header news old t new → is_open new.end ≡ true → Handled (Packet header body) (composites_of t) old new
handles-packet header body used (Waits bytes) old new t said h opened =
    let one = kind-counts header.kind old.sizes old.parked (Waits bytes) said in
    let unknown = waits-unknown header.kind old.sizes old.parked bytes said in
    rw (h.0, h.1) (record {
      limit = refl;
      handled = refl;
      phase = λ e. cc;
      counted = omega (arith, one, length-append {A = Waiting});
      none_wait = λ none known. absurd (let e = ap (λ (o : Option Widths). is_some o) (sym unknown) ∙ known in cc);
      most = omega (arith, length-append {A = Waiting});
    })
handles-packet header body used (Happens c) old new t said h opened =
    let one = kind-counts header.kind old.sizes old.parked (Happens c) said in
    let b = ends (Report c) in
    rw (h.0, h.1.4) (handled-where b (Packet header body) 1 old _ (subst (λ (d : Debugger). is_open d.end ≡ true) h.1.4 opened)
    (record { limit = refl; handled = refl; phase = λ e. cc; counted = omega (arith, one); none_wait = λ none known. none known; most = omega arith }))
handles-packet header body used (Answers place ticket answer) old new t said h opened =
    let one = kind-counts header.kind old.sizes old.parked (Answers place ticket answer) said in
    let b = ends (Reply (Some ticket) (command_at place old.pending) answer) in
    rw (h.0, h.1.4) (handled-where b (Packet header body) 0 old _ (subst (λ (d : Debugger). is_open d.end ≡ true) h.1.4 opened)
    (record { limit = refl; handled = refl; phase = λ e. cc; counted = omega (arith, one); none_wait = λ none known. none known; most = omega arith }))
handles-packet header body used (Measures place answer w cs) old new t said h opened =
    let one = kind-counts header.kind old.sizes old.parked (Measures place answer w cs) said in
    let all = measures-all header.kind old.sizes old.parked place answer w cs said in
    let b = list_any ends (reports cs) in
    rw (h.0, h.1.4) (handled-measured b w (Packet header body) (length cs) old _ (subst (λ (d : Debugger). is_open d.end ≡ true) h.1.4 opened)
    (record { limit = refl; handled = refl; phase = λ e. cc; counted = omega (arith, one, all); none_wait = λ none known. refl; most = omega (arith, all) }))

handles : (message : Message) (used : ℕ) (old new : Debugger) (r : Read) → HandlesAt message used old (Ok r) new → is_open new.end ≡ true → Handled message (composites_of (read_meaning r)) old new
handles Handshake used old new r h opened =
    rw (h.0, h.2) (record { limit = refl; handled = refl; phase = λ e. cc; counted = omega arith; none_wait = λ none known. none known; most = omega arith })
handles (Packet header body) used old new r h opened =
    handles-packet header body used h.news old new (read_meaning r) (says-so (reading_of old) header.id header.kind body h.news h.said) h.entered opened

-- no more composites are told of than waited, and one
packet-few : (header : Header) (body : List ℕ) (used : ℕ) (news : News) (old new : Debugger) (t : Told) → SaysIn header.kind old.sizes old.parked news
    → Enters (Packet header body) used header news old t new → composites_of t ≤ length old.parked + 1
packet-few header body used (Waits bytes) old new t said h = rw h.0 (omega arith)
packet-few header body used (Happens c) old new t said h = rw h.0 (omega arith)
packet-few header body used (Answers place ticket answer) old new t said h = rw h.0 (omega arith)
packet-few header body used (Measures place answer w cs) old new t said h = rw h.0 (omega (arith, measures-all header.kind old.sizes old.parked place answer w cs said))

pub turned-few : (next : NextMessage) (old new : Debugger) (r : Read) → TurnsAt next old (Ok r) new → composites_of (read_meaning r) ≤ length old.parked + 1
turned-few (Whole Handshake used) old new r h = rw h.0 (omega arith)
turned-few (Whole (Packet header body) used) old new r h =
    packet-few header body used h.news old new (read_meaning r) (says-so (reading_of old) header.id header.kind body h.news h.said) h.entered
turned-few More old new r h =
    let same : r ≡ read.Nothing = cc (h.0) in
    rw same (omega arith)
turned-few (Fault fault) old new r h = absurd (let e = h.0 in cc)

-- so many can be counted
pub counts-fit : (next : NextMessage) (n left : ℕ) (old new : Debugger) (r : Read) → 0 < left → TurnsAt next old (Ok r) new → Counts n left old → n + composites_of (read_meaning r) < 2 ^ 64
counts-fit next n left old new r some h c = omega (arith, some, turned-few next old new r h, c.most)

-- so many composites were told of
pub counts-turned : (next : NextMessage) (n left : ℕ) (old new : Debugger) (r : Read) → front_of old.end ≡ next → IsBytes old.end.incoming → TurnsAt next old (Ok r) new → r ≢ read.Nothing
    → is_open new.end ≡ true → Counts n (left + 1) old → Counts (n + composites_of (read_meaning r)) left new
counts-turned (Whole message used) n left old new r is fits h some opened c =
    counts-more n (composites_of (read_meaning r)) left message old new (front-due old.end message used fits is) (handles message used old new r h opened) c
counts-turned More n left old new r is fits h some opened c = absurd (some (let e = h.0 in cc))
counts-turned (Fault fault) n left old new r is fits h some opened c = absurd (let e = h.0 in cc)
