-- How a run of a debugger goes on with each call.
use Rattle.std.proofs.Common.{◌≡◌, ◌∙◌, ℕ, ◌+◌, ◌≤◌, ◌==◌, ◌||◌, ◌++◌, List, [], ◌∷◌, length, take, Bool, true, false, Option, Some, None, sym, ap, refl, subst}
use Rattle.std.specs.Prelude.{Result, Ok, Err, fold, remove}
use Rattle.std.specs.List.{list_any, flat_map}
use Rattle.std.proofs.lemmas.List.{append-nil, map-append}
use Rattle.std.proofs.lemmas.List.Sums.{fold-append}
use Rattle.std.proofs.lemmas.Grind.{flat_map-append}
use Rattle.jdwp_wire.specs.Bytes.{IsBytes}
use Rattle.jdwp_wire.specs.Frames.{header_bytes}
use Rattle.jdwp_wire.specs.Handshake.{handshake_bytes}
use Rattle.jdwp_wire.specs.Limits.{Limits}
use Rattle.jdwp_wire.specs.Streams.{Message, Handshake, Packet, NextMessage, Whole, More, Fault, stream}
use Rattle.jdwp_wire.specs.Widths.{Widths}
use Rattle.jdwp_wire.specs.declared.packet.Header.{Header}
use Rattle.jdwp_end.specs.declared.phase.Phase.{Phase}
use Rattle.jdwp_end.specs.declared.phase.Phase.TheVariants as phase
use Rattle.jdwp_end.specs.Ends.{End, front_of, is_open, is_open_phase, new_end, closed_end, lost_end, opened_end, with_enqueued, with_fed, with_handled, with_taken}
use Rattle.jdwp_end.specs.Runs.{Carries}
use Rattle.jdwp_end.specs.CarryingLaws.{carries-new, carries-opened, carries-fed, carries-handled, carries-enqueued, carries-closed, carries-taken, carries-lost, stream-append, stream-one}
use Rattle.jdwp_end.specs.FrontLaws.{IsDue, due-open, in-front}
use Rattle.jdwp_action.specs.Actions.{Command}
use Rattle.jdwp_event.specs.Composites.{CompositeMeaning}
use Rattle.jdwp_layout.specs.declared.answer.Answer.{Answer}
use Rattle.jdwp_apart.specs.Following.{Following, put_to}
use Rattle.jdwp_debugger.specs.Asking.{EncodesCommand, HasAsked, asked, command_bytes, is_outstanding}
use Rattle.jdwp_debugger.specs.declared.faults.DebuggerFault.{DebuggerFault}
use Rattle.jdwp_debugger.specs.declared.faults.DebuggerFault.TheVariants as code
use Rattle.jdwp_debugger.specs.declared.heads.Head.TheVariants as head
use Rattle.jdwp_debugger.specs.declared.order.Order.{Order}
use Rattle.jdwp_debugger.specs.declared.turning.Read.{Read}
use Rattle.jdwp_debugger.specs.Debuggers.{Asked, Debugger, begun_in}
use Rattle.jdwp_debugger.specs.DebuggerTurns.{Enters, FailsAt, LearnedAll, Told, TurnsAt, closed_debugger, closed_where, command_at, followed, greeted, measured_where, news_refusal, reading_of, refused, reply_head, reports, sizes_header, read_meaning, with_ledger, with_read, with_sizes}
use Rattle.jdwp_debugger.specs.Histories.{Knowledge, heard, messages_of, nothing, reading_after, with_news, with_said}
use Rattle.jdwp_mirror.specs.Messages as heards
use Rattle.jdwp_mirror.specs.Messages.{Reply, Report, id_sizes}
use Rattle.jdwp_mirror.specs.Mirror.{ends}
use Rattle.jdwp_mirror.specs.Mirrors.{Mirror, empty_mirror}
use Rattle.jdwp_debugger.specs.News.{News, Waits, Happens, Answers, Measures, Reading, says, widths_by}
use Rattle.jdwp_debugger.specs.Runs.{Act, Attaches, Greets, Reads, Asks, Ends, GoesOn, HasRun, InOrder, IsAwaited, MayCome, MayDo, MayDoAll, Ran, ids_of, is_among, known, known_after, outstanding, outstanding_after, phase_after, phase_of, put, put_by, read, read_by}
use Rattle.jdwp_debugger.specs.FollowingKept.{following}
use Rattle.jdwp_debugger.proofs.Followed.{asked-follows, first-follows, put-to-follows}
use Rattle.jdwp_debugger.proofs.Knowing.{heard-more, heard-put, known-more, learned-onto, may-more, measures-first, measures-unknown}
use Rattle.jdwp_debugger.proofs.Saying.{Backs, backs, left_by, settles-by}

-- ---- one act more

phase-more : (acts : List Act) (act : Act) → phase_of (acts ++ act ∷ []) ≡ phase_after (phase_of acts) act
phase-more acts act = fold-append phase_after phase.Closed acts (act ∷ [])

waits-more : (acts : List Act) (act : Act) → outstanding (acts ++ act ∷ []) ≡ outstanding_after (outstanding acts) act
waits-more acts act = fold-append outstanding_after [] acts (act ∷ [])

order-more : (p : Phase) (ids : List ℕ) (acts : List Act) (act : Act) → InOrder p ids acts → MayCome (fold phase_after p acts) (fold outstanding_after ids acts) act → InOrder p ids (acts ++ act ∷ [])
order-more p ids [] act order may = (may, tt)
order-more p ids (first ∷ acts) act order may = (order.0, order-more (phase_after p first) (outstanding_after ids first) acts act order.1 may)

more : (by : Act → List Message) (acts : List Act) (act : Act) → flat_map by (acts ++ act ∷ []) ≡ flat_map by acts ++ by act
more by acts act = flat_map-append by acts (act ∷ []) ∙ ap (λ (x : List Message). flat_map by acts ++ x) (append-nil (by act))

-- a session goes on
goes-on : {o : Order} (old new : End) (t u : ℕ) (before after : Reading) (m n : Mirror) (f g : Option Following) (act : Act) → (r : HasRun o old t before m f) → MayCome old.phase (outstanding r.acts) act → MayDo o (known o r.before r.acts) act
    → new.phase ≡ phase_after old.phase act → (is_open new ≡ true → ids_of after.pending ≡ outstanding_after (outstanding r.acts) act) → Carries new (read r.acts ++ read_by act)
    → new.session.enqueued ≡ old.session.enqueued ++ stream (put_by act) → u ≡ (known_after (known o r.before r.acts) act).tickets
    → (is_open new ≡ true → after ≡ (known_after (known o r.before r.acts) act).reading) → LearnedAll o empty_mirror (heard (known_after (known o r.before r.acts) act).history) n
    → g ≡ (known_after (known o r.before r.acts) act).following → HasRun o new u after n g
goes-on {o = o} old new t u before after m n f g act r may does phased waits carries enqueued given knows learned follows =
    let next = sym (known-more o r.before r.acts act) in
    record {
      acts = r.acts ++ act ∷ [];
      in_order = order-more phase.Closed [] r.acts act r.in_order (subst (λ (p : Phase). MayCome p (outstanding r.acts) act) r.phase may);
      phase = phased ∙ ap (λ (p : Phase). phase_after p act) r.phase ∙ sym (phase-more r.acts act);
      waits = λ opened. waits opened ∙ sym (waits-more r.acts act);
      carries = subst (Carries new) (sym (more read_by r.acts act)) carries;
      enqueued =
          enqueued
          ∙ (ap (λ (x : List ℕ). x ++ stream (put_by act)) r.enqueued ∙ sym (ap stream (more put_by r.acts act) ∙ stream-append (put r.acts) (put_by act)));
      before = r.before;
      taken = may-more o (nothing o r.before) r.acts act r.taken does;
      given = given ∙ ap (λ (k : Knowledge). k.tickets) next;
      knows = λ opened. knows opened ∙ ap (λ (k : Knowledge). k.reading) next;
      learned = subst (λ (k : Knowledge). LearnedAll o empty_mirror (heard k.history) n) next learned;
      follows = follows ∙ ap (λ (k : Knowledge). k.following) next;
    }

-- ---- calls by which nothing is read or put

-- before the first session
pub ran-new : {o : Order} (limits : Limits) (tickets : ℕ) (reading : Reading) (mirror : Mirror) → mirror ≡ empty_mirror → HasRun o (new_end limits) tickets reading mirror None
ran-new limits tickets reading mirror none = record {
  acts = [];
  in_order = tt;
  phase = refl;
  waits = λ e. absurd cc;
  carries = carries-new limits;
  enqueued = refl;
  before = tickets;
  taken = tt;
  given = refl;
  knows = λ e. absurd cc;
  learned = none;
  follows = refl;
}

-- an end at which bytes came or left
moved : {o : Order} {f : Option Following} (old new : End) (t : ℕ) (reading : Reading) (m : Mirror) → (r : HasRun o old t reading m f) → new.phase ≡ old.phase → new.session.enqueued ≡ old.session.enqueued → Carries new (read r.acts) → HasRun o new t reading m f
moved old new t reading m r phased enqueued carries =
    let opened : is_open new ≡ is_open old = ap is_open_phase phased in
    record {
      acts = r.acts;
      in_order = r.in_order;
      phase = phased ∙ r.phase;
      waits = λ e. r.waits (sym opened ∙ e);
      carries = carries;
      enqueued = enqueued ∙ r.enqueued;
      before = r.before;
      taken = r.taken;
      given = r.given;
      knows = λ e. r.knows (sym opened ∙ e);
      learned = r.learned;
      follows = r.follows;
    }

with-nothing : (end : End) (messages : List Message) → Carries end messages → Carries (with_fed [] end) messages
with-nothing end messages c = rw (append-nil end.incoming, append-nil end.session.fed) c

fed-so : (b : Bool) (end : End) (bytes : List ℕ) (messages : List Message) → is_open end ≡ b → (b ≡ false → bytes ≡ []) → Carries end messages → Carries (with_fed bytes end) messages
fed-so true end bytes messages is none c = carries-fed end messages bytes is c
fed-so false end bytes messages is none c = subst (λ (x : List ℕ). Carries (with_fed x end) messages) (sym (none refl)) (with-nothing end messages c)

-- a closed end takes nothing
pub ran-fed : {o : Order} {f : Option Following} (end : End) (t : ℕ) (reading : Reading) (m : Mirror) (bytes : List ℕ) → (is_open end ≡ false → bytes ≡ []) → HasRun o end t reading m f → HasRun o (with_fed bytes end) t reading m f
ran-fed end t reading m bytes none r = moved end (with_fed bytes end) t reading m r refl refl (fed-so (is_open end) end bytes (read r.acts) refl none r.carries)

pub ran-taken : {o : Order} {f : Option Following} (end : End) (t : ℕ) (reading : Reading) (m : Mirror) (n : ℕ) → n ≤ length end.outgoing → HasRun o end t reading m f → HasRun o (with_taken (take n end.outgoing) end) t reading m f
ran-taken end t reading m n le r = moved end (with_taken (take n end.outgoing) end) t reading m r refl refl (carries-taken end (read r.acts) n le r.carries)

-- ---- a session begins, and ends

pub ran-attached : {o : Order} (end : End) (t : ℕ) (reading : Reading) (m : Mirror) → reading ≡ (nothing o t).reading → m ≡ empty_mirror → HasRun o (with_enqueued handshake_bytes (opened_end end)) t reading m (begun_in o)
ran-attached end t reading m unread unlearned = record {
  acts = Attaches ∷ [];
  in_order = (refl, tt);
  phase = refl;
  waits = λ e. ap (λ (r : Reading). ids_of r.pending) unread;
  carries = carries-enqueued (opened_end end) [] handshake_bytes refl (carries-opened end);
  enqueued = refl;
  before = t;
  taken = (tt, tt);
  given = refl;
  knows = λ e. unread;
  learned = unlearned;
  follows = refl;
}

-- what is known at a closed end is nothing to its run
pub ran-closed : {o : Order} (end : End) (t : ℕ) (before after : Reading) (m n : Mirror) (f : Option Following) → n ≡ empty_mirror → HasRun o end t before m f → HasRun o (closed_end end) t after n None
ran-closed end t before after m n f none r =
    goes-on end (closed_end end) t t before after m n f None Ends r tt tt refl (λ e. absurd cc) (rw (append-nil (read r.acts)) (carries-closed end (read r.acts) r.carries)) (sym (append-nil end.session.enqueued)) r.given
    (λ e. absurd cc) none refl

pub ran-lost : {o : Order} (end : End) (t : ℕ) (before after : Reading) (m n : Mirror) (f : Option Following) → n ≡ empty_mirror → HasRun o end t before m f → HasRun o (lost_end end) t after n None
ran-lost end t before after m n f none r =
    goes-on end (lost_end end) t t before after m n f None Ends r tt tt refl (λ e. absurd cc) (rw (append-nil (read r.acts)) (carries-lost end (read r.acts) r.carries)) (sym (append-nil end.session.enqueued)) r.given
    (λ e. absurd cc) none refl

-- ---- messages

front-due : (end : End) (message : Message) (used : ℕ) → IsBytes end.incoming → front_of end ≡ Whole message used → IsDue end.limits.packet end.phase message
front-due end message used fits front = (in-front end message used fits front).1

pub front-open : (end : End) (message : Message) (used : ℕ) → IsBytes end.incoming → front_of end ≡ Whole message used → is_open end ≡ true
front-open end message used fits front = due-open end.limits.packet end.phase message (front-due end message used fits front)

-- packets are read behind the handshake, and it is read once
packet-due : (limit : ℕ) (p : Phase) (header : Header) (body : List ℕ) → IsDue limit p (Packet header body) → p ≡ phase.Established
packet-due limit phase.Closed header body due = absurd due
packet-due limit phase.AwaitingHandshake header body due = absurd (cc)
packet-due limit phase.Established header body due = refl

handshake-due : (limit : ℕ) (p : Phase) → IsDue limit p Handshake → p ≡ phase.AwaitingHandshake
handshake-due limit phase.Closed due = absurd due
handshake-due limit phase.AwaitingHandshake due = refl
handshake-due limit phase.Established due = absurd due

-- the mirror to which what a packet says is added: what waited for the widths of ids is learned from nothing
abbrev pub learned_from : News → Mirror → Mirror
learned_from (Waits bytes) m = m
learned_from (Happens c) m = m
learned_from (Answers place ticket answer) m = m
learned_from (Measures place answer w cs) m = empty_mirror

-- what is heard is added to what was heard, and of the widths of ids nothing was heard before
heard-onto : (o : Order) (n : News) (header : Header) (pending : List Asked) (before : ℕ) (acts : List Act) (old new : Mirror) → InOrder phase.Closed [] acts → MayDoAll o (nothing o before) acts → phase_of acts ≡ phase.Established
    → Backs (known o before acts).reading header.id header.kind n → LearnedAll o empty_mirror (heard (known o before acts).history) old → LearnedAll o (learned_from n old) (messages_of n pending) new
    → LearnedAll o empty_mirror (heard (known o before acts).history ++ messages_of n pending) new
heard-onto o (Waits bytes) header pending before acts old new order may phased b was now = learned-onto o (heard (known o before acts).history) [] empty_mirror old new was now
heard-onto o (Happens c) header pending before acts old new order may phased b was now = learned-onto o (heard (known o before acts).history) (Report c ∷ []) empty_mirror old new was now
heard-onto o (Answers place ticket answer) header pending before acts old new order may phased b was now =
    learned-onto o (heard (known o before acts).history) (messages_of (Answers place ticket answer) pending) empty_mirror old new was now
heard-onto o (Measures place answer w cs) header pending before acts old new order may phased b was now =
    let first = measures-first o before acts header place answer w cs order may phased b in
    subst (λ (ms : List heards.Message). LearnedAll o empty_mirror (ms ++ messages_of (Measures place answer w cs) pending) new) (sym first) now

left-is : (header : Header) (n : News) (r : Reading) → (reading_after header n r).pending ≡ left_by n r.pending
left-is header (Waits bytes) r = refl
left-is header (Happens c) r = refl
left-is header (Answers place ticket answer) r = refl
left-is header (Measures place answer w cs) r = refl

-- what a packet says settles the command that it answers, and is heard
pub ran-said : (d : Debugger) (header : Header) (body : List ℕ) (used : ℕ) (n : News) (m : Mirror) → IsBytes d.end.incoming → front_of d.end ≡ Whole (Packet header body) used → says (reading_of d) header.id header.kind body ≡ Ok n
    → news_refusal d.order d.mirror n ≡ None → LearnedAll d.order (learned_from n d.mirror) (messages_of n d.pending) m → Ran d
    → HasRun d.order (with_handled (Packet header body) used d.end) d.tickets (reading_after header n (reading_of d)) m (followed (reading_of d) n (following d))
ran-said d header body used n m fits front said fair learned r =
    let k = known d.order r.before r.acts in
    let opened = front-open d.end (Packet header body) used fits front in
    let established = packet-due d.end.limits.packet d.end.phase header body (front-due d.end (Packet header body) used fits front) in
    let same = r.knows opened in
    let said_so : says k.reading header.id header.kind body ≡ Ok n = subst (λ (x : Reading). says x header.id header.kind body ≡ Ok n) same said in
    let b = backs k.reading header.id header.kind body n said_so in
    let s = settles-by (reading_of d) header.id header.kind n (backs (reading_of d) header.id header.kind body n said) in
    let settled =
    subst (λ (x : List ℕ). (ids_of (left_by n d.pending) ≡ outstanding_after x (Reads header body)) × IsAwaited header.kind header.id x) (r.waits opened) s in
    let entered : known_after k (Reads header body) ≡ with_news header n k = ap (λ (x : Result News DebuggerFault). with_said header x k) said_so in
    let told = subst (λ (x : Reading). LearnedAll d.order (learned_from n d.mirror) (messages_of n x.pending) m) same learned in
    let all = heard-onto d.order n header k.reading.pending r.before r.acts d.mirror m r.in_order r.taken (sym r.phase ∙ established) b r.learned told in
    let once = subst (λ (ms : List heards.Message). LearnedAll d.order empty_mirror ms m) (sym (heard-more k.history (messages_of n k.reading.pending))) all in
    goes-on d.end (with_handled (Packet header body) used d.end) d.tickets d.tickets (reading_of d) (reading_after header n (reading_of d)) d.mirror m (following d) (followed (reading_of d) n (following d)) (Reads header body) r (established, settled.1)
    (record { news = n; said = said_so; mirror = d.mirror; learned = r.learned; unrefused = fair }) refl (λ e. ap ids_of (left-is header n (reading_of d)) ∙ settled.0)
    (carries-handled d.end (read r.acts) (Packet header body) used fits front r.carries) (sym (append-nil d.end.session.enqueued)) (r.given ∙ ap (λ (x : Knowledge). x.tickets) (sym entered))
    (λ e. ap (reading_after header n) same ∙ ap (λ (x : Knowledge). x.reading) (sym entered)) (subst (λ (x : Knowledge). LearnedAll d.order empty_mirror (heard x.history) m) (sym entered) once)
    ((λ j. followed (same j) n (r.follows j)) ∙ ap (λ (x : Knowledge). x.following) (sym entered))

-- the widths of ids are told once
pub said-unknown : (d : Debugger) (header : Header) (body : List ℕ) (used place : ℕ) (answer : Answer) (w : Widths) (cs : List CompositeMeaning) → IsBytes d.end.incoming → front_of d.end ≡ Whole (Packet header body) used
    → says (reading_of d) header.id header.kind body ≡ Ok (Measures place answer w cs) → Ran d → d.sizes ≡ None
said-unknown d header body used place answer w cs fits front said r =
    let opened = front-open d.end (Packet header body) used fits front in
    let established = packet-due d.end.limits.packet d.end.phase header body (front-due d.end (Packet header body) used fits front) in
    let same = r.knows opened in
    let b = subst (λ (x : Reading). Backs x header.id header.kind (Measures place answer w cs)) same (backs (reading_of d) header.id header.kind body (Measures place answer w cs) said) in
    ap (λ (x : Reading). x.sizes) same ∙ measures-unknown d.order r.before r.acts header place answer w cs r.in_order r.taken (sym r.phase ∙ established) b

-- one command more waits
one-more : (pending : List Asked) (p : Asked) (ids : List ℕ) → ids_of pending ≡ ids → ids_of (pending ++ p ∷ []) ≡ ids ++ p.id ∷ []
one-more pending p ids is = map-append (λ (q : Asked). q.id) pending (p ∷ []) ∙ ap (λ (x : List ℕ). x ++ p.id ∷ []) is

-- IDSizes waits
abbrev pub with_sizes_asked : ℕ → Reading → Reading
with_sizes_asked id r = record r { pending = r.pending ++ record { id = id; ticket = None; command = id_sizes } ∷ [] }

pub ran-greeted : {o : Order} (end : End) (t : ℕ) (reading : Reading) (m : Mirror) (f : Option Following) (used id : ℕ) → IsBytes end.incoming → front_of end ≡ Whole Handshake used → HasRun o end t reading m f
    → HasRun o (with_enqueued (header_bytes (sizes_header id)) (with_handled Handshake used end)) t (with_sizes_asked id reading) m (put_to (widths_by reading.sizes) id_sizes f)
ran-greeted {o = o} end t reading m f used id fits front r =
    let k = known o r.before r.acts in
    let read_it = with_handled Handshake used end in
    let bytes = header_bytes (sizes_header id) in
    let bare : stream (Packet (sizes_header id) [] ∷ []) ≡ bytes = stream-one (Packet (sizes_header id) []) ∙ append-nil bytes in
    let opened = front-open end Handshake used fits front in
    goes-on end (with_enqueued bytes read_it) t t reading (with_sizes_asked id reading) m m f (put_to (widths_by reading.sizes) id_sizes f) (Greets id) r (handshake-due end.limits.packet end.phase (front-due end Handshake used fits front)) tt refl
    (λ e. one-more reading.pending (record { id = id; ticket = None; command = id_sizes }) (outstanding r.acts) (r.waits opened))
    (carries-enqueued read_it (read r.acts ++ Handshake ∷ []) bytes refl (carries-handled end (read r.acts) Handshake used fits front r.carries))
    (ap (λ (x : List ℕ). end.session.enqueued ++ x) (sym bare)) r.given (λ e. ap (with_sizes_asked id) (r.knows opened))
    (subst (λ (ms : List heards.Message). LearnedAll o empty_mirror ms m) (sym (heard-put k.history None id_sizes)) r.learned)
    (λ j. let same = r.knows opened in put_to (widths_by (same j).sizes) id_sizes (r.follows j))

among : (id : ℕ) (pending : List Asked) → is_among id (ids_of pending) ≡ is_outstanding pending id
among id [] = refl
among id (p ∷ ps) = ap (λ (b : Bool). (p.id == id) || b) (among id ps)

-- a command waits under the ticket behind so many
abbrev pub with_command : ℕ → ℕ → Command → Reading → Reading
with_command id t c r = record r { pending = r.pending ++ record { id = id; ticket = Some (record { 0 = t + 1 }); command = c } ∷ [] }

pub ran-asked : {o : Order} (end : End) (t : ℕ) (reading : Reading) (m : Mirror) (f : Option Following) (w : Widths) (id : ℕ) (c : Command) → end.phase ≡ phase.Established → reading.sizes ≡ Some w → is_outstanding reading.pending id ≡ false → EncodesCommand w c
    → HasRun o end t reading m f → HasRun o (with_enqueued (command_bytes w id c) end) (t + 1) (with_command id t c reading) m (put_to w c f)
ran-asked {o = o} end t reading m f w id c phased wide free encoded r =
    let k = known o r.before r.acts in
    let opened : is_open end ≡ true = ap is_open_phase phased in
    let same = r.knows opened in
    let bytes = command_bytes w id c in
    let free_id : is_among id (outstanding r.acts) ≡ false = ap (is_among id) (sym (r.waits opened)) ∙ among id reading.pending ∙ free in
    goes-on end (with_enqueued bytes end) t (t + 1) reading (with_command id t c reading) m m f (put_to w c f) (Asks w id c) r (phased, free_id, encoded) (sym (ap (λ (x : Reading). x.sizes) same) ∙ wide) phased
    (λ e. one-more reading.pending (record { id = id; ticket = Some (record { 0 = t + 1 }); command = c }) (outstanding r.acts) (r.waits opened))
    (subst (Carries (with_enqueued bytes end)) (sym (append-nil (read r.acts))) (carries-enqueued end (read r.acts) bytes opened r.carries))
    (ap (λ (x : List ℕ). end.session.enqueued ++ x) (sym (append-nil bytes))) (ap (λ (n : ℕ). n + 1) r.given) (λ e. (λ j. with_command id (r.given j) c (same j)))
    (subst (λ (ms : List heards.Message). LearnedAll o empty_mirror ms m) (sym (heard-put k.history (Some (k.tickets + 1)) c)) r.learned)
    (ap (λ (s : Option Widths). put_to (widths_by s) c f) (sym wide) ∙ (λ j. put_to (widths_by (same j).sizes) c (r.follows j)))

-- ---- turns

so : (old new : Debugger) → new ≡ old → Ran old → Ran new
so old new is r = subst Ran (sym is) r

pub ran-closing : (d : Debugger) → Ran d → Ran (closed_debugger d)
ran-closing d r = ran-closed d.end d.tickets (reading_of d) (reading_of (closed_debugger d)) d.mirror empty_mirror (following d) refl r

ran-closed-where : (b : Bool) (d : Debugger) → Ran d → Ran (closed_where b d)
ran-closed-where true d r = ran-closing d r
ran-closed-where false d r = r

ran-measured-where : (b : Bool) (w : Widths) (d : Debugger) → Ran d → Ran (measured_where b w d)
ran-measured-where true w d r = ran-closed d.end d.tickets (reading_of d) (reading_of (measured_where true w d)) d.mirror empty_mirror (following d) refl r
ran-measured-where false w d r = r

ran-entered : (header : Header) (body : List ℕ) (used : ℕ) (news : News) (old new : Debugger) (told : Told)
    → ((m : Mirror) → LearnedAll old.order (learned_from news old.mirror) (messages_of news old.pending) m → HasRun old.order (with_handled (Packet header body) used old.end) old.tickets (reading_after header news (reading_of old)) m (followed (reading_of old) news (following old)))
    → Enters (Packet header body) used header news old told new → Ran new
ran-entered header body used (Waits bytes) old new told r (tells, is) = subst Ran (sym is) (r old.mirror refl)
ran-entered header body used (Happens c) old new told r (tells, (m, learned, ledger, goes, is)) =
    subst Ran (sym is) (ran-closed-where (ends (Report c)) (record (with_read (Packet header body) used (head.Composite header ∷ []) old) { mirror = m; ledger = ledger })
    (subst (λ (f : Option Following). HasRun old.order (with_handled (Packet header body) used old.end) old.tickets (reading_after header (Happens c) (reading_of old)) m f) (sym goes) (r m (m, learned, refl))))
ran-entered header body used (Answers place ticket answer) old new told r (tells, (m, learned, ledger, goes, is)) =
    subst Ran (sym is)
    (ran-closed-where (ends (Reply (Some ticket) (command_at place old.pending) answer))
    (record (with_read (Packet header body) used (reply_head header (command_at place old.pending) ∷ []) old) { mirror = m; pending = remove old.pending place; ledger = ledger })
    (subst (λ (f : Option Following). HasRun old.order (with_handled (Packet header body) used old.end) old.tickets (reading_after header (Answers place ticket answer) (reading_of old)) m f) (sym goes) (r m (m, learned, refl))))
ran-entered header body used (Measures place answer w cs) old new told r (tells, (m, learned, ledger, goes, is)) =
    subst Ran (sym is) (ran-measured-where (list_any ends (reports cs)) w (with_ledger ledger (with_sizes (Packet header body) used header place m w old))
    (subst (λ (f : Option Following). HasRun old.order (with_handled (Packet header body) used old.end) old.tickets (reading_after header (Measures place answer w cs) (reading_of old)) m f) (sym goes) (r m learned)))

pub ran-refused : (d : Debugger) → Ran d → Ran (refused d)
ran-refused d r = ran-closing d r

ran-failed : (header : Header) (body : List ℕ) (old new : Debugger) (f : DebuggerFault) → FailsAt header body old f new → Ran old → Ran new
ran-failed header body old new code.NoMemory h r = so old new h.1 r
ran-failed header body old new (code.Frame f) h r = so (refused old) new h.1 (ran-refused old r)
ran-failed header body old new code.UnknownReply h r = so (refused old) new h.1 (ran-refused old r)
ran-failed header body old new code.BadReply h r = so (refused old) new h.1 (ran-refused old r)
ran-failed header body old new code.TooManyParked h r = so (refused old) new h.1 (ran-refused old r)
ran-failed header body old new code.BadEvent h r = so (refused old) new h.1 (ran-refused old r)

ran-turn-at : (front : NextMessage) (old new : Debugger) (result : Result Read DebuggerFault) → front_of old.end ≡ front → IsBytes old.end.incoming → Ran old
    → TurnsAt front old result new → Ran new
ran-turn-at (Whole Handshake used) old new (Ok x) at fits r (tells, none, is) =
    let p : Asked = record { id = old.next_id; ticket = None; command = id_sizes } in
    let follows : following (greeted used old) ≡ put_to (widths_by old.sizes) id_sizes (following old) =
    put-to-follows old.ledger (greeted used old).ledger old.sizes old.pending (old.pending ++ p ∷ []) p refl refl in
    so (greeted used old) new is
    (subst (λ (f : Option Following). HasRun old.order (greeted used old).end old.tickets (with_sizes_asked old.next_id (reading_of old)) old.mirror f) (sym follows)
    (ran-greeted old.end old.tickets (reading_of old) old.mirror (following old) used old.next_id fits at r))
ran-turn-at (Whole Handshake used) old new (Err f) at fits r t = so old new t.1 r
ran-turn-at (Whole (Packet header body) used) old new (Ok x) at fits r t =
    ran-entered header body used t.news old new (read_meaning x) (λ m learned. ran-said old header body used t.news m fits at t.said t.unrefused learned r) t.entered
ran-turn-at (Whole (Packet header body) used) old new (Err f) at fits r t = ran-failed header body old new f t r
ran-turn-at More old new result at fits r t = so (record old { last = [] }) new t.1 r
ran-turn-at (Fault f) old new result at fits r t = so (refused old) new t.1 (ran-refused old r)

pub ran-turn : (old new : Debugger) (result : Result Read DebuggerFault) → IsBytes old.end.incoming → Ran old → TurnsAt (front_of old.end) old result new → Ran new
ran-turn old new result fits r t = ran-turn-at (front_of old.end) old new result refl fits r t

pub ran-ask : (command : Command) (old new : Debugger) → Ran old → HasAsked command old new → Ran new
ran-ask command old new r h =
    let p : Asked = record { id = h.id; ticket = Some (record { 0 = old.tickets + 1 }); command = command } in
    let then = asked h.widths h.id command old in
    let follows : following then ≡ put_to h.widths command (following old) =
    asked-follows old.ledger then.ledger old.sizes h.widths old.pending (old.pending ++ p ∷ []) p h.known refl refl in
    so then new h.is
    (subst (λ (f : Option Following). HasRun old.order then.end then.tickets (reading_of then) old.mirror f) (sym follows)
    (ran-asked old.end old.tickets (reading_of old) old.mirror (following old) h.widths h.id command h.established h.known h.next.free h.encoded r))

-- ---- all of it

pub each-goes-on : GoesOn
each-goes-on = record {
  new = λ order limits id. ran-new limits 0 (nothing order 0).reading empty_mirror refl;
  attached = λ d.
      subst (λ (f : Option Following). HasRun d.order (with_enqueued handshake_bytes (opened_end d.end)) d.tickets (nothing d.order 0).reading empty_mirror f) (sym (first-follows d.order (widths_by None)))
      (ran-attached d.end d.tickets (nothing d.order 0).reading empty_mirror refl refl);
  asked = ran-ask;
  turned = ran-turn;
  fed = λ d bytes none r. ran-fed d.end d.tickets (reading_of d) d.mirror bytes none r;
  taken = λ d n le r. ran-taken d.end d.tickets (reading_of d) d.mirror n le r;
  lost = λ d r. ran-lost d.end d.tickets (reading_of d) (nothing d.order 0).reading d.mirror empty_mirror (following d) refl r;
}
