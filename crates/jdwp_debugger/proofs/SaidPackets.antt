-- What is so of a debugger at a packet in front that says something.
use Rattle.std.proofs.Common.{◌≡◌, ◌∙◌, ℕ, ◌+◌, ◌<◌, ◌≤◌, List, true, false, Option, None, length, ap, sym, arith}
use Rattle.std.specs.Prelude.{is_some}
use Rattle.std.proofs.lemmas.Bool.{eqb-false}
use Rattle.std.proofs.lemmas.Option.{slice_get_within}
use Rattle.jdwp_wire.specs.Bytes.{IsBytes}
use Rattle.jdwp_wire.specs.Streams.{Packet}
use Rattle.jdwp_wire.specs.Widths.{Widths}
use Rattle.jdwp_wire.specs.declared.packet.Header.{Header}
use Rattle.jdwp_layout.specs.declared.answer.Answer.{Answer}
use Rattle.jdwp_event.specs.Composites.{CompositeMeaning}
use Rattle.jdwp_end.specs.Ends.{is_open, with_handled}
use Rattle.jdwp_debugger.specs.Debuggers.{Debugger, IsSizesAlone}
use Rattle.jdwp_debugger.specs.DebuggerTurns.{IsSaid, LearnedAll, followed, news_refusal, reading_of}
use Rattle.jdwp_debugger.specs.FollowingKept.{HasNoTicket, following}
use Rattle.jdwp_debugger.specs.Histories.{messages_of, reading_after}
use Rattle.jdwp_debugger.specs.News.{News, Waits, Happens, Answers, Measures}
use Rattle.jdwp_debugger.specs.Runs.{HasRun, Ran}
use Rattle.jdwp_mirror.specs.Faults.{PARKED_MOST}
use Rattle.jdwp_mirror.specs.Mirrors.{Mirror}
use Rattle.jdwp_debugger.proofs.DebuggerRuns.{front-open, learned_from, ran-said, said-unknown}
use Rattle.jdwp_debugger.proofs.Saying.{Backs, backs, unanswerable}

pub said-open : (d : Debugger) (header : Header) (used : ℕ) (n : News) → IsBytes d.end.incoming → IsSaid d header used n → is_open d.end ≡ true
said-open d header used n fits s = front-open d.end (Packet header s.body) used fits s.front

pub said-ran : (d : Debugger) (header : Header) (used : ℕ) (n : News) (m : Mirror) → IsBytes d.end.incoming → (s : IsSaid d header used n) → news_refusal d.order d.mirror n ≡ None
    → LearnedAll d.order (learned_from n d.mirror) (messages_of n d.pending) m → Ran d → HasRun d.order (with_handled (Packet header s.body) used d.end) d.tickets (reading_after header n (reading_of d)) m (followed (reading_of d) n (following d))
said-ran d header used n m fits s fair learned r = ran-said d header s.body used n m fits s.front s.said fair learned r

pub said-backs : (d : Debugger) (header : Header) (used : ℕ) (n : News) → IsSaid d header used n → Backs (reading_of d) header.id header.kind n
said-backs d header used n s = backs (reading_of d) header.id header.kind s.body n s.said

-- one composite more may wait
pub may-park : (d : Debugger) (header : Header) (used : ℕ) (bytes : List ℕ) → IsSaid d header used (Waits bytes) → length d.parked ≤ PARKED_MOST → length d.parked + 1 ≤ PARKED_MOST
may-park d header used bytes s few = let full = eqb-false (length d.parked) PARKED_MOST (said-backs d header used (Waits bytes) s).2 in omega (arith, full, few)

pub parks-unknown : (d : Debugger) (header : Header) (used : ℕ) (bytes : List ℕ) → IsSaid d header used (Waits bytes) → d.sizes ≡ None
parks-unknown d header used bytes s = (said-backs d header used (Waits bytes) s).1

-- a composite is read once the widths are known
pub knows : (d : Debugger) (header : Header) (used : ℕ) (c : CompositeMeaning) → IsSaid d header used (Happens c) → d.sizes ≡ None → ⊥
knows d header used c s none = let known = (said-backs d header used (Happens c) s).1 in absurd (let e : false ≡ true = sym (ap (λ (o : Option Widths). is_some o) none) ∙ known in cc)

-- the command that is answered waits at a place
pub answers-within : (d : Debugger) (header : Header) (used place ticket : ℕ) (answer : Answer) → IsSaid d header used (Answers place ticket answer) → place < length d.pending
answers-within d header used place ticket answer s = let there = (said-backs d header used (Answers place ticket answer) s).1 in slice_get_within d.pending place there.asked there.at

pub measures-within : (d : Debugger) (header : Header) (used place : ℕ) (answer : Answer) (w : Widths) (cs : List CompositeMeaning) → IsSaid d header used (Measures place answer w cs) → place < length d.pending
measures-within d header used place answer w cs s = let there = (said-backs d header used (Measures place answer w cs) s).1 in slice_get_within d.pending place there.asked there.at

-- the widths of ids are told once, in the reply to a command without a ticket
pub measures-first-time : (d : Debugger) (header : Header) (used place : ℕ) (answer : Answer) (w : Widths) (cs : List CompositeMeaning) → IsBytes d.end.incoming → IsSaid d header used (Measures place answer w cs) → Ran d → d.sizes ≡ None
measures-first-time d header used place answer w cs fits s r = said-unknown d header s.body used place answer w cs fits s.front s.said r

pub measures-bare : (d : Debugger) (header : Header) (used place : ℕ) (answer : Answer) (w : Widths) (cs : List CompositeMeaning) → IsSaid d header used (Measures place answer w cs) → HasNoTicket place d.pending
measures-bare d header used place answer w cs s = let there = (said-backs d header used (Measures place answer w cs) s).1 in (there.asked, there.at, there.ticketed)

-- a command with a ticket is answered once the widths are known
pub known-before : (d : Debugger) (header : Header) (used place ticket : ℕ) (answer : Answer) → IsSaid d header used (Answers place ticket answer) → IsSizesAlone d.pending → ⊥
known-before d header used place ticket answer s alone = unanswerable (reading_of d) header.id place ticket alone (said-backs d header used (Answers place ticket answer) s).1
