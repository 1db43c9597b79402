-- How long what a target answered of a thread's frames stays true (JDWP specification, "Protocol Details": the set StackFrame, and Frames
-- and FrameCount of the set ThreadReference).
use Rattle.std.specs.Prelude.{◌≡◌, ◌≤◌, ℕ, ◌+◌, ◌==◌, nat_lt, Bool, false, ◌||◌, List, [], ◌∷◌, ◌++◌, length, Option, Some, None, if◌then◌else◌}
use Rattle.jdwp_layout.specs.declared.answer.Answer.{Answer}
use Rattle.jdwp_action.specs.Actions
use Rattle.jdwp_action.specs.Actions.{Command, Action, action_of}
use Rattle.jdwp_apart.specs.Messages.{is_thread}
use Rattle.jdwp_apart.specs.World.{Given, Packet, Answers, World, Event, Asks, CarriesOut, Reads, opening, next}
use Rattle.jdwp_apart.specs.Headline.{IsSurelySuspended}

-- the thread whose frames a command asks about, and the one whose slots it writes
abbrev pub asks_of : Action → Option ℕ
asks_of (Actions.AskFrames t) = Some t
asks_of action = None

abbrev pub writes_of : Action → Option ℕ
writes_of (Actions.SetSlots t frame values) = Some t
writes_of action = None

-- ---- a target whose threads have frames

-- A target, and what it answers to each question about the frames of a thread while that is suspended.
pub record Framed : Type 0 where
  pub world : World
  pub frames : ℕ → Command → Answer

pub data FramedEvent : Type 0 where
  -- what happens to any target; a question about the frames of a suspended thread is answered by them
  Happens : Event → FramedEvent
  -- a thread that is not suspended runs, and has other frames
  Moves : ℕ → (Command → Answer) → FramedEvent
  -- the next command, by which slots of a thread are written, is carried out and answered so: then its frames are answered otherwise
  Writes : Answer → (Command → Answer) → FramedEvent

abbrev pub is_suspended : World → ℕ → Bool
is_suspended w t = nat_lt 0 (w.counts t)

abbrev pub with_frames : Framed → ℕ → (Command → Answer) → Framed
with_frames w t frames = record w { frames = λ u. if t == u then frames else w.frames u }

abbrev pub happens : Framed → Event → Framed
happens w e = record w { world = next w.world e }

abbrev pub answers_by : Framed → Command → Option ℕ → Answer → Answer
answers_by w c None answer = answer
answers_by w c (Some t) answer = if is_suspended w.world t then w.frames t c else answer

-- what the next command is answered, where this was to be answered
abbrev pub answers_next : Framed → List Command → Answer → Answer
answers_next w [] answer = answer
answers_next w (c ∷ cs) answer = answers_by w c (asks_of (action_of c)) answer

abbrev pub writes_by : Framed → Option ℕ → Answer → (Command → Answer) → Framed
writes_by w None answer frames = w
writes_by w (Some t) answer frames = with_frames (happens w (CarriesOut answer)) t frames

abbrev pub writes_next : Framed → List Command → Answer → (Command → Answer) → Framed
writes_next w [] answer frames = w
writes_next w (c ∷ cs) answer frames = writes_by w (writes_of (action_of c)) answer frames

abbrev pub happens_by : Framed → Event → Framed
happens_by w (CarriesOut answer) = happens w (CarriesOut (answers_next w w.world.waiting answer))
happens_by w e = happens w e

abbrev pub next_framed : Framed → FramedEvent → Framed
next_framed w (Happens e) = happens_by w e
next_framed w (Moves t frames) = if is_suspended w.world t then w else with_frames w t frames
next_framed w (Writes answer frames) = writes_next w w.world.waiting answer frames

abbrev pub run_framed : Framed → List FramedEvent → Framed
run_framed w [] = w
run_framed w (e ∷ es) = run_framed (next_framed w e) es

-- P holds after every list of events, whichever frames there were.
abbrev pub AlwaysFramed : ((ℕ → Bool) → Framed → Type 0) → Type 0
AlwaysFramed P =
    (one_by_one : Bool) (first : ℕ → Bool) (frames : ℕ → Command → Answer) (events : List FramedEvent) →
    P first (run_framed (record { world = opening one_by_one first; frames = frames }) events)

-- ---- what stays

-- whether slots of a thread are written by one of these commands, or by one that is asked among these events
abbrev pub has_write : List Command → ℕ → Bool
has_write [] t = false
has_write (c ∷ cs) t = is_thread (writes_of (action_of c)) t || has_write cs t

abbrev pub asks_write : List FramedEvent → ℕ → Bool
asks_write [] t = false
asks_write (Happens (Asks c) ∷ es) t = is_thread (writes_of (action_of c)) t || asks_write es t
asks_write (e ∷ es) t = asks_write es t

-- P holds before each of these events, and after the last.
abbrev pub ThroughoutFramed : (World → Type 0) → Framed → List FramedEvent → Type 0
ThroughoutFramed P w [] = P w.world
ThroughoutFramed P w (e ∷ es) = P w.world × ThroughoutFramed P (next_framed w e) es

-- While a thread is surely suspended without a break, and the debugger writes no slot of it, its frames stay.
abbrev pub FramesStay : (ℕ → Bool) → Framed → Type 0
FramesStay first w =
    (t : ℕ) (events : List FramedEvent) (c : Command) →
    has_write w.world.watch.pending t ≡ false → asks_write events t ≡ false → ThroughoutFramed (IsSurelySuspended t) w events →
    (run_framed w events).frames t c ≡ w.frames t c

-- So a reply to a question about its frames, which was asked while it was surely suspended, is what the target would answer now: where all
-- commands are answered that waited as it was surely suspended first.
abbrev pub AnswersStayTrue : (ℕ → Bool) → Framed → Type 0
AnswersStayTrue first w =
    (t : ℕ) (before after : List FramedEvent) (r : Given) (ps : List Packet) →
    has_write w.world.watch.pending t ≡ false → asks_write (before ++ Happens Reads ∷ after) t ≡ false →
    ThroughoutFramed (IsSurelySuspended t) w (before ++ Happens Reads ∷ after) →
    action_of r.0.command ≡ Actions.AskFrames t → (run_framed w before).world.stream ≡ Answers r ∷ ps →
    w.world.watch.answered + length w.world.watch.pending ≤ (run_framed w before).world.watch.answered →
    (run_framed w (before ++ Happens Reads ∷ after)).frames t r.0.command ≡ r.0.answer
