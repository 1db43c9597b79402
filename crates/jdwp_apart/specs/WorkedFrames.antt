-- Frames in sessions that were worked out by hand, of two threads 0 and 1, whose frames are answered by a number.
use Rattle.std.specs.Prelude.{ℕ, pos, false, List, [], ◌∷◌, ◌++◌}
use Rattle.jdwp_layout.specs.CommandNumbers.{FRAMES, SET_SLOTS}
use Rattle.jdwp_layout.specs.Meanings.{Int, Object, Frame, One, Many}
use Rattle.jdwp_layout.specs.declared.answer.Answer.{Answer}
use Rattle.jdwp_action.specs.Actions.{Command}
use Rattle.jdwp_apart.specs.World.{Packet, Answers, Reports, Event, Asks, CarriesOut, SendsReply, Reads, opening}
use Rattle.jdwp_apart.specs.Frames.{Framed, FramedEvent, Happens, Moves, Writes, run_framed}
use Rattle.jdwp_apart.specs.Worked.{command, resume, done, count, whole, reported, everybody}

-- the frames of a thread
abbrev pub frames_of : ℕ → Command
frames_of t = command FRAMES (One (Object t) ∷ One (Int (pos 0)) ∷ One (Int (pos 1)) ∷ [])

-- no slot is written, and no more is needed for what follows
abbrev pub write : ℕ → Command
write t = command SET_SLOTS (One (Object t) ∷ One (Frame 0) ∷ Many [] ∷ [])

abbrev pub answered_with : ℕ → Command → Answer
answered_with n c = count n

abbrev pub all_happen : List Event → List FramedEvent
all_happen [] = []
all_happen (e ∷ es) = Happens e ∷ all_happen es

abbrev pub framed_after : List FramedEvent → Framed
framed_after events = run_framed (record { world = opening false everybody; frames = λ t. answered_with 1 }) events

abbrev pub answers_in_stream : List Packet → List Answer
answers_in_stream [] = []
answers_in_stream (Answers r ∷ ps) = r.0.answer ∷ answers_in_stream ps
answers_in_stream (Reports s ∷ ps) = answers_in_stream ps

-- All threads are stopped by an event, and the frames of 0 are asked: whatever is to be answered, the frames are.
abbrev pub asked_while_stopped : List FramedEvent
asked_while_stopped = all_happen (reported (whole 0) ++ Asks (frames_of 0) ∷ CarriesOut (count 7) ∷ SendsReply ∷ [])

-- No thread runs then.
abbrev pub stopped : List FramedEvent
stopped = asked_while_stopped ++ Moves 0 (answered_with 2) ∷ Happens Reads ∷ []

-- All are resumed, and 0 runs, and from the asking of the Resume nobody is sure.
abbrev pub resumed : List FramedEvent
resumed = stopped ++ (all_happen (Asks resume ∷ CarriesOut done ∷ []) ++ Moves 0 (answered_with 2) ∷ [])

-- Slots of 1 are written, and of no other.
abbrev pub written : List FramedEvent
written = stopped ++ Happens (Asks (write 1)) ∷ Writes done (answered_with 3) ∷ []
