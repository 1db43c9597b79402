-- What threads do: what a step makes happen, and the state after it; the end of a thread.
use Rattle.std.specs.Prelude.{ℕ, ◌+◌, ◌-◌, true, List, [], ◌∷◌, map, drop, length, nat_lt, if◌then◌else◌, pos, Option, Some, None, option_map, option_and_then}
use Rattle.std.specs.List.{slice_get}
use Rattle.jdwp_value.specs.declared.location.Location.{Location}
use Rattle.jdwp_value.specs.declared.location.Location.TheVariants.{Null}
use Rattle.jdwp_event.specs.Occurrences.{OccurrenceMeaning, Moved, Entered, Left, Threw, Prepared, Started, RanOut, HappeningMeaning, PlaceMeaning, ThrownMeaning, PreparedMeaning}
use Rattle.jdwp_script.specs.declared.step.Place.{Place}
use Rattle.jdwp_script.specs.declared.step.SlotValue.{SlotValue}
use Rattle.jdwp_script.specs.declared.step.Throw.{Throw}
use Rattle.jdwp_script.specs.Limits.{LIST_LIMIT}
use Rattle.jdwp_script.specs.Literals.{literal_value}
use Rattle.jdwp_script.specs.Parts.{ClassPart, ObjectPart, CallPart, StepPart, Call, Go, Return, Throwing, Prepare, Start, Again, ThreadPart, ScriptPart}
use Rattle.jdwp_script_machine.specs.LookUps.{changed}
use Rattle.jdwp_script_machine.specs.States.{SlotNow, FrameNow, Lives, HasEnded, ThreadNow, ClassNow, State, thread_at, may_begin}
use Rattle.jdwp_script_machine.specs.Sites.{class_in, object_in, thread_in, tagged, reached, class_seen, site_in, found_location, newest_place}

-- ---- the next step

-- the step at this place of a thread's list
abbrev pub step_at : ScriptPart → ℕ → ℕ → Option StepPart
step_at script id place = option_and_then (λ (t : ThreadPart). slice_get t.steps place) (thread_in script id)

-- the next step of a thread, if one is left
abbrev pub next_step : ScriptPart → ThreadNow → Option StepPart
next_step script e = step_at script e.id e.place

-- the place at which a thread goes on that comes to this step, at this place: an `again` is no step of its own
abbrev pub goes_on_at : Option StepPart → ℕ → ℕ
goes_on_at None place = place
goes_on_at (Some (Again k)) place = place - k
goes_on_at (Some (Call c)) place = place
goes_on_at (Some (Go index)) place = place
goes_on_at (Some (Return v)) place = place
goes_on_at (Some (Throwing x)) place = place
goes_on_at (Some (Prepare c)) place = place
goes_on_at (Some (Start t)) place = place

-- the place of a thread's next step once this one is made
abbrev pub place_after : ScriptPart → ThreadNow → ℕ
place_after script e = goes_on_at (step_at script e.id (e.place + 1)) (e.place + 1)

-- ---- frames

abbrev pub slot_now : SlotValue → SlotNow
slot_now x = record { slot = x.slot; value = literal_value x.value }

-- a frame as it begins, at index 0
abbrev pub called : CallPart → FrameNow
called c = record { id = c.frame; class = c.class; method = c.method; index = 0; this = c.this; slots = map slot_now c.slots }

-- the newest frame at this index
abbrev pub moved : ℕ → List FrameNow → List FrameNow
moved index [] = []
moved index (f ∷ fs) = record f { index = index } ∷ fs

-- A call puts a frame at its method's beginning, a go moves the newest frame, and a return takes it off. Other steps,
-- an exception too, leave the frames.
abbrev pub frames_after : StepPart → List FrameNow → List FrameNow
frames_after (Call c) fs = called c ∷ fs
frames_after (Go index) fs = moved index fs
frames_after (Return v) fs = drop 1 fs
frames_after (Throwing x) fs = fs
frames_after (Prepare c) fs = fs
frames_after (Start t) fs = fs
frames_after (Again k) fs = fs

-- ---- what happens

-- more frames a thread never has
abbrev pub FRAME_LIMIT : ℕ
FRAME_LIMIT = LIST_LIMIT

-- where an exception is caught: the null location where it isn't
abbrev pub caught_at : ScriptPart → Option Place → Location
caught_at script None = Null
caught_at script (Some p) = found_location p.index (site_in script p.class.0 p.method.0)

abbrev pub thrown : ScriptPart → Throw → ObjectPart → ThrownMeaning
thrown script x o = record { exception = tagged script o.id; caught_at = caught_at script x.caught; reaches = reached script o.class }

abbrev pub threw : ScriptPart → Throw → Option PlaceMeaning → Option ObjectPart → Option OccurrenceMeaning
threw script x None o = None
threw script x (Some place) o = option_map (λ (o : ObjectPart). Threw place (thrown script x o)) o

-- a class that becomes prepared has status 3: verified and prepared
abbrev pub prepared : ScriptPart → ClassPart → PreparedMeaning
prepared script c = record { tag = c.tag; id = c.id; status = pos 3; class = class_seen script c }

-- What a step of a thread with these frames makes happen. None where it can't be made: it names a class, a method or an
-- object that there is not, it needs a frame and there is none, it would put one more frame than may be, it starts a
-- thread that has begun, or it is an `again`.
abbrev pub occurrence : State → List FrameNow → StepPart → Option OccurrenceMeaning
occurrence s fs (Call c) = if nat_lt (length fs) FRAME_LIMIT then option_map (λ p. Entered p) (newest_place s.script (called c ∷ fs)) else None
occurrence s fs (Go index) = option_map (λ p. Moved p) (newest_place s.script (moved index fs))
occurrence s fs (Return v) = option_map (λ p. Left p (literal_value v)) (newest_place s.script fs)
occurrence s fs (Throwing x) = threw s.script x (newest_place s.script fs) (object_in s.script x.object.0)
occurrence s fs (Prepare c) = option_map (λ (c : ClassPart). Prepared (prepared s.script c)) (class_in s.script c)
occurrence s fs (Start t) = if may_begin s.threads t then Some Started else None
occurrence s fs (Again k) = None

-- the thread that is named: the new one where a thread is started
abbrev pub named_by : ℕ → StepPart → ℕ
named_by t (Start n) = n
named_by t (Call c) = t
named_by t (Go n) = t
named_by t (Return v) = t
named_by t (Throwing x) = t
named_by t (Prepare n) = t
named_by t (Again k) = t

abbrev pub ran_out : ℕ → HappeningMeaning
ran_out t = record { thread = t; occurrence = RanOut }

abbrev pub happening_by : ℕ → StepPart → Option OccurrenceMeaning → HappeningMeaning
happening_by t step None = ran_out t
happening_by t step (Some o) = record { thread = named_by t step; occurrence = o }

abbrev pub happening_at : State → ℕ → List FrameNow → Option StepPart → HappeningMeaning
happening_at s t fs None = ran_out t
happening_at s t fs (Some step) = happening_by t step (occurrence s fs step)

abbrev pub happening_of : State → ℕ → Option ThreadNow → HappeningMeaning
happening_of s t None = ran_out t
happening_of s t (Some e) = happening_at s t e.frames (next_step s.script e)

-- What the next step of a thread makes happen. A thread has run out where no step is left, or the next one can't be made.
abbrev pub next : State → ℕ → HappeningMeaning
next s t = happening_of s t (thread_at s t)

-- ---- the state after a step

-- the thread that made the step, and goes on at this place
abbrev pub after_step : ℕ → StepPart → ThreadNow → ThreadNow
after_step place step e = record e { place = place; frames = frames_after step e.frames }

abbrev pub alive : ThreadNow → ThreadNow
alive e = record e { life = Lives }

-- a step that starts a thread makes it live
abbrev pub with_started : StepPart → List ThreadNow → List ThreadNow
with_started (Start n) es = changed (λ (e : ThreadNow). e.id) n alive es
with_started (Call c) es = es
with_started (Go n) es = es
with_started (Return v) es = es
with_started (Throwing x) es = es
with_started (Prepare n) es = es
with_started (Again k) es = es

abbrev pub ready : ClassNow → ClassNow
ready c = record c { is_prepared = true }

-- a step that prepares a class makes it prepared
abbrev pub with_prepared : StepPart → List ClassNow → List ClassNow
with_prepared (Prepare n) cs = changed (λ (c : ClassNow). c.id) n ready cs
with_prepared (Call c) cs = cs
with_prepared (Go n) cs = cs
with_prepared (Return v) cs = cs
with_prepared (Throwing x) cs = cs
with_prepared (Start n) cs = cs
with_prepared (Again k) cs = cs

abbrev pub stepped_by : State → ℕ → ℕ → Option StepPart → State
stepped_by s t place None = s
stepped_by s t place (Some step) =
    record s {
      threads = changed (λ (e : ThreadNow). e.id) t (after_step place step) (with_started step s.threads);
      classes = with_prepared step s.classes;
    }

abbrev pub stepped_of : State → ℕ → Option ThreadNow → State
stepped_of s t None = s
stepped_of s t (Some e) = stepped_by s t (place_after s.script e) (next_step s.script e)

-- the state after the next step of a thread, if one is left
abbrev pub stepped : State → ℕ → State
stepped s t = stepped_of s t (thread_at s t)

-- ---- the end of a thread

abbrev pub gone : ThreadNow → ThreadNow
gone e = record e { life = HasEnded; frames = [] }

abbrev pub ended : State → ℕ → State
ended s t = record s { threads = changed (λ (e : ThreadNow). e.id) t gone s.threads }
