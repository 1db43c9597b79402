-- What a command asks the debuggee to do (JDWP specification, "Protocol Details").
use Rattle.std.specs.Prelude.{ℕ, ℤ, Bool, true, false, ◌==◌, ◌||◌, ◌&&◌, not, List, [], ◌∷◌, Option, Some, None, if◌then◌else◌}
use Rattle.std.specs.List.{filter_map}
use Rattle.jdwp_value.specs.declared.value.Value.{Value}
use Rattle.jdwp_layout.specs.CommandNumbers.{EVENT, is_command, THREAD_REFERENCE, STACK_FRAME, ALL_THREADS, DISPOSE, ID_SIZES, SUSPEND, RESUME, EXIT, HOLD_EVENTS, RELEASE_EVENTS, SUSPEND_THREAD, RESUME_THREAD, THREAD_STATUS, FRAMES, FRAME_COUNT, SUSPEND_COUNT, SET_REQUEST, CLEAR_REQUEST, CLEAR_ALL_BREAKPOINTS, SET_SLOTS}
use Rattle.jdwp_layout.specs.CommandTable.{row_at}
use Rattle.jdwp_layout.specs.Rows.{Row, RowShapes}
use Rattle.jdwp_layout.specs.Meanings.{ScalarMeaning, Byte, Int, Object, Frame, Valued, DatumMeaning, One, Many}

-- What a command carries: data in the layout of its row's request, or, in a raw row, bytes that nobody reads.
pub data Carried : Type 0 where
  Content : List DatumMeaning → Carried
  Raw : List ℕ → Carried

-- A command: its set, its number, and what it carries.
pub record Command : Type 0 where
  pub set : ℕ
  pub number : ℕ
  pub carried : Carried

-- ---- the thread that a command is about

abbrev pub first_object : List DatumMeaning → Option ℕ
first_object (One (Object n) ∷ items) = Some n
first_object items = None

abbrev pub object_in : Carried → Option ℕ
object_in (Content items) = first_object items
object_in (Raw bytes) = None

-- commands of ThreadReference and StackFrame begin with a thread
abbrev pub thread_of : Command → Option ℕ
thread_of c = if (c.set == THREAD_REFERENCE) || (c.set == STACK_FRAME) then object_in c.carried else None

-- ---- actions

pub data Action : Type 0 where
  Suspend : Action
  Resume : Action
  Dispose : Action
  Exit : Action
  HoldEvents : Action
  ReleaseEvents : Action
  -- a kind, a policy and the modifiers' entries
  SetRequest : ℕ → ℕ → List (List ScalarMeaning) → Action
  -- a kind and an id
  ClearRequest : ℕ → ℤ → Action
  ClearBreakpoints : Action
  SuspendThread : ℕ → Action
  ResumeThread : ℕ → Action
  SuspendCount : ℕ → Action
  ThreadStatus : ℕ → Action
  -- a thread, a frame, and slots with their values
  SetSlots : ℕ → ℕ → List (ℤ × Value) → Action
  -- a question about the frames of a thread; another about the thread
  AskFrames : ℕ → Action
  AskThread : ℕ → Action
  AllThreads : Action
  IdSizes : Action
  -- any other: the machine is asked, and no more than a string may come of it
  Ask : Action

-- a slot and its value
abbrev pub slot_of : List ScalarMeaning → Option (ℤ × Value)
slot_of (Int slot ∷ Valued value ∷ []) = Some (slot, value)
slot_of entry = None

-- the frame and the values of StackFrame.SetValues
abbrev pub slots_of : ℕ → Carried → Action
slots_of t (Content (One (Object o) ∷ One (Frame f) ∷ Many entries ∷ [])) = SetSlots t f (filter_map slot_of entries)
slots_of t carried = AskFrames t

-- a command of ThreadReference or StackFrame that begins with this thread
abbrev pub thread_action : ℕ → Command → Action
thread_action t c =
    if is_command SUSPEND_THREAD c.set c.number then SuspendThread t else
    (if is_command RESUME_THREAD c.set c.number then ResumeThread t else
    (if is_command SUSPEND_COUNT c.set c.number then SuspendCount t else
    (if is_command THREAD_STATUS c.set c.number then ThreadStatus t else
    (if is_command SET_SLOTS c.set c.number then slots_of t c.carried else
    (if (c.set == STACK_FRAME) || (is_command FRAMES c.set c.number || is_command FRAME_COUNT c.set c.number) then AskFrames t else
    AskThread t)))))

abbrev pub set_action : Carried → Action
set_action (Content (One (Byte kind) ∷ One (Byte policy) ∷ Many entries ∷ [])) = SetRequest kind policy entries
set_action carried = Ask

abbrev pub clear_action : Carried → Action
clear_action (Content (One (Byte kind) ∷ One (Int id) ∷ [])) = ClearRequest kind id
clear_action carried = Ask

-- any other command
abbrev pub other_action : Command → Action
other_action c =
    if is_command SUSPEND c.set c.number then Suspend else
    (if is_command RESUME c.set c.number then Resume else
    (if is_command DISPOSE c.set c.number then Dispose else
    (if is_command EXIT c.set c.number then Exit else
    (if is_command HOLD_EVENTS c.set c.number then HoldEvents else
    (if is_command RELEASE_EVENTS c.set c.number then ReleaseEvents else
    (if is_command ALL_THREADS c.set c.number then AllThreads else
    (if is_command ID_SIZES c.set c.number then IdSizes else
    (if is_command SET_REQUEST c.set c.number then set_action c.carried else
    (if is_command CLEAR_REQUEST c.set c.number then clear_action c.carried else
    (if is_command CLEAR_ALL_BREAKPOINTS c.set c.number then ClearBreakpoints else Ask))))))))))

abbrev pub action_by : Option ℕ → Command → Action
action_by (Some t) c = thread_action t c
action_by None c = other_action c

abbrev pub action_of : Command → Action
action_of c = action_by (thread_of c) c

abbrev pub is_dispose : Action → Bool
is_dispose Dispose = true
is_dispose action = false

abbrev pub is_exit : Action → Bool
is_exit Exit = true
is_exit action = false

-- the thread that an action is about
abbrev pub about : Action → Option ℕ
about (SuspendThread t) = Some t
about (ResumeThread t) = Some t
about (SuspendCount t) = Some t
about (ThreadStatus t) = Some t
about (SetSlots t f values) = Some t
about (AskFrames t) = Some t
about (AskThread t) = Some t
about action = None

-- ---- which commands the target carries out

abbrev pub is_some_shapes : Option RowShapes → Bool
is_some_shapes None = false
is_some_shapes (Some shapes) = true

-- those of a row that is neither starred nor raw, in the sets for the target
abbrev pub carries_out : Option Row → Bool
carries_out None = false
carries_out (Some row) = not row.starred && is_some_shapes row.shapes

abbrev pub is_implemented : Command → Bool
is_implemented c = carries_out (row_at c.set c.number) && not (c.set == EVENT)
