-- Sessions that are worked out by hand: what happens to the link, and what is told of it and left of it.
use Rattle.std.specs.Prelude.{◌≡◌, ℕ, zero, suc, pos, negsuc, true, false, List, [], ◌∷◌, ◌++◌, Option, Some, None}
use Rattle.jdwp_wire.specs.ErrorCodes.{INVALID_THREAD}
use Rattle.jdwp_wire.specs.Limits.{standard_limits}
use Rattle.jdwp_layout.specs.declared.answer.Answer.TheVariants.{Data, Error}
use Rattle.jdwp_layout.specs.CommandNumbers.{CommandNumber, SIGNATURE, CLASS_STATUS, INTERFACES, ALL_THREADS, SUSPEND, RESUME, HOLD_EVENTS, RELEASE_EVENTS, RESUME_THREAD, FRAMES, SUSPEND_COUNT, SET_REQUEST, CLEAR_REQUEST}
use Rattle.jdwp_layout.specs.Meanings.{ScalarMeaning, Byte, Int, Object, ReferenceType, Located, DatumMeaning, One, Many}
use Rattle.jdwp_end.specs.declared.phase.Phase.TheVariants.{Closed, Established}
use Rattle.jdwp_event.specs.Composites.{CompositeMeaning, vm_start}
use Rattle.jdwp_event.specs.Modifiers.{Count, LocationOnly}
use Rattle.jdwp_event.specs.Requests.{AskedRequest, all_asked}
use Rattle.jdwp_debuggee.specs.State.{count_of}
use Rattle.jdwp_action.specs.Actions.{Command, Content}
use Rattle.jdwp_debuggee.specs.Answers.{done, int_answer}
use Rattle.jdwp_mirror.specs.Messages.{Report}
use Rattle.jdwp_model.specs.Events
use Rattle.jdwp_model.specs.Events.{LinkEvent, Outcome}
use Rattle.jdwp_model.specs.World.{World, way_to_debugger}
use Rattle.jdwp_model.specs.Lasting.{IsLasting}
use Rattle.jdwp_model.specs.Tickets.{settled, tickets}
use Rattle.jdwp_model.specs.Next.{run, outcomes, messages_of}
use Rattle.jdwp_model.specs.Seen.{mirror_count, mirror_held, mirror_requests}
use Rattle.jdwp_model.specs.WorkedMachine.{Small, small, settings, measure, before, location, one_frame}

-- ---- commands

abbrev pub command : CommandNumber → List DatumMeaning → Command
command c content = record { set = c.set; number = c.number; carried = Content content }

abbrev pub of_thread : CommandNumber → ℕ → Command
of_thread c t = command c (One (Object t) ∷ [])

abbrev pub of_class : CommandNumber → ℕ → Command
of_class c id = command c (One (ReferenceType id) ∷ [])

-- ---- events

-- all bytes that are under way come
abbrev pub to_target : LinkEvent
to_target = Events.ToTarget standard_limits.packet

abbrev pub to_debugger : LinkEvent
to_debugger = Events.ToDebugger standard_limits.packet

-- a command is asked and handled, and its reply is read
abbrev pub asked : Command → List LinkEvent
asked c = Events.Ask c ∷ to_target ∷ Events.TargetTurn ∷ to_debugger ∷ Events.DebuggerTurn ∷ []

-- a session begins: the handshakes, VM_START, and the reply to IDSizes
abbrev pub greeted : List LinkEvent
greeted =
    Events.Attach ∷ to_target ∷ Events.TargetTurn ∷ to_debugger ∷ Events.DebuggerTurn ∷ Events.DebuggerTurn
    ∷ to_target ∷ Events.TargetTurn ∷ to_debugger ∷ Events.DebuggerTurn ∷ []

abbrev pub after : List LinkEvent → World Small
after events = run small settings measure before events

abbrev pub told_outcomes : List LinkEvent → List Outcome
told_outcomes events = outcomes small settings measure before events

-- the steps of the first thread
abbrev pub steps_made : List LinkEvent → ℕ
steps_made events = (after events).now.machine.made

abbrev pub target_count : World Small → ℕ → Option ℕ
target_count w t = count_of w.now.state t

abbrev pub target_requests : World Small → List AskedRequest
target_requests w = all_asked w.now.state.requests

-- what is told as a session begins for the first time: VM_START of the first thread, which suspends nobody
abbrev pub begun : Outcome
begun = Events.Seen (vm_start 0 1)

-- a request of breakpoints at index 3: entries of modifiers, and the command
abbrev pub at_three : List ScalarMeaning
at_three = Byte 7 ∷ Located (location 3) ∷ []

abbrev pub second_time : List ScalarMeaning
second_time = Byte 1 ∷ Int (pos 2) ∷ []

abbrev pub set_request : ℕ → ℕ → List (List ScalarMeaning) → Command
set_request kind policy entries = command SET_REQUEST (One (Byte kind) ∷ One (Byte policy) ∷ Many entries ∷ [])

abbrev pub set_breakpoint : ℕ → List (List ScalarMeaning) → Command
set_breakpoint policy entries = set_request 2 policy entries

-- the composite of one breakpoint of the first thread at index 3
abbrev pub reached : ℕ → CompositeMeaning
reached policy = record { policy = policy; events = (Byte 2 ∷ Int (pos 1) ∷ Object 1 ∷ Located (location 3) ∷ []) ∷ [] }

-- ---- a breakpoint that counts: the second time it is reached it reports, and never again; the request stays until it is cleared

abbrev pub counting : Command
counting = set_breakpoint 0 (at_three ∷ second_time ∷ [])

abbrev pub clear : Command
clear = command CLEAR_REQUEST (One (Byte 2) ∷ One (Int (pos 1)) ∷ [])

abbrev pub three_steps : List LinkEvent
three_steps = greeted ++ (asked counting ++ Events.Step 1 ∷ Events.Step 1 ∷ Events.Step 1 ∷ [])

abbrev pub six_steps : List LinkEvent
six_steps = three_steps ++ Events.Step 1 ∷ Events.Step 1 ∷ Events.Step 1 ∷ []

abbrev pub breakpoint_read : List LinkEvent
breakpoint_read = six_steps ++ to_debugger ∷ Events.DebuggerTurn ∷ []

abbrev pub cleared : List LinkEvent
cleared = breakpoint_read ++ asked clear

abbrev pub until_read : List Outcome
until_read = begun ∷ Events.Asked 1 ∷ Events.Answered 1 (int_answer 1) ∷ Events.Seen (reached 0) ∷ []

pub record CountsAsWorked : Type 0 where
  pub quiet : (after three_steps).to_debugger ≡ []
  pub reports_once : messages_of (after six_steps).to_debugger ≡ Report (reached 0) ∷ []
  pub told_of_it : told_outcomes breakpoint_read ≡ until_read
  pub request_stays : target_requests (after breakpoint_read) ≡ record { id = 1; kind = 2; policy = 0; modifiers = LocationOnly (location 3) ∷ Count (pos 2) ∷ [] } ∷ []
  pub mirror_has_it : mirror_requests (after breakpoint_read).read ≡ record { id = pos 1; kind = 2; policy = 0; modifiers = LocationOnly (location 3) ∷ Count (pos 2) ∷ [] } ∷ []
  pub nobody_suspended : (target_count (after breakpoint_read) 1 ≡ Some 0) × (mirror_count (after breakpoint_read).read 1 ≡ Some 0)
  pub cleared_in_both : (target_requests (after cleared) ≡ []) × (mirror_requests (after cleared).read ≡ [])
  pub clears_again : told_outcomes (cleared ++ asked clear) ≡ until_read ++ Events.Asked 2 ∷ Events.Answered 2 done ∷ Events.Asked 3 ∷ Events.Answered 3 done ∷ []

-- ---- a thread that ended is suspended with the others by the mirror's rule and not held, and a list of all threads forgets it

abbrev pub ended_unseen : List LinkEvent
ended_unseen = greeted ++ (asked (of_thread SUSPEND_COUNT 2) ++ (Events.Step 2 ∷ [] ++ asked (command SUSPEND [])))

abbrev pub listed : List LinkEvent
listed = ended_unseen ++ asked (command ALL_THREADS [])

pub record EndsAsWorked : Type 0 where
  pub in_target : (target_count (after ended_unseen) 1 ≡ Some 1) × (target_count (after ended_unseen) 2 ≡ None)
  pub in_mirror : (mirror_count (after ended_unseen).read 1 ≡ Some 1) × (mirror_count (after ended_unseen).read 2 ≡ Some 1)
  pub none_held : (mirror_held (after ended_unseen).read 1 ≡ false) × (mirror_held (after ended_unseen).read 2 ≡ false)
  pub first_is_held : (mirror_count (after listed).read 1 ≡ Some 1) × (mirror_held (after listed).read 1 ≡ true)
  pub second_is_forgotten : (mirror_count (after listed).read 2 ≡ None) × (mirror_held (after listed).read 2 ≡ false)
  pub is_told : told_outcomes listed ≡ begun ∷ Events.Asked 1 ∷ Events.Answered 1 (int_answer 0) ∷ Events.Asked 2 ∷ Events.Answered 2 done
      ∷ Events.Asked 3 ∷ Events.Answered 3 (Data (Many ((Object 1 ∷ []) ∷ []) ∷ [])) ∷ []

-- ---- an event that was sent before the reply to a Suspend, and a Suspend that was asked before the event

abbrev pub crossed : List LinkEvent
crossed =
    greeted ++ (asked (of_thread SUSPEND_COUNT 2) ++ (asked (set_breakpoint 1 (at_three ∷ [])) ++
    Events.Ask (command SUSPEND []) ∷ Events.Step 1 ∷ Events.Step 1 ∷ to_target ∷ Events.TargetTurn ∷ []))

abbrev pub event_read : List LinkEvent
event_read = crossed ++ to_debugger ∷ Events.DebuggerTurn ∷ []

abbrev pub reply_read : List LinkEvent
reply_read = event_read ++ Events.DebuggerTurn ∷ []

pub record CrossesAsWorked : Type 0 where
  pub in_target : (target_count (after crossed) 1 ≡ Some 2) × (target_count (after crossed) 2 ≡ Some 1)
  pub by_the_event : (mirror_count (after event_read).read 1 ≡ Some 1) × (mirror_count (after event_read).read 2 ≡ Some 0)
  pub held_by_the_event : (mirror_held (after event_read).read 1 ≡ true) × (mirror_held (after event_read).read 2 ≡ false)
  pub by_the_reply : (mirror_count (after reply_read).read 1 ≡ Some 2) × (mirror_count (after reply_read).read 2 ≡ Some 1)
  pub held_by_the_reply : (mirror_held (after reply_read).read 1 ≡ true) × (mirror_held (after reply_read).read 2 ≡ false)
  pub is_told : told_outcomes reply_read ≡ begun ∷ Events.Asked 1 ∷ Events.Answered 1 (int_answer 0) ∷ Events.Asked 2 ∷ Events.Answered 2 (int_answer 1)
      ∷ Events.Asked 3 ∷ Events.Seen (reached 1) ∷ Events.Answered 3 done ∷ []

-- ---- the frames of the suspended thread stay as they were read, whatever the other thread does

abbrev pub frames_of_first : Command
frames_of_first = command FRAMES (One (Object 1) ∷ One (Int (pos 0)) ∷ One (Int (negsuc 0)) ∷ [])

abbrev pub frames_read : List LinkEvent
frames_read = reply_read ++ asked frames_of_first

abbrev pub other_ended : List LinkEvent
other_ended = frames_read ++ (asked (of_thread RESUME_THREAD 2) ++ Events.Step 2 ∷ [])

abbrev pub until_frames : List Outcome
until_frames =
    begun ∷ Events.Asked 1 ∷ Events.Answered 1 (int_answer 0) ∷ Events.Asked 2 ∷ Events.Answered 2 (int_answer 1)
    ∷ Events.Asked 3 ∷ Events.Seen (reached 1) ∷ Events.Answered 3 done ∷ Events.Asked 4 ∷ Events.Answered 4 (Data (one_frame 3)) ∷ []

pub record LastsAsWorked : Type 0 where
  pub read_once : told_outcomes frames_read ≡ until_frames
  pub other_is_gone : target_count (after other_ended) 2 ≡ None
  pub lasts : IsLasting (after other_ended).read 1 frames_of_first (one_frame 3)
  pub read_again : told_outcomes (other_ended ++ asked frames_of_first)
      ≡ until_frames ++ Events.Asked 5 ∷ Events.Answered 5 done ∷ Events.Asked 6 ∷ Events.Answered 6 (Data (one_frame 3)) ∷ []

-- ---- the target loses the connection with two replies under way, of which one is still read; a new session begins

abbrev pub suspended_twice : List LinkEvent
suspended_twice = greeted ++ (asked (set_breakpoint 2 (at_three ∷ [])) ++ (asked (command SUSPEND []) ++ asked (command SUSPEND [])))

-- a Suspend and a Resume, of 11 bytes each
abbrev pub both_handled : List LinkEvent
both_handled =
    suspended_twice ++ Events.Ask (command SUSPEND []) ∷ Events.Ask (command RESUME []) ∷ Events.ToTarget 22 ∷ Events.TargetTurn ∷ Events.TargetTurn ∷ []

abbrev pub target_lost : List LinkEvent
target_lost = both_handled ++ Events.TargetLoses ∷ []

abbrev pub both_lost : List LinkEvent
both_lost = target_lost ++ Events.ToDebugger 11 ∷ Events.DebuggerTurn ∷ Events.DebuggerLoses ∷ []

abbrev pub until_loss : List Outcome
until_loss =
    begun ∷ Events.Asked 1 ∷ Events.Answered 1 (int_answer 1) ∷ Events.Asked 2 ∷ Events.Answered 2 done ∷ Events.Asked 3 ∷ Events.Answered 3 done
    ∷ Events.Asked 4 ∷ Events.Asked 5 ∷ Events.Answered 4 done ∷ Events.Lost 5 ∷ []

pub record LosesAsWorked : Type 0 where
  pub suspended_before : (target_count (after both_handled) 1 ≡ Some 2) × (target_count (after both_handled) 2 ≡ Some 2)
  pub reset : (target_count (after target_lost) 1 ≡ Some 0) × (target_count (after target_lost) 2 ≡ Some 0) × (target_requests (after target_lost) ≡ [])
  pub under_way : way_to_debugger measure (after target_lost) ≡ 22
  pub told_at_loss : told_outcomes both_lost ≡ until_loss
  pub mirror_is_empty : (after both_lost).read ≡ []
  -- no VM_START comes again
  pub told_afterwards : told_outcomes (both_lost ++ greeted) ≡ until_loss
  pub begins_again : ((after (both_lost ++ greeted)).ready ≡ true) × ((after (both_lost ++ greeted)).to_debugger ≡ [])
  pub nobody_suspended : (target_count (after (both_lost ++ greeted)) 1 ≡ Some 0) × (target_count (after (both_lost ++ greeted)) 2 ≡ Some 0)
  pub no_requests : target_requests (after (both_lost ++ greeted)) ≡ []

-- ---- the debugger loses the connection with a Suspend under way, which the target still carries out

abbrev pub debugger_lost : List LinkEvent
debugger_lost = greeted ++ Events.Ask (command SUSPEND []) ∷ Events.DebuggerLoses ∷ to_target ∷ Events.TargetTurn ∷ []

pub record LosesFirstAsWorked : Type 0 where
  pub is_told : told_outcomes debugger_lost ≡ begun ∷ Events.Asked 1 ∷ Events.Lost 1 ∷ []
  pub carried_out : target_count (after debugger_lost) 1 ≡ Some 1
  -- a new session waits until the target noticed it, too
  pub waits : ((after (debugger_lost ++ Events.Attach ∷ [])).target ≡ Established) × ((after (debugger_lost ++ Events.Attach ∷ [])).debugger ≡ Closed)
  pub nobody_suspended : target_count (after (debugger_lost ++ Events.TargetLoses ∷ [])) 1 ≡ Some 0
  pub told_afterwards : told_outcomes (debugger_lost ++ (Events.TargetLoses ∷ [] ++ (greeted ++ asked (of_thread SUSPEND_COUNT 1))))
      ≡ begun ∷ Events.Asked 1 ∷ Events.Lost 1 ∷ Events.Asked 2 ∷ Events.Answered 2 (int_answer 0) ∷ []

-- ---- no thread steps while events are held

abbrev pub events_held : List LinkEvent
events_held = greeted ++ (asked (set_breakpoint 2 (at_three ∷ [])) ++ (Events.Step 1 ∷ [] ++ asked (command HOLD_EVENTS [])))

abbrev pub events_released : List LinkEvent
events_released = events_held ++ (Events.Step 1 ∷ [] ++ (asked (command RELEASE_EVENTS []) ++ Events.Step 1 ∷ []))

pub record HoldsAsWorked : Type 0 where
  pub freezes : (steps_made (events_held ++ Events.Step 1 ∷ []) ≡ 1) × ((after (events_held ++ Events.Step 1 ∷ [])).to_debugger ≡ [])
  pub steps_on : steps_made events_released ≡ 2
  pub reports : messages_of (after events_released).to_debugger ≡ Report (reached 2) ∷ []
  pub all_suspended : (target_count (after events_released) 1 ≡ Some 1) × (target_count (after events_released) 2 ≡ Some 1)

-- ---- a death that is reported: the thread is held until it is resumed, and then ends

abbrev pub death : CompositeMeaning
death = record { policy = 1; events = (Byte 7 ∷ Int (pos 1) ∷ Object 2 ∷ []) ∷ [] }

abbrev pub death_read : List LinkEvent
death_read = greeted ++ (asked (set_request 7 1 []) ++ Events.Step 2 ∷ to_debugger ∷ Events.DebuggerTurn ∷ [])

abbrev pub resumed : List LinkEvent
resumed = death_read ++ asked (of_thread RESUME_THREAD 2)

abbrev pub ended : List LinkEvent
ended = resumed ++ Events.Step 2 ∷ []

abbrev pub asked_of : List LinkEvent
asked_of = ended ++ asked (of_thread SUSPEND_COUNT 2)

pub record DiesAsWorked : Type 0 where
  pub reported : (target_count (after death_read) 2 ≡ Some 1) × (mirror_count (after death_read).read 2 ≡ Some 1)
  pub held : mirror_held (after death_read).read 2 ≡ true
  pub freezes : (target_count (after (death_read ++ Events.Step 2 ∷ [])) 2 ≡ Some 1) × ((after (death_read ++ Events.Step 2 ∷ [])).to_debugger ≡ [])
  pub is_resumed : (target_count (after resumed) 2 ≡ Some 0) × (mirror_held (after resumed).read 2 ≡ false)
  pub ends : (target_count (after ended) 2 ≡ None) × ((after ended).to_debugger ≡ []) × (mirror_count (after ended).read 2 ≡ Some 0)
  pub forgotten : mirror_count (after asked_of).read 2 ≡ None
  pub is_told : told_outcomes asked_of ≡ begun ∷ Events.Asked 1 ∷ Events.Answered 1 (int_answer 1) ∷ Events.Seen death ∷ Events.Asked 2 ∷ Events.Answered 2 done
      ∷ Events.Asked 3 ∷ Events.Answered 3 (Error INVALID_THREAD) ∷ []

-- ---- deferred commands: the last is answered first, over the debuggee as it is then; those that a loss drops are never answered

-- Signature, Status and Interfaces of a class are deferred, and AllThreads, which was asked last, is answered at once
abbrev pub three_deferred : List LinkEvent
three_deferred =
    greeted ++ Events.Defer true ∷ Events.Ask (of_class SIGNATURE 10) ∷ Events.Ask (of_class CLASS_STATUS 10) ∷ Events.Ask (of_class INTERFACES 10)
    ∷ Events.Ask (command ALL_THREADS []) ∷ to_target ∷ Events.TargetTurn ∷ Events.TargetTurn ∷ Events.TargetTurn ∷ Events.TargetTurn ∷ []

abbrev pub four_turns : List LinkEvent
four_turns = to_debugger ∷ Events.DebuggerTurn ∷ Events.DebuggerTurn ∷ Events.DebuggerTurn ∷ Events.DebuggerTurn ∷ []

-- at place 3 there is none
abbrev pub three_released : List LinkEvent
three_released = three_deferred ++ (Events.Release 3 ∷ Events.Release 2 ∷ Events.Release 1 ∷ Events.Release 0 ∷ four_turns)

abbrev pub middle_released : List LinkEvent
middle_released = three_deferred ++ (Events.Release 1 ∷ four_turns)

abbrev pub three_dropped : List LinkEvent
three_dropped = three_deferred ++ (Events.TargetLoses ∷ Events.Release 0 ∷ four_turns)

abbrev pub times_over : ℕ → LinkEvent → List LinkEvent
times_over zero e = []
times_over (suc n) e = e ∷ times_over n e

abbrev pub seventeen_asked : List LinkEvent
seventeen_asked =
    greeted ++ (Events.Defer true ∷ times_over 17 (Events.Ask (of_class SIGNATURE 10)) ++ (to_target ∷ times_over 17 Events.TargetTurn ++ to_debugger ∷ Events.DebuggerTurn ∷ []))

pub record DefersAsWorked : Type 0 where
  pub are_deferred : tickets (after three_deferred).deferred ≡ 1 ∷ 2 ∷ 3 ∷ []
  pub one_answered : settled (told_outcomes (three_deferred ++ four_turns)) ≡ 4 ∷ []
  pub released : (settled (told_outcomes three_released) ≡ 4 ∷ 3 ∷ 2 ∷ 1 ∷ []) × ((after three_released).deferred ≡ []) × ((after three_released).pending ≡ [])
  pub moved_up : (settled (told_outcomes middle_released) ≡ 4 ∷ 2 ∷ []) × (tickets (after middle_released).deferred ≡ 1 ∷ 3 ∷ [])
  pub dropped : (settled (told_outcomes three_dropped) ≡ 4 ∷ []) × ((after three_dropped).deferred ≡ []) × (tickets (after three_dropped).pending ≡ 1 ∷ 2 ∷ 3 ∷ [])
  pub never_answered : settled (told_outcomes (three_dropped ++ Events.DebuggerLoses ∷ [])) ≡ 4 ∷ 1 ∷ 2 ∷ 3 ∷ []
  pub mark_stays : (after (three_dropped ++ (Events.DebuggerLoses ∷ greeted))).deferring ≡ true
  pub last_at_once : settled (told_outcomes seventeen_asked) ≡ 17 ∷ []
