-- The events and outcomes of a link as the code says them.
use Rattle.std.specs.Prelude.{Bool, true, false, List, map}
use Rattle.jdwp_debugger.specs.declared.asking.Refused.{Refused}
use Rattle.jdwp_debugger.specs.declared.asking.Refused.TheVariants as refused
use Rattle.jdwp_target.specs.declared.target.Stepped.{Stepped}
use Rattle.jdwp_target.specs.declared.target.Stepped.TheVariants as stepped
use Rattle.jdwp_target.specs.declared.target.Turn.{Turn}
use Rattle.jdwp_target.specs.declared.target.Turn.TheVariants as turn
use Rattle.jdwp_model.specs.Events
use Rattle.jdwp_model.specs.Events.{AskRefusal}
use Rattle.jdwp_link.specs.declared.events.LinkEvent.{LinkEvent}
use Rattle.jdwp_link.specs.declared.events.LinkEvent.TheVariants as event
use Rattle.jdwp_link.specs.declared.events.Outcome.{Outcome}
use Rattle.jdwp_link.specs.declared.events.Outcome.TheVariants as outcome

abbrev pub event_meaning : LinkEvent → Events.LinkEvent
event_meaning event.Attach = Events.Attach
event_meaning (event.Ask command) = Events.Ask command
event_meaning (event.ToTarget count) = Events.ToTarget count
event_meaning (event.ToDebugger count) = Events.ToDebugger count
event_meaning event.TargetTurn = Events.TargetTurn
event_meaning event.DebuggerTurn = Events.DebuggerTurn
event_meaning (event.Step thread) = Events.Step thread.0
event_meaning event.TargetLoses = Events.TargetLoses
event_meaning event.DebuggerLoses = Events.DebuggerLoses
event_meaning (event.Defer deferring) = Events.Defer deferring
event_meaning (event.Release place) = Events.Release place

abbrev pub event_meanings : List LinkEvent → List Events.LinkEvent
event_meanings events = map event_meaning events

abbrev pub refusal_told : AskRefusal → Refused
refusal_told Events.Closed = refused.Closed
refusal_told Events.NotReady = refused.NotReady
refusal_told Events.Busy = refused.Busy
refusal_told Events.BadCommand = refused.BadCommand
refusal_told Events.TooLong = refused.TooLong

abbrev pub outcome_told : Events.Outcome → Outcome
outcome_told (Events.Asked ticket) = outcome.Asked (record { 0 = ticket })
outcome_told (Events.Refused refusal) = outcome.Refused (refusal_told refusal)
outcome_told (Events.Answered ticket answer) = outcome.Answered (record { 0 = ticket }) answer
outcome_told (Events.Lost ticket) = outcome.Lost (record { 0 = ticket })
outcome_told (Events.Seen composite) = outcome.Seen composite

-- these outcomes, in order
abbrev pub told_outcomes : List Events.Outcome → List Outcome
told_outcomes outcomes = map outcome_told outcomes

-- whether a turn of the target handled a message, or a release answered a command
abbrev pub turn_did : Turn → Bool
turn_did turn.Nothing = false
turn_did turn.Hello = true
turn_did (turn.Replied id error) = true
turn_did turn.Ignored = true
turn_did (turn.Deferred id) = true

-- whether a step was made
abbrev pub step_did : Stepped → Bool
step_did stepped.Frozen = false
step_did stepped.Quiet = true
step_did stepped.Reported = true
step_did stepped.Ended = true
