-- When an engine that runs a target may end as it did.
use Rattle.std.specs.Prelude.{◌≡◌, ◌≢◌, ◌⊎◌, ℕ, ◌<◌, ◌+◌, nat_lt, true, false, List, [], ◌∷◌, ◌++◌}
use Rattle.jdwp_wire.specs.FaultNumbers.{fault_number}
use Rattle.jdwp_wire.specs.Streams.{Message, NextMessage, Whole, More, Fault, next_message}
use Rattle.jdwp_wire.specs.declared.frame.FrameFault.{FrameFault}
use Rattle.jdwp_end.specs.Ends.{End, is_open, is_paused}
use Rattle.jdwp_end.specs.Runs.{Carries}
use Rattle.jdwp_machine.specs.Meanings.{Meaning}
use Rattle.jdwp_debuggee.specs.StepParts.{is_ready}
use Rattle.jdwp_target.specs.Closings.{IsDispose}
use Rattle.jdwp_target.specs.Targets.{Target, Ran, lost_target}
use Rattle.jdwp_target.specs.Turns.{NeedsMemory}
use Rattle.jdwp_end.specs.declared.pipes.ended.Ended.{Ended}
use Rattle.jdwp_end.specs.declared.pipes.ended.Ended.TheVariants.{Done, LostByRead, LostByWrite, Refused, NoMemory, TurnLimit}
use Rattle.jdwp_end.specs.Story.{Story, flushed}
use Rattle.jdwp_engine.specs.Run.{InOrder, IsGoing}

-- What is left of the bytes fed, after those of the messages handled: the handshake is looked for in front of it where no message was
-- handled, and else a packet.
abbrev pub FrontIs : (NextMessage → Type 0) → End → Type 0
FrontIs P end = (rest : List ℕ) × (end.session.fed ≡ end.session.handled ++ rest) × P (next_message end.limits.packet (nat_lt 0 end.session.turns) rest)

-- the last message handled was Dispose
abbrev pub EndsInDispose : End → Type 0
EndsInDispose end = (messages : List Message) × (last : Message) × Carries end (messages ++ last ∷ []) × IsDispose last

-- a message that may call for memory stands in front
abbrev pub CallsForMemory : {S : Type 0} → Meaning S → Target S → NextMessage → Type 0
CallsForMemory m target next = (message : Message) × (used : ℕ) × (next ≡ Whole message used) × NeedsMemory m target message

-- A thread may step, but for one thread too many that would start, and the end is not paused: only such a step asks the machine.
abbrev pub MayStep : {S : Type 0} → Target S → Type 0
MayStep target = (t : ℕ) × (is_ready target.settings target.moment.state t ≡ true) × (is_paused target.end ≡ false)

-- the fault of this number stands in front
abbrev pub IsFaultOf : ℕ → NextMessage → Type 0
IsFaultOf number next = (fault : FrameFault) × (number ≡ fault_number fault) × (next ≡ Fault fault)

-- the connection was lost: the target is as after `lose`, and was not lost before
abbrev pub IsLost : {S : Type 0} → Meaning S → Target S → Type 0
IsLost {S = S} m target = (before : Target S) × Ran m before × (before.end.session.lost ≡ false) × (target ≡ lost_target before)

-- the same, where nothing was deferred: all that was taken off was answered
abbrev pub IsLostAtRest : {S : Type 0} → Meaning S → Target S → Type 0
IsLostAtRest {S = S} m target = (before : Target S) × Ran m before × (before.end.session.lost ≡ false) × (before.deferred ≡ []) × (target ≡ lost_target before)

-- the session goes on
abbrev pub IsKept : {S : Type 0} → Target S → Type 0
IsKept target = (is_open target.end ≡ true) × (target.end.session.lost ≡ false)

-- no write and no flush failed, and all that was written left
abbrev pub HasLeft : Story → Story → Type 0
HasLeft start now = (now.failed_writes ≡ start.failed_writes) × (now.unflushed ≡ [])

-- the same, or a flush failed
abbrev pub HasLeftOrFails : Story → Story → Type 0
HasLeftOrFails start now = HasLeft start now ⊎ (start.failed_writes < now.failed_writes)

-- Why a session may end so, from the first story to the second, and what the target is then. A write or flush failed where the session is lost
-- by a write, and in no other end but behind a frame fault.
abbrev pub MayEnd : {S : Type 0} → Meaning S → Ended → Story → Story → Target S → Type 0
MayEnd m Done start now target =
    (EndsInDispose target.end ⊎ (target.moment.state.alive ≡ false)) × (is_open target.end ≡ false) × (target.end.session.lost ≡ false) × HasLeft start now
MayEnd m LostByRead start now target =
    (start.failed_reads + start.ends < now.failed_reads + now.ends) × FrontIs (λ next. next ≡ More) target.end × IsLostAtRest m target × HasLeft start now
MayEnd m LostByWrite start now target = (start.failed_writes < now.failed_writes) × IsLost m target
MayEnd m (Refused number) start now target = FrontIs (IsFaultOf number) target.end × IsLost m target × HasLeftOrFails start now
MayEnd m NoMemory start now target = (FrontIs (CallsForMemory m target) target.end ⊎ (MayStep target ⊎ (target.deferred ≢ []))) × IsKept target × HasLeft start now
MayEnd m TurnLimit start now target = IsKept target × HasLeft start now

-- A round that ends so, in every run that came to it, once all that was written has left.
abbrev pub EndsSo : {S : Type 0} → Meaning S → Target S → Target S → Story → Story → Ended → Type 0
EndsSo {S = S} m old new before after ended =
    (ended ≢ TurnLimit) × ((base : Target S) (start : Story) → IsGoing base start before old → InOrder base start after new × MayEnd m ended start (flushed after) new)
