-- What a turn leaves of a debugger, and of what is kept of what turns tell.
use Rattle.std.specs.Prelude.{◌≡◌, ◌≢◌, ◌<◌, ℕ, ◌++◌, Bool, true, false, List, [], Ok, Err}
use Rattle.jdwp_wire.specs.Streams.{More}
use Rattle.jdwp_end.specs.Ends.{front_of, room_of}
use Rattle.jdwp_event.specs.Composites.{CompositeMeaning}
use Rattle.jdwp_layout.specs.declared.answer.Answer.{Answer}
use Rattle.jdwp_debugger.specs.declared.faults.DebuggerFault.TheVariants as faults
use Rattle.jdwp_debugger.specs.declared.pending.Ticket.{Ticket}
use Rattle.jdwp_debugger.specs.declared.turning.Read.{Read}
use Rattle.jdwp_debugger.specs.Debuggers.{Debugger}
use Rattle.jdwp_debugger.specs.DebuggerTurns.{TurnsAt, read_meaning}
use Rattle.jdwp_client.specs.declared.errors.ClientError.{ClientError}
use Rattle.jdwp_client.specs.declared.errors.ClientError.TheVariants as error
use Rattle.jdwp_client.specs.Errors.{MeetsNoRoom}
use Rattle.jdwp_client.specs.Keeping.{answers_in, composites_in}

-- nothing was read by the last turn
abbrev pub unread : Debugger → Debugger
unread d = record d { last = [] }

-- A turn that handled something, whose composites and answer stand behind those kept before; or nothing was whole, nothing else
-- changed, and there is room for a byte.
abbrev pub TurnsKept : Bool → Debugger → List CompositeMeaning → List (Ticket × Answer) → Debugger → List CompositeMeaning → List (Ticket × Answer) → Type 0
TurnsKept true old events answers new events' answers' =
    (read : Read) × TurnsAt (front_of old.end) old (Ok read) new × (events' ≡ events ++ composites_in (read_meaning read)) × (answers' ≡ answers ++ answers_in (read_meaning read))
TurnsKept false old events answers new events' answers' = (front_of old.end ≡ More) × (new ≡ unread old) × (0 < room_of old.end) × (events' ≡ events) × (answers' ≡ answers)

-- No turn was made, for want of room or of memory, and nothing has changed; or one that refused what is in front, and nothing more is kept.
abbrev pub FailsKept : ℕ → ClientError → Debugger → List CompositeMeaning → List (Ticket × Answer) → Debugger → List CompositeMeaning → List (Ticket × Answer) → Type 0
FailsKept most (error.Fault fault) old events answers new events' answers' =
    (fault ≢ faults.NoMemory) × TurnsAt (front_of old.end) old (Err fault) new × (events' ≡ events) × (answers' ≡ answers)
FailsKept most e old events answers new events' answers' = MeetsNoRoom most events e × (new ≡ old) × (events' ≡ events) × (answers' ≡ answers)
