-- Parts of the tests of an event request: what they see of a moment, and which of them ask the machine.
use Rattle.std.specs.Prelude.{ℕ, Bool, true, false, ◌==◌, not, List, [], Option, Some, None}
use Rattle.jdwp_value.specs.declared.id.ObjectId.{ObjectId}
use Rattle.jdwp_event.specs.Modifiers.{ModifierMeaning, Count, Conditional, ThreadOnly, ClassOnly, ClassMatch, ClassExclude, LocationOnly, ExceptionOnly, FieldOnly, Step, InstanceOnly, SourceNameMatch}
use Rattle.jdwp_debuggee.specs.State.{Thread, Moment}

-- a moment with these threads, of which nothing else is seen
abbrev pub moment_of : {S : Type 0} → List Thread → S → Moment S
moment_of threads machine = record {
  state = record { threads = threads; requests = []; held = false; handshaken = false; alive = true; next_request = 1; next_packet = 0; stopped = [] };
  machine = machine;
}

-- the number of a thread that was found
abbrev pub found_thread : Option ObjectId → Option ℕ
found_thread None = None
found_thread (Some thread) = Some thread.0

-- whether the machine is asked about a modifier
abbrev pub asks_machine : ModifierMeaning → Bool
asks_machine (Count n) = false
asks_machine (Conditional n) = false
asks_machine (ThreadOnly t) = false
asks_machine (ClassOnly class) = true
asks_machine (ClassMatch pattern) = false
asks_machine (ClassExclude pattern) = false
asks_machine (LocationOnly location) = true
asks_machine (ExceptionOnly class caught uncaught) = not (class == 0)
asks_machine (FieldOnly class field) = false
asks_machine (Step t size depth) = false
asks_machine (InstanceOnly object) = false
asks_machine (SourceNameMatch pattern) = false
