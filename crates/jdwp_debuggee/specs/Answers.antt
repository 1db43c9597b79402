-- What commands that change nothing are answered (JDWP specification, "Protocol Details").
use Rattle.std.specs.Prelude.{ℕ, pos, ◌+◌, ◌≤◌, ◌==◌, nat_le, Bool, List, [], ◌∷◌, map, length, IsSome, if◌then◌else◌}
use Rattle.std.specs.List.{AllByRecursion}
use Rattle.jdwp_wire.specs.ErrorCodes.{THREAD_NOT_SUSPENDED, INTERNAL}
use Rattle.jdwp_wire.specs.Widths.{Widths}
use Rattle.jdwp_value.specs.Rising.{put_in}
use Rattle.jdwp_value.specs.Rising as things
use Rattle.jdwp_layout.specs.declared.answer.Answer.{Answer}
use Rattle.jdwp_layout.specs.declared.answer.Answer.TheVariants.{Data, Error}
use Rattle.jdwp_layout.specs.Meanings as meaning
use Rattle.jdwp_layout.specs.Meanings.{Int, Object, DatumMeaning, One, Many}
use Rattle.jdwp_layout.specs.Writes.{data_canonical}
use Rattle.jdwp_machine.specs.declared.query.Query.{Query}
use Rattle.jdwp_layout.specs.Invocations.{is_invocation}
use Rattle.jdwp_machine.specs.Meanings.{Meaning}
use Rattle.jdwp_debuggee.specs.Settings.{Settings}
use Rattle.jdwp_debuggee.specs.State.{State, Thread, count_in, ids}
use Rattle.jdwp_action.specs.Actions.{Carried, Content, Raw, Command}

-- an answer with no data, and one with an int
abbrev pub done : Answer
done = Data []

abbrev pub int_answer : ℕ → Answer
int_answer n = Data (One (Int (pos n)) ∷ [])

-- ---- by rising id

-- one more id among these
abbrev pub inserted : ℕ → List ℕ → List ℕ
inserted n ns = put_in (λ (m : ℕ). m) n ns

-- the same ids, rising
abbrev pub rising : List ℕ → List ℕ
rising ns = things.rising (λ (n : ℕ). n) ns

-- the first of a list, or 0
abbrev pub first_of : List ℕ → ℕ
first_of [] = 0
first_of (n ∷ ns) = n

-- a live thread's id, and no live thread has a lower one
abbrev pub IsLeastThread : List Thread → ℕ → Type 0
IsLeastThread threads id = IsSome (count_in threads id) × AllByRecursion (λ (thread : Thread). id ≤ thread.id) threads

-- the thread that VM_START names: wherever a thread lives, it is such a thread (`starts_with_least_thread`); 0 where none does
abbrev pub least_thread : State → ℕ
least_thread state = first_of (rising (ids state.threads))

-- ---- answers by the state

abbrev pub all_threads : State → Answer
all_threads state = Data (Many (map (λ (t : ℕ). Object t ∷ []) (rising (ids state.threads))) ∷ [])

-- a live thread is running (1), and suspended (1) or not
abbrev pub status_answer : ℕ → Answer
status_answer count = Data (One (Int (pos 1)) ∷ One (Int (pos (if count == 0 then 0 else 1))) ∷ [])

-- ---- answers by the machine

-- what a command of this set and number carries as data: an invocation that is raw its bytes, and another that is raw nothing
abbrev pub content_of : ℕ → ℕ → Carried → List DatumMeaning
content_of set number (Content items) = items
content_of set number (Raw bytes) = if is_invocation set number then meaning.Raw bytes ∷ [] else []

abbrev pub query_of : Command → Query
query_of c = record { set = c.set; number = c.number; content = content_of c.set c.number c.carried }

-- a question about a live thread's frames, by its suspend count
abbrev pub frames_answer : {S : Type 0} → Meaning S → S → Command → ℕ → Answer
frames_answer m s c count = if count == 0 then Error THREAD_NOT_SUSPENDED else m.query s (query_of c)

-- ---- answers that are too long

-- a packet has 11 bytes before its data
abbrev pub fits_packet : Settings → Widths → List DatumMeaning → Bool
fits_packet settings w content = nat_le (11 + length (data_canonical w content)) settings.limits.packet

abbrev pub bounded : Settings → Widths → Answer → Answer
bounded settings w (Data content) = if fits_packet settings w content then Data content else Error INTERNAL
bounded settings w (Error e) = Error e
