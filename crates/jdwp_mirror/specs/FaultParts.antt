-- Parts of judging packets.
use Rattle.std.specs.Prelude.{ℕ, ◌==◌, Bool, true, false, ◌||◌, ◌&&◌, not, List, length, Option, Some, None, is_some}
use Rattle.jdwp_value.specs.declared.id.ObjectId.{ObjectId}
use Rattle.jdwp_layout.specs.Meanings.{ScalarMeaning, DatumMeaning}
use Rattle.jdwp_layout.specs.declared.answer.Answer.{Answer}
use Rattle.jdwp_layout.specs.declared.answer.Answer.TheVariants.{Data, Error}
use Rattle.jdwp_event.specs.Composites.{CompositeMeaning, POLICY_NONE}
use Rattle.jdwp_event.specs.Told.{composite_thread, events_thread, is_vm_death}
use Rattle.jdwp_mirror.specs.declared.command.CommandKind.{CommandKind}
use Rattle.jdwp_mirror.specs.declared.command.CommandKind.TheVariants as kinds
use Rattle.jdwp_mirror.specs.Faults.{are_widths, count_of_thread, is_of, is_of_two}
use Rattle.jdwp_mirror.specs.Mirror.{counted, given_id, is_positive}

-- data that say nothing a debugger can use, by what the command asks
abbrev pub is_bad_of_kind : CommandKind → List DatumMeaning → Bool
is_bad_of_kind kinds.SuspendCount content = not (is_some (counted content))
is_bad_of_kind kinds.Request content = not (is_some (given_id content))
is_bad_of_kind kinds.IdSizes content = not (are_widths content)
is_bad_of_kind a content = false

abbrev pub is_sizes_kind : CommandKind → Bool
is_sizes_kind kinds.IdSizes = true
is_sizes_kind a = false

-- VM_DEATH beside another event, or with a policy other than NONE
abbrev pub is_bad_death : CompositeMeaning → Bool
is_bad_death c = is_vm_death c && (not (length c.events == 1) || not (c.policy == POLICY_NONE))

-- the thread of a composite is known with a count above 0
abbrev pub is_suspended : (ℕ → Option ℕ) → CompositeMeaning → Bool
is_suspended counts c = is_positive (count_of_thread counts (composite_thread c))

-- events of two threads, where the one before them has this thread
abbrev pub is_of_two_behind : Option ObjectId → List (List ScalarMeaning) → Bool
is_of_two_behind None events = is_of_two events
is_of_two_behind (Some t) events = not (is_of (Some t.0) (events_thread events)) || is_of_two events

abbrev pub is_dispose_kind : CommandKind → Bool
is_dispose_kind kinds.Dispose = true
is_dispose_kind a = false

-- an answer without an error
abbrev pub IsData : Answer → Type 0
IsData (Data content) = Unit {0}
IsData (Error e) = ⊥
