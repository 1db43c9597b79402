-- What each packet means to a debugger, packet by packet in the standard's numbers (JDWP specification, "Protocol Details"). The
-- definitions of the mirror and of refused packets are held against it.
use Rattle.jdwp_wire.specs.Numbers.{greatest_int}
use Rattle.std.specs.Prelude.{◌≡◌, ◌≢◌, ◌<◌, ◌≤◌, ℕ, ℤ, pos, negsuc, ◌+◌, ◌-◌, ◌==◌, Bool, true, false, List, [], ◌∷◌, map, length, Option, Some, None}
use Rattle.std.specs.List.{list_any}
use Rattle.jdwp_wire.specs.declared.error_code.ErrorCode.{ErrorCode}
use Rattle.jdwp_layout.specs.declared.answer.Answer.{Answer}
use Rattle.jdwp_layout.specs.declared.answer.Answer.TheVariants.{Data, Error}
use Rattle.jdwp_layout.specs.Meanings.{ScalarMeaning, Byte, Int, Object, DatumMeaning, One, Many}
use Rattle.jdwp_event.specs.declared.kind.EventKind.TheVariants as kind
use Rattle.jdwp_event.specs.Composites.{CompositeMeaning}
use Rattle.jdwp_event.specs.Modifiers.{modifiers_of}
use Rattle.jdwp_event.specs.Told.{composite_thread, has_event, is_vm_death}
use Rattle.jdwp_action.specs.Actions.{Command, Carried, Content}
use Rattle.jdwp_mirror.specs.Messages.{Ticket, Message, Handshake, Reply, Report}
use Rattle.jdwp_mirror.specs.Mirror.{Kept, learned, held_after, requests_after}
use Rattle.jdwp_mirror.specs.Faults.{Reader, fault_of, BadHandshake, UnknownReply, BadReply, TooManyParked, BadEvent}

-- a command by its set and its number; one that begins with a thread
abbrev pub of_numbers : ℕ → ℕ → Carried → Command
of_numbers set number carried = record { set = set; number = number; carried = carried }

abbrev pub of_thread : ℕ → ℕ → ℕ → List DatumMeaning → Command
of_thread set number t content = of_numbers set number (Content (One (Object t) ∷ content))

abbrev pub LIMIT : ℕ
LIMIT = greatest_int

-- ---- VirtualMachine.Suspend (1, 8) and Resume (1, 9)

-- An OK reply to Suspend raises each count that is known, and says of nobody that it lives; one to Resume lowers each that is above 0.
pub record AllAreCounted : Type 0 where
  pub suspended : (k : Ticket) (x : Carried) (t n : ℕ) → n < LIMIT → learned (Reply k (of_numbers 1 8 x) (Data [])) t (Some n) ≡ Some (n + 1)
  pub suspended_at_limit : (k : Ticket) (x : Carried) (t : ℕ) → learned (Reply k (of_numbers 1 8 x) (Data [])) t (Some LIMIT) ≡ Some LIMIT
  pub suspended_unknown : (k : Ticket) (x : Carried) (t : ℕ) → learned (Reply k (of_numbers 1 8 x) (Data [])) t None ≡ None
  pub holds_nobody : (k : Ticket) (x : Carried) (t : ℕ) (count : Option ℕ) → held_after (Reply k (of_numbers 1 8 x) (Data [])) t false count ≡ false
  pub holds_on : (k : Ticket) (x : Carried) (t n : ℕ) → held_after (Reply k (of_numbers 1 8 x) (Data [])) t true (Some (n + 1)) ≡ true
  pub resumed : (k : Ticket) (x : Carried) (t n : ℕ) → learned (Reply k (of_numbers 1 9 x) (Data [])) t (Some n) ≡ Some (n - 1)
  pub resumed_unknown : (k : Ticket) (x : Carried) (t : ℕ) → learned (Reply k (of_numbers 1 9 x) (Data [])) t None ≡ None

-- ---- ThreadReference.Suspend (11, 2), Resume (11, 3) and SuspendCount (11, 12)

pub record OneIsCounted : Type 0 where
  pub suspended : (k : Ticket) (t n : ℕ) → n < LIMIT → learned (Reply k (of_thread 11 2 t []) (Data [])) t (Some n) ≡ Some (n + 1)
  pub suspended_other : (k : Ticket) (t u : ℕ) (count : Option ℕ) → t ≢ u → learned (Reply k (of_thread 11 2 t []) (Data [])) u count ≡ count
  pub resumed : (k : Ticket) (t n : ℕ) → learned (Reply k (of_thread 11 3 t []) (Data [])) t (Some n) ≡ Some (n - 1)
  pub resumed_other : (k : Ticket) (t u : ℕ) (count : Option ℕ) → t ≢ u → learned (Reply k (of_thread 11 3 t []) (Data [])) u count ≡ count
  pub counted : (k : Ticket) (t n : ℕ) (count : Option ℕ) → learned (Reply k (of_thread 11 12 t []) (Data (One (Int (pos n)) ∷ []))) t count ≡ Some n
  pub counted_other : (k : Ticket) (t u n : ℕ) (count : Option ℕ) → t ≢ u → learned (Reply k (of_thread 11 12 t []) (Data (One (Int (pos n)) ∷ []))) u count ≡ count
  pub held : (k : Ticket) (t n : ℕ) (before : Bool) → held_after (Reply k (of_thread 11 2 t []) (Data [])) t before (Some (n + 1)) ≡ true

-- ---- StackFrame (16)

-- An OK reply to a command of StackFrame about a thread shows it alive, so that it is held where its count is above 0, and says nothing of
-- another; no count changes.
pub record FramesShow : Type 0 where
  pub held : (k : Ticket) (number t n : ℕ) (asked content : List DatumMeaning) (before : Bool) → held_after (Reply k (of_thread 16 number t asked) (Data content)) t before (Some (n + 1)) ≡ true
  pub not_at_zero : (k : Ticket) (number t : ℕ) (asked content : List DatumMeaning) (before : Bool) → held_after (Reply k (of_thread 16 number t asked) (Data content)) t before (Some 0) ≡ false
  pub another : (k : Ticket) (number t u n : ℕ) (asked content : List DatumMeaning) (before : Bool) → t ≢ u → held_after (Reply k (of_thread 16 number t asked) (Data content)) u before (Some (n + 1)) ≡ before
  pub counts : (k : Ticket) (number t u : ℕ) (asked content : List DatumMeaning) (count : Option ℕ) → learned (Reply k (of_thread 16 number t asked) (Data content)) u count ≡ count

-- ---- errors

-- INVALID_THREAD (10) to a command of ThreadReference (11) or StackFrame (16) forgets the thread that it is about, and not another;
-- any other error changes nothing.
pub record ErrorsForget : Type 0 where
  pub thread_command : (k : Ticket) (number t : ℕ) (content : List DatumMeaning) (count : Option ℕ) → learned (Reply k (of_thread 11 number t content) (Error (record { 0 = 10 }))) t count ≡ None
  pub frame_command : (k : Ticket) (number t : ℕ) (content : List DatumMeaning) (count : Option ℕ) → learned (Reply k (of_thread 16 number t content) (Error (record { 0 = 10 }))) t count ≡ None
  pub not_another : (k : Ticket) (number t u : ℕ) (content : List DatumMeaning) (count : Option ℕ) → t ≢ u → learned (Reply k (of_thread 11 number t content) (Error (record { 0 = 10 }))) u count ≡ count
  pub no_other_error : (k : Ticket) (c : Command) (e : ErrorCode) (t : ℕ) (count : Option ℕ) → e.0 ≢ 10 → learned (Reply k c (Error e)) t count ≡ count
  pub no_request : (k : Ticket) (c : Command) (e : ErrorCode) (requests : List Kept) → requests_after (Reply k c (Error e)) requests ≡ requests

-- ---- VirtualMachine.AllThreads (1, 4), Exit (1, 10) and Dispose (1, 6)

abbrev pub listed : List ℕ → List DatumMeaning
listed ts = Many (map (λ (t : ℕ). Object t ∷ []) ts) ∷ []

abbrev pub is_in : List ℕ → ℕ → Bool
is_in ts t = list_any (λ (u : ℕ). u == t) ts

pub record ListsForget : Type 0 where
  pub listed_stay : (k : Ticket) (x : Carried) (ts : List ℕ) (t : ℕ) (count : Option ℕ) → is_in ts t ≡ true → learned (Reply k (of_numbers 1 4 x) (Data (listed ts))) t count ≡ count
  pub others_go : (k : Ticket) (x : Carried) (ts : List ℕ) (t : ℕ) (count : Option ℕ) → is_in ts t ≡ false → learned (Reply k (of_numbers 1 4 x) (Data (listed ts))) t count ≡ None
  pub listed_are_held : (k : Ticket) (x : Carried) (ts : List ℕ) (t n : ℕ) (before : Bool) → is_in ts t ≡ true → held_after (Reply k (of_numbers 1 4 x) (Data (listed ts))) t before (Some (n + 1)) ≡ true
  pub exits : (k : Ticket) (x : Carried) (t : ℕ) (count : Option ℕ) (requests : List Kept) → (learned (Reply k (of_numbers 1 10 x) (Data [])) t count ≡ None) × (requests_after (Reply k (of_numbers 1 10 x) (Data [])) requests ≡ [])
  pub disposes : (k : Ticket) (x : Carried) (t : ℕ) (count : Option ℕ) (requests : List Kept) → (learned (Reply k (of_numbers 1 6 x) (Data [])) t count ≡ None) × (requests_after (Reply k (of_numbers 1 6 x) (Data [])) requests ≡ [])

-- ---- Event.Composite: the policies are NONE (0), EVENT_THREAD (1) and ALL (2)

-- An event of a thread that does not end it: it had count 0, and is suspended once or not at all; ALL raises every other known count.
-- Where no event has a thread, ALL raises every known count, and nobody is shown alive.
pub record EventsCount : Type 0 where
  pub none : (c : CompositeMeaning) (t : ℕ) (count : Option ℕ) → composite_thread c ≡ Some t → is_vm_death c ≡ false → has_event kind.ThreadDeath c ≡ false → c.policy ≡ 0 → learned (Report c) t count ≡ Some 0
  pub death : (c : CompositeMeaning) (t : ℕ) (count : Option ℕ) → composite_thread c ≡ Some t → is_vm_death c ≡ false → has_event kind.ThreadDeath c ≡ true → c.policy ≡ 0 → learned (Report c) t count ≡ None
  pub one : (c : CompositeMeaning) (t : ℕ) (count : Option ℕ) → composite_thread c ≡ Some t → is_vm_death c ≡ false → c.policy ≡ 1 → learned (Report c) t count ≡ Some 1
  pub all : (c : CompositeMeaning) (t : ℕ) (count : Option ℕ) → composite_thread c ≡ Some t → is_vm_death c ≡ false → c.policy ≡ 2 → learned (Report c) t count ≡ Some 1
  pub others_by_all : (c : CompositeMeaning) (t u n : ℕ) → composite_thread c ≡ Some t → t ≢ u → is_vm_death c ≡ false → c.policy ≡ 2 → n < LIMIT → learned (Report c) u (Some n) ≡ Some (n + 1)
  pub others_by_less : (c : CompositeMeaning) (t u : ℕ) (count : Option ℕ) → composite_thread c ≡ Some t → t ≢ u → is_vm_death c ≡ false → c.policy < 2 → learned (Report c) u count ≡ count
  pub others_unknown : (c : CompositeMeaning) (t u : ℕ) → composite_thread c ≡ Some t → t ≢ u → learned (Report c) u None ≡ None
  pub no_thread_by_all : (c : CompositeMeaning) (t n : ℕ) → composite_thread c ≡ None → is_vm_death c ≡ false → c.policy ≡ 2 → n < LIMIT → learned (Report c) t (Some n) ≡ Some (n + 1)
  pub no_thread_by_less : (c : CompositeMeaning) (t : ℕ) (count : Option ℕ) → composite_thread c ≡ None → is_vm_death c ≡ false → c.policy < 2 → learned (Report c) t count ≡ count
  pub no_thread_unknown : (c : CompositeMeaning) (t : ℕ) → composite_thread c ≡ None → learned (Report c) t None ≡ None
  pub no_thread_holds : (c : CompositeMeaning) (t n : ℕ) (before : Bool) → composite_thread c ≡ None → held_after (Report c) t before (Some (n + 1)) ≡ before
  pub held : (c : CompositeMeaning) (t n : ℕ) (before : Bool) → composite_thread c ≡ Some t → held_after (Report c) t before (Some (n + 1)) ≡ true
  pub end_of_machine : (c : CompositeMeaning) (t : ℕ) (count : Option ℕ) (requests : List Kept) → is_vm_death c ≡ true → (learned (Report c) t count ≡ None) × (requests_after (Report c) requests ≡ [])

-- ---- EventRequest.Set (15, 1), Clear (15, 2) and ClearAllBreakpoints (15, 3)

abbrev pub set_request : ℕ → ℕ → List (List ScalarMeaning) → Command
set_request kind policy entries = of_numbers 15 1 (Content (One (Byte kind) ∷ One (Byte policy) ∷ Many entries ∷ []))

abbrev pub kept_as : ℤ → ℕ → ℕ → List (List ScalarMeaning) → Kept
kept_as id kind policy entries = record { id = id; kind = kind; policy = policy; modifiers = modifiers_of entries }

-- which one request is left of one
abbrev pub after_clear : ℕ → ℤ → Kept → List Kept
after_clear kind id r = requests_after (Reply None (of_numbers 15 2 (Content (One (Byte kind) ∷ One (Int id) ∷ []))) (Data [])) (r ∷ [])

pub record RequestsAreKept : Type 0 where
  pub first : (k : Ticket) (id : ℤ) (kind policy : ℕ) (entries : List (List ScalarMeaning)) → requests_after (Reply k (set_request kind policy entries) (Data (One (Int id) ∷ []))) [] ≡ kept_as id kind policy entries ∷ []
  pub beside : (kind policy : ℕ) (entries : List (List ScalarMeaning)) (r : Kept) → r.id ≡ pos 1 → requests_after (Reply None (set_request kind policy entries) (Data (One (Int (pos 2)) ∷ []))) (r ∷ []) ≡ r ∷ kept_as (pos 2) kind policy entries ∷ []
  pub in_place : (kind policy : ℕ) (entries : List (List ScalarMeaning)) (r : Kept) → r.id ≡ pos 2 → requests_after (Reply None (set_request kind policy entries) (Data (One (Int (pos 2)) ∷ []))) (r ∷ []) ≡ kept_as (pos 2) kind policy entries ∷ []
  pub cleared : (r : Kept) → r.kind ≡ 2 → r.id ≡ pos 1 → after_clear 2 (pos 1) r ≡ []
  pub other_kind : (r : Kept) → r.kind ≡ 1 → r.id ≡ pos 1 → after_clear 2 (pos 1) r ≡ r ∷ []
  pub other_id : (r : Kept) → r.kind ≡ 2 → r.id ≡ pos 2 → after_clear 2 (pos 1) r ≡ r ∷ []
  pub all_breakpoints : (k : Ticket) (x : Carried) (r s : Kept) → r.kind ≡ 2 → s.kind ≡ 1 → requests_after (Reply k (of_numbers 15 3 x) (Data [])) (r ∷ s ∷ []) ≡ s ∷ []

-- ---- refused packets

abbrev pub is_ready : Reader → Type 0
is_ready r = (r.greeted ≡ true) × (r.ready ≡ true)

-- A composite is refused where it has no event, a policy that is none, or an event of a thread that is known to be suspended.
pub record RefusesEvents : Type 0 where
  pub empty : (r : Reader) (policy : ℕ) → is_ready r → fault_of r (Report (record { policy = policy; events = [] })) ≡ Some BadEvent
  pub policy : (r : Reader) (c : CompositeMeaning) → is_ready r → 2 < c.policy → fault_of r (Report c) ≡ Some BadEvent
  pub suspended : (r : Reader) (c : CompositeMeaning) (t n : ℕ) → is_ready r → composite_thread c ≡ Some t → r.counts t ≡ Some (n + 1) → fault_of r (Report c) ≡ Some BadEvent
  pub two_threads : (r : Reader) (policy a b i j t u : ℕ) → is_ready r → t ≢ u → fault_of r (Report (record { policy = policy; events = (Byte a ∷ Int (pos i) ∷ Object t ∷ []) ∷ (Byte b ∷ Int (pos j) ∷ Object u ∷ []) ∷ [] })) ≡ Some BadEvent
  pub death_of_machine : (r : Reader) (c : CompositeMeaning) → is_ready r → is_vm_death c ≡ true → 0 < c.policy → fault_of r (Report c) ≡ Some BadEvent
  pub fifth : (r : Reader) (c : CompositeMeaning) → r.greeted ≡ true → r.ready ≡ false → 4 ≤ length r.parked → fault_of r (Report c) ≡ Some TooManyParked
  pub fourth : (r : Reader) (c : CompositeMeaning) → r.greeted ≡ true → r.ready ≡ false → length r.parked < 4 → fault_of r (Report c) ≡ None

-- A reply is refused where no command waits for it, and where it says nothing of use.
pub record RefusesReplies : Type 0 where
  pub unknown : (r : Reader) (k : Ticket) (c : Command) (answer : Answer) → r.greeted ≡ true → r.pending ≡ [] → fault_of r (Reply k c answer) ≡ Some UnknownReply
  pub negative_count : (r : Reader) (t n : ℕ) → r.greeted ≡ true → r.pending ≡ (None, of_thread 11 12 t []) ∷ [] → fault_of r (Reply None (of_thread 11 12 t []) (Data (One (Int (negsuc n)) ∷ []))) ≡ Some BadReply
  pub no_widths : (r : Reader) (x : Carried) (e : ErrorCode) → r.greeted ≡ true → r.pending ≡ (None, of_numbers 1 7 x) ∷ [] → fault_of r (Reply None (of_numbers 1 7 x) (Error e)) ≡ Some BadReply
  pub handshake_first : (r : Reader) (message : Message) → r.greeted ≡ true → fault_of r Handshake ≡ Some BadHandshake
  pub only_handshake_first : (r : Reader) (c : CompositeMeaning) → r.greeted ≡ false → fault_of r (Report c) ≡ Some BadHandshake
