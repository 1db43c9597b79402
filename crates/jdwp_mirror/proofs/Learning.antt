-- What the mirror's calls leave is what is to be learned from a packet.
use Rattle.std.proofs.Common.{◌≡◌, ℕ, Bool, true, false, ◌||◌, ◌&&◌, not, List, [], ◌∷◌, ◌++◌, refl, ◌∙◌, ap, sym, subst, Option, Some, None, is_some, if◌then◌else◌}
use Rattle.std.specs.Prelude.{◌==◌}
use Rattle.std.specs.Option.{option_map}
use Rattle.std.proofs.lemmas.Bool.{cond_both}
use Rattle.jdwp_wire.specs.declared.error_code.ErrorCode.{ErrorCode}
use Rattle.jdwp_layout.specs.declared.answer.Answer.TheVariants.{Data, Error}
use Rattle.jdwp_layout.specs.CommandNumbers.{is_command, STACK_FRAME, FRAMES, FRAME_COUNT, SUSPEND, RESUME, DISPOSE, EXIT, HOLD_EVENTS, RELEASE_EVENTS, ALL_THREADS, ID_SIZES, SET_REQUEST, CLEAR_REQUEST, CLEAR_ALL_BREAKPOINTS, SUSPEND_THREAD, RESUME_THREAD, SUSPEND_COUNT, THREAD_STATUS, SET_SLOTS}
use Rattle.jdwp_layout.specs.Meanings.{DatumMeaning, Byte, Int, Object, Frame, One, Many}
use Rattle.jdwp_event.specs.Composites.{CompositeMeaning, POLICY_ALL}
use Rattle.jdwp_event.specs.Told.{composite_thread, is_vm_death, id_found, object_id}
use Rattle.jdwp_action.specs.Actions
use Rattle.jdwp_action.specs.Actions.{Action, Carried, Content, Command, action_of, action_by, thread_of, thread_action, other_action, slots_of, set_action, clear_action, about}
use Rattle.jdwp_value.specs.declared.id.ObjectId.{ObjectId}
use Rattle.jdwp_mirror.specs.declared.threads.Change.{Change}
use Rattle.jdwp_mirror.specs.declared.threads.Change.TheVariants.{Keep, Raise, Lower, Set}
use Rattle.jdwp_mirror.specs.declared.threads.Known.{Known}
use Rattle.jdwp_mirror.specs.declared.threads.Lesson.{Lesson}
use Rattle.jdwp_mirror.specs.Messages.{Ticket, Reply, Report}
use Rattle.jdwp_mirror.specs.Mirror.{Kept, counted, first_count, is_invalid_thread, is_last_of_thread, is_positive, is_thread, learned_data, lists, one_more, one_less, other_count, requests_after_data, shows_data, taught}
use Rattle.jdwp_mirror.specs.Mirrors.{Mirror, Learned, empty_mirror}
use Rattle.jdwp_mirror.specs.CommandKinds.{kind_of, lesson_of, lesson_of_event, requests_after_kind, set_to, threads_after_data, threads_after_error, threads_after_event, with_counted, with_found, without_found}
use Rattle.jdwp_mirror.specs.KnownThreads.{AreSound, KeepsOrder, all_taught, change_of, count_by, count_in, is_held_in, is_of_id, only, shown_by, unseen_thread, with_thread, without}
use Rattle.jdwp_mirror.proofs.KnownLemmas.{count-taught, held-taught, count-only, held-only, count-pushed, held-pushed, held-is, same_from, eq-self, turned}
use Rattle.jdwp_mirror.proofs.OrderLemmas.{order-data, order-error, order-event, order-none}
use Rattle.jdwp_action.specs.AboutLaws.{about_action}

-- ---- small facts

keep-both : (b : Bool) (n : Option ℕ) → option_map (λ m. if b then m else m) n ≡ n
keep-both true None = refl
keep-both true (Some m) = refl
keep-both false None = refl
keep-both false (Some m) = refl

if-map : (b : Bool) (f : ℕ → ℕ) (n : Option ℕ) → option_map (λ m. if b then f m else m) n ≡ (if b then option_map f n else n)
if-map true f None = refl
if-map true f (Some m) = refl
if-map false f None = refl
if-map false f (Some m) = refl

same-both : (b : Bool) (n : Option ℕ) → n ≡ (if b then n else n)
same-both true n = refl
same-both false n = refl

set-one : (b : Bool) (n : ℕ) (m : Option ℕ) → option_map (λ x. if b then n else x) (if is_some m then m else (if b then Some 0 else None)) ≡ (if b then Some n else m)
set-one true n None = refl
set-one true n (Some m) = refl
set-one false n None = refl
set-one false n (Some m) = refl

eq-turned : (a b : ℕ) → (a == b) ≡ (b == a)
eq-turned a b =
    elim (a == b) as (λ x. (a == b) ≡ x → x ≡ (b == a)) [
      | true ↦ λ e. let s : a ≡ b = same_from a b e in subst (λ (n : ℕ). true ≡ (n == a)) s (sym (eq-self a))
      | false ↦ λ e. sym (turned a b e)
    ] refl

of-id : (th : Option ℕ) (t : ℕ) → is_of_id (id_found th) t ≡ is_thread th t
of-id None t = refl
of-id (Some u) t = refl

-- ---- added and left out

known-stays : (n : Option ℕ) (b : Bool) → (b ≡ true → is_some n ≡ true) → n ≡ (if is_some n then n else (if b then Some 0 else None))
known-stays (Some m) b h = refl
known-stays None true h = absurd (cc (h refl))
known-stays None false h = refl

count-with : (id : ObjectId) (ks : List Known) (t : ℕ) → count_in (with_thread id ks) t ≡ (if is_some (count_in ks t) then count_in ks t else (if id.0 == t then Some 0 else None))
count-with id ks t =
    elim (is_some (count_in ks id.0)) as (λ b. is_some (count_in ks id.0) ≡ b → count_in (if b then ks else ks ++ unseen_thread id ∷ []) t ≡ (if is_some (count_in ks t) then count_in ks t else (if id.0 == t then Some 0 else None))) [
      | true ↦ λ e. known-stays (count_in ks t) (id.0 == t) (λ f. subst (λ (u : ℕ). is_some (count_in ks u) ≡ true) (same_from id.0 t f) e)
      | false ↦ λ e. count-pushed id ks t
    ] refl

held-with : (id : ObjectId) (ks : List Known) (t : ℕ) → is_held_in (with_thread id ks) t ≡ is_held_in ks t
held-with id ks t =
    elim (is_some (count_in ks id.0)) as (λ b. is_held_in (if b then ks else ks ++ unseen_thread id ∷ []) t ≡ is_held_in ks t) [
      | true ↦ refl
      | false ↦ held-pushed id ks t
    ]

if-not : (b : Bool) (n : Option ℕ) → (if not b then n else None) ≡ (if b then None else n)
if-not true n = refl
if-not false n = refl

count-without : (u : ℕ) (ks : List Known) (t : ℕ) → count_in (without u ks) t ≡ (if u == t then None else count_in ks t)
count-without u ks t = count-only (λ v. not (v == u)) ks t ∙ if-not (t == u) (count_in ks t) ∙ ap (λ b. if b then None else count_in ks t) (eq-turned t u)

held-without : (u : ℕ) (ks : List Known) (t : ℕ) → is_held_in (without u ks) t ≡ (not (u == t) && is_held_in ks t)
held-without u ks t = held-only (λ v. not (v == u)) ks t ∙ ap (λ b. not b && is_held_in ks t) (eq-turned t u)

-- what is left out is not held, and what stays is held as it was
left-held : (b h : Bool) (n : Option ℕ) → h ≡ (is_positive n && h) → (not b && h) ≡ (is_positive (if b then None else n) && (b || h))
left-held true h n e = refl
left-held false h n e = e

left-quiet : (b h : Bool) (n : Option ℕ) → h ≡ (is_positive n && h) → (not b && h) ≡ (is_positive (if b then None else n) && h)
left-quiet true h n e = refl
left-quiet false h n e = e

-- ---- held after counts were changed

taught-held : (l : Lesson) (new old : List Known) (t : ℕ) (s : Bool) → is_held_in new t ≡ is_held_in old t → shown_by l t ≡ s
    → is_held_in (all_taught l new) t ≡ (is_positive (count_in (all_taught l new) t) && (s || is_held_in old t))
taught-held l new old t s e f =
    held-taught l new t ∙ ap (λ (n : Option ℕ). is_positive n && (shown_by l t || is_held_in new t)) (sym (count-taught l new t)) ∙
    ap (λ (b : Bool). is_positive (count_in (all_taught l new) t) && (shown_by l t || b)) e ∙ ap (λ (b : Bool). is_positive (count_in (all_taught l new) t) && (b || is_held_in old t)) f

-- ---- a reply with an error

error-counts : (th : Option ℕ) (e : ErrorCode) (ks : List Known) (t : ℕ) → count_in (threads_after_error (id_found th) e ks) t ≡ (if is_invalid_thread e && is_thread th t then None else count_in ks t)
error-counts None e ks t = elim (is_invalid_thread e) as (λ b. count_in ks t ≡ (if b && false then None else count_in ks t)) [ true ↦ refl | false ↦ refl ]
error-counts (Some u) e ks t =
    elim (is_invalid_thread e) as (λ b. count_in (if b then without u ks else ks) t ≡ (if b && (u == t) then None else count_in ks t)) [ true ↦ count-without u ks t | false ↦ refl ]

error-held : (th : Option ℕ) (e : ErrorCode) (ks : List Known) (t : ℕ) → AreSound ks
    → is_held_in (threads_after_error (id_found th) e ks) t ≡ (is_positive (count_in (threads_after_error (id_found th) e ks) t) && is_held_in ks t)
error-held None e ks t s = held-is ks t s.counted
error-held (Some u) e ks t s =
    elim (is_invalid_thread e) as (λ b. is_held_in (if b then without u ks else ks) t ≡ (is_positive (count_in (if b then without u ks else ks) t) && is_held_in ks t)) [
      | true ↦ held-without u ks t ∙ left-quiet (u == t) (is_held_in ks t) (count_in ks t) (held-is ks t s.counted) ∙ ap (λ (n : Option ℕ). is_positive n && is_held_in ks t) (sym (count-without u ks t))
      | false ↦ held-is ks t s.counted
    ]

pub learned-by_error : (k : Ticket) (c : Command) (e : ErrorCode) (old : Mirror) → AreSound old.threads → Learned old (Reply k c (Error e)) (record old { threads = threads_after_error (id_found (thread_of c)) e old.threads })
learned-by_error k c e old s = record {
  counts = λ t. error-counts (thread_of c) e old.threads t;
  held = λ t. error-held (thread_of c) e old.threads t s;
  order = order-error (id_found (thread_of c)) e old.threads;
  requests = refl;
}

-- ---- a reply without an error

counted-counts : (found : Option ℕ) (u : ℕ) (ks : List Known) (t : ℕ)
    → count_in (all_taught (record { thread = Some (object_id u); own = set_to found; others = Keep; shows_all = false }) (with_counted (Some (object_id u)) found ks)) t ≡ (if u == t then taught found (count_in ks t) else count_in ks t)
counted-counts None u ks t =
    count-taught (record { thread = Some (object_id u); own = Keep; others = Keep; shows_all = false }) ks t ∙ keep-both (u == t) (count_in ks t) ∙ same-both (u == t) (count_in ks t)
counted-counts (Some n) u ks t =
    let l : Lesson = record { thread = Some (object_id u); own = Set n; others = Keep; shows_all = false } in
    count-taught l (with_thread (object_id u) ks) t ∙ ap (option_map (count_by l t)) (count-with (object_id u) ks t) ∙ set-one (u == t) n (count_in ks t)

counted-held : (found : Option ℕ) (u : ℕ) (ks : List Known) (t : ℕ) → is_held_in (with_counted (Some (object_id u)) found ks) t ≡ is_held_in ks t
counted-held None u ks t = refl
counted-held (Some n) u ks t = held-with (object_id u) ks t

quiet-counts : (th : Option ℕ) (ks : List Known) (t : ℕ) → count_in (all_taught (record { thread = id_found th; own = Keep; others = Keep; shows_all = false }) ks) t ≡ count_in ks t
quiet-counts th ks t = count-taught (record { thread = id_found th; own = Keep; others = Keep; shows_all = false }) ks t ∙ keep-both (is_of_id (id_found th) t) (count_in ks t)

data-counts : (a : Action) (content : List DatumMeaning) (ks : List Known) (t : ℕ) → count_in (threads_after_data (kind_of a) (id_found (about a)) content ks) t ≡ learned_data a content t (count_in ks t)
data-counts Actions.Suspend content ks t = count-taught (lesson_of (kind_of Actions.Suspend) None content) ks t
data-counts Actions.Resume content ks t = count-taught (lesson_of (kind_of Actions.Resume) None content) ks t
data-counts Actions.Dispose content ks t = refl
data-counts Actions.Exit content ks t = refl
data-counts Actions.HoldEvents content ks t = quiet-counts None ks t
data-counts Actions.ReleaseEvents content ks t = quiet-counts None ks t
data-counts (Actions.SetRequest kind policy entries) content ks t = refl
data-counts (Actions.ClearRequest kind id) content ks t = quiet-counts None ks t
data-counts Actions.ClearBreakpoints content ks t = quiet-counts None ks t
data-counts (Actions.SuspendThread u) content ks t = count-taught (lesson_of (kind_of (Actions.SuspendThread u)) (Some (object_id u)) content) ks t ∙ if-map (u == t) one_more (count_in ks t)
data-counts (Actions.ResumeThread u) content ks t = count-taught (lesson_of (kind_of (Actions.ResumeThread u)) (Some (object_id u)) content) ks t ∙ if-map (u == t) one_less (count_in ks t)
data-counts (Actions.SuspendCount u) content ks t = counted-counts (counted content) u ks t
data-counts (Actions.ThreadStatus u) content ks t = quiet-counts (Some u) ks t
data-counts (Actions.SetSlots u f slots) content ks t = quiet-counts (Some u) ks t
data-counts (Actions.AskFrames u) content ks t = quiet-counts (Some u) ks t
data-counts (Actions.AskThread u) content ks t = quiet-counts (Some u) ks t
data-counts Actions.AllThreads content ks t =
    count-taught (lesson_of (kind_of Actions.AllThreads) None content) (only (lists content) ks) t ∙ keep-both false (count_in (only (lists content) ks) t) ∙ count-only (lists content) ks t
data-counts Actions.IdSizes content ks t = quiet-counts None ks t
data-counts Actions.Ask content ks t = quiet-counts None ks t

listed-held : (b p h : Bool) → (b ≡ false → p ≡ false) → (p && true) ≡ (p && (b || h))
listed-held true p h g = refl
listed-held false p h g = rw (g refl) refl

all-held : (content : List DatumMeaning) (ks : List Known) (t : ℕ)
    → is_held_in (threads_after_data (kind_of Actions.AllThreads) None content ks) t ≡ (is_positive (count_in (threads_after_data (kind_of Actions.AllThreads) None content ks) t) && (lists content t || is_held_in ks t))
all-held content ks t =
    let l = lesson_of (kind_of Actions.AllThreads) None content in
    let new = all_taught l (only (lists content) ks) in
    let gone : lists content t ≡ false → is_positive (count_in new t) ≡ false = λ e. ap is_positive (data-counts Actions.AllThreads content ks t ∙ ap (λ (b : Bool). if b then count_in ks t else None) e) in
    held-taught l (only (lists content) ks) t ∙ ap (λ (n : Option ℕ). is_positive n && true) (sym (count-taught l (only (lists content) ks) t)) ∙ listed-held (lists content t) (is_positive (count_in new t)) (is_held_in ks t) gone

shown : (a : Action) (th : Option ℕ) (t : ℕ) → about a ≡ th → (false || is_of_id (id_found (about a)) t) ≡ is_thread th t
shown a th t h = of-id (about a) t ∙ ap (λ (v : Option ℕ). is_thread v t) h

usual-held : (a : Action) (th : Option ℕ) (content : List DatumMeaning) (new old : List Known) (t : ℕ) (own others : Change) → about a ≡ th → is_held_in new t ≡ is_held_in old t
    → is_held_in (all_taught (record { thread = id_found (about a); own = own; others = others; shows_all = false }) new) t ≡ (is_positive (count_in (all_taught (record { thread = id_found (about a); own = own; others = others; shows_all = false }) new) t) && (is_thread th t || is_held_in old t))
usual-held a th content new old t own others h e = taught-held (record { thread = id_found (about a); own = own; others = others; shows_all = false }) new old t (is_thread th t) e (shown a th t h)

data-held : (c : Command) (a : Action) (content : List DatumMeaning) (ks : List Known) (t : ℕ) → about a ≡ thread_of c → AreSound ks
    → is_held_in (threads_after_data (kind_of a) (id_found (about a)) content ks) t ≡ (is_positive (count_in (threads_after_data (kind_of a) (id_found (about a)) content ks) t) && (shows_data c a content t || is_held_in ks t))
data-held c Actions.Suspend content ks t h s = usual-held Actions.Suspend (thread_of c) content ks ks t Keep Raise h refl
data-held c Actions.Resume content ks t h s = usual-held Actions.Resume (thread_of c) content ks ks t Keep Lower h refl
data-held c Actions.Dispose content ks t h s = refl
data-held c Actions.Exit content ks t h s = refl
data-held c Actions.HoldEvents content ks t h s = usual-held Actions.HoldEvents (thread_of c) content ks ks t Keep Keep h refl
data-held c Actions.ReleaseEvents content ks t h s = usual-held Actions.ReleaseEvents (thread_of c) content ks ks t Keep Keep h refl
data-held c (Actions.SetRequest kind policy entries) content ks t h s =
    held-is ks t s.counted ∙ ap (λ (v : Option ℕ). is_positive (count_in ks t) && (is_thread v t || is_held_in ks t)) h
data-held c (Actions.ClearRequest kind id) content ks t h s = usual-held (Actions.ClearRequest kind id) (thread_of c) content ks ks t Keep Keep h refl
data-held c Actions.ClearBreakpoints content ks t h s = usual-held Actions.ClearBreakpoints (thread_of c) content ks ks t Keep Keep h refl
data-held c (Actions.SuspendThread u) content ks t h s = usual-held (Actions.SuspendThread u) (thread_of c) content ks ks t Raise Keep h refl
data-held c (Actions.ResumeThread u) content ks t h s = usual-held (Actions.ResumeThread u) (thread_of c) content ks ks t Lower Keep h refl
data-held c (Actions.SuspendCount u) content ks t h s =
    usual-held (Actions.SuspendCount u) (thread_of c) content (with_counted (Some (object_id u)) (counted content) ks) ks t (set_to (counted content)) Keep h (counted-held (counted content) u ks t)
data-held c (Actions.ThreadStatus u) content ks t h s = usual-held (Actions.ThreadStatus u) (thread_of c) content ks ks t Keep Keep h refl
data-held c (Actions.SetSlots u f slots) content ks t h s = usual-held (Actions.SetSlots u f slots) (thread_of c) content ks ks t Keep Keep h refl
data-held c (Actions.AskFrames u) content ks t h s = usual-held (Actions.AskFrames u) (thread_of c) content ks ks t Keep Keep h refl
data-held c (Actions.AskThread u) content ks t h s = usual-held (Actions.AskThread u) (thread_of c) content ks ks t Keep Keep h refl
data-held c Actions.AllThreads content ks t h s = all-held content ks t
data-held c Actions.IdSizes content ks t h s = usual-held Actions.IdSizes (thread_of c) content ks ks t Keep Keep h refl
data-held c Actions.Ask content ks t h s = usual-held Actions.Ask (thread_of c) content ks ks t Keep Keep h refl

-- ---- requests

abbrev AreKept : Carried → List DatumMeaning → List Kept → Action → Type 0
AreKept carried content requests a = requests_after_kind (kind_of a) carried content requests ≡ requests_after_data a content requests

slots-kept : (t : ℕ) (c : Carried) (content : List DatumMeaning) (requests : List Kept) → AreKept c content requests (slots_of t c)
slots-kept t (Content (One (Object o) ∷ One (Frame f) ∷ Many entries ∷ [])) content requests = refl
slots-kept t c content requests = refl

set-kept : (c : Carried) (content : List DatumMeaning) (requests : List Kept) → AreKept c content requests (set_action c)
set-kept (Content (One (Byte kind) ∷ One (Byte policy) ∷ Many entries ∷ [])) content requests = refl
set-kept c content requests = refl

clear-kept : (c : Carried) (content : List DatumMeaning) (requests : List Kept) → AreKept c content requests (clear_action c)
clear-kept (Content (One (Byte kind) ∷ One (Int id) ∷ [])) content requests = refl
clear-kept c content requests = refl

thread-kept : (t : ℕ) (c : Command) (content : List DatumMeaning) (requests : List Kept) → AreKept c.carried content requests (thread_action t c)
thread-kept t c content requests =
    let P = AreKept c.carried content requests in
    cond_both (is_command SUSPEND_THREAD c.set c.number) _ _ P (λ _. refl) (λ _.
    cond_both (is_command RESUME_THREAD c.set c.number) _ _ P (λ _. refl) (λ _.
    cond_both (is_command SUSPEND_COUNT c.set c.number) _ _ P (λ _. refl) (λ _.
    cond_both (is_command THREAD_STATUS c.set c.number) _ _ P (λ _. refl) (λ _.
    cond_both (is_command SET_SLOTS c.set c.number) _ _ P (λ _. slots-kept t c.carried content requests) (λ _.
    cond_both ((c.set == STACK_FRAME) || (is_command FRAMES c.set c.number || is_command FRAME_COUNT c.set c.number)) _ _ P (λ _. refl) (λ _. refl))))))

other-kept : (c : Command) (content : List DatumMeaning) (requests : List Kept) → AreKept c.carried content requests (other_action c)
other-kept c content requests =
    let P = AreKept c.carried content requests in
    cond_both (is_command SUSPEND c.set c.number) _ _ P (λ _. refl) (λ _.
    cond_both (is_command RESUME c.set c.number) _ _ P (λ _. refl) (λ _.
    cond_both (is_command DISPOSE c.set c.number) _ _ P (λ _. refl) (λ _.
    cond_both (is_command EXIT c.set c.number) _ _ P (λ _. refl) (λ _.
    cond_both (is_command HOLD_EVENTS c.set c.number) _ _ P (λ _. refl) (λ _.
    cond_both (is_command RELEASE_EVENTS c.set c.number) _ _ P (λ _. refl) (λ _.
    cond_both (is_command ALL_THREADS c.set c.number) _ _ P (λ _. refl) (λ _.
    cond_both (is_command ID_SIZES c.set c.number) _ _ P (λ _. refl) (λ _.
    cond_both (is_command SET_REQUEST c.set c.number) _ _ P (λ _. set-kept c.carried content requests) (λ _.
    cond_both (is_command CLEAR_REQUEST c.set c.number) _ _ P (λ _. clear-kept c.carried content requests) (λ _.
    cond_both (is_command CLEAR_ALL_BREAKPOINTS c.set c.number) _ _ P (λ _. refl) (λ _. refl)))))))))))

kept-action : (c : Command) (content : List DatumMeaning) (requests : List Kept) → AreKept c.carried content requests (action_of c)
kept-action c content requests = elim (thread_of c) as (λ v. AreKept c.carried content requests (action_by v c)) [ Some t ↦ thread-kept t c content requests | None ↦ other-kept c content requests ]

pub learned-by_data : (k : Ticket) (c : Command) (content : List DatumMeaning) (old new : Mirror) → AreSound old.threads → new.threads ≡ threads_after_data (kind_of (action_of c)) (id_found (thread_of c)) content old.threads
    → new.requests ≡ requests_after_kind (kind_of (action_of c)) c.carried content old.requests → Learned old (Reply k c (Data content)) new
learned-by_data k c content old new s e f =
    let a = action_of c in
    let g : new.threads ≡ threads_after_data (kind_of a) (id_found (about a)) content old.threads = e ∙ ap (λ (v : Option ℕ). threads_after_data (kind_of a) (id_found v) content old.threads) (sym (about_action c)) in
    record {
      counts = λ t. ap (λ (ks : List Known). count_in ks t) g ∙ data-counts a content old.threads t;
      held = λ t. subst (λ (ks : List Known). is_held_in ks t ≡ (is_positive (count_in ks t) && (shows_data c a content t || is_held_in old.threads t))) (sym g) (data-held c a content old.threads t (about_action c) s);
      order = subst (λ (ks : List Known). KeepsOrder old.threads ks) (sym e) (order-data (kind_of a) (id_found (thread_of c)) content old.threads);
      requests = f ∙ kept-action c content old.requests;
    }

-- ---- a composite

others-same : (b : Bool) (n : ℕ) → change_of (if b then Raise else Keep) n ≡ (if b then one_more n else n)
others-same true n = refl
others-same false n = refl

map-others : (p : ℕ) (n : Option ℕ) → option_map (λ m. change_of (if p == POLICY_ALL then Raise else Keep) m) n ≡ option_map (other_count p) n
map-others p None = refl
map-others p (Some m) = ap Some (others-same (p == POLICY_ALL) m)

event-one : (b : Bool) (p : ℕ) (m : Option ℕ)
    → option_map (λ x. if b then first_count p else change_of (if p == POLICY_ALL then Raise else Keep) x) (if is_some m then m else (if b then Some 0 else None)) ≡ (if b then Some (first_count p) else option_map (other_count p) m)
event-one true p None = refl
event-one true p (Some m) = refl
event-one false p None = refl
event-one false p (Some m) = map-others p (Some m)

quiet-policy : (p : ℕ) (n : Option ℕ) → p ≡ 0 → n ≡ option_map (other_count p) n
quiet-policy p None e = refl
quiet-policy p (Some m) e = rw e refl

last-one : (b : Bool) (p : ℕ) (n : Option ℕ) → p ≡ 0 → (if b then None else n) ≡ (if b then None else option_map (other_count p) n)
last-one true p n e = refl
last-one false p n e = quiet-policy p n e

event-counts : (b : Bool) (p : ℕ) (th : Option ℕ) (ks : List Known) (t : ℕ) → (b ≡ true → p ≡ 0)
    → count_in (if b then without_found (id_found th) ks else all_taught (lesson_of_event (id_found th) p) (with_found (id_found th) ks)) t ≡ (if is_thread th t then (if b then None else Some (first_count p)) else option_map (other_count p) (count_in ks t))
event-counts true p None ks t z = quiet-policy p (count_in ks t) (z refl)
event-counts true p (Some u) ks t z = count-without u ks t ∙ last-one (u == t) p (count_in ks t) (z refl)
event-counts false p None ks t z = count-taught (lesson_of_event None p) ks t ∙ map-others p (count_in ks t)
event-counts false p (Some u) ks t z =
    let l = lesson_of_event (Some (object_id u)) p in
    count-taught l (with_thread (object_id u) ks) t ∙ ap (option_map (count_by l t)) (count-with (object_id u) ks t) ∙ event-one (u == t) p (count_in ks t)

found-held : (th : Option ℕ) (ks : List Known) (t : ℕ) → is_held_in (with_found (id_found th) ks) t ≡ is_held_in ks t
found-held None ks t = refl
found-held (Some u) ks t = held-with (object_id u) ks t

event-held : (b : Bool) (p : ℕ) (th : Option ℕ) (ks : List Known) (t : ℕ) → AreSound ks
    → is_held_in (if b then without_found (id_found th) ks else all_taught (lesson_of_event (id_found th) p) (with_found (id_found th) ks)) t
    ≡ (is_positive (count_in (if b then without_found (id_found th) ks else all_taught (lesson_of_event (id_found th) p) (with_found (id_found th) ks)) t) && (is_thread th t || is_held_in ks t))
event-held true p None ks t s = held-is ks t s.counted
event-held true p (Some u) ks t s =
    held-without u ks t ∙ left-held (u == t) (is_held_in ks t) (count_in ks t) (held-is ks t s.counted) ∙ ap (λ (n : Option ℕ). is_positive n && ((u == t) || is_held_in ks t)) (sym (count-without u ks t))
event-held false p th ks t s = taught-held (lesson_of_event (id_found th) p) (with_found (id_found th) ks) ks t (is_thread th t) (found-held th ks t) (of-id th t)

and-zero : (a : Bool) (p : ℕ) → (a && (p == 0)) ≡ true → p ≡ 0
and-zero true p e = same_from p 0 e
and-zero false p e = absurd (cc)

pub learned-by_event : (c : CompositeMeaning) (old new : Mirror) → AreSound old.threads → is_vm_death c ≡ false
    → new ≡ record old { threads = threads_after_event (id_found (composite_thread c)) c old.threads } → Learned old (Report c) new
learned-by_event c old new s alive e =
    let zero : is_last_of_thread c ≡ true → c.policy ≡ 0 = and-zero _ c.policy in
    let here : Learned old (Report c) (record old { threads = threads_after_event (id_found (composite_thread c)) c old.threads }) = record {
      counts = λ t. rw alive (event-counts (is_last_of_thread c) c.policy (composite_thread c) old.threads t zero);
      held = λ t. event-held (is_last_of_thread c) c.policy (composite_thread c) old.threads t s;
      order = order-event (id_found (composite_thread c)) c old.threads;
      requests = rw alive refl;
    } in
    subst (λ (m : Mirror). Learned old (Report c) m) (sym e) here

pub learned-by_death : (c : CompositeMeaning) (old new : Mirror) → is_vm_death c ≡ true → new ≡ empty_mirror → Learned old (Report c) new
learned-by_death c old new dead e =
    let here : Learned old (Report c) empty_mirror = record { counts = λ t. rw dead refl; held = λ t. refl; order = order-none old.threads; requests = rw dead refl } in
    subst (λ (m : Mirror). Learned old (Report c) m) (sym e) here
