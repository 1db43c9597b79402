-- Proofs that a string which is made has an id that was nothing's, and that it is told, from then on.
use Rattle.std.proofs.Common.{◌≡◌, ◌≢◌, ℕ, ℤ, suc, ◌+◌, ◌<◌, ◌≤◌, ◌==◌, Bool, true, false, if◌then◌else◌, List, [], ◌∷◌, ◌++◌, length, refl, sym, ◌∙◌, arith, Option, Some, None, Result, Ok, Err, inl, inr}
use Rattle.std.proofs.lemmas.Bool.{eqb-true, eq-eqb}
use Rattle.std.specs.List.{AllByRecursion}
use Rattle.std.specs.Option.{option_or}
use Rattle.jdwp_wire.specs.declared.error_code.ErrorCode.{ErrorCode}
use Rattle.jdwp_wire.specs.ErrorCodes.{INVALID_OBJECT}
use Rattle.jdwp_value.specs.declared.value.Value.{Value}
use Rattle.jdwp_layout.specs.CommandNumbers.{OBJECT_TYPE, STRING_VALUE}
use Rattle.jdwp_layout.specs.Meanings.{Object, One}
use Rattle.jdwp_machine.specs.declared.profile.Profile.{Profile}
use Rattle.jdwp_machine.specs.declared.profile.Profile.TheVariants.{Standard, Jdi}
use Rattle.jdwp_script.specs.Parts.{GroupPart, ClassPart, ObjectPart, StepPart, ThreadPart, ModulePart}
use Rattle.jdwp_script_machine.specs.LookUps.{with_id}
use Rattle.jdwp_script_machine.specs.States.{ThreadNow, State, thread_at}
use Rattle.jdwp_script_machine.specs.Sites.{class_in, object_in, object_at, group_in, thread_in}
use Rattle.jdwp_script_machine.specs.Steps.{next_step, place_after, stepped_by, stepped_of, stepped, ended}
use Rattle.jdwp_script_machine.specs.SlotWrites.{write_refusal, written_by, written}
use Rattle.jdwp_script_machine.specs.Requests.{found_or}
use Rattle.jdwp_script_machine.specs.ObjectAnswers.{type_answer, text_answer, string_value_answer}
use Rattle.jdwp_script_machine.specs.JdiAnswers.{greatest_id, is_id}
use Rattle.jdwp_script_machine.specs.ProfileAnswers.{answer_in, answer}
use Rattle.jdwp_script_machine.specs.Made.{first_made, next_made, has_room, string_object, string_in, string_class, string_made, id_answer, answer_of_made, made_answer, with_made, made}
use Rattle.jdwp_script_machine.specs.Told.{value_asked, type_asked_of, IsFree}
use Rattle.jdwp_script_machine.specs.Runs.{Deed, Steps, Ends, Writes, Makes, after, after_all}
use Rattle.jdwp_script_machine.specs.Sound.{AreCounted, IsSound}
use Rattle.jdwp_script_machine.specs.StateLaws.{either}
use Rattle.jdwp_script_machine.specs.LiveLaws.{stepped_script}
use Rattle.jdwp_script_machine.specs.FrameLaws.{written_script}
use Rattle.jdwp_script_machine.specs.MadeLaws.{made_script}

-- ---- look-ups

less_apart : (a n : ℕ) → a < n → (a == n) ≡ false
less_apart a n h = elim (either (a == n)) [ inl k ↦ let same = eqb-true a n k in absurd (omega arith) | inr k ↦ k ]

-- nothing that has an id within a number has one above it
none_above : {A : Type 0} (key : A → ℕ) (xs : List A) (m n : ℕ) → AllByRecursion (λ x. key x ≤ m) xs → m < n → with_id key n xs ≡ None
none_above key [] m n all h = refl
none_above key (x ∷ xs) m n all h = let le = all.0 in rw (less_apart (key x) n (omega arith)) (none_above key xs m n all.1 h)

-- of what is counted from a number on, the next number is none
none_next : (m : ℕ) (os : List ObjectPart) (n : ℕ) → AreCounted m os → n ≡ m + length os → with_id (λ (o : ObjectPart). o.id) n os ≡ None
none_next m [] n all h = refl
none_next m (x ∷ xs) n all h = let is = all.0 in rw (less_apart x.id n (omega arith)) (none_next (suc m) xs n all.1 (omega arith))

-- and what is added has it
found_next : (m : ℕ) (os : List ObjectPart) (o : ObjectPart) (n : ℕ) → AreCounted m os → n ≡ m + length os → o.id ≡ n → with_id (λ (o : ObjectPart). o.id) n (os ++ o ∷ []) ≡ Some o
found_next m [] o n all h is = rw (eq-eqb o.id n is) refl
found_next m (x ∷ xs) o n all h is = let first = all.0 in rw (less_apart x.id n (omega arith)) (found_next (suc m) xs o n all.1 (omega arith) is)

found_in_front : {A : Type 0} (key : A → ℕ) (xs ys : List A) (n : ℕ) (x : A) → with_id key n xs ≡ Some x → with_id key n (xs ++ ys) ≡ Some x
found_in_front key [] ys n x h = absurd cc
found_in_front key (y ∷ zs) ys n x h = elim (either (key y == n)) [
  | inl k ↦ let e : Some y ≡ Some x = rw k at h in rw k e
  | inr k ↦ rw k (found_in_front key zs ys n x (rw k at h))
]

-- ---- the next id

unnamed_apart : (width g n : ℕ) → g + 1 < n → 0 < n → (if is_id width (g + 1) then g + 1 else 0) ≢ n
unnamed_apart width g n h k = elim (is_id width (g + 1)) as (λ (b : Bool). (if b then g + 1 else 0) ≢ n) [ true ↦ λ same. absurd (omega arith) | false ↦ λ same. absurd (omega arith) ]

next_free : (s : State) → IsSound s → IsFree s (next_made s)
next_free s sound =
    let n = next_made s in
    let g = greatest_id s.script in
    let past : g + 1 < n = omega arith in
    let object = none_above (λ (o : ObjectPart). o.id) s.script.objects g n sound.within.objects (omega arith) in
    record {
      object = rw (object, none_next (first_made s.script) s.made n sound.counted refl) refl;
      thread = none_above (λ (t : ThreadPart). t.id) s.script.threads g n sound.within.threads (omega arith);
      group = none_above (λ (g : GroupPart). g.id) s.script.groups g n sound.within.groups (omega arith);
      «module» = none_above (λ (m : ModulePart). m.id) s.script.modules g n sound.within.modules (omega arith);
      unnamed = unnamed_apart s.script.sizes.object g n past (omega arith);
    }

free_by : (s : State) → IsSound s → (text : List ℕ) (id : ℕ) (c : Option ClassPart) (b : Bool) → answer_of_made (string_in text c (if b then Some (next_made s) else None)) ≡ id_answer id → IsFree s id
free_by s sound text id None b h = absurd cc
free_by s sound text id (Some c) true h = let same : next_made s ≡ id = cc in rw (← same) (next_free s sound)
free_by s sound text id (Some c) false h = absurd cc

-- the id of a string that is made was nothing's
pub made_new : (s : State) (text : List ℕ) (id : ℕ) → IsSound s → made_answer s text ≡ id_answer id → IsFree s id
made_new s text id sound h = free_by s sound text id (string_class s.script) (has_room s text) h

-- ---- what is told of it

found_made : (s : State) → IsSound s → (o : ObjectPart) → o.id ≡ next_made s → object_at (record s { made = s.made ++ o ∷ [] }) (next_made s) ≡ Some o
found_made s sound o is =
    let object = none_above (λ (o : ObjectPart). o.id) s.script.objects (greatest_id s.script) (next_made s) sound.within.objects (omega arith) in
    rw (object, found_next (first_made s.script) s.made o (next_made s) sound.counted refl is) refl

text_told : (p : Profile) (r : State) (id : ℕ) (o : ObjectPart) (text : List ℕ) → object_at r id ≡ Some o → o.text ≡ Some text → answer_in p r STRING_VALUE.set STRING_VALUE.number (One (Object id) ∷ []) ≡ text_answer text
text_told Standard r id o text found is = rw (found, is) refl
text_told Jdi r id o text found is = rw (found, is) refl

told_by : (s : State) → IsSound s → (text : List ℕ) (id : ℕ) (c : Option ClassPart) (b : Bool) → answer_of_made (string_in text c (if b then Some (next_made s) else None)) ≡ id_answer id
    → answer (with_made s (string_in text c (if b then Some (next_made s) else None))) (value_asked id) ≡ text_answer text
told_by s sound text id None b h = absurd cc
told_by s sound text id (Some c) true h =
    let o = string_object text c.id (next_made s) in
    let same : next_made s ≡ id = cc in
    rw (← same) (text_told s.profile (record s { made = s.made ++ o ∷ [] }) (next_made s) o text (found_made s sound o refl) refl)
told_by s sound text id (Some c) false h = absurd cc

-- a string that is made is told
pub made_told : (s : State) (text : List ℕ) (id : ℕ) → IsSound s → made_answer s text ≡ id_answer id → answer (made s text) (value_asked id) ≡ text_answer text
made_told s text id sound h = told_by s sound text id (string_class s.script) (has_room s text) h

type_told : (p : Profile) (r : State) (id : ℕ) (o : ObjectPart) (c : ClassPart) → object_at r id ≡ Some o → class_in r.script o.class ≡ Some c → thread_in r.script id ≡ None → group_in r.script id ≡ None
    → answer_in p r OBJECT_TYPE.set OBJECT_TYPE.number (One (Object id) ∷ []) ≡ type_answer c
type_told Standard r id o c found is thread group = rw (found, is) refl
type_told Jdi r id o c found is thread group = rw (thread, group, found, is) refl

typed_by : (s : State) → IsSound s → (text : List ℕ) (id : ℕ) (c : ClassPart) → class_in s.script c.id ≡ Some c → (o : Option ClassPart) → o ≡ Some c → (b : Bool) → answer_of_made (string_in text o (if b then Some (next_made s) else None)) ≡ id_answer id
    → answer (with_made s (string_in text o (if b then Some (next_made s) else None))) (type_asked_of id) ≡ type_answer c
typed_by s sound text id c finds None is b h = absurd cc
typed_by s sound text id c finds (Some d) is true h =
    let o = string_object text d.id (next_made s) in
    let free = next_free s sound in
    let class : d ≡ c = cc in
    let found : class_in s.script d.id ≡ Some c = rw class finds in
    let same : next_made s ≡ id = cc in
    rw (← same) (type_told s.profile (record s { made = s.made ++ o ∷ [] }) (next_made s) o c (found_made s sound o refl) found free.thread free.group)
typed_by s sound text id c finds (Some d) is false h = absurd cc

-- and its class is the one that is named so
pub made_typed : (s : State) (text : List ℕ) (id : ℕ) (c : ClassPart) → IsSound s → made_answer s text ≡ id_answer id → string_class s.script ≡ Some c → class_in s.script c.id ≡ Some c
    → answer (made s text) (type_asked_of id) ≡ type_answer c
made_typed s text id c sound h is finds = typed_by s sound text id c finds (string_class s.script) is (has_room s text) h

-- ---- objects stay

-- what was found in the first list or the second one is found, where more stands in the second
or_more : {A : Type 0} (first second more : Option A) (x : A) → (second ≡ Some x → more ≡ Some x) → option_or first second ≡ Some x → option_or first more ≡ Some x
or_more (Some y) second more x stays h = h
or_more None second more x stays h = stays h

stays_where : (s r : State) (id : ℕ) (o : ObjectPart) → r.script ≡ s.script → (with_id (λ (o : ObjectPart). o.id) id s.made ≡ Some o → with_id (λ (o : ObjectPart). o.id) id r.made ≡ Some o) → object_at s id ≡ Some o → object_at r id ≡ Some o
stays_where s r id o script stays h =
    rw script (or_more (object_in s.script id) (with_id (λ (o : ObjectPart). o.id) id s.made) (with_id (λ (o : ObjectPart). o.id) id r.made) o stays h)

same_made : (s r : State) (id : ℕ) (o : ObjectPart) → r.script ≡ s.script → r.made ≡ s.made → object_at s id ≡ Some o → object_at r id ≡ Some o
same_made s r id o script made h = stays_where s r id o script (λ found. rw made found) h

stepped_by_made : (s : State) (t place : ℕ) (p : Option StepPart) → (stepped_by s t place p).made ≡ s.made
stepped_by_made s t place None = refl
stepped_by_made s t place (Some step) = refl

stepped_of_made : (s : State) (t : ℕ) (o : Option ThreadNow) → (stepped_of s t o).made ≡ s.made
stepped_of_made s t None = refl
stepped_of_made s t (Some e) = stepped_by_made s t (place_after s.script e) (next_step s.script e)

written_by_made : (s : State) (t f : ℕ) (values : List (ℤ × Value)) (r : Option ErrorCode) → (written_by s t f values r).made ≡ s.made
written_by_made s t f values None = refl
written_by_made s t f values (Some e) = refl

made_behind : (s : State) (r : Result ObjectPart ErrorCode) (id : ℕ) (o : ObjectPart) → with_id (λ (o : ObjectPart). o.id) id s.made ≡ Some o → with_id (λ (o : ObjectPart). o.id) id (with_made s r).made ≡ Some o
made_behind s (Ok x) id o h = found_in_front (λ (o : ObjectPart). o.id) s.made (x ∷ []) id o h
made_behind s (Err e) id o h = h

object_stays : (s : State) (d : Deed) (id : ℕ) (o : ObjectPart) → object_at s id ≡ Some o → object_at (after s d) id ≡ Some o
object_stays s (Steps t) id o h = same_made s (stepped s t) id o (stepped_script s t) (stepped_of_made s t (thread_at s t)) h
object_stays s (Ends t) id o h = same_made s (ended s t) id o refl refl h
object_stays s (Writes t f values) id o h = same_made s (written s t f values) id o (written_script s t f values) (written_by_made s t f values (write_refusal s t f values)) h
object_stays s (Makes text) id o h = stays_where s (made s text) id o (made_script s text) (made_behind s (string_made s text) id o) h

object_stays_all : (s : State) (ds : List Deed) (id : ℕ) (o : ObjectPart) → object_at s id ≡ Some o → object_at (after_all s ds) id ≡ Some o
object_stays_all s [] id o h = h
object_stays_all s (d ∷ ds) id o h = object_stays_all (after s d) ds id o (object_stays s d id o h)

-- ---- a text stays

asked_in : (p : Profile) (s : State) (id : ℕ) → answer_in p s STRING_VALUE.set STRING_VALUE.number (One (Object id) ∷ []) ≡ found_or INVALID_OBJECT (λ (o : ObjectPart). string_value_answer o []) (object_at s id)
asked_in Standard s id = refl
asked_in Jdi s id = refl

text_there : (t : Option (List ℕ)) (text : List ℕ) (e : ErrorCode) → found_or e text_answer t ≡ text_answer text → t ≡ Some text
text_there None text e h = absurd cc
text_there (Some t) text e h = let same : t ≡ text = cc in rw same refl

stays_by : (s : State) (ds : List Deed) (id : ℕ) (text : List ℕ) (e : ErrorCode) (o : Option ObjectPart) → object_at s id ≡ o → found_or e (λ (o : ObjectPart). string_value_answer o []) o ≡ text_answer text
    → answer (after_all s ds) (value_asked id) ≡ text_answer text
stays_by s ds id text e None found h = absurd cc
stays_by s ds id text e (Some o) found h = text_told (after_all s ds).profile (after_all s ds) id o text (object_stays_all s ds id o found) (text_there o.text text _ h)

-- whatever is done, the text of a string stays as it is told
pub text_stays : (s : State) (ds : List Deed) (id : ℕ) (text : List ℕ) → answer s (value_asked id) ≡ text_answer text → answer (after_all s ds) (value_asked id) ≡ text_answer text
text_stays s ds id text h = stays_by s ds id text INVALID_OBJECT (object_at s id) refl (sym (asked_in s.profile s id) ∙ h)
