-- Proofs that a write of slots leaves which questions for slots are refused, and how many values are answered.
use Rattle.std.proofs.Common.{◌≡◌, ◌≢◌, ℕ, suc, ℤ, ◌^◌, ◌==◌, ◌&&◌, ◌||◌, Bool, true, false, not, nat_lt, if◌then◌else◌, List, [], ◌∷◌, map, length, refl, sym, ◌∙◌, ap, ap₂, subst, Option, Some, None, option_map, inl, inr}
use Rattle.std.proofs.lemmas.Bool.{eqb-true, eq-eqb, false≢true}
use Rattle.std.proofs.lemmas.Bool.Decides.{Decides-int_eq}
use Rattle.std.specs.List.{list_all}
use Rattle.std.specs.Ordering.{int_eq}
use Rattle.jdwp_wire.specs.declared.error_code.ErrorCode.{ErrorCode}
use Rattle.jdwp_wire.specs.ErrorCodes.{INVALID_OBJECT, INVALID_FRAMEID, TYPE_MISMATCH, INVALID_SLOT, ILLEGAL_ARGUMENT}
use Rattle.jdwp_value.specs.declared.tag.ObjectTag.TheVariants as kind
use Rattle.jdwp_value.specs.declared.tag.Tag.{Tag}
use Rattle.jdwp_value.specs.declared.tag.Tag.TheVariants as tag
use Rattle.jdwp_value.specs.declared.value.Value.{Value}
use Rattle.jdwp_value.specs.Tags.{tag_byte, tag_of_byte}
use Rattle.jdwp_value.specs.Values.{tag_of, is_object, is_void}
use Rattle.jdwp_layout.specs.declared.answer.Answer.{Answer}
use Rattle.jdwp_layout.specs.declared.answer.Answer.TheVariants.{Data, Error}
use Rattle.jdwp_layout.specs.CommandNumbers.{is_command, GET_SLOTS}
use Rattle.jdwp_layout.specs.Meanings.{ScalarMeaning, Byte, Int, Object, Frame, DatumMeaning, One, Many}
use Rattle.jdwp_machine.specs.declared.query.Query.{Query}
use Rattle.jdwp_machine.specs.Laws.{begins_with, asks_slots, KeepsValues}
use Rattle.jdwp_script_machine.specs.LookUps.{changed}
use Rattle.jdwp_script_machine.specs.States.{SlotNow, FrameNow, ThreadNow, State, thread_at}
use Rattle.jdwp_script_machine.specs.SlotWrites.{slot_value, has_slot, suits, found_suits, may_hold, frame_refusal, frame_in, thread_refusal, slot_written, slots_written, frame_written, thread_written, write_refusal, written_by, written}
use Rattle.jdwp_script_machine.specs.Requests.{found_or, of_frames, of_frame_in, of_entries}
use Rattle.jdwp_script_machine.specs.ThreadAnswers.{frames_at, entry_has_slot, byte_suits, entry_suits, with_entry, entry_slot, slot_entries, slots_asked, slots_answer}
use Rattle.jdwp_script_machine.specs.Answers.{answer_at}
use Rattle.jdwp_script_machine.specs.ProfileAnswers.{answer}
use Rattle.jdwp_script_machine.specs.StateLaws.{either, found_other}
use Rattle.jdwp_script_machine.specs.FrameLaws.{and_both, command_is, slots_in, found_changed}

-- ---- tags

-- whether a byte is that of an object's tag
abbrev is_object_byte : Option Tag → Bool
is_object_byte None = false
is_object_byte (Some t) = is_object t

object_by_byte : (t : Tag) → is_object t ≡ is_object_byte (tag_of_byte (tag_byte t))
object_by_byte tag.Byte = refl
object_by_byte tag.Char = refl
object_by_byte tag.Double = refl
object_by_byte tag.Float = refl
object_by_byte tag.Int = refl
object_by_byte tag.Long = refl
object_by_byte tag.Short = refl
object_by_byte tag.Void = refl
object_by_byte tag.Boolean = refl
object_by_byte (tag.Object kind.Array) = refl
object_by_byte (tag.Object kind.Object) = refl
object_by_byte (tag.Object kind.String) = refl
object_by_byte (tag.Object kind.Thread) = refl
object_by_byte (tag.Object kind.ThreadGroup) = refl
object_by_byte (tag.Object kind.ClassLoader) = refl
object_by_byte (tag.Object kind.ClassObject) = refl

-- two tags with one byte are both tags of objects, or neither is
same_kind : (a b : Tag) → tag_byte a ≡ tag_byte b → is_object b ≡ is_object a
same_kind a b h = object_by_byte b ∙ (ap (λ (n : ℕ). is_object_byte (tag_of_byte n)) (sym h) ∙ sym (object_by_byte a))

suits_past : (void object other : Bool) (a b c : Tag) → is_object a ≡ object → is_void b ≡ void → (if void then false else (if object then is_object b else (tag_byte a == tag_byte b))) ≡ true
    → (if other then false else (if is_object b then is_object c else (tag_byte b == tag_byte c))) ≡ (if other then false else (if object then is_object c else (tag_byte a == tag_byte c)))
suits_past void object true a b c o v h = refl
suits_past true object false a b c o v h = absurd (false≢true h)
suits_past false true false a b c o v h = rw h refl
suits_past false false false a b c o v h =
    let same : tag_byte a ≡ tag_byte b = eqb-true (tag_byte a) (tag_byte b) h in
    let none : is_object b ≡ false = same_kind a b same ∙ o in
    rw (none, ← same) refl

-- who suits a tag that suits another one suits that one
suits_through : (a b c : Tag) → suits a b ≡ true → suits b c ≡ suits a c
suits_through a b c h = suits_past (is_void b) (is_object a) (is_void c) a b c refl refl h

-- ---- one slot

-- what a slot holds before and after: the same tags suit it
abbrev SuitAlike : Option Value → Option Value → Type 0
SuitAlike None None = Unit {0}
SuitAlike (Some a) (Some b) = (asked : Tag) → suits (tag_of b) asked ≡ suits (tag_of a) asked
SuitAlike None (Some b) = ⊥
SuitAlike (Some a) None = ⊥

alike_refl : (o : Option Value) → SuitAlike o o
alike_refl None = tt
alike_refl (Some v) = λ asked. refl

alike_past : (o p q : Option Value) → SuitAlike o p → SuitAlike p q → SuitAlike o q
alike_past None None None h k = tt
alike_past (Some a) (Some b) (Some c) h k = λ asked. k asked ∙ h asked
alike_past None None (Some c) h k = absurd k
alike_past None (Some b) q h k = absurd h
alike_past (Some a) None q h k = absurd h
alike_past (Some a) (Some b) None h k = absurd k

int_is : (x y : ℤ) → int_eq x y ≡ true → x ≡ y
int_is x y h = (Decides-int_eq x y).0 h

written_here : (v : ℤ × Value) (slots : List SlotNow) → found_suits (slot_value v.0 slots) (tag_of v.1) ≡ true → SuitAlike (slot_value v.0 slots) (slot_value v.0 (map (slot_written v) slots))
written_here v [] h = tt
written_here v (x ∷ xs) h = elim (either (int_eq x.slot v.0)) [
  | inl k ↦ rw (k, k) (λ asked. suits_through (tag_of x.value) (tag_of v.1) asked (rw k at h))
  | inr k ↦ rw (k, k) (written_here v xs (rw k at h))
]

other_slot : (a n x : ℤ) → int_eq a n ≡ false → int_eq x n ≡ true → int_eq x a ≡ false
other_slot a n x h k = elim (either (int_eq x a)) [ inl l ↦ absurd (false≢true (sym h ∙ (ap (λ (y : ℤ). int_eq y n) (sym (int_is x a l)) ∙ k))) | inr l ↦ l ]

written_elsewhere : (v : ℤ × Value) (n : ℤ) → int_eq v.0 n ≡ false → (slots : List SlotNow) → slot_value n (map (slot_written v) slots) ≡ slot_value n slots
written_elsewhere v n off [] = refl
written_elsewhere v n off (x ∷ xs) = elim (either (int_eq x.slot n)) [
  | inl k ↦ rw (other_slot v.0 n x.slot off k, k) refl
  | inr k ↦ elim (either (int_eq x.slot v.0)) [ inl l ↦ rw (l, k) (written_elsewhere v n off xs) | inr l ↦ rw (l, k) (written_elsewhere v n off xs) ]
]

written_has : (v : ℤ × Value) (n : ℤ) (slots : List SlotNow) → has_slot (map (slot_written v) slots) n ≡ has_slot slots n
written_has v n [] = refl
written_has v n (x ∷ xs) = elim (either (int_eq x.slot v.0)) [
  | inl k ↦ rw k (ap (λ (r : Bool). (int_eq x.slot n) || r) (written_has v n xs))
  | inr k ↦ rw k (ap (λ (r : Bool). (int_eq x.slot n) || r) (written_has v n xs))
]

-- ---- the slots of a frame

-- the same slots, and the same tags suit each
record SlotsAlike (before after : List SlotNow) : Type 0 where
  pub slot : (n : ℤ) → has_slot after n ≡ has_slot before n
  pub tags : (n : ℤ) → SuitAlike (slot_value n before) (slot_value n after)

slots_refl : (slots : List SlotNow) → SlotsAlike slots slots
slots_refl slots = record { slot = λ n. refl; tags = λ n. alike_refl (slot_value n slots) }

one_written : (v : ℤ × Value) (slots : List SlotNow) → found_suits (slot_value v.0 slots) (tag_of v.1) ≡ true → SlotsAlike slots (map (slot_written v) slots)
one_written v slots h =
    record {
      slot = λ n. written_has v n slots;
      tags = λ n. elim (either (int_eq v.0 n)) [
        | inl k ↦ let P : ℤ → Type 0 = λ m. SuitAlike (slot_value m slots) (slot_value m (map (slot_written v) slots)) in subst P (int_is v.0 n k) (written_here v slots h)
        | inr k ↦ rw (written_elsewhere v n k slots) (alike_refl (slot_value n slots))
      ];
    }

found_alike : (o p : Option Value) → SuitAlike o p → (asked : Tag) → found_suits p asked ≡ found_suits o asked
found_alike None None h asked = refl
found_alike (Some a) (Some b) h asked = h asked
found_alike None (Some b) h asked = absurd h
found_alike (Some a) None h asked = absurd h

all_same : {A : Type 0} (test other : A → Bool) → ((x : A) → other x ≡ test x) → (xs : List A) → list_all other xs ≡ list_all test xs
all_same test other same [] = refl
all_same test other same (x ∷ xs) = ap₂ (λ (a b : Bool). a && b) (same x) (all_same test other same xs)

-- whether values have tags that suit their slots
abbrev all_suit : List SlotNow → List (ℤ × Value) → Bool
all_suit slots values = list_all (λ (v : ℤ × Value). found_suits (slot_value v.0 slots) (tag_of v.1)) values

all_written : (values : List (ℤ × Value)) (slots : List SlotNow) → all_suit slots values ≡ true → SlotsAlike slots (slots_written values slots)
all_written [] slots h = slots_refl slots
all_written (v ∷ values) slots h =
    let both = and_both (found_suits (slot_value v.0 slots) (tag_of v.1)) (all_suit slots values) h in
    let now = map (slot_written v) slots in
    let one = one_written v slots both.0 in
    let same : all_suit now values ≡ all_suit slots values =
    all_same (λ (w : ℤ × Value). found_suits (slot_value w.0 slots) (tag_of w.1)) (λ (w : ℤ × Value). found_suits (slot_value w.0 now) (tag_of w.1)) (λ w. found_alike (slot_value w.0 slots) (slot_value w.0 now) (one.tags w.0) (tag_of w.1)) values in
    let rest = all_written values now (same ∙ both.1) in
    record { slot = λ n. rest.slot n ∙ one.slot n; tags = λ n. alike_past (slot_value n slots) (slot_value n now) (slot_value n (slots_written values now)) (one.tags n) (rest.tags n) }

-- ---- what is asked of them

entry_slot_alike : (before after : List SlotNow) → SlotsAlike before after → (entry : List ScalarMeaning) → entry_has_slot after entry ≡ entry_has_slot before entry
entry_slot_alike before after h (Int n ∷ Byte asked ∷ []) = h.slot n
entry_slot_alike before after h entry = refl

byte_alike : (o p : Option Value) → SuitAlike o p → (asked : Option Tag) → byte_suits p asked ≡ byte_suits o asked
byte_alike o p h None = refl
byte_alike o p h (Some asked) = found_alike o p h asked

entry_suits_alike : (before after : List SlotNow) → SlotsAlike before after → (entry : List ScalarMeaning) → entry_suits after entry ≡ entry_suits before entry
entry_suits_alike before after h (Int n ∷ Byte asked ∷ []) = byte_alike (slot_value n before) (slot_value n after) (h.tags n) (tag_of_byte asked)
entry_suits_alike before after h entry = refl

longer_alike : (o p : Option Value) → SuitAlike o p → (xs ys : List (List ScalarMeaning)) → length ys ≡ length xs → length (with_entry p ys) ≡ length (with_entry o xs)
longer_alike None None h xs ys same = same
longer_alike (Some a) (Some b) h xs ys same = ap suc same
longer_alike None (Some b) h xs ys same = absurd h
longer_alike (Some a) None h xs ys same = absurd h

entry_value_alike : (before after : List SlotNow) → SlotsAlike before after → (entry : List ScalarMeaning) → SuitAlike (entry_slot before entry) (entry_slot after entry)
entry_value_alike before after h (Int n ∷ Byte asked ∷ []) = h.tags n
entry_value_alike before after h entry = tt

entries_alike : (before after : List SlotNow) → SlotsAlike before after → (entries : List (List ScalarMeaning)) → length (slot_entries after entries) ≡ length (slot_entries before entries)
entries_alike before after h [] = refl
entries_alike before after h (entry ∷ entries) =
    longer_alike (entry_slot before entry) (entry_slot after entry) (entry_value_alike before after h entry) (slot_entries before entries) (slot_entries after entries) (entries_alike before after h entries)

pub keeps_refl : (a : Answer) → KeepsValues a a
keeps_refl (Data content) = refl
keeps_refl (Error e) = refl

keeps_asked : (a b : Bool) (xs ys : List (List ScalarMeaning)) → length ys ≡ length xs
    → KeepsValues (if not a then Error INVALID_SLOT else (if not b then Error TYPE_MISMATCH else Data (Many xs ∷ []))) (if not a then Error INVALID_SLOT else (if not b then Error TYPE_MISMATCH else Data (Many ys ∷ [])))
keeps_asked true true xs ys h = h
keeps_asked true false xs ys h = refl
keeps_asked false b xs ys h = refl

asked_alike : (before after : List SlotNow) → SlotsAlike before after → (entries : List (List ScalarMeaning)) → KeepsValues (slots_asked before entries) (slots_asked after entries)
asked_alike before after h entries =
    rw (all_same (entry_has_slot before) (entry_has_slot after) (entry_slot_alike before after h) entries, all_same (entry_suits before) (entry_suits after) (entry_suits_alike before after h) entries)
    (keeps_asked (list_all (entry_has_slot before) entries) (list_all (entry_suits before) entries) (slot_entries before entries) (slot_entries after entries) (entries_alike before after h entries))

keeps_when : (b : Bool) (x y : Answer) (e : ErrorCode) → KeepsValues x y → KeepsValues (if b then x else Error e) (if b then y else Error e)
keeps_when true x y e h = h
keeps_when false x y e h = refl

slots_alike : (before after : List SlotNow) → SlotsAlike before after → (content : List DatumMeaning) → KeepsValues (of_entries (slots_asked before) content) (of_entries (slots_asked after) content)
slots_alike before after h (Many entries ∷ []) = keeps_when (nat_lt (length entries) (2 ^ 31)) (slots_asked before entries) (slots_asked after entries) ILLEGAL_ARGUMENT (asked_alike before after h entries)
slots_alike before after h content = refl

-- ---- the frame that is written

suit_where_written : (a b c : Bool) → (if not a then Some INVALID_SLOT else (if not b then Some TYPE_MISMATCH else (if not c then Some INVALID_OBJECT else None))) ≡ None → b ≡ true
suit_where_written true true c h = refl
suit_where_written true false c h = absurd cc
suit_where_written false b c h = absurd cc

frame_alike : (s : State) (values : List (ℤ × Value)) (o : Option FrameNow) → frame_refusal s values o ≡ None → (content : List DatumMeaning)
    → KeepsValues (found_or INVALID_FRAMEID (λ (f : FrameNow). slots_answer f content) o) (found_or INVALID_FRAMEID (λ (f : FrameNow). slots_answer f content) (option_map (frame_written values) o))
frame_alike s values None h content = refl
frame_alike s values (Some f) h content =
    let suit = suit_where_written (list_all (λ (v : ℤ × Value). has_slot f.slots v.0) values) (all_suit f.slots values) (list_all (λ (v : ℤ × Value). may_hold s v.1) values) h in
    slots_alike f.slots (slots_written values f.slots) (all_written values f.slots suit) content

frame_changed : (change : FrameNow → FrameNow) → ((f : FrameNow) → (change f).id ≡ f.id) → (fs : List FrameNow) (n : ℕ) → frame_in n (changed (λ (f : FrameNow). f.id) n change fs) ≡ option_map change (frame_in n fs)
frame_changed change ids [] n = refl
frame_changed change ids (f ∷ fs) n = elim (either (f.id == n)) [
  | inl h ↦ let l : ((change f).id == n) ≡ true = ap (λ (x : ℕ). x == n) (ids f) ∙ h in rw (h, l) refl
  | inr h ↦ rw (h, h) (frame_changed change ids fs n)
]

not_same : (a b : ℕ) → (a == b) ≡ false → a ≢ b
not_same a b h = λ same. false≢true (sym h ∙ eq-eqb a b same)

frames_alike : (s : State) (f : ℕ) (values : List (ℤ × Value)) (fs : List FrameNow) → frame_refusal s values (frame_in f fs) ≡ None → (content : List DatumMeaning)
    → KeepsValues (of_frame_in slots_answer fs content) (of_frame_in slots_answer (changed (λ (x : FrameNow). x.id) f (frame_written values) fs) content)
frames_alike s f values fs h (One (Frame id) ∷ rest) = elim (either (f == id)) [
  | inl k ↦ let same : f ≡ id = eqb-true f id k in
      rw (← same, frame_changed (frame_written values) (λ f. refl) fs f) (frame_alike s values (frame_in f fs) h rest)
  | inr k ↦ rw (found_other (λ (x : FrameNow). x.id) (frame_written values) (λ f. refl) fs f id (not_same f id k)) (keeps_refl (found_or INVALID_FRAMEID (λ (f : FrameNow). slots_answer f rest) (frame_in id fs)))
]
frames_alike s f values fs h content = refl

thread_alike : (s : State) (f : ℕ) (values : List (ℤ × Value)) (o : Option ThreadNow) → thread_refusal s f values o ≡ None → (content : List DatumMeaning)
    → KeepsValues (found_or INVALID_OBJECT (λ (fs : List FrameNow). of_frame_in slots_answer fs content) (option_map (λ (e : ThreadNow). e.frames) o))
    (found_or INVALID_OBJECT (λ (fs : List FrameNow). of_frame_in slots_answer fs content) (option_map (λ (e : ThreadNow). e.frames) (option_map (thread_written f values) o)))
thread_alike s f values None h content = refl
thread_alike s f values (Some e) h content = frames_alike s f values e.frames h content

asked_of : (s : State) (t f : ℕ) (values : List (ℤ × Value)) (r : Option ErrorCode) → write_refusal s t f values ≡ r → (content : List DatumMeaning) → begins_with content t ≡ true
    → KeepsValues (of_frames (frames_at s) (of_frame_in slots_answer) content) (of_frames (frames_at (written_by s t f values r)) (of_frame_in slots_answer) content)
asked_of s t f values (Some e) h content begins = keeps_refl (of_frames (frames_at s) (of_frame_in slots_answer) content)
asked_of s t f values None h (One (Object n) ∷ rest) begins =
    let is : n ≡ t = eqb-true n t begins in
    rw (is, found_changed (thread_written f values) (λ e. refl) s.threads t) (thread_alike s f values (thread_at s t) h rest)
asked_of s t f values None h content begins = absurd (false≢true begins)

keeps_at : (s r : State) (t set number : ℕ) (content : List DatumMeaning) → (begins_with content t ≡ true → KeepsValues (of_frames (frames_at s) (of_frame_in slots_answer) content) (of_frames (frames_at r) (of_frame_in slots_answer) content))
    → (begins_with content t && is_command GET_SLOTS set number) ≡ true → KeepsValues (answer_at s set number content) (answer_at r set number content)
keeps_at s r t set number content keeps h =
    let asked = and_both (begins_with content t) (is_command GET_SLOTS set number) h in
    let is = command_is set number GET_SLOTS asked.1 in
    rw (is.0, is.1) (keeps asked.0)

pub values_written : (s : State) (t f : ℕ) (values : List (ℤ × Value)) (q : Query) → asks_slots q t ≡ true → KeepsValues (answer s q) (answer (written s t f values) q)
values_written s t f values q h =
    let r = written s t f values in
    let kept = keeps_at s r t q.set q.number q.content (λ begins. asked_of s t f values (write_refusal s t f values) refl q.content begins) h in
    rw (slots_in s.profile s t q.set q.number q.content h, slots_in r.profile r t q.set q.number q.content h) kept
