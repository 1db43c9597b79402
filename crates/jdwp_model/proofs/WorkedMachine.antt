-- the machine of the worked sessions is lawful, and the sessions begin in a state of it
use Rattle.std.proofs.Common.{◌≡◌, ◌≢◌, ℕ, zero, suc, ◌==◌, ◌||◌, ◌&&◌, Bool, true, false, not, cond, if◌then◌else◌, List, [], ◌∷◌, get_or, refl, sym, ◌∙◌, arith, Option, Some, None, ◌⊎◌, inl, inr}
use Rattle.std.proofs.lemmas.Bool.{eqb-true, false≢true}
use Rattle.std.proofs.Math.Bool.{and-false, and-true, or-false}
use Rattle.std.specs.List.{filter, AllByRecursion, IsDistinct}
use Rattle.jdwp_wire.specs.ErrorCodes.{NOT_IMPLEMENTED}
use Rattle.jdwp_wire.specs.Numbers.{id_refusal}
use Rattle.jdwp_wire.specs.Widths.{IsWidth}
use Rattle.jdwp_value.specs.declared.location.Location.{Location}
use Rattle.jdwp_value.specs.declared.location.Location.TheVariants.{Null, At}
use Rattle.jdwp_value.specs.declared.value.Value.TheVariants as value
use Rattle.jdwp_layout.specs.declared.answer.Answer.{Answer}
use Rattle.jdwp_layout.specs.declared.answer.Answer.TheVariants.{Data, Error}
use Rattle.jdwp_layout.specs.CommandNumbers.{CommandNumber, is_command, FRAMES, FRAME_COUNT, SET_REQUEST, GET_SLOTS, THIS_OBJECT}
use Rattle.jdwp_layout.specs.Meanings.{Object, Located, DatumMeaning, One, Many}
use Rattle.jdwp_event.specs.Occurrences.{OccurrenceMeaning, Moved, Entered, Left, RanOut, started_by, is_run_out}
use Rattle.jdwp_machine.specs.declared.query.Query.{Query}
use Rattle.jdwp_machine.specs.Meanings.{has}
use Rattle.jdwp_machine.specs.Laws.{IsLawful, AreDistinct, MayAnswer, OccurrenceFits, HasShortSignature, IsLocationAnswer, KeepsValues, asks_frames, begins_with, breakpoint_at}
use Rattle.jdwp_model.specs.Headline.{MayBegin}
use Rattle.jdwp_model.specs.WorkedMachine.{Small, IsState, is_thread, widths, place, occurrences, happening, frames_at, location_answer, small_answer, small, small_opening, settings}

either : (b : Bool) → (b ≡ true) ⊎ (b ≡ false)
either true = inl refl
either false = inr refl

got : {A : Type 0} (P : A → Type 0) (xs : List A) (d : A) → AllByRecursion P xs → P d → (n : ℕ) → P (get_or xs n d)
got P [] d each last n = last
got P (x ∷ xs) d each last zero = each.0
got P (x ∷ xs) d each last (suc n) = got P xs d each.1 last n

-- ---- what happens

-- what happens starts nobody and fits an event
record IsGood (o : OccurrenceMeaning) : Type 0 where
  pub starts : (t : ℕ) → started_by t o ≡ None
  pub fits : OccurrenceFits widths o
  pub short : HasShortSignature o

entered_good : (index line : ℕ) → IsGood (Entered (place index line))
entered_good index line = record { starts = λ t. refl; fits = refl; short = omega arith }

moved_good : (index line : ℕ) → IsGood (Moved (place index line))
moved_good index line = record { starts = λ t. refl; fits = refl; short = omega arith }

left_good : (index line : ℕ) → IsGood (Left (place index line) value.Void)
left_good index line = record { starts = λ t. refl; fits = (refl, refl); short = omega arith }

run_out_good : IsGood RanOut
run_out_good = record { starts = λ t. refl; fits = tt; short = tt }

occurrences_good : AllByRecursion IsGood occurrences
occurrences_good = (entered_good 0 1, (moved_good 3 2, (moved_good 4 3, (moved_good 3 2, (moved_good 4 3, (moved_good 3 2, (left_good 3 2, tt)))))))

occurrence_good : (s : Small) (t : ℕ) → IsGood (happening s t).occurrence
occurrence_good s t =
    elim (t == 1) as (λ (b : Bool). IsGood (if b then get_or occurrences s.made RanOut else RanOut)) [
      | true ↦ got IsGood occurrences RanOut occurrences_good run_out_good s.made
      | false ↦ run_out_good
    ]

-- only the first thread has steps
steps_by : (b : Bool) (o : OccurrenceMeaning) → is_run_out (if b then o else RanOut) ≡ false → b ≡ true
steps_by true o h = refl
steps_by false o h = absurd (false≢true (sym h))

steps_first : (s : Small) (t : ℕ) → is_run_out (happening s t).occurrence ≡ false → t ≡ 1
steps_first s t h = eqb-true t 1 (steps_by (t == 1) (get_or occurrences s.made RanOut) h)

-- ---- who lives

abbrev others : ℕ → List ℕ → List ℕ
others t ts = filter (λ (u : ℕ). not (u == t)) ts

has_not : (t : ℕ) (ts : List ℕ) → has (others t ts) t ≡ false
has_not t [] = refl
has_not t (x ∷ ts) = elim (either (x == t)) [ inl h ↦ rw h (has_not t ts) | inr h ↦ rw (h, h, has_not t ts) refl ]

other_than : (x t u : ℕ) → (x == t) ≡ true → (u == t) ≡ false → (x == u) ≡ false
other_than x t u h k = elim (either (x == u)) [ inl l ↦ absurd (false≢true (sym k ∙ rw (← eqb-true x u l) h)) | inr l ↦ l ]

has_still : (t u : ℕ) (ts : List ℕ) → (u == t) ≡ false → has (others t ts) u ≡ has ts u
has_still t u [] k = refl
has_still t u (x ∷ ts) k = elim (either (x == t)) [ inl h ↦ rw (h, other_than x t u h k) (has_still t u ts k) | inr h ↦ rw (h, has_still t u ts k) refl ]

has_others : (t u : ℕ) (ts : List ℕ) → has (others t ts) u ≡ (has ts u && not (u == t))
has_others t u ts = elim (either (u == t)) [
  | inl k ↦ let same : u ≡ t = eqb-true u t k in rw (k, same, has_not t ts) (sym (and-false (has ts t)))
  | inr k ↦ rw (k, has_still t u ts k) (sym (and-true (has ts u)))
]

apart_others : (x t : ℕ) (ts : List ℕ) → AllByRecursion (λ (y : ℕ). (x == y) ≡ false) ts → AllByRecursion (λ (y : ℕ). (x == y) ≡ false) (others t ts)
apart_others x t [] h = tt
apart_others x t (y ∷ ts) h =
    elim (y == t) as (λ (b : Bool). AllByRecursion (λ (z : ℕ). (x == z) ≡ false) (cond (not b) (y ∷ others t ts) (others t ts))) [
      | true ↦ apart_others x t ts h.1
      | false ↦ (h.0, apart_others x t ts h.1)
    ]

distinct_others : (t : ℕ) (ts : List ℕ) → AreDistinct ts → AreDistinct (others t ts)
unfolding IsDistinct
distinct_others t [] h = tt
distinct_others t (x ∷ ts) h =
    elim (x == t) as (λ (b : Bool). IsDistinct (λ (a b : ℕ). a == b) (cond (not b) (x ∷ others t ts) (others t ts))) [
      | true ↦ distinct_others t ts h.1
      | false ↦ (apart_others x t ts h.0, distinct_others t ts h.1)
    ]

and_left : (a b : Bool) → (a && b) ≡ true → a ≡ true
and_left true b h = refl
and_left false b h = h

ended_state : (s : Small) (t : ℕ) → IsState s → IsState (record { made = s.made; live = others t s.live })
ended_state s t is =
    record {
      distinct = distinct_others t s.live is.distinct;
      known = λ u h. is.known u (and_left (has s.live u) (not (u == t)) (sym (has_others t u s.live) ∙ h));
    }

thread_fits : (t : ℕ) → is_thread t ≡ true → id_refusal 8 t ≡ None
thread_fits t h = elim (either (t == 1)) [
  | inl k ↦ rw (eqb-true t 1 k) refl
  | inr k ↦ let second : (t == 2) ≡ true = rw k at h in rw (eqb-true t 2 second) refl
]

-- ---- frames

asks_begin : (b x y : Bool) → ((b && x) || (b && y)) ≡ true → b ≡ true
asks_begin true x y h = refl
asks_begin false x y h = h

not_of_first : (content : List DatumMeaning) (u : ℕ) → u ≢ 1 → begins_with content u ≡ true → begins_with content 1 ≡ false
not_of_first (One (Object n) ∷ items) u ne h = elim (either (n == 1)) [ inl k ↦ absurd (ne (sym (eqb-true n u h) ∙ eqb-true n 1 k)) | inr k ↦ k ]
not_of_first content u ne h = refl

-- what is answered of another thread's frames is the same in all states
frames_same : (r s : Small) (u : ℕ) (q : Query) → u ≢ 1 → asks_frames q u ≡ true → small_answer r q ≡ small_answer s q
frames_same r s u q ne h =
    let begins : begins_with q.content u ≡ true = asks_begin (begins_with q.content u) (is_command FRAMES q.set q.number || (is_command FRAME_COUNT q.set q.number || is_command THIS_OBJECT q.set q.number)) (is_command GET_SLOTS q.set q.number) h in
    rw (not_of_first q.content u ne begins) refl

-- ---- answers

-- an answer to this command
unfoldable Good : Small → CommandNumber → Answer → Type 0
Good s command a = MayAnswer small s command.set command.number a

from_good : (s : Small) (command : CommandNumber) (a : Answer) → Good s command a → MayAnswer small s command.set command.number a
unfolding Good
from_good s command a h = h

refused : (s : Small) (command : CommandNumber) → Good s command (Error NOT_IMPLEMENTED)
unfolding Good
refused s command = (omega arith, omega arith, omega arith, omega arith)

location_good : (s : Small) (content : List DatumMeaning) → Good s SET_REQUEST (location_answer content)
unfolding Good
location_good s (One kind ∷ One policy ∷ Many ((modifier ∷ Located Null ∷ []) ∷ []) ∷ []) = (omega arith, omega arith, omega arith, omega arith)
location_good s content = refl

location_told : (location : Location) → IsLocationAnswer (location_answer (breakpoint_at location))
location_told Null = inr (inr refl)
location_told (At tag class method index) = refl

keeps_refl : (a : Answer) → KeepsValues a a
keeps_refl (Data content) = refl
keeps_refl (Error e) = refl

frames_good : (s : Small) (index : Option ℕ) → Good s FRAMES (Data (frames_at index))
unfolding Good
frames_good s None = refl
frames_good s (Some index) = refl

and_both : (a b : Bool) → (a && b) ≡ true → (a ≡ true) × (b ≡ true)
and_both true true h = (refl, refl)
and_both true false h = absurd (false≢true h)
and_both false b h = absurd (false≢true h)

-- the command of this set and number
abbrev command_at : ℕ → ℕ → CommandNumber
command_at set number = record { set = set; number = number }

at_command : (s : Small) (set n : ℕ) (command : CommandNumber) (a b : Answer) → Good s command a → Good s (command_at set n) b → Good s (command_at set n) (if is_command command set n then a else b)
unfolding Good
at_command s set n command a b here there = elim (either (is_command command set n)) [
  | inl h ↦ let is = and_both (set == command.set) (n == command.number) h in rw h (rw (eqb-true set command.set is.0, eqb-true n command.number is.1) here)
  | inr h ↦ rw h there
]

answer_good : (s : Small) (q : Query) → Good s (command_at q.set q.number) (small_answer s q)
answer_good s q =
    at_command s q.set q.number SET_REQUEST _ _ (location_good s q.content) (
    at_command s q.set q.number FRAMES _ _ (frames_good s _) (refused s (command_at q.set q.number)))

-- ---- all together

pub small_lawful : IsLawful small
small_lawful =
    record {
      live_distinct = λ s is. is.distinct;
      live_ever = λ s is t h. is.known t h;
      own_thread = λ s t may h. refl;
      new_thread = λ s t n may h. let none = (occurrence_good s t).starts t in absurd cc;
      state_stepped = λ s t may. record { distinct = may.0.distinct; known = may.0.known };
      live_stepped = λ s t u may. rw ((occurrence_good s t).starts t) (sym (or-false (has s.live u)));
      ever_stepped = λ s t u may. rw ((occurrence_good s t).starts t) (sym (or-false (is_thread u)));
      state_ended = λ s t may. ended_state s t may.0;
      live_ended = λ s t u may. has_others t u s.live;
      ever_ended = λ s t u may. refl;
      state_written = λ s t f values is. is;
      live_written = λ s t f values u is. refl;
      ever_written = λ s t f values u is. refl;
      refused_write = λ s t f values e is h. refl;
      state_made = λ s text is. is;
      live_made = λ s text u is. refl;
      ever_made = λ s text u is. refl;
      next_made = λ s text t may. refl;
      refused_make = λ s text e is h. refl;
      sizes_are_widths = λ s is. let w : IsWidth 8 = (omega arith, omega arith) in record { field_is = w; method_is = w; object_is = w; reference_is = w; frame_is = w };
      sizes_stepped = λ s t may. refl;
      sizes_ended = λ s t may. refl;
      sizes_written = λ s t f values is. refl;
      sizes_made = λ s text is. refl;
      frames_made = λ s text u q is h. refl;
      frames_stepped = λ s t u q may ne h. frames_same (small.stepped s t) s u q (λ k. ne (steps_first s t may.2 ∙ sym k)) h;
      frames_ended = λ s t u q may ne h. refl;
      frames_written = λ s t f u values q is ne h. refl;
      places_written = λ s t f values q is h. refl;
      values_written = λ s t f values q is h. keeps_refl (small_answer s q);
      answers = λ s q is. from_good s (command_at q.set q.number) (small_answer s q) (answer_good s q);
      write_answers = λ s t f values is. (omega arith, omega arith, omega arith, omega arith);
      make_answers = λ s text is. (omega arith, omega arith, omega arith, omega arith);
      short_signature = λ s t may. (occurrence_good s t).short;
      live_fits = λ s t is h. thread_fits t (is.known t h);
      thread_fits = λ s t may. thread_fits t (may.0.known t may.1);
      occurrence_fits = λ s t may. (occurrence_good s t).fits;
      location_answers = λ s q location is command content. rw (command, content) (location_told location);
      null_location = λ s q is command content. rw (command, content) refl;
    }

opening_known : (t : ℕ) → has small_opening.live t ≡ true → is_thread t ≡ true
opening_known t h = elim (either (1 == t)) [
  | inl k ↦ rw (← eqb-true 1 t k) refl
  | inr k ↦ elim (either (2 == t)) [ inl l ↦ rw (← eqb-true 2 t l) refl | inr l ↦ let none = rw (k, l) at h in absurd cc ]
]

opening_distinct : AreDistinct small_opening.live
unfolding IsDistinct
opening_distinct = ((refl, tt), (tt, tt))

pub small_begins : MayBegin small settings small_opening
small_begins =
    record {
      state = record { distinct = opening_distinct; known = opening_known };
      lives = omega arith;
      limit_least = omega arith;
      limit_most = omega arith;
    }
