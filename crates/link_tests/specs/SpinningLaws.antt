-- The machine of which a thread steps on and on is lawful.
use Rattle.std.proofs.Common.{◌≡◌, ℕ, ◌==◌, ◌&&◌, Bool, true, false, not, cond, if◌then◌else◌, List, [], ◌∷◌, refl, sym, ◌∙◌, arith, None, ◌⊎◌, inl, inr}
use Rattle.std.proofs.lemmas.Bool.{eqb-true, false≢true}
use Rattle.std.proofs.Math.Bool.{and-false, and-true, or-false}
use Rattle.std.specs.List.{filter, AllByRecursion, IsDistinct}
use Rattle.jdwp_wire.specs.Numbers.{id_refusal}
use Rattle.jdwp_value.specs.declared.id.ObjectId.{ObjectId}
use Rattle.jdwp_event.specs.Occurrences.{OccurrenceMeaning, Moved, RanOut, started_by}
use Rattle.jdwp_machine.specs.Meanings.{has, numbers}
use Rattle.jdwp_machine.specs.Laws.{IsLawful, AreDistinct, OccurrenceFits, HasShortSignature}
use Rattle.link_tests.specs.SpinningMachine.{IsState, five, hub, is_thread, others, spinning, turned}

either : (b : Bool) → (b ≡ true) ⊎ (b ≡ false)
either true = inl refl
either false = inr refl

-- ---- what happens

-- it starts nobody and fits an event
record IsGood (o : OccurrenceMeaning) : Type 0 where
  pub starts : (t : ℕ) → started_by t o ≡ None
  pub fits : OccurrenceFits five o
  pub short : HasShortSignature o

turned_good : (t : ℕ) → IsGood (turned t).occurrence
turned_good t =
    elim (t == 1) as (λ (b : Bool). IsGood (if b then Moved hub else RanOut)) [
      | true ↦ record { starts = λ u. refl; fits = refl; short = omega arith }
      | false ↦ record { starts = λ u. refl; fits = tt; short = tt }
    ]

-- ---- who lives behind an end

has_not : (t : ℕ) (ts : List ℕ) → has (others t ts) t ≡ false
has_not t [] = refl
has_not t (x ∷ ts) = elim (either (x == t)) [ inl h ↦ rw h (has_not t ts) | inr h ↦ rw (h, h, has_not t ts) refl ]

other_than : (x t u : ℕ) → (x == t) ≡ true → (u == t) ≡ false → (x == u) ≡ false
other_than x t u h k = elim (either (x == u)) [ inl l ↦ absurd (false≢true (sym k ∙ rw (← eqb-true x u l) h)) | inr l ↦ l ]

has_still : (t u : ℕ) (ts : List ℕ) → (u == t) ≡ false → has (others t ts) u ≡ has ts u
has_still t u [] k = refl
has_still t u (x ∷ ts) k = elim (either (x == t)) [ inl h ↦ rw (h, other_than x t u h k) (has_still t u ts k) | inr h ↦ rw (h, has_still t u ts k) refl ]

has_others : (t u : ℕ) (ts : List ℕ) → has (others t ts) u ≡ (has ts u && not (u == t))
has_others t u ts = elim (either (u == t)) [
  | inl k ↦ let same : u ≡ t = eqb-true u t k in rw (k, same, has_not t ts) (sym (and-false (has ts t)))
  | inr k ↦ rw (k, has_still t u ts k) (sym (and-true (has ts u)))
]

apart_others : (x t : ℕ) (ts : List ℕ) → AllByRecursion (λ (y : ℕ). (x == y) ≡ false) ts → AllByRecursion (λ (y : ℕ). (x == y) ≡ false) (others t ts)
apart_others x t [] h = tt
apart_others x t (y ∷ ts) h =
    elim (y == t) as (λ (b : Bool). AllByRecursion (λ (z : ℕ). (x == z) ≡ false) (cond (not b) (y ∷ others t ts) (others t ts))) [
      | true ↦ apart_others x t ts h.1
      | false ↦ (h.0, apart_others x t ts h.1)
    ]

distinct_others : (t : ℕ) (ts : List ℕ) → AreDistinct ts → AreDistinct (others t ts)
unfolding IsDistinct
distinct_others t [] h = tt
distinct_others t (x ∷ ts) h =
    elim (x == t) as (λ (b : Bool). IsDistinct (λ (a b : ℕ). a == b) (cond (not b) (x ∷ others t ts) (others t ts))) [
      | true ↦ distinct_others t ts h.1
      | false ↦ (apart_others x t ts h.0, distinct_others t ts h.1)
    ]

and_left : (a b : Bool) → (a && b) ≡ true → a ≡ true
and_left true b h = refl
and_left false b h = h

pub ended_state : (t : ℕ) (live : List ℕ) → IsState live → IsState (others t live)
ended_state t live is =
    record {
      distinct = distinct_others t live is.distinct;
      known = λ u h. is.known u (and_left (has live u) (not (u == t)) (sym (has_others t u live) ∙ h));
    }

-- the same of the ids that lie in memory
pub numbers_others : (t : ℕ) (ids : List ObjectId) → numbers (filter (λ (id : ObjectId). not (id.0 == t)) ids) ≡ others t (numbers ids)
numbers_others t [] = refl
numbers_others t (x ∷ ids) = elim (either (x.0 == t)) [ inl h ↦ rw h (numbers_others t ids) | inr h ↦ rw (h, numbers_others t ids) refl ]

-- ---- the two threads

thread_fits : (t : ℕ) → is_thread t ≡ true → id_refusal 4 t ≡ None
thread_fits t h = elim (either (t == 1)) [
  | inl k ↦ rw (eqb-true t 1 k) refl
  | inr k ↦ let second : (t == 2) ≡ true = rw k at h in rw (eqb-true t 2 second) refl
]

all_known : (t : ℕ) → has (1 ∷ 2 ∷ []) t ≡ true → is_thread t ≡ true
all_known t h = elim (either (1 == t)) [
  | inl k ↦ rw (← eqb-true 1 t k) refl
  | inr k ↦ elim (either (2 == t)) [ inl l ↦ rw (← eqb-true 2 t l) refl | inr l ↦ let none = rw (k, l) at h in absurd cc ]
]

all_distinct : AreDistinct (1 ∷ 2 ∷ [])
unfolding IsDistinct
all_distinct = ((refl, tt), (tt, tt))

pub all_live : IsState (1 ∷ 2 ∷ [])
all_live = record { distinct = all_distinct; known = all_known }

-- ---- all together

pub spinning_lawful : IsLawful spinning
spinning_lawful =
    record {
      live_distinct = λ s is. is.distinct;
      live_ever = λ s is t h. refl;
      own_thread = λ s t may h. refl;
      new_thread = λ s t n may h. let none = (turned_good t).starts t in absurd cc;
      state_stepped = λ s t may. may.0;
      live_stepped = λ s t u may. rw ((turned_good t).starts t) (sym (or-false (has s u)));
      ever_stepped = λ s t u may. refl;
      state_ended = λ s t may. ended_state t s may.0;
      live_ended = λ s t u may. has_others t u s;
      ever_ended = λ s t u may. refl;
      state_written = λ s t f values is. is;
      live_written = λ s t f values u is. refl;
      ever_written = λ s t f values u is. refl;
      refused_write = λ s t f values e is h. refl;
      state_made = λ s text is. is;
      live_made = λ s text u is. refl;
      ever_made = λ s text u is. refl;
      next_made = λ s text t may. refl;
      refused_make = λ s text e is h. refl;
      sizes_are_widths = λ s is. record { field_is = (omega arith, omega arith); method_is = (omega arith, omega arith); object_is = (omega arith, omega arith); reference_is = (omega arith, omega arith); frame_is = (omega arith, omega arith) };
      sizes_stepped = λ s t may. refl;
      sizes_ended = λ s t may. refl;
      sizes_written = λ s t f values is. refl;
      sizes_made = λ s text is. refl;
      frames_made = λ s text u q is h. refl;
      frames_stepped = λ s t u q may ne h. refl;
      frames_ended = λ s t u q may ne h. refl;
      frames_written = λ s t f u values q is ne h. refl;
      places_written = λ s t f values q is h. refl;
      values_written = λ s t f values q is h. refl;
      answers = λ s q is. (omega arith, omega arith, omega arith, omega arith);
      write_answers = λ s t f values is. (omega arith, omega arith, omega arith, omega arith);
      make_answers = λ s text is. (omega arith, omega arith, omega arith, omega arith);
      short_signature = λ s t may. (turned_good t).short;
      live_fits = λ s t is h. thread_fits t (is.known t h);
      thread_fits = λ s t may. thread_fits t (may.0.known t may.1);
      occurrence_fits = λ s t may. (turned_good t).fits;
      location_answers = λ s q location is command content. inr (inr refl);
      null_location = λ s q is command content. refl;
    }
