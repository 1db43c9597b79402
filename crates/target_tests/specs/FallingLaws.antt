-- The machine whose list of threads falls is lawful.
use Rattle.std.proofs.Common.{◌≡◌, ℕ, ◌==◌, ◌&&◌, Bool, true, false, not, ◌||◌, cond, List, [], ◌∷◌, refl, sym, ◌∙◌, arith, None, ◌⊎◌, inl, inr}
use Rattle.std.proofs.lemmas.Bool.{eqb-true, false≢true}
use Rattle.std.proofs.Math.Bool.{and-false, and-true, or-false}
use Rattle.std.specs.List.{filter, AllByRecursion, IsDistinct}
use Rattle.jdwp_wire.specs.Numbers.{id_refusal}
use Rattle.jdwp_wire.specs.Widths.{IsWidth}
use Rattle.jdwp_value.specs.declared.id.ObjectId.{ObjectId}
use Rattle.jdwp_machine.specs.Meanings.{has, numbers}
use Rattle.jdwp_machine.specs.Laws.{IsLawful, AreDistinct, HasShortSignature, OccurrenceFits, is_named}
use Rattle.jdwp_event.specs.Occurrences.{started_by}
use Rattle.target_tests.specs.FallingMachine.{IsState, falling, happens, eight, is_thread, others}

either : (b : Bool) → (b ≡ true) ⊎ (b ≡ false)
either true = inl refl
either false = inr refl

-- ---- who lives behind an end

has_not : (t : ℕ) (ts : List ℕ) → has (others t ts) t ≡ false
has_not t [] = refl
has_not t (x ∷ ts) = elim (either (x == t)) [ inl h ↦ rw h (has_not t ts) | inr h ↦ rw (h, h, has_not t ts) refl ]

other_than : (x t u : ℕ) → (x == t) ≡ true → (u == t) ≡ false → (x == u) ≡ false
other_than x t u h k = elim (either (x == u)) [ inl l ↦ absurd (false≢true (sym k ∙ rw (← eqb-true x u l) h)) | inr l ↦ l ]

has_still : (t u : ℕ) (ts : List ℕ) → (u == t) ≡ false → has (others t ts) u ≡ has ts u
has_still t u [] k = refl
has_still t u (x ∷ ts) k = elim (either (x == t)) [ inl h ↦ rw (h, other_than x t u h k) (has_still t u ts k) | inr h ↦ rw (h, has_still t u ts k) refl ]

has_others : (t u : ℕ) (ts : List ℕ) → has (others t ts) u ≡ (has ts u && not (u == t))
has_others t u ts = elim (either (u == t)) [
  | inl k ↦ let same : u ≡ t = eqb-true u t k in rw (k, same, has_not t ts) (sym (and-false (has ts t)))
  | inr k ↦ rw (k, has_still t u ts k) (sym (and-true (has ts u)))
]

apart_others : (x t : ℕ) (ts : List ℕ) → AllByRecursion (λ (y : ℕ). (x == y) ≡ false) ts → AllByRecursion (λ (y : ℕ). (x == y) ≡ false) (others t ts)
apart_others x t [] h = tt
apart_others x t (y ∷ ts) h =
    elim (y == t) as (λ (b : Bool). AllByRecursion (λ (z : ℕ). (x == z) ≡ false) (cond (not b) (y ∷ others t ts) (others t ts))) [
      | true ↦ apart_others x t ts h.1
      | false ↦ (h.0, apart_others x t ts h.1)
    ]

distinct_others : (t : ℕ) (ts : List ℕ) → AreDistinct ts → AreDistinct (others t ts)
unfolding IsDistinct
distinct_others t [] h = tt
distinct_others t (x ∷ ts) h =
    elim (x == t) as (λ (b : Bool). IsDistinct (λ (a b : ℕ). a == b) (cond (not b) (x ∷ others t ts) (others t ts))) [
      | true ↦ distinct_others t ts h.1
      | false ↦ (apart_others x t ts h.0, distinct_others t ts h.1)
    ]

and_left : (a b : Bool) → (a && b) ≡ true → a ≡ true
and_left true b h = refl
and_left false b h = h

pub ended_state : (t : ℕ) (live : List ℕ) → IsState live → IsState (others t live)
ended_state t live is =
    record {
      distinct = distinct_others t live is.distinct;
      known = λ u h. is.known u (and_left (has live u) (not (u == t)) (sym (has_others t u live) ∙ h));
    }

-- the same of the ids that lie in memory
pub numbers_others : (t : ℕ) (ids : List ObjectId) → numbers (filter (λ (id : ObjectId). not (id.0 == t)) ids) ≡ others t (numbers ids)
numbers_others t [] = refl
numbers_others t (x ∷ ids) = elim (either (x.0 == t)) [ inl h ↦ rw h (numbers_others t ids) | inr h ↦ rw (h, numbers_others t ids) refl ]

-- ---- the three threads

thread_fits : (t : ℕ) → is_thread t ≡ true → id_refusal 8 t ≡ None
thread_fits t h = elim (either (t == 18_446_744_073_709_551_615)) [
  | inl k ↦ rw (eqb-true t 18_446_744_073_709_551_615 k) refl
  | inr k ↦ elim (either (t == 9_223_372_036_854_775_808)) [
    | inl l ↦ rw (eqb-true t 9_223_372_036_854_775_808 l) refl
    | inr l ↦ let last : (t == 2) ≡ true = rw (k, l) at h in rw (eqb-true t 2 last) refl
  ]
]

all_known : (t : ℕ) → has (18_446_744_073_709_551_615 ∷ 9_223_372_036_854_775_808 ∷ 2 ∷ []) t ≡ true → is_thread t ≡ true
all_known t h = elim (either (18_446_744_073_709_551_615 == t)) [
  | inl k ↦ rw (← eqb-true 18_446_744_073_709_551_615 t k) refl
  | inr k ↦ elim (either (9_223_372_036_854_775_808 == t)) [
    | inl l ↦ rw (← eqb-true 9_223_372_036_854_775_808 t l) refl
    | inr l ↦ elim (either (2 == t)) [ inl n ↦ rw (← eqb-true 2 t n) refl | inr n ↦ let none = rw (k, l, n) at h in absurd cc ]
  ]
]

all_distinct : AreDistinct (18_446_744_073_709_551_615 ∷ 9_223_372_036_854_775_808 ∷ 2 ∷ [])
unfolding IsDistinct
all_distinct = ((refl, (refl, tt)), ((refl, tt), (tt, tt)))

pub all_live : IsState (18_446_744_073_709_551_615 ∷ 9_223_372_036_854_775_808 ∷ 2 ∷ [])
all_live = record { distinct = all_distinct; known = all_known }

-- ---- what happens

starts_nobody : (b : Bool) (t : ℕ) → started_by t (happens b) ≡ None
starts_nobody true t = refl
starts_nobody false t = refl

-- the threads that live behind a step are those of before
lives_on : (b : Bool) (live : List ℕ) (t u : ℕ) → has live u ≡ (has live u || is_named (started_by t (happens b)) u)
lives_on true live t u = sym (or-false (has live u))
lives_on false live t u = sym (or-false (has live u))

short : (b : Bool) → HasShortSignature (happens b)
short true = omega arith
short false = tt

fits : (b : Bool) → OccurrenceFits eight (happens b)
fits true = refl
fits false = tt

-- ---- all together

pub falling_lawful : IsLawful falling
falling_lawful =
    record {
      live_distinct = λ s is. is.distinct;
      live_ever = λ s is t h. refl;
      own_thread = λ s t may h. refl;
      new_thread = λ s t n may h. let none = starts_nobody s.prepares t in absurd cc;
      state_stepped = λ s t may. may.0;
      live_stepped = λ s t u may. lives_on s.prepares s.live t u;
      ever_stepped = λ s t u may. refl;
      state_ended = λ s t may. ended_state t s.live may.0;
      live_ended = λ s t u may. has_others t u s.live;
      ever_ended = λ s t u may. refl;
      state_written = λ s t f values is. is;
      live_written = λ s t f values u is. refl;
      ever_written = λ s t f values u is. refl;
      refused_write = λ s t f values e is h. refl;
      state_made = λ s text is. is;
      live_made = λ s text u is. refl;
      ever_made = λ s text u is. refl;
      next_made = λ s text t may. refl;
      refused_make = λ s text e is h. refl;
      sizes_are_widths = λ s is. let w : IsWidth 8 = (omega arith, omega arith) in record { field_is = w; method_is = w; object_is = w; reference_is = w; frame_is = w };
      sizes_stepped = λ s t may. refl;
      sizes_ended = λ s t may. refl;
      sizes_written = λ s t f values is. refl;
      sizes_made = λ s text is. refl;
      frames_made = λ s text u q is h. refl;
      frames_stepped = λ s t u q may ne h. refl;
      frames_ended = λ s t u q may ne h. refl;
      frames_written = λ s t f u values q is ne h. refl;
      places_written = λ s t f values q is h. refl;
      values_written = λ s t f values q is h. refl;
      answers = λ s q is. (omega arith, omega arith, omega arith, omega arith);
      write_answers = λ s t f values is. (omega arith, omega arith, omega arith, omega arith);
      make_answers = λ s text is. (omega arith, omega arith, omega arith, omega arith);
      short_signature = λ s t may. short s.prepares;
      live_fits = λ s t is h. thread_fits t (is.known t h);
      thread_fits = λ s t may. thread_fits t (may.0.known t may.1);
      occurrence_fits = λ s t may. fits s.prepares;
      location_answers = λ s q is location command content. inr (inr refl);
      null_location = λ s q is command content. refl;
    }
