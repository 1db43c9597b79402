-- The machine of one thread that makes one step keeps the laws of machines.
use Rattle.std.proofs.Common.{◌≡◌, ℕ, ◌==◌, ◌&&◌, ◌||◌, Bool, true, false, not, refl, sym, arith, None, ◌⊎◌, inl, inr}
use Rattle.std.proofs.lemmas.Bool.{eqb-true, false≢true}
use Rattle.std.proofs.Math.Bool.{or-false}
use Rattle.std.specs.List.{IsDistinct}
use Rattle.milunovesk.specs.Event.Occurrences.{started_by}
use Rattle.milunovesk.specs.Machine.Laws.{IsLawful, AreDistinct, HasShortSignature, OccurrenceFits, is_named}
use Rattle.milunovesk.specs.Machine.Meanings.{has}
use Rattle.milunovesk.specs.Wire.Numbers.{id_refusal}
use Rattle.milunovesk.specs.Wire.Widths.{IsWidth}
use Rattle.milunovesk_uses.specs.OneStep.{one_step, live_where, happens, eight}

either : (b : Bool) → (b ≡ true) ⊎ (b ≡ false)
either true = inl refl
either false = inr refl

-- ---- who lives

-- no thread lives twice
distinct : (lives : Bool) → AreDistinct (live_where lives)
unfolding IsDistinct
distinct true = (tt, tt)
distinct false = tt

-- the thread that lives is 1
is_one : (lives : Bool) (t : ℕ) → has (live_where lives) t ≡ true → (1 == t) ≡ true
is_one true t h = elim (either (1 == t)) [ inl k ↦ k | inr k ↦ let none = rw k at h in absurd cc ]
is_one false t h = absurd (false≢true h)

-- behind its end nobody lives
nobody : (lives : Bool) (t u : ℕ) → has (live_where lives) t ≡ true → false ≡ (has (live_where lives) u && not (u == t))
nobody true t u h = elim (either (1 == u)) [
  | inl k ↦ rw (← eqb-true 1 t (is_one true t h), ← eqb-true 1 u k) refl
  | inr k ↦ rw k refl
]
nobody false t u h = refl

-- its id fits
fits_one : (t : ℕ) → (1 == t) ≡ true → id_refusal 8 t ≡ None
fits_one t h = rw (← eqb-true 1 t h) refl

-- ---- what happens

-- its step starts nobody
starts_nobody : (b : Bool) (t : ℕ) → started_by t (happens b) ≡ None
starts_nobody true t = refl
starts_nobody false t = refl

names_nobody : (b lives : Bool) (t u : ℕ) → lives ≡ (lives || is_named (started_by t (happens b)) u)
names_nobody true lives t u = sym (or-false lives)
names_nobody false lives t u = sym (or-false lives)

short : (b : Bool) → HasShortSignature (happens b)
short true = omega arith
short false = tt

fits : (b : Bool) → OccurrenceFits eight (happens b)
fits true = refl
fits false = tt

-- ---- all together

pub one_step_lawful : IsLawful one_step
one_step_lawful =
    record {
      live_distinct = λ s is. distinct s.lives;
      live_ever = λ s is t h. is_one s.lives t h;
      own_thread = λ s t may h. refl;
      new_thread = λ s t n may h. let none = starts_nobody s.is_new t in absurd cc;
      state_stepped = λ s t may. tt;
      live_stepped = λ s t u may. names_nobody s.is_new (has (live_where s.lives) u) t u;
      ever_stepped = λ s t u may. names_nobody s.is_new (1 == u) t u;
      state_ended = λ s t may. tt;
      live_ended = λ s t u may. nobody s.lives t u may.1;
      ever_ended = λ s t u may. refl;
      state_written = λ s t f values is. tt;
      live_written = λ s t f values u is. refl;
      ever_written = λ s t f values u is. refl;
      refused_write = λ s t f values e is h. refl;
      state_made = λ s text is. tt;
      live_made = λ s text u is. refl;
      ever_made = λ s text u is. refl;
      next_made = λ s text t may. refl;
      refused_make = λ s text e is h. refl;
      sizes_are_widths = λ s is. let w : IsWidth 8 = (omega arith, omega arith) in record { field_is = w; method_is = w; object_is = w; reference_is = w; frame_is = w };
      sizes_stepped = λ s t may. refl;
      sizes_ended = λ s t may. refl;
      sizes_written = λ s t f values is. refl;
      sizes_made = λ s text is. refl;
      frames_made = λ s text u q is h. refl;
      frames_stepped = λ s t u q may ne h. refl;
      frames_ended = λ s t u q may ne h. refl;
      frames_written = λ s t f u values q is ne h. refl;
      places_written = λ s t f values q is h. refl;
      values_written = λ s t f values q is h. refl;
      answers = λ s q is. (omega arith, omega arith, omega arith, omega arith);
      write_answers = λ s t f values is. (omega arith, omega arith, omega arith, omega arith);
      make_answers = λ s text is. (omega arith, omega arith, omega arith, omega arith);
      short_signature = λ s t may. short s.is_new;
      live_fits = λ s t is h. fits_one t (is_one s.lives t h);
      thread_fits = λ s t may. fits_one t (is_one s.lives t may.1);
      occurrence_fits = λ s t may. fits s.is_new;
      location_answers = λ s q is location command content. inr (inr refl);
      null_location = λ s q is command content. refl;
    }
