-- Proofs that what happens fits: ids within their widths, signatures within their length.
use Rattle.std.proofs.Common.{◌≡◌, ℕ, ◌≤◌, ◌==◌, ◌||◌, Bool, true, false, nat_lt, if◌then◌else◌, List, [], ◌∷◌, length, refl, Option, Some, None, option_map, option_and_then, inl, inr}
use Rattle.std.proofs.lemmas.Bool.{eqb-true, false≢true}
use Rattle.std.specs.List.{AllByRecursion}
use Rattle.jdwp_wire.specs.Widths.{Widths}
use Rattle.jdwp_value.specs.Locations.{location_refusal}
use Rattle.jdwp_event.specs.Occurrences.{OccurrenceMeaning, Moved, Entered, Left, Threw, Prepared, Started, PlaceMeaning}
use Rattle.jdwp_machine.specs.Laws.{OccurrenceFits, HasShortSignature, SIGNATURE_LIMIT}
use Rattle.jdwp_script.specs.declared.step.Place.{Place}
use Rattle.jdwp_script.specs.declared.step.Throw.{Throw}
use Rattle.jdwp_script.specs.Literals.{literal_value}
use Rattle.jdwp_script.specs.Parts.{MethodPart, ClassPart, ObjectPart, StepPart, Call, Go, Return, Throwing, Prepare, Start, Again, ScriptPart}
use Rattle.jdwp_script_machine.specs.States.{FrameNow, Life, ThreadNow, State, thread_at, begun, may_begin}
use Rattle.jdwp_script_machine.specs.Sites.{class_in, method_in, object_in, site_place, newest_place}
use Rattle.jdwp_script_machine.specs.Steps.{called, moved, FRAME_LIMIT, caught_at, thrown, threw, prepared, occurrence, named_by, happening_by, happening_at, happening_of, next, next_step}
use Rattle.jdwp_script_machine.specs.Sound.{Fits, MethodIsSound, ClassIsSound, ObjectIsSound, ScriptIsSound, StepIsSound, ThreadNowIsSound, IsSound}
use Rattle.jdwp_script_machine.specs.StateLaws.{either, in_life, has_id}
use Rattle.jdwp_script_machine.specs.SoundLaws.{all_found, sound_step}
use Rattle.jdwp_script_machine.specs.ThreadAnswerLaws.{null_fits, location_fits}

-- what fits a reply and an event
pub record IsGood (w : Widths) (o : OccurrenceMeaning) : Type 0 where
  pub fits : OccurrenceFits w o
  pub short : HasShortSignature o

pub record PlaceIsGood (w : Widths) (p : PlaceMeaning) : Type 0 where
  pub fits : location_refusal w p.location ≡ None
  pub short : length p.class.signature ≤ SIGNATURE_LIMIT

-- ---- places

method_place : (script : ScriptPart) (n index : ℕ) (c : ClassPart) → ClassIsSound script.sizes c → (m : Option MethodPart) → ((x : MethodPart) → m ≡ Some x → MethodIsSound script.sizes x) → (p : PlaceMeaning)
    → option_map (site_place script n index) (option_map (λ (m : MethodPart). record { class = c; method = m }) m) ≡ Some p → PlaceIsGood script.sizes p
method_place script n index c sound None good p h = absurd cc
method_place script n index c sound (Some m) good p h =
    let same : site_place script n index (record { class = c; method = m }) ≡ p = cc in
    let k = good m refl in
    rw (← same) (record { fits = rw (sound.id, k.id) refl; short = sound.signature })

class_place : (script : ScriptPart) (n index method : ℕ) (o : Option ClassPart) → ((x : ClassPart) → o ≡ Some x → ClassIsSound script.sizes x) → (p : PlaceMeaning)
    → option_map (site_place script n index) (option_and_then (λ (c : ClassPart). option_map (λ (m : MethodPart). record { class = c; method = m }) (method_in c method)) o) ≡ Some p → PlaceIsGood script.sizes p
class_place script n index method None good p h = absurd cc
class_place script n index method (Some c) good p h =
    let k = good c refl in
    method_place script n index c k (method_in c method) (λ m e. all_found (λ (m : MethodPart). m.id) (MethodIsSound script.sizes) c.methods method m k.each_method e) p h

place_good : (script : ScriptPart) → ScriptIsSound script → (fs : List FrameNow) (p : PlaceMeaning) → newest_place script fs ≡ Some p → PlaceIsGood script.sizes p
place_good script sound [] p h = absurd cc
place_good script sound (f ∷ fs) p h =
    class_place script (length (f ∷ fs)) f.index f.method (class_in script f.class) (λ c e. all_found (λ (c : ClassPart). c.id) (ClassIsSound script.sizes) script.classes f.class c sound.each_class e) p h

-- ---- occurrences

placed : (w : Widths) (f : PlaceMeaning → OccurrenceMeaning) → ((p : PlaceMeaning) → PlaceIsGood w p → IsGood w (f p)) → (o : Option PlaceMeaning) → ((p : PlaceMeaning) → o ≡ Some p → PlaceIsGood w p)
    → (x : OccurrenceMeaning) → option_map f o ≡ Some x → IsGood w x
placed w f good None at x h = absurd cc
placed w f good (Some p) at x h = let same : f p ≡ x = cc in rw (← same) (good p (at p refl))

placed_when : (w : Widths) (b : Bool) (o : Option PlaceMeaning) → ((p : PlaceMeaning) → o ≡ Some p → PlaceIsGood w p) → (x : OccurrenceMeaning) → (if b then option_map (λ p. Entered p) o else None) ≡ Some x → IsGood w x
placed_when w true o at x h = placed w (λ p. Entered p) (λ p k. record { fits = k.fits; short = k.short }) o at x h
placed_when w false o at x h = absurd cc

caught_fits : (script : ScriptPart) → ScriptIsSound script → (o : Option Place) → location_refusal script.sizes (caught_at script o) ≡ None
caught_fits script sound None = null_fits script.sizes
caught_fits script sound (Some p) = location_fits script sound p.index p.class.0 p.method.0

thrown_good : (script : ScriptPart) → ScriptIsSound script → (t : Throw) (p : Option PlaceMeaning) → ((q : PlaceMeaning) → p ≡ Some q → PlaceIsGood script.sizes q) → (o : Option ObjectPart) → ((y : ObjectPart) → o ≡ Some y → ObjectIsSound script.sizes y)
    → (x : OccurrenceMeaning) → threw script t p o ≡ Some x → IsGood script.sizes x
thrown_good script sound t None at o good x h = absurd cc
thrown_good script sound t (Some p) at None good x h = absurd cc
thrown_good script sound t (Some p) at (Some y) good x h =
    let same : Threw p (thrown script t y) ≡ x = cc in
    let k = at p refl in
    rw (← same) (record { fits = (k.fits, (good y refl).id, caught_fits script sound t.caught); short = k.short })

prepared_good : (script : ScriptPart) (o : Option ClassPart) → ((c : ClassPart) → o ≡ Some c → ClassIsSound script.sizes c) → (x : OccurrenceMeaning) → option_map (λ (c : ClassPart). Prepared (prepared script c)) o ≡ Some x → IsGood script.sizes x
prepared_good script None good x h = absurd cc
prepared_good script (Some c) good x h =
    let same : Prepared (prepared script c) ≡ x = cc in
    let k = good c refl in
    rw (← same) (record { fits = k.id; short = k.signature })

started_good : (w : Widths) (b : Bool) (x : OccurrenceMeaning) → (if b then Some Started else None) ≡ Some x → IsGood w x
started_good w true x h = let same : Started ≡ x = cc in rw (← same) (record { fits = tt; short = tt })
started_good w false x h = absurd cc

occurrence_good : (s : State) → IsSound s → (fs : List FrameNow) (step : StepPart) → StepIsSound s.script.sizes step → (x : OccurrenceMeaning) → occurrence s fs step ≡ Some x → IsGood s.script.sizes x
occurrence_good s sound fs (Call c) good x h = placed_when s.script.sizes (nat_lt (length fs) FRAME_LIMIT) (newest_place s.script (called c ∷ fs)) (place_good s.script sound.script (called c ∷ fs)) x h
occurrence_good s sound fs (Go n) good x h = placed s.script.sizes (λ p. Moved p) (λ p k. record { fits = k.fits; short = k.short }) (newest_place s.script (moved n fs)) (place_good s.script sound.script (moved n fs)) x h
occurrence_good s sound fs (Return v) good x h =
    placed s.script.sizes (λ p. Left p (literal_value v)) (λ p k. record { fits = (k.fits, good); short = k.short }) (newest_place s.script fs) (place_good s.script sound.script fs) x h
occurrence_good s sound fs (Throwing t) good x h =
    thrown_good s.script sound.script t (newest_place s.script fs) (place_good s.script sound.script fs) (object_in s.script t.object.0)
    (λ y e. all_found (λ (o : ObjectPart). o.id) (ObjectIsSound s.script.sizes) s.script.objects t.object.0 y sound.script.each_object e) x h
occurrence_good s sound fs (Prepare n) good x h =
    prepared_good s.script (class_in s.script n) (λ c e. all_found (λ (c : ClassPart). c.id) (ClassIsSound s.script.sizes) s.script.classes n c sound.script.each_class e) x h
occurrence_good s sound fs (Start n) good x h = started_good s.script.sizes (may_begin s.threads n) x h
occurrence_good s sound fs (Again k) good x h = absurd cc

by_good : (s : State) → IsSound s → (t : ℕ) (fs : List FrameNow) (step : StepPart) → StepIsSound s.script.sizes step → (o : Option OccurrenceMeaning) → occurrence s fs step ≡ o → IsGood s.script.sizes (happening_by t step o).occurrence
by_good s sound t fs step good None h = record { fits = tt; short = tt }
by_good s sound t fs step good (Some x) h = occurrence_good s sound fs step good x h

at_good : (s : State) → IsSound s → (t : ℕ) (e : ThreadNow) (p : Option StepPart) → next_step s.script e ≡ p → IsGood s.script.sizes (happening_at s t e.frames p).occurrence
at_good s sound t e None h = record { fits = tt; short = tt }
at_good s sound t e (Some step) h = by_good s sound t e.frames step (sound_step s.script e step sound.script h) (occurrence s e.frames step) refl

of_good : (s : State) → IsSound s → (t : ℕ) (o : Option ThreadNow) → IsGood s.script.sizes (happening_of s t o).occurrence
of_good s sound t None = record { fits = tt; short = tt }
of_good s sound t (Some e) = at_good s sound t e (next_step s.script e) refl

pub next_good : (s : State) → IsSound s → (t : ℕ) → IsGood s.script.sizes (next s t).occurrence
next_good s sound t = of_good s sound t (thread_at s t)

-- ---- the threads that are named

pub has_id_fits : (w : Widths) (es : List ThreadNow) (n : ℕ) → AllByRecursion (ThreadNowIsSound w) es → has_id es n ≡ true → Fits w.object n
has_id_fits w [] n all h = absurd (false≢true h)
has_id_fits w (e ∷ es) n all h = elim (either (e.id == n)) [
  | inl k ↦ rw (← eqb-true e.id n k) all.0.id
  | inr k ↦ has_id_fits w es n all.1 (rw k at h)
]

or_wider : (t a b c : Bool) → (b ≡ true → c ≡ true) → ((if t then a else false) || b) ≡ true → (a || c) ≡ true
or_wider t true b c f h = refl
or_wider true false b c f h = f h
or_wider false false b c f h = f h

pub in_life_has_id : (test : Life → Bool) (es : List ThreadNow) (n : ℕ) → in_life test es n ≡ true → has_id es n ≡ true
in_life_has_id test [] n h = h
in_life_has_id test (e ∷ es) n h = or_wider (test e.life) (e.id == n) (in_life test es n) (has_id es n) (in_life_has_id test es n) h

may_begin_has_id : (b h : Bool) → (if b then false else h) ≡ true → h ≡ true
may_begin_has_id true h e = absurd (false≢true e)
may_begin_has_id false h e = e

named_when : (s : State) → IsSound s → (t n : ℕ) → Fits s.script.sizes.object t → (b : Bool) → may_begin s.threads n ≡ b → Fits s.script.sizes.object (happening_by t (Start n) (if b then Some Started else None)).thread
named_when s sound t n fits true h = has_id_fits s.script.sizes s.threads n sound.each_thread (may_begin_has_id (begun s.threads n) (has_id s.threads n) h)
named_when s sound t n fits false h = fits

named_own : (w : Widths) (t : ℕ) (step : StepPart) → named_by t step ≡ t → Fits w.object t → (o : Option OccurrenceMeaning) → Fits w.object (happening_by t step o).thread
named_own w t step own fits None = fits
named_own w t step own fits (Some o) = rw own fits

named_by_fits : (s : State) → IsSound s → (t : ℕ) → Fits s.script.sizes.object t → (fs : List FrameNow) (step : StepPart) → Fits s.script.sizes.object (happening_by t step (occurrence s fs step)).thread
named_by_fits s sound t fits fs (Start n) = named_when s sound t n fits (may_begin s.threads n) refl
named_by_fits s sound t fits fs (Call c) = named_own s.script.sizes t (Call c) refl fits (occurrence s fs (Call c))
named_by_fits s sound t fits fs (Go n) = named_own s.script.sizes t (Go n) refl fits (occurrence s fs (Go n))
named_by_fits s sound t fits fs (Return v) = named_own s.script.sizes t (Return v) refl fits (occurrence s fs (Return v))
named_by_fits s sound t fits fs (Throwing x) = named_own s.script.sizes t (Throwing x) refl fits (occurrence s fs (Throwing x))
named_by_fits s sound t fits fs (Prepare n) = named_own s.script.sizes t (Prepare n) refl fits (occurrence s fs (Prepare n))
named_by_fits s sound t fits fs (Again k) = fits

named_at_fits : (s : State) → IsSound s → (t : ℕ) → Fits s.script.sizes.object t → (fs : List FrameNow) (p : Option StepPart) → Fits s.script.sizes.object (happening_at s t fs p).thread
named_at_fits s sound t fits fs None = fits
named_at_fits s sound t fits fs (Some step) = named_by_fits s sound t fits fs step

named_of_fits : (s : State) → IsSound s → (t : ℕ) → Fits s.script.sizes.object t → (o : Option ThreadNow) → Fits s.script.sizes.object (happening_of s t o).thread
named_of_fits s sound t fits None = fits
named_of_fits s sound t fits (Some e) = named_at_fits s sound t fits e.frames (next_step s.script e)

pub next_thread_fits : (s : State) → IsSound s → (t : ℕ) → Fits s.script.sizes.object t → Fits s.script.sizes.object (next s t).thread
next_thread_fits s sound t fits = named_of_fits s sound t fits (thread_at s t)
