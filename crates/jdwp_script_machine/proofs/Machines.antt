-- Proofs about the machine that a text is read as.
use Rattle.std.proofs.Common.{◌≡◌, ℕ, ℤ, ◌≤◌, ◌==◌, false, nat_lt, List, [], ◌∷◌, length, take, refl, sym, ap, ◌∙◌, inl, inr, Option, Some, None, Result, Ok, Err, IfOk, OnErr}
use Rattle.std.proofs.lemmas.Bool.{ltb-false}
use Rattle.std.proofs.lemmas.List.{length-map}
use Rattle.jdwp_wire.specs.Widths.{Widths, IsWidth, AreWidths}
use Rattle.jdwp_wire.specs.declared.error_code.ErrorCode.{ErrorCode}
use Rattle.jdwp_value.specs.declared.id.ObjectId.{ObjectId}
use Rattle.jdwp_value.specs.declared.value.Value.{Value}
use Rattle.jdwp_machine.specs.Meanings.{numbers}
use Rattle.jdwp_machine.specs.declared.profile.Profile.{Profile}
use Rattle.jdwp_script.specs.declared.fault.ScriptFault.{ScriptFault}
use Rattle.jdwp_script.specs.declared.fault.ScriptFault.TheVariants.{NotJson, Missing, IdTwice, IdTooWide, BadReference, OverLimit}
use Rattle.jdwp_script.specs.declared.fault.ScriptFault.TheVariants as fault
use Rattle.jdwp_wire.specs.declared.no_memory.NoMemory.{NoMemory}
use Rattle.jdwp_layout.specs.declared.answer.Answer.{Answer}
use Rattle.jdwp_script.specs.Parts.{StepPart, ScriptPart}
use Rattle.jdwp_script.specs.Reading.{◌>>=◌, Fails}
use Rattle.jdwp_script.specs.TooWide.{is_no_width}
use Rattle.jdwp_script.specs.Faults.{first_fault}
use Rattle.jdwp_script_machine.specs.States.{ThreadNow, State, thread_at, living, opening_as}
use Rattle.jdwp_script_machine.specs.Steps.{next_step, place_after, stepped_by, stepped_of, stepped}
use Rattle.jdwp_script_machine.specs.Sound.{IsSound}
use Rattle.jdwp_script_machine.specs.Machines.{IsMachine}
use Rattle.jdwp_script_machine.specs.SoundLaws.{started_length, written_sound}
use Rattle.jdwp_script_machine.specs.FrameLaws.{written_script}
use Rattle.jdwp_script_machine.specs.Made.{made_answer, made}
use Rattle.jdwp_script_machine.specs.MadeLaws.{made_sound, made_script, made_threads}
use Rattle.jdwp_script_machine.specs.StateLaws.{either, with_change}
use Rattle.jdwp_script_machine.specs.SlotWrites.{write_refusal, thread_written, written_by, written}
use Rattle.jdwp_script_machine.specs.OpeningLaws.{neither, opening_sound}
use Rattle.jdwp_script_machine.proofs.Openings.{faultless}

-- ---- a script with no fault

pub faultless_sound : (profile : Profile) (live : ℕ) (s : ScriptPart) → first_fault live s ≡ None → IsSound (opening_as profile s)
faultless_sound profile live s h =
    let none = faultless live s h in
    let sound = opening_sound live s none.0 none.1 none.2 in
    record {
      script = sound.script;
      threads = sound.threads;
      each_thread = sound.each_thread;
      distinct = sound.distinct;
      within = sound.within;
      few_made = sound.few_made;
      each_made = sound.each_made;
      counted = sound.counted;
    }

is_width : (n : ℕ) → is_no_width n ≡ false → IsWidth n
is_width n h =
    let parts = neither (nat_lt n 1) (nat_lt 8 n) h in
    (ltb-false n 1 parts.0, ltb-false 8 n parts.1)

pub faultless_widths : (live : ℕ) (s : ScriptPart) → first_fault live s ≡ None → AreWidths s.sizes.field s.sizes.method s.sizes.object s.sizes.reference s.sizes.frame
faultless_widths live s h =
    let field = neither (is_no_width s.sizes.field) _ (faultless live s h).2 in
    let method = neither (is_no_width s.sizes.method) _ field.1 in
    let object = neither (is_no_width s.sizes.object) _ method.1 in
    let reference = neither (is_no_width s.sizes.reference) _ object.1 in
    let frame = neither (is_no_width s.sizes.frame) _ reference.1 in
    record {
      field_is = is_width s.sizes.field field.0;
      method_is = is_width s.sizes.method method.0;
      object_is = is_width s.sizes.object object.0;
      reference_is = is_width s.sizes.reference reference.0;
      frame_is = is_width s.sizes.frame frame.0;
    }

-- ---- a fault that is passed on

pub fails_on : {X Y : Type 0} (e : ScriptFault) (r : Result X ScriptFault) (f : X → Result Y ScriptFault) → Fails e r → Fails e (r >>= f)
fails_on fault.NoMemory r f h = tt
fails_on NotJson r f h = rw h refl
fails_on (Missing m) r f h = rw h refl
fails_on IdTwice r f h = rw h refl
fails_on IdTooWide r f h = rw h refl
fails_on BadReference r f h = rw h refl
fails_on OverLimit r f h = rw h refl

-- ---- how many threads there are

stepped_by_length : (s : State) (t place : ℕ) (p : Option StepPart) → length (stepped_by s t place p).threads ≡ length s.threads
stepped_by_length s t place None = refl
stepped_by_length s t place (Some step) = length-map _ _ ∙ started_length step s.threads

stepped_of_length : (s : State) (t : ℕ) (o : Option ThreadNow) → length (stepped_of s t o).threads ≡ length s.threads
stepped_of_length s t None = refl
stepped_of_length s t (Some e) = stepped_by_length s t (place_after s.script e) (next_step s.script e)

pub stepped_length : (s : State) (t : ℕ) → length (stepped s t).threads ≡ length s.threads
stepped_length s t = stepped_of_length s t (thread_at s t)

-- ---- the machine after a change

pub machine_is : (s : State) (places all : List ObjectId) (count : ℕ) (widths : Widths) → all ≡ places → IsSound s → numbers (take count places) ≡ living s.threads → count ≤ length places → length places ≡ length s.threads → widths ≡ s.script.sizes
    → IsMachine s all count widths
machine_is s places all count widths same sound live within room sizes = rw same (record { sound = sound; live = live; within = within; room = room; sizes = sizes })

living_kept : (change : ThreadNow → ThreadNow) → ((e : ThreadNow) → (change e).id ≡ e.id) → ((e : ThreadNow) → (change e).life ≡ e.life) → (es : List ThreadNow) (n : ℕ) → living (with_change n change es) ≡ living es
living_kept change ids lives [] n = refl
living_kept change ids lives (e ∷ es) n = elim (either (e.id == n)) [
  | inl h ↦ rw (h, lives e, ids e, living_kept change ids lives es n) refl
  | inr h ↦ rw (h, living_kept change ids lives es n) refl
]

written_living : (s : State) (t f : ℕ) (values : List (ℤ × Value)) (r : Option ErrorCode) → living (written_by s t f values r).threads ≡ living s.threads
written_living s t f values None = living_kept (thread_written f values) (λ e. refl) (λ e. refl) s.threads t
written_living s t f values (Some e) = refl

written_length : (s : State) (t f : ℕ) (values : List (ℤ × Value)) (r : Option ErrorCode) → length (written_by s t f values r).threads ≡ length s.threads
written_length s t f values None = length-map s.threads _
written_length s t f values (Some e) = refl

pub written_is : (s r : State) (t f : ℕ) (values : List (ℤ × Value)) (places : List ObjectId) (count : ℕ) (widths : Widths) → r ≡ written s t f values → IsMachine s places count widths → IsMachine r places count widths
written_is s r t f values places count widths same m =
    rw same (record {
      sound = written_sound s t f values m.sound;
      live = m.live ∙ sym (written_living s t f values (write_refusal s t f values));
      within = m.within;
      room = m.room ∙ sym (written_length s t f values (write_refusal s t f values));
      sizes = m.sizes ∙ sym (ap (λ (script : ScriptPart). script.sizes) (written_script s t f values));
    })

made_is : (s r : State) (text : List ℕ) (places : List ObjectId) (count : ℕ) (widths : Widths) → r ≡ made s text → IsMachine s places count widths → IsMachine r places count widths
made_is s r text places count widths same m =
    rw same (record {
      sound = made_sound s text m.sound;
      live = m.live ∙ sym (ap living (made_threads s text));
      within = m.within;
      room = m.room ∙ sym (ap (λ (es : List ThreadNow). length es) (made_threads s text));
      sizes = m.sizes ∙ sym (ap (λ (script : ScriptPart). script.sizes) (made_script s text));
    })

-- where a string was made, or nothing has changed
pub made_or_same : (s r : State) (text : List ℕ) (places : List ObjectId) (count : ℕ) (widths : Widths) (result : Result Answer NoMemory) → IfOk result (λ a. (a ≡ made_answer s text) × (r ≡ made s text)) → OnErr result (r ≡ s)
    → IsMachine s places count widths → IsMachine r places count widths
made_or_same s r text places count widths (Ok a) ok err m = made_is s r text places count widths ok.1 m
made_or_same s r text places count widths (Err e) ok err m = rw err m
