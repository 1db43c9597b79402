-- What the debuggee answers of its own is encoded by the bytes that are sent for it.
use Rattle.std.proofs.Common.{◌≡◌, ℕ, ◌≤◌, ◌==◌, Bool, true, false, if◌then◌else◌, [], ◌∷◌, ◌++◌, Option, Some, None, pos, refl, sym, subst, arith}
use Rattle.std.specs.Prelude.{IfSome}
use Rattle.std.proofs.lemmas.Int.{to_z_pos}
use Rattle.std.specs.Int.{w32}
use Rattle.jdwp_wire.specs.Basic.{EncodesInt, int_canonical}
use Rattle.jdwp_wire.specs.Numbers.{greatest_int}
use Rattle.jdwp_wire.specs.declared.error_code.ErrorCode.{ErrorCode}
use Rattle.jdwp_wire.specs.Widths.{Widths, AreWidths}
use Rattle.jdwp_layout.specs.declared.item.Field.TheVariants as field
use Rattle.jdwp_layout.specs.declared.answer.Answer.{Answer}
use Rattle.jdwp_layout.specs.declared.answer.Answer.TheVariants.{Data, Error}
use Rattle.jdwp_layout.specs.CommandNumbers.{SET_SLOTS}
use Rattle.jdwp_layout.specs.CommandTable.{row_at}
use Rattle.jdwp_layout.specs.Grammar.{EncodesData}
use Rattle.jdwp_layout.specs.Meanings.{Int, One}
use Rattle.jdwp_layout.specs.Shapes.{OneOf}
use Rattle.jdwp_machine.specs.Laws.{MayAnswer}
use Rattle.jdwp_machine.specs.Meanings.{Meaning}
use Rattle.jdwp_action.specs.AnswerPackets.{sizes_answer, EncodesAnswer}
use Rattle.jdwp_debuggee.specs.Answers.{done, int_answer}
use Rattle.jdwp_debuggee.specs.Debuggees.{Debuggee, IsKept}
use Rattle.jdwp_debuggee.specs.Effects.{suspend_by, suspend_thread_at, suspend_thread_by, resume_thread_by, answer_count, answer_status}
use Rattle.jdwp_action.specs.RowLayouts.{row_reply}
use Rattle.jdwp_debuggee.specs.Settings.{Settings}
use Rattle.jdwp_debuggee.specs.State.{Moment, count_of}
use Rattle.jdwp_debuggee.proofs.Kept.{count-most}
use Rattle.jdwp_debuggee.proofs.Writable.{written-done}

pub int-encoded : (n : ℕ) → n ≤ greatest_int → EncodesInt (pos n) (int_canonical (pos n))
int-encoded n h = (n, sym (to_z_pos w32 n (omega arith)), (omega arith, refl))

pub done-encoded : (w : Widths) (set number : ℕ) → row_reply (row_at set number) ≡ Some [] → EncodesAnswer w set number done
done-encoded w set number shape = rw shape refl

pub int-answer-encoded : (w : Widths) (set number n : ℕ) → n ≤ greatest_int → row_reply (row_at set number) ≡ Some (OneOf field.Int ∷ []) → EncodesAnswer w set number (int_answer n)
int-answer-encoded w set number n h shape = rw shape (int_canonical (pos n), [], (refl, int-encoded n h), refl, refl)

two-encoded : (w : Widths) (set number n k : ℕ) → n ≤ greatest_int → k ≤ greatest_int → row_reply (row_at set number) ≡ Some (OneOf field.Int ∷ OneOf field.Int ∷ [])
    → EncodesAnswer w set number (Data (One (Int (pos n)) ∷ One (Int (pos k)) ∷ []))
two-encoded w set number n k h l shape =
    rw shape (int_canonical (pos n), int_canonical (pos k) ++ [], (refl, int-encoded n h), (int_canonical (pos k), [], (refl, int-encoded k l), refl, refl), refl)

flag-most : (b : Bool) → (if b then 0 else 1) ≤ greatest_int
flag-most true = omega arith
flag-most false = omega arith

-- ---- by what is asked

pub suspend-encoded : {S : Type 0} (w : Widths) (set number : ℕ) (now : Moment S) (b : Bool) → row_reply (row_at set number) ≡ Some [] → EncodesAnswer w set number (suspend_by now b).answer
suspend-encoded w set number now true shape = omega arith
suspend-encoded w set number now false shape = done-encoded w set number shape

suspend-at-encoded : {S : Type 0} (w : Widths) (set number t : ℕ) (now : Moment S) (b : Bool) → row_reply (row_at set number) ≡ Some [] → EncodesAnswer w set number (suspend_thread_at now t b).answer
suspend-at-encoded w set number t now true shape = omega arith
suspend-at-encoded w set number t now false shape = done-encoded w set number shape

pub suspend-thread-encoded : {S : Type 0} (w : Widths) (set number t : ℕ) (settings : Settings) (now : Moment S) (count : Option ℕ) → row_reply (row_at set number) ≡ Some []
    → EncodesAnswer w set number (suspend_thread_by settings now t count).answer
suspend-thread-encoded w set number t settings now None shape = omega arith
suspend-thread-encoded w set number t settings now (Some n) shape = suspend-at-encoded w set number t now (n == settings.count_limit) shape

pub resume-thread-encoded : {S : Type 0} (w : Widths) (set number t : ℕ) (now : Moment S) (count : Option ℕ) → row_reply (row_at set number) ≡ Some [] → EncodesAnswer w set number (resume_thread_by now t count).answer
resume-thread-encoded w set number t now None shape = omega arith
resume-thread-encoded w set number t now (Some n) shape = done-encoded w set number shape

count-by : (w : Widths) (set number : ℕ) (count : Option ℕ) → IfSome count (λ n. n ≤ greatest_int) → row_reply (row_at set number) ≡ Some (OneOf field.Int ∷ []) → EncodesAnswer w set number (answer_count count)
count-by w set number None h shape = omega arith
count-by w set number (Some n) h shape = int-answer-encoded w set number n h shape

below : (count : Option ℕ) (limit : ℕ) → limit ≤ greatest_int → IfSome count (λ n. n ≤ limit) → IfSome count (λ n. n ≤ greatest_int)
below None limit most h = tt
below (Some n) limit most h = omega arith

pub count-encoded : {S : Type 0} (m : Meaning S) (d : Debuggee S) (w : Widths) (set number t : ℕ) → IsKept m d → row_reply (row_at set number) ≡ Some (OneOf field.Int ∷ []) → EncodesAnswer w set number (answer_count (count_of d.moment.state t))
count-encoded m d w set number t k shape = count-by w set number (count_of d.moment.state t) (below (count_of d.moment.state t) d.settings.count_limit k.limit.1 (count-most m d t (count_of d.moment.state t) k refl)) shape

pub status-encoded : (w : Widths) (set number : ℕ) (count : Option ℕ) → row_reply (row_at set number) ≡ Some (OneOf field.Int ∷ OneOf field.Int ∷ []) → EncodesAnswer w set number (answer_status count)
status-encoded w set number None shape = omega arith
status-encoded w set number (Some n) shape = two-encoded w set number 1 (if n == 0 then 0 else 1) (omega arith) (flag-most (n == 0)) shape

sized : (w : Widths) → AreWidths w.field w.method w.object w.reference w.frame → EncodesData w (OneOf field.Int ∷ OneOf field.Int ∷ OneOf field.Int ∷ OneOf field.Int ∷ OneOf field.Int ∷ [])
    (One (Int (pos w.field)) ∷ One (Int (pos w.method)) ∷ One (Int (pos w.object)) ∷ One (Int (pos w.reference)) ∷ One (Int (pos w.frame)) ∷ [])
    (int_canonical (pos w.field) ++ (int_canonical (pos w.method) ++ (int_canonical (pos w.object) ++ (int_canonical (pos w.reference) ++ (int_canonical (pos w.frame) ++ [])))))
sized w h =
    let f = h.field_is in
    let m = h.method_is in
    let o = h.object_is in
    let r = h.reference_is in
    let e = h.frame_is in
    let frame = int_canonical (pos w.frame) ++ [] in
    let reference = int_canonical (pos w.reference) ++ frame in
    let object = int_canonical (pos w.object) ++ reference in
    let method = int_canonical (pos w.method) ++ object in (
      int_canonical (pos w.field),
      method,
      (refl, int-encoded w.field (omega (arith, f.1))),
      (
        int_canonical (pos w.method),
        object,
        (refl, int-encoded w.method (omega (arith, m.1))),
        (
          int_canonical (pos w.object),
          reference,
          (refl, int-encoded w.object (omega (arith, o.1))),
          (
            int_canonical (pos w.reference),
            frame,
            (refl, int-encoded w.reference (omega (arith, r.1))),
            (int_canonical (pos w.frame), [], (refl, int-encoded w.frame (omega (arith, e.1))), refl, refl),
            refl,
          ),
          refl,
        ),
        refl,
      ),
      refl,
    )

pub sizes-encoded : (w : Widths) (set number : ℕ) → AreWidths w.field w.method w.object w.reference w.frame
    → row_reply (row_at set number) ≡ Some (OneOf field.Int ∷ OneOf field.Int ∷ OneOf field.Int ∷ OneOf field.Int ∷ OneOf field.Int ∷ []) → EncodesAnswer w set number (sizes_answer w)
sizes-encoded w set number h shape = rw shape (sized w h)

-- ---- what is refused

pub error-encoded : (w : Widths) (set number : ℕ) (e : ErrorCode) → 1 ≤ e.0 → EncodesAnswer w set number (Error e)
error-encoded w set number e h = omega arith

pub written-encoded : {S : Type 0} (m : Meaning S) (s : S) (w : Widths) (set number : ℕ) (answer : Answer) → MayAnswer m s SET_SLOTS.set SET_SLOTS.number answer → row_reply (row_at set number) ≡ Some [] → EncodesAnswer w set number answer
written-encoded m s w set number (Data content) h shape = subst (λ (x : Answer). EncodesAnswer w set number x) (sym (written-done m s content h)) (done-encoded w set number shape)
written-encoded m s w set number (Error e) h shape = error-encoded w set number e h.0
