-- What is judged of replies and composites is what the definitions say.
use Rattle.std.proofs.Common.{◌≡◌, ℕ, ◌&&◌, Bool, true, false, List, [], ◌∷◌, length, refl, arith, Some, None, pos, if◌then◌else◌}
use Rattle.std.proofs.lemmas.Bool.Decides.{nat_tests}
use Rattle.std.specs.Prelude.{nat_le}
use Rattle.jdwp_wire.specs.Widths.{IsWidth}
use Rattle.jdwp_layout.specs.declared.answer.Answer.{Answer}
use Rattle.jdwp_layout.specs.declared.answer.Answer.TheVariants.{Data, Error}
use Rattle.jdwp_layout.specs.Meanings.{DatumMeaning, One, Int}
use Rattle.jdwp_action.specs.Actions
use Rattle.jdwp_action.specs.Actions.{Action, Command, action_of}
use Rattle.jdwp_mirror.specs.CommandKinds.{kind_of}
use Rattle.jdwp_mirror.specs.Faults.{are_widths, is_bad_data, is_bad_error, is_bad_reply, is_width}
use Rattle.jdwp_mirror.specs.FaultParts.{is_bad_of_kind, is_sizes_kind}
use Rattle.jdwp_mirror.specs.Widths.{width_said, widths_said, widths_if}

-- ---- replies

bad-data : (a : Action) (content : List DatumMeaning) → is_bad_of_kind (kind_of a) content ≡ is_bad_data a content
bad-data Actions.Suspend content = refl
bad-data Actions.Resume content = refl
bad-data Actions.Dispose content = refl
bad-data Actions.Exit content = refl
bad-data Actions.HoldEvents content = refl
bad-data Actions.ReleaseEvents content = refl
bad-data (Actions.SetRequest kind policy entries) content = refl
bad-data (Actions.ClearRequest kind id) content = refl
bad-data Actions.ClearBreakpoints content = refl
bad-data (Actions.SuspendThread t) content = refl
bad-data (Actions.ResumeThread t) content = refl
bad-data (Actions.SuspendCount t) content = refl
bad-data (Actions.ThreadStatus t) content = refl
bad-data (Actions.SetSlots t f slots) content = refl
bad-data (Actions.AskFrames t) content = refl
bad-data (Actions.AskThread t) content = refl
bad-data Actions.AllThreads content = refl
bad-data Actions.IdSizes content = refl
bad-data Actions.Ask content = refl

bad-error : (a : Action) → is_sizes_kind (kind_of a) ≡ is_bad_error a
bad-error Actions.Suspend = refl
bad-error Actions.Resume = refl
bad-error Actions.Dispose = refl
bad-error Actions.Exit = refl
bad-error Actions.HoldEvents = refl
bad-error Actions.ReleaseEvents = refl
bad-error (Actions.SetRequest kind policy entries) = refl
bad-error (Actions.ClearRequest kind id) = refl
bad-error Actions.ClearBreakpoints = refl
bad-error (Actions.SuspendThread t) = refl
bad-error (Actions.ResumeThread t) = refl
bad-error (Actions.SuspendCount t) = refl
bad-error (Actions.ThreadStatus t) = refl
bad-error (Actions.SetSlots t f slots) = refl
bad-error (Actions.AskFrames t) = refl
bad-error (Actions.AskThread t) = refl
bad-error Actions.AllThreads = refl
bad-error Actions.IdSizes = refl
bad-error Actions.Ask = refl

-- whether an answer is bad, by what the command asks
abbrev pub bad_by_kind : Command → Answer → Bool
bad_by_kind c (Data content) = is_bad_of_kind (kind_of (action_of c)) content
bad_by_kind c (Error e) = is_sizes_kind (kind_of (action_of c))

pub bad-answer : (c : Command) (answer : Answer) → bad_by_kind c answer ≡ is_bad_reply c answer
bad-answer c (Data content) = bad-data (action_of c) content
bad-answer c (Error e) = bad-error (action_of c)

-- ---- widths

width-test : (n : ℕ) → IsWidth n → (nat_le 1 n && nat_le n 8) ≡ true
width-test n w = grind (arith, nat_tests, w.0, w.1)

width-tested : (n : ℕ) → (nat_le 1 n && nat_le n 8) ≡ true → IsWidth n
width-tested n e = (grind (arith, nat_tests), grind (arith, nat_tests))

width-is : (item : DatumMeaning) → IsWidth (width_said item) → is_width item ≡ true
width-is (One (Int (pos n))) w = width-test n w
width-is item w = absurd (omega (arith, w.0))

is-width : (item : DatumMeaning) → is_width item ≡ true → IsWidth (width_said item)
is-width (One (Int (pos n))) e = width-tested n e
is-width item e = absurd (cc)

both-true : (a b : Bool) → a ≡ true → b ≡ true → (a && b) ≡ true
both-true true b e f = f
both-true false b e f = e

first-true : (a b : Bool) → (a && b) ≡ true → a ≡ true
first-true true b e = refl
first-true false b e = e

second-true : (a b : Bool) → (a && b) ≡ true → b ≡ true
second-true true b e = e
second-true false b e = absurd (cc)

abbrev pub AreSaid : (a b c d e : DatumMeaning) → Type 0
AreSaid a b c d e = IsWidth (width_said a) × IsWidth (width_said b) × IsWidth (width_said c) × IsWidth (width_said d) × IsWidth (width_said e)

pub widths-said : (a b c d e : DatumMeaning) → AreSaid a b c d e
    → widths_if (a ∷ b ∷ c ∷ d ∷ e ∷ []) ≡ Some (record { field = width_said a; method = width_said b; object = width_said c; reference = width_said d; frame = width_said e })
widths-said a b c d e w =
    let all : are_widths (a ∷ b ∷ c ∷ d ∷ e ∷ []) ≡ true =
    both-true _ _ (width-is a w.0) (both-true _ _ (width-is b w.1) (both-true _ _ (width-is c w.2) (both-true _ _ (width-is d w.3) (width-is e w.4)))) in
    rw all refl

pub widths-not : (a b c d e : DatumMeaning) → (AreSaid a b c d e → ⊥) → widths_if (a ∷ b ∷ c ∷ d ∷ e ∷ []) ≡ None
widths-not a b c d e none =
    elim (are_widths (a ∷ b ∷ c ∷ d ∷ e ∷ [])) as (λ t. are_widths (a ∷ b ∷ c ∷ d ∷ e ∷ []) ≡ t → (if t then widths_said (a ∷ b ∷ c ∷ d ∷ e ∷ []) else None) ≡ None) [
      | true ↦ λ all.
          let after = second-true _ _ all in
          let after-b = second-true _ _ after in
          let after-c = second-true _ _ after-b in
          absurd (none (is-width a (first-true _ _ all), is-width b (first-true _ _ after), is-width c (first-true _ _ after-b), is-width d (first-true _ _ after-c), is-width e (second-true _ _ after-c)))
      | false ↦ λ all. refl
    ] refl

pub not-five : (xs : List DatumMeaning) → (length xs ≡ 5 → ⊥) → None ≡ widths_if xs
not-five [] h = refl
not-five (a ∷ []) h = refl
not-five (a ∷ b ∷ []) h = refl
not-five (a ∷ b ∷ c ∷ []) h = refl
not-five (a ∷ b ∷ c ∷ d ∷ []) h = refl
not-five (a ∷ b ∷ c ∷ d ∷ e ∷ []) h = absurd (h refl)
not-five (a ∷ b ∷ c ∷ d ∷ e ∷ f ∷ xs) h = refl
