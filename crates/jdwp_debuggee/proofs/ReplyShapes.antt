-- The layout of the reply by what a command asks.
use Rattle.std.proofs.Common.{◌≡◌, ℕ, ◌==◌, ◌||◌, ◌&&◌, Bool, true, false, if◌then◌else◌, List, [], ◌∷◌, Option, Some, None, refl}
use Rattle.std.specs.Prelude.{⊤}
use Rattle.std.proofs.lemmas.Bool.{eqb-true, false≢true}
use Rattle.jdwp_layout.specs.declared.item.Field.TheVariants as field
use Rattle.jdwp_layout.specs.CommandNumbers.{CommandNumber, is_command, STACK_FRAME, ALL_THREADS, DISPOSE, ID_SIZES, SUSPEND, RESUME, EXIT, HOLD_EVENTS, RELEASE_EVENTS, SUSPEND_THREAD, RESUME_THREAD, THREAD_STATUS, FRAMES, FRAME_COUNT, SUSPEND_COUNT, SET_REQUEST, CLEAR_REQUEST, CLEAR_ALL_BREAKPOINTS, SET_SLOTS}
use Rattle.jdwp_layout.specs.CommandTable.{row_at}
use Rattle.jdwp_layout.specs.Meanings.{Byte, Int, Object, Frame, One, Many}
use Rattle.jdwp_layout.specs.Shapes.{ItemShape, Fields, OneOf, ListOf}
use Rattle.jdwp_action.specs.Actions
use Rattle.jdwp_action.specs.Actions.{Carried, Content, Command, Action, action_of, action_by, thread_of, thread_action, slots_of, set_action, clear_action, other_action}
use Rattle.jdwp_action.specs.RowLayouts.{row_reply}

-- what the replies to commands of the debuggee's own hold; others are the machine's to answer
abbrev pub shape_by : Action → Option (List ItemShape)
shape_by (Actions.SetRequest kind policy entries) = Some (OneOf field.Int ∷ [])
shape_by (Actions.SuspendCount t) = Some (OneOf field.Int ∷ [])
shape_by (Actions.ThreadStatus t) = Some (OneOf field.Int ∷ OneOf field.Int ∷ [])
shape_by Actions.AllThreads = Some (ListOf (Fields (field.ObjectId ∷ [])) ∷ [])
shape_by Actions.IdSizes = Some (OneOf field.Int ∷ OneOf field.Int ∷ OneOf field.Int ∷ OneOf field.Int ∷ OneOf field.Int ∷ [])
shape_by (Actions.AskFrames t) = None
shape_by (Actions.AskThread t) = None
shape_by Actions.Ask = None
shape_by action = Some []

abbrev pub IsShape : Option (List ItemShape) → Option (List ItemShape) → Type 0
IsShape None shape = ⊤
IsShape (Some shapes) shape = shape ≡ Some shapes

abbrev pub HasShape : Command → Action → Type 0
HasShape c a = IsShape (shape_by a) (row_reply (row_at c.set c.number))

pub and_both : (a b : Bool) → (a && b) ≡ true → (a ≡ true) × (b ≡ true)
and_both true true h = (refl, refl)
and_both true false h = absurd (false≢true h)
and_both false b h = absurd (false≢true h)

at-command : (c : Command) (k : CommandNumber) (a : Action) → is_command k c.set c.number ≡ true → IsShape (shape_by a) (row_reply (row_at k.set k.number)) → HasShape c a
at-command c k a is h =
    let both = and_both (c.set == k.set) (c.number == k.number) is in
    rw (eqb-true c.set k.set both.0, eqb-true c.number k.number both.1) h

pick : (c : Command) (b : Bool) (x y : Action) → (b ≡ true → HasShape c x) → HasShape c y → HasShape c (if b then x else y)
pick c true x y f h = f refl
pick c false x y f h = h

slots-by : (c : Command) (t : ℕ) (x : Carried) → is_command SET_SLOTS c.set c.number ≡ true → HasShape c (slots_of t x)
slots-by c t (Content (One (Object o) ∷ One (Frame f) ∷ Many entries ∷ [])) is = at-command c SET_SLOTS (slots_of t (Content (One (Object o) ∷ One (Frame f) ∷ Many entries ∷ []))) is refl
slots-by c t x is = tt

thread-shape : (t : ℕ) (c : Command) → HasShape c (thread_action t c)
thread-shape t c =
    pick c (is_command SUSPEND_THREAD c.set c.number) _ _ (λ is. at-command c SUSPEND_THREAD (Actions.SuspendThread t) is refl) (
    pick c (is_command RESUME_THREAD c.set c.number) _ _ (λ is. at-command c RESUME_THREAD (Actions.ResumeThread t) is refl) (
    pick c (is_command SUSPEND_COUNT c.set c.number) _ _ (λ is. at-command c SUSPEND_COUNT (Actions.SuspendCount t) is refl) (
    pick c (is_command THREAD_STATUS c.set c.number) _ _ (λ is. at-command c THREAD_STATUS (Actions.ThreadStatus t) is refl) (
    pick c (is_command SET_SLOTS c.set c.number) _ _ (λ is. slots-by c t c.carried is) (
    pick c ((c.set == STACK_FRAME) || (is_command FRAMES c.set c.number || is_command FRAME_COUNT c.set c.number)) (Actions.AskFrames t) (Actions.AskThread t) (λ is. tt) tt)))))

set-by : (c : Command) (x : Carried) → is_command SET_REQUEST c.set c.number ≡ true → HasShape c (set_action x)
set-by c (Content (One (Byte kind) ∷ One (Byte policy) ∷ Many entries ∷ [])) is = at-command c SET_REQUEST (Actions.SetRequest kind policy entries) is refl
set-by c x is = tt

clear-by : (c : Command) (x : Carried) → is_command CLEAR_REQUEST c.set c.number ≡ true → HasShape c (clear_action x)
clear-by c (Content (One (Byte kind) ∷ One (Int id) ∷ [])) is = at-command c CLEAR_REQUEST (Actions.ClearRequest kind id) is refl
clear-by c x is = tt

other-shape : (c : Command) → HasShape c (other_action c)
other-shape c =
    pick c (is_command SUSPEND c.set c.number) _ _ (λ is. at-command c SUSPEND Actions.Suspend is refl) (
    pick c (is_command RESUME c.set c.number) _ _ (λ is. at-command c RESUME Actions.Resume is refl) (
    pick c (is_command DISPOSE c.set c.number) _ _ (λ is. at-command c DISPOSE Actions.Dispose is refl) (
    pick c (is_command EXIT c.set c.number) _ _ (λ is. at-command c EXIT Actions.Exit is refl) (
    pick c (is_command HOLD_EVENTS c.set c.number) _ _ (λ is. at-command c HOLD_EVENTS Actions.HoldEvents is refl) (
    pick c (is_command RELEASE_EVENTS c.set c.number) _ _ (λ is. at-command c RELEASE_EVENTS Actions.ReleaseEvents is refl) (
    pick c (is_command ALL_THREADS c.set c.number) _ _ (λ is. at-command c ALL_THREADS Actions.AllThreads is refl) (
    pick c (is_command ID_SIZES c.set c.number) _ _ (λ is. at-command c ID_SIZES Actions.IdSizes is refl) (
    pick c (is_command SET_REQUEST c.set c.number) _ _ (λ is. set-by c c.carried is) (
    pick c (is_command CLEAR_REQUEST c.set c.number) _ _ (λ is. clear-by c c.carried is) (
    pick c (is_command CLEAR_ALL_BREAKPOINTS c.set c.number) Actions.ClearBreakpoints Actions.Ask (λ is. at-command c CLEAR_ALL_BREAKPOINTS Actions.ClearBreakpoints is refl) tt))))))))))

by-thread : (t : Option ℕ) (c : Command) → HasShape c (action_by t c)
by-thread None c = other-shape c
by-thread (Some t) c = thread-shape t c

-- a command that the debuggee answers itself has the reply of its action
pub has-shape : (c : Command) → HasShape c (action_of c)
has-shape c = by-thread (thread_of c) c
