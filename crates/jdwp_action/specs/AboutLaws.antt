-- The thread that a command is about is that of its action.
use Rattle.std.proofs.Common.{◌≡◌, ℕ, ◌==◌, ◌||◌, Option, Some, None, [], ◌∷◌, refl}
use Rattle.std.proofs.lemmas.Bool.{cond_both}
use Rattle.jdwp_layout.specs.CommandNumbers.{is_command, STACK_FRAME, FRAMES, FRAME_COUNT, SUSPEND, RESUME, DISPOSE, EXIT, HOLD_EVENTS, RELEASE_EVENTS, ALL_THREADS, ID_SIZES, SET_REQUEST, CLEAR_REQUEST, CLEAR_ALL_BREAKPOINTS, SUSPEND_THREAD, RESUME_THREAD, SUSPEND_COUNT, THREAD_STATUS, SET_SLOTS}
use Rattle.jdwp_layout.specs.Meanings.{Byte, Int, Object, Frame, One, Many}
use Rattle.jdwp_action.specs.Actions.{Carried, Content, Command, Action, action_of, action_by, thread_of, thread_action, other_action, slots_of, set_action, clear_action, about}

abbrev IsAbout : Option ℕ → Action → Type 0
IsAbout t a = about a ≡ t

slots-about : (t : ℕ) (c : Carried) → about (slots_of t c) ≡ Some t
slots-about t (Content (One (Object o) ∷ One (Frame f) ∷ Many entries ∷ [])) = refl
slots-about t c = refl

set-about : (c : Carried) → about (set_action c) ≡ None
set-about (Content (One (Byte kind) ∷ One (Byte policy) ∷ Many entries ∷ [])) = refl
set-about c = refl

clear-about : (c : Carried) → about (clear_action c) ≡ None
clear-about (Content (One (Byte kind) ∷ One (Int id) ∷ [])) = refl
clear-about c = refl

thread-about : (t : ℕ) (c : Command) → about (thread_action t c) ≡ Some t
thread-about t c =
    cond_both (is_command SUSPEND_THREAD c.set c.number) _ _ (IsAbout (Some t)) (λ _. refl) (λ _.
    cond_both (is_command RESUME_THREAD c.set c.number) _ _ (IsAbout (Some t)) (λ _. refl) (λ _.
    cond_both (is_command SUSPEND_COUNT c.set c.number) _ _ (IsAbout (Some t)) (λ _. refl) (λ _.
    cond_both (is_command THREAD_STATUS c.set c.number) _ _ (IsAbout (Some t)) (λ _. refl) (λ _.
    cond_both (is_command SET_SLOTS c.set c.number) _ _ (IsAbout (Some t)) (λ _. slots-about t c.carried) (λ _.
    cond_both ((c.set == STACK_FRAME) || (is_command FRAMES c.set c.number || is_command FRAME_COUNT c.set c.number)) _ _ (IsAbout (Some t)) (λ _. refl) (λ _. refl))))))

other-about : (c : Command) → about (other_action c) ≡ None
other-about c =
    cond_both (is_command SUSPEND c.set c.number) _ _ (IsAbout None) (λ _. refl) (λ _.
    cond_both (is_command RESUME c.set c.number) _ _ (IsAbout None) (λ _. refl) (λ _.
    cond_both (is_command DISPOSE c.set c.number) _ _ (IsAbout None) (λ _. refl) (λ _.
    cond_both (is_command EXIT c.set c.number) _ _ (IsAbout None) (λ _. refl) (λ _.
    cond_both (is_command HOLD_EVENTS c.set c.number) _ _ (IsAbout None) (λ _. refl) (λ _.
    cond_both (is_command RELEASE_EVENTS c.set c.number) _ _ (IsAbout None) (λ _. refl) (λ _.
    cond_both (is_command ALL_THREADS c.set c.number) _ _ (IsAbout None) (λ _. refl) (λ _.
    cond_both (is_command ID_SIZES c.set c.number) _ _ (IsAbout None) (λ _. refl) (λ _.
    cond_both (is_command SET_REQUEST c.set c.number) _ _ (IsAbout None) (λ _. set-about c.carried) (λ _.
    cond_both (is_command CLEAR_REQUEST c.set c.number) _ _ (IsAbout None) (λ _. clear-about c.carried) (λ _.
    cond_both (is_command CLEAR_ALL_BREAKPOINTS c.set c.number) _ _ (IsAbout None) (λ _. refl) (λ _. refl)))))))))))

pub about_action : (c : Command) → about (action_of c) ≡ thread_of c
about_action c = elim (thread_of c) as (λ v. about (action_by v c) ≡ v) [ Some t ↦ thread-about t c | None ↦ other-about c ]
