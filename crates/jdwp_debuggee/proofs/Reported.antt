-- which requests are accepted, what is reported for them, and what IDSizes is answered
use Rattle.std.proofs.Common.{◌≡◌, ℕ, ◌==◌, ◌≤◌, Bool, true, false, ◌||◌, ◌&&◌, not, cond, Option, Some, None, List, [], ◌∷◌, map, refl, sym, ◌∙◌, ap, subst, arith}
use Rattle.std.specs.List.{filter, AllByRecursion}
use Rattle.std.specs.Prelude.{IfSome}
use Rattle.std.proofs.lemmas.Bool.{eqb-true, cond_both, leb-true}
use Rattle.jdwp_wire.specs.declared.error_code.ErrorCode.{ErrorCode}
use Rattle.jdwp_layout.specs.CommandNumbers.{is_command, STACK_FRAME, FRAMES, FRAME_COUNT, SUSPEND, RESUME, DISPOSE, EXIT, HOLD_EVENTS, RELEASE_EVENTS, ALL_THREADS, ID_SIZES, SET_REQUEST, CLEAR_REQUEST, CLEAR_ALL_BREAKPOINTS, SUSPEND_THREAD, RESUME_THREAD, SUSPEND_COUNT, THREAD_STATUS, SET_SLOTS, EVENT}
use Rattle.jdwp_layout.specs.CommandTable.{row_at}
use Rattle.jdwp_layout.specs.Meanings.{ScalarMeaning, Byte, Int, Object, Frame, One, Many}
use Rattle.jdwp_event.specs.Modifiers.{ModifierMeaning, modifiers_of}
use Rattle.jdwp_event.specs.Requests.{Request, all_asked}
use Rattle.jdwp_event.specs.Occurrences.{HappeningMeaning, runs_out}
use Rattle.jdwp_event.specs.Filters.{passes, passing}
use Rattle.jdwp_event.specs.Composites.{CompositeMeaning, POLICY_ALL, event_for, gathered, greatest_policy, composite_by}
use Rattle.jdwp_event.specs.Told.{event_thread}
use Rattle.jdwp_machine.specs.Meanings.{Meaning}
use Rattle.jdwp_debuggee.specs.Settings.{Settings}
use Rattle.jdwp_debuggee.specs.State.{State, Moment, is_marked}
use Rattle.jdwp_action.specs.Actions
use Rattle.jdwp_debuggee.specs.Answering.{is_answered}
use Rattle.jdwp_action.specs.Actions.{Carried, Content, Command, Action, action_of, action_by, thread_of, thread_action, other_action, slots_of, set_action, clear_action, carries_out, is_implemented}
use Rattle.jdwp_action.specs.AnswerPackets.{sizes_answer}
use Rattle.jdwp_debuggee.specs.Refusals.{or_else, unless, set_refusal}
use Rattle.jdwp_debuggee.specs.Effects.{effect, effect_by, does, set_by}
use Rattle.jdwp_debuggee.specs.Steps.{death_by, report_by, happens, occurs_by, occurs}
use Rattle.jdwp_debuggee.specs.Facts.{is_data}
use Rattle.jdwp_debuggee.specs.Reports.{HavePolicies, IsReport}
use Rattle.jdwp_debuggee.proofs.Small.{and-left, and-right}

-- ---- IDSizes

abbrev is_sizes : Action → Bool
is_sizes Actions.IdSizes = true
is_sizes a = false

-- an action that is IDSizes comes of this command alone
abbrev IsSizes : Command → Action → Type 0
IsSizes c a = is_sizes a ≡ true → is_command ID_SIZES c.set c.number ≡ true

no-slots : (c : Command) (t : ℕ) (x : Carried) → IsSizes c (slots_of t x)
no-slots c t (Content (One (Object o) ∷ One (Frame f) ∷ Many entries ∷ [])) h = absurd (cc)
no-slots c t x h = absurd (cc)

no-set : (c : Command) (x : Carried) → IsSizes c (set_action x)
no-set c (Content (One (Byte kind) ∷ One (Byte policy) ∷ Many entries ∷ [])) h = absurd (cc)
no-set c x h = absurd (cc)

no-clear : (c : Command) (x : Carried) → IsSizes c (clear_action x)
no-clear c (Content (One (Byte kind) ∷ One (Int id) ∷ [])) h = absurd (cc)
no-clear c x h = absurd (cc)

thread-sizes : (t : ℕ) (c : Command) → IsSizes c (thread_action t c)
thread-sizes t c =
    cond_both (is_command SUSPEND_THREAD c.set c.number) _ _ (IsSizes c) (λ _ h. absurd (cc)) (λ _.
    cond_both (is_command RESUME_THREAD c.set c.number) _ _ (IsSizes c) (λ _ h. absurd (cc)) (λ _.
    cond_both (is_command SUSPEND_COUNT c.set c.number) _ _ (IsSizes c) (λ _ h. absurd (cc)) (λ _.
    cond_both (is_command THREAD_STATUS c.set c.number) _ _ (IsSizes c) (λ _ h. absurd (cc)) (λ _.
    cond_both (is_command SET_SLOTS c.set c.number) _ _ (IsSizes c) (λ _. no-slots c t c.carried) (λ _.
    cond_both ((c.set == STACK_FRAME) || (is_command FRAMES c.set c.number || is_command FRAME_COUNT c.set c.number)) _ _ (IsSizes c) (λ _ h. absurd (cc)) (λ _ h. absurd (cc)))))))

other-sizes : (c : Command) → IsSizes c (other_action c)
other-sizes c =
    cond_both (is_command SUSPEND c.set c.number) _ _ (IsSizes c) (λ _ h. absurd (cc)) (λ _.
    cond_both (is_command RESUME c.set c.number) _ _ (IsSizes c) (λ _ h. absurd (cc)) (λ _.
    cond_both (is_command DISPOSE c.set c.number) _ _ (IsSizes c) (λ _ h. absurd (cc)) (λ _.
    cond_both (is_command EXIT c.set c.number) _ _ (IsSizes c) (λ _ h. absurd (cc)) (λ _.
    cond_both (is_command HOLD_EVENTS c.set c.number) _ _ (IsSizes c) (λ _ h. absurd (cc)) (λ _.
    cond_both (is_command RELEASE_EVENTS c.set c.number) _ _ (IsSizes c) (λ _ h. absurd (cc)) (λ _.
    cond_both (is_command ALL_THREADS c.set c.number) _ _ (IsSizes c) (λ _ h. absurd (cc)) (λ _.
    cond_both (is_command ID_SIZES c.set c.number) _ _ (IsSizes c) (λ e _. e) (λ _.
    cond_both (is_command SET_REQUEST c.set c.number) _ _ (IsSizes c) (λ _. no-set c c.carried) (λ _.
    cond_both (is_command CLEAR_REQUEST c.set c.number) _ _ (IsSizes c) (λ _. no-clear c c.carried) (λ _.
    cond_both (is_command CLEAR_ALL_BREAKPOINTS c.set c.number) _ _ (IsSizes c) (λ _ h. absurd (cc)) (λ _ h. absurd (cc))))))))))))

sizes-command : (c : Command) → IsSizes c (action_of c)
sizes-command c = elim (thread_of c) as (λ v. IsSizes c (action_by v c)) [ Some t ↦ thread-sizes t c | None ↦ other-sizes c ]

sizes-implemented : (c : Command) → is_command ID_SIZES c.set c.number ≡ true → is_implemented c ≡ true
sizes-implemented c h =
    let set : c.set ≡ ID_SIZES.set = eqb-true c.set ID_SIZES.set (and-left (c.set == ID_SIZES.set) (c.number == ID_SIZES.number) h) in
    let number : c.number ≡ ID_SIZES.number = eqb-true c.number ID_SIZES.number (and-right (c.set == ID_SIZES.set) (c.number == ID_SIZES.number) h) in
    subst (λ s. (carries_out (row_at s c.number) && not (s == EVENT)) ≡ true) (sym set) (subst (λ n. (carries_out (row_at ID_SIZES.set n) && not (ID_SIZES.set == EVENT)) ≡ true) (sym number) refl)

pub sizes_effect : {S : Type 0} (m : Meaning S) (settings : Settings) (now : Moment S) (c : Command) → action_of c ≡ Actions.IdSizes → (effect m settings now c).answer ≡ sizes_answer (m.sizes now.machine)
sizes_effect m settings now c e =
    let h : is_implemented c ≡ true = sizes-implemented c (sizes-command c (ap is_sizes e)) in
    let i : is_answered settings.profile c ≡ true = rw h refl in
    ap (λ b. (effect_by m settings now c b).answer) i ∙ ap (λ a. (does m settings now c a).answer) e

-- ---- policies

or-none : (a b : Option ErrorCode) → or_else a b ≡ None → (a ≡ None) × (b ≡ None)
or-none None b h = (refl, h)
or-none (Some e) b h = absurd (cc)

unless-none : (b : Bool) (e : ErrorCode) → unless b e ≡ None → b ≡ true
unless-none true e h = refl
unless-none false e h = absurd (cc)

set-policy : {S : Type 0} (m : Meaning S) (settings : Settings) (now : Moment S) (byte policy : ℕ) (modifiers : List ModifierMeaning) → set_refusal m settings now byte policy modifiers ≡ None → policy ≤ POLICY_ALL
set-policy m settings now byte policy modifiers h = leb-true policy 2 (unless-none _ _ (or-none _ _ (or-none _ _ h).1).0)

set-accepted : {S : Type 0} (m : Meaning S) (now : Moment S) (byte policy : ℕ) (modifiers : List ModifierMeaning) (v : Option ErrorCode) → is_data (set_by m now byte policy modifiers v).answer ≡ true → v ≡ None
set-accepted m now byte policy modifiers None h = refl
set-accepted m now byte policy modifiers (Some e) h = absurd (cc)

policy-by : {S : Type 0} (m : Meaning S) (settings : Settings) (now : Moment S) (c : Command) (byte policy : ℕ) (entries : List (List ScalarMeaning)) (b : Bool) → action_of c ≡ Actions.SetRequest byte policy entries → is_data (effect_by m settings now c b).answer ≡ true → policy ≤ POLICY_ALL
policy-by m settings now c byte policy entries false e h = absurd (cc)
policy-by m settings now c byte policy entries true e h =
    set-policy m settings now byte policy (modifiers_of entries) (set-accepted m now byte policy (modifiers_of entries) _ (subst (λ a. is_data (does m settings now c a).answer ≡ true) e h))

pub policy_accepted : {S : Type 0} (m : Meaning S) (settings : Settings) (now : Moment S) (c : Command) (byte policy : ℕ) (entries : List (List ScalarMeaning)) → action_of c ≡ Actions.SetRequest byte policy entries → is_data (effect m settings now c).answer ≡ true → policy ≤ POLICY_ALL
policy_accepted m settings now c byte policy entries e h = policy-by m settings now c byte policy entries (is_answered settings.profile c) e h

-- ---- what is reported

policies-passing : (p : Request → Bool) (rs : List Request) → HavePolicies (all_asked rs) → HavePolicies (all_asked (filter p rs))
policies-passing p [] h = tt
policies-passing p (r ∷ rs) h = elim (p r) as (λ b. HavePolicies (all_asked (cond b (r ∷ filter p rs) (filter p rs)))) [ true ↦ (h.0, policies-passing p rs h.1) | false ↦ policies-passing p rs h.1 ]

greatest-policy : (rs : List Request) → HavePolicies (all_asked rs) → greatest_policy rs ≤ POLICY_ALL
greatest-policy [] h = omega arith
greatest-policy (r ∷ rs) h = let a : r.asked.policy ≤ POLICY_ALL = h.0 in let b : greatest_policy rs ≤ POLICY_ALL = greatest-policy rs h.1 in omega arith

all-of-thread : (h : HappeningMeaning) (rs : List Request) → AllByRecursion (λ (event : List ScalarMeaning). event_thread event ≡ Some h.thread) (map (event_for h) rs)
all-of-thread h [] = tt
all-of-thread h (r ∷ rs) = (refl, all-of-thread h rs)

report-by : (h : HappeningMeaning) (rs : List Request) → HavePolicies (all_asked rs) → IfSome (composite_by h rs) IsReport
report-by h [] p = tt
report-by h (r ∷ rs) p = record { thread = h.thread; policy = greatest-policy (r ∷ rs) p; some_event = omega arith; one_thread = all-of-thread h (r ∷ rs) }

gathered-report : (h : HappeningMeaning) (rs : List Request) → HavePolicies (all_asked rs) → IfSome (gathered h rs) IsReport
gathered-report h rs p = report-by h (passing h rs) (policies-passing (passes h) rs p)

-- what holds of all that is gathered holds of what a step sends
death-sends : {S : Type 0} (P : CompositeMeaning → Type 0) (m : Meaning S) (s : S) (t : ℕ) (h : HappeningMeaning) (state : State) (o : Option CompositeMeaning) → IfSome o P → IfSome (death_by m s t h state o).sends P
death-sends P m s t h state None r = r
death-sends P m s t h state (Some c) r = r

report-sends : {S : Type 0} (P : CompositeMeaning → Type 0) (m : Meaning S) (s : S) (t : ℕ) (h : HappeningMeaning) (state : State) (o : Option CompositeMeaning) → IfSome o P → IfSome (report_by m s t h state o).sends P
report-sends P m s t h state None r = r
report-sends P m s t h state (Some c) r = r

happens-sends : {S : Type 0} (P : CompositeMeaning → Type 0) (m : Meaning S) (now : Moment S) (t : ℕ) (h : HappeningMeaning) (b : Bool) → IfSome (gathered h now.state.requests) P → IfSome (happens m now t h b).sends P
happens-sends P m now t h true g = death-sends P m now.machine t h now.state _ g
happens-sends P m now t h false g = report-sends P m now.machine t h now.state _ g

occurs-sends : {S : Type 0} (P : CompositeMeaning → Type 0) (m : Meaning S) (now : Moment S) (t : ℕ) (b : Bool) → IfSome (gathered (m.next now.machine t) now.state.requests) P → IfSome (occurs_by m now t b).sends P
occurs-sends P m now t true g = tt
occurs-sends P m now t false g = happens-sends P m now t (m.next now.machine t) (runs_out (m.next now.machine t)) g

pub step_sends : {S : Type 0} (P : CompositeMeaning → Type 0) (m : Meaning S) (now : Moment S) (t : ℕ) → IfSome (gathered (m.next now.machine t) now.state.requests) P → IfSome (occurs m now t).sends P
step_sends P m now t g = occurs-sends P m now t (is_marked now.state t) g

pub step_reports : {S : Type 0} (m : Meaning S) (now : Moment S) (t : ℕ) (c : CompositeMeaning) → HavePolicies (all_asked now.state.requests) → (occurs m now t).sends ≡ Some c → IsReport c
step_reports m now t c p e = subst (λ (o : Option CompositeMeaning). IfSome o IsReport) e (step_sends IsReport m now t (gathered-report (m.next now.machine t) now.state.requests p))
