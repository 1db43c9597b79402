use Rattle.std.proofs.Common.{◌≡◌, ◌==◌, ◌&&◌, not, Bool, true, false, Some, None, refl, ap}
use Rattle.jdwp_machine.specs.Meanings.{Meaning}
use Rattle.jdwp_debuggee.specs.Settings.{Settings}
use Rattle.jdwp_debuggee.specs.State.{Moment, count_of, at_limit}
use Rattle.jdwp_action.specs.Actions
use Rattle.jdwp_debuggee.specs.Answering.{is_answered}
use Rattle.jdwp_action.specs.Actions.{Command, Action, action_of}
use Rattle.jdwp_debuggee.specs.Refusals.{set_refusal}
use Rattle.jdwp_event.specs.Modifiers.{modifiers_of}
use Rattle.jdwp_debuggee.specs.Answers.{query_of}
use Rattle.jdwp_debuggee.specs.Effects.{asks_by, effect, effect_by, does, suspend_by, suspend_thread_by, suspend_thread_at, resume_thread_by, slots_by, slots_at, set_by}
use Rattle.jdwp_debuggee.specs.Breadth.{is_plain, keeps_machine, leaves_machine}
use Rattle.jdwp_debuggee.specs.Strings.{makes_string}

plain_does : {S : Type 0} (m : Meaning S) (settings : Settings) (now : Moment S) (c : Command) (a : Action) → is_plain a ≡ true → (does m settings now c a).after.state ≡ now.state
plain_does m settings now c (Actions.SuspendCount t) h = refl
plain_does m settings now c (Actions.ThreadStatus t) h = refl
plain_does m settings now c (Actions.SetSlots t f values) h =
    elim (count_of now.state t) as (λ v. (slots_by m now t f values v).after.state ≡ now.state) [
      | None ↦ refl
      | Some n ↦ elim (n == 0) as (λ b. (slots_at m now t f values b).after.state ≡ now.state) [ true ↦ refl | false ↦ refl ]
    ]
plain_does m settings now c (Actions.AskFrames t) h = refl
plain_does m settings now c (Actions.AskThread t) h = refl
plain_does m settings now c Actions.AllThreads h = refl
plain_does m settings now c Actions.IdSizes h = refl
plain_does m settings now c Actions.Ask h = elim (makes_string (query_of c)) as (λ b. (asks_by m settings now c b).after.state ≡ now.state) [ true ↦ refl | false ↦ refl ]
plain_does m settings now c Actions.Suspend h = absurd (cc)
plain_does m settings now c Actions.Resume h = absurd (cc)
plain_does m settings now c Actions.Dispose h = absurd (cc)
plain_does m settings now c Actions.Exit h = absurd (cc)
plain_does m settings now c Actions.HoldEvents h = absurd (cc)
plain_does m settings now c Actions.ReleaseEvents h = absurd (cc)
plain_does m settings now c (Actions.SetRequest byte policy entries) h = absurd (cc)
plain_does m settings now c (Actions.ClearRequest byte id) h = absurd (cc)
plain_does m settings now c Actions.ClearBreakpoints h = absurd (cc)
plain_does m settings now c (Actions.SuspendThread t) h = absurd (cc)
plain_does m settings now c (Actions.ResumeThread t) h = absurd (cc)

pub plain_effect : {S : Type 0} (m : Meaning S) (settings : Settings) (now : Moment S) (c : Command) → is_plain (action_of c) ≡ true → (effect m settings now c).after.state ≡ now.state
plain_effect m settings now c h = elim (is_answered settings.profile c) as (λ b. (effect_by m settings now c b).after.state ≡ now.state) [ true ↦ plain_does m settings now c (action_of c) h | false ↦ refl ]

kept_does : {S : Type 0} (m : Meaning S) (settings : Settings) (now : Moment S) (c : Command) (a : Action) → makes_string (query_of c) ≡ false → leaves_machine a ≡ true → (does m settings now c a).after.machine ≡ now.machine
kept_does m settings now c (Actions.SuspendCount t) off h = refl
kept_does m settings now c (Actions.ThreadStatus t) off h = refl
kept_does m settings now c (Actions.SetSlots t f values) off h = absurd (cc)
kept_does m settings now c (Actions.AskFrames t) off h = refl
kept_does m settings now c (Actions.AskThread t) off h = refl
kept_does m settings now c Actions.AllThreads off h = refl
kept_does m settings now c Actions.IdSizes off h = refl
kept_does m settings now c Actions.Ask off h = ap (λ b. (asks_by m settings now c b).after.machine) off
kept_does m settings now c Actions.Suspend off h = elim (at_limit settings.count_limit now.state) as (λ b. (suspend_by now b).after.machine ≡ now.machine) [ true ↦ refl | false ↦ refl ]
kept_does m settings now c Actions.Resume off h = refl
kept_does m settings now c Actions.Dispose off h = refl
kept_does m settings now c Actions.Exit off h = absurd (cc)
kept_does m settings now c Actions.HoldEvents off h = refl
kept_does m settings now c Actions.ReleaseEvents off h = refl
kept_does m settings now c (Actions.SetRequest byte policy entries) off h =
    elim (set_refusal m settings now byte policy (modifiers_of entries)) as (λ v. (set_by m now byte policy (modifiers_of entries) v).after.machine ≡ now.machine) [ None ↦ refl | Some e ↦ refl ]
kept_does m settings now c (Actions.ClearRequest byte id) off h = refl
kept_does m settings now c Actions.ClearBreakpoints off h = refl
kept_does m settings now c (Actions.SuspendThread t) off h =
    elim (count_of now.state t) as (λ v. (suspend_thread_by settings now t v).after.machine ≡ now.machine) [
      | None ↦ refl
      | Some n ↦ elim (n == settings.count_limit) as (λ b. (suspend_thread_at now t b).after.machine ≡ now.machine) [ true ↦ refl | false ↦ refl ]
    ]
kept_does m settings now c (Actions.ResumeThread t) off h = elim (count_of now.state t) as (λ v. (resume_thread_by now t v).after.machine ≡ now.machine) [ None ↦ refl | Some n ↦ refl ]

both-kept : (made leaves : Bool) → (not made && leaves) ≡ true → (made ≡ false) × (leaves ≡ true)
both-kept true leaves h = absurd (cc)
both-kept false leaves h = (refl, h)

pub kept_effect : {S : Type 0} (m : Meaning S) (settings : Settings) (now : Moment S) (c : Command) → keeps_machine c ≡ true → (effect m settings now c).after.machine ≡ now.machine
kept_effect m settings now c h =
    let parts = both-kept (makes_string (query_of c)) (leaves_machine (action_of c)) h in
    elim (is_answered settings.profile c) as (λ b. (effect_by m settings now c b).after.machine ≡ now.machine) [ true ↦ kept_does m settings now c (action_of c) parts.0 parts.1 | false ↦ refl ]
