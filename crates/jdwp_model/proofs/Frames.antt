-- what commands and steps leave of what is answered of a suspended thread's frames
use Rattle.std.proofs.Common.{◌≡◌, ◌≢◌, ℕ, zero, suc, ◌==◌, ◌<◌, Bool, true, false, ◌||◌, ◌&&◌, not, cond, if◌then◌else◌, Option, Some, None, List, [], ◌∷◌, refl, sym, ◌∙◌, ap, subst, arith, is_some}
use Rattle.std.proofs.lemmas.Bool.{eqb-true, eq-eqb, false_from_ne_true}
use Rattle.jdwp_wire.specs.ErrorCodes.{THREAD_NOT_SUSPENDED}
use Rattle.jdwp_layout.specs.declared.answer.Answer.TheVariants.{Data, Error}
use Rattle.jdwp_layout.specs.CommandNumbers.{CommandNumber, is_command, FRAMES, FRAME_COUNT, GET_SLOTS, THIS_OBJECT, CREATE_STRING}
use Rattle.jdwp_layout.specs.Meanings as meaning
use Rattle.jdwp_layout.specs.Meanings.{Object, DatumMeaning, One}
use Rattle.jdwp_event.specs.Composites.{CompositeMeaning, gathered}
use Rattle.jdwp_event.specs.Occurrences.{HappeningMeaning, runs_out}
use Rattle.jdwp_machine.specs.declared.query.Query.{Query}
use Rattle.jdwp_layout.specs.Invocations.{is_invocation}
use Rattle.jdwp_machine.specs.Meanings.{Meaning, has}
use Rattle.jdwp_machine.specs.Laws.{IsLawful, asks_frames, begins_with}
use Rattle.jdwp_debuggee.specs.Settings.{Settings}
use Rattle.jdwp_debuggee.specs.State.{State, Moment, count_of, count_or_zero, or_zero, is_marked}
use Rattle.jdwp_action.specs.Actions
use Rattle.jdwp_debuggee.specs.Answering.{is_answered}
use Rattle.jdwp_action.specs.Actions.{Carried, Content, Raw, Command, Action, action_of, action_by, first_object, object_in}
use Rattle.jdwp_debuggee.specs.Answers.{query_of, content_of, bounded}
use Rattle.jdwp_debuggee.specs.Effects.{asks_by, effect, effect_by, does, slots_by, slots_at, answer_frames}
use Rattle.jdwp_debuggee.specs.Breadth.{keeps_machine, leaves_machine}
use Rattle.jdwp_debuggee.specs.Strings.{makes_string, text_in}
use Rattle.jdwp_debuggee.specs.Steps.{occurs, occurs_by, may_step, happens, ends, thread_ended, with_happening, death_by, report_by}
use Rattle.jdwp_debuggee.specs.Facts.{IsSound}
use Rattle.jdwp_model.specs.Lasting.{asks_frames_of, writes_by, writes}
use Rattle.jdwp_model.specs.Rests.{Rests}
use Rattle.jdwp_model.proofs.Session.{and-left, and-right}

-- what is answered of a thread's frames is the same in two states of a machine
abbrev pub SameFrames : {S : Type 0} → Meaning S → ℕ → S → S → Type 0
SameFrames {S} m t a b = (m.sizes b ≡ m.sizes a) × ((q : Query) → asks_frames q t ≡ true → m.query b q ≡ m.query a q)

pub frames_refl : {S : Type 0} (m : Meaning S) (t : ℕ) (a b : S) → b ≡ a → SameFrames m t a b
frames_refl m t a b e = (ap m.sizes e, λ q _. ap (λ s. m.query s q) e)

pub frames_trans : {S : Type 0} (m : Meaning S) (t : ℕ) (a b c : S) → SameFrames m t a b → SameFrames m t b c → SameFrames m t a c
frames_trans m t a b c f g = (g.0 ∙ f.0, λ q h. g.1 q h ∙ f.1 q h)

-- ---- which commands ask

first-is : (items : List DatumMeaning) (t : ℕ) → begins_with items t ≡ true → first_object items ≡ Some t
first-is (One (Object n) ∷ items) t h = ap Some (eqb-true n t h)
first-is items t h = absurd (cc)

raw-begins : (b : Bool) (bytes : List ℕ) (t : ℕ) → begins_with (if b then meaning.Raw bytes ∷ [] else []) t ≡ true → ⊥
raw-begins true bytes t h = absurd (cc)
raw-begins false bytes t h = absurd (cc)

object-is : (set number : ℕ) (x : Carried) (t : ℕ) → begins_with (content_of set number x) t ≡ true → object_in x ≡ Some t
object-is set number (Content items) t h = first-is items t h
object-is set number (Raw bytes) t h = absurd (raw-begins (is_invocation set number) bytes t h)

which : (a f g h s : Bool) → ((a && (f || (g || h))) || (a && s)) ≡ true → (a ≡ true) × ((f || (g || (h || s))) ≡ true)
which true true g h s e = (refl, refl)
which true false true h s e = (refl, refl)
which true false false true s e = (refl, refl)
which true false false false s e = (refl, e)
which false f g h s e = absurd (cc)

numbered : (c : Command) (x : CommandNumber) → is_command x c.set c.number ≡ true → c ≡ record { set = x.set; number = x.number; carried = c.carried }
numbered c x h =
    let e : c.set ≡ x.set = eqb-true _ _ (and-left _ _ h) in
    let f : c.number ≡ x.number = eqb-true _ _ (and-right (c.set == x.set) _ h) in
    ap (λ n. record { set = n; number = c.number; carried = c.carried }) e ∙ ap (λ n. record { set = x.set; number = n; carried = c.carried }) f

asks-by : (c : Command) (t : ℕ) (b : Bool) (x : CommandNumber) → is_command x c.set c.number ≡ b → object_in c.carried ≡ Some t → ((y : Carried) → object_in y ≡ Some t → action_of (record { set = x.set; number = x.number; carried = y }) ≡ Actions.AskFrames t) → (b ≡ false → action_of c ≡ Actions.AskFrames t) → action_of c ≡ Actions.AskFrames t
asks-by c t true x e o f g = ap action_of (numbered c x e) ∙ f c.carried o
asks-by c t false x e o f g = g refl

pub frames_action : (c : Command) (t : ℕ) → asks_frames_of c t ≡ true → action_of c ≡ Actions.AskFrames t
frames_action c t h =
    let w = which (begins_with (content_of c.set c.number c.carried) t) (is_command FRAMES c.set c.number) (is_command FRAME_COUNT c.set c.number) (is_command THIS_OBJECT c.set c.number) (is_command GET_SLOTS c.set c.number) h in
    let o : object_in c.carried ≡ Some t = object-is c.set c.number c.carried t w.0 in
    asks-by c t _ FRAMES refl o (λ y p. ap (λ v. action_by v (record { set = FRAMES.set; number = FRAMES.number; carried = y })) p) (λ n0.
    asks-by c t _ FRAME_COUNT refl o (λ y p. ap (λ v. action_by v (record { set = FRAME_COUNT.set; number = FRAME_COUNT.number; carried = y })) p) (λ n1.
    asks-by c t _ THIS_OBJECT refl o (λ y p. ap (λ v. action_by v (record { set = THIS_OBJECT.set; number = THIS_OBJECT.number; carried = y })) p) (λ n2.
    asks-by c t _ GET_SLOTS refl o (λ y p. ap (λ v. action_by v (record { set = GET_SLOTS.set; number = GET_SLOTS.number; carried = y })) p) (λ n3.
    let x : (is_command FRAMES c.set c.number || (is_command FRAME_COUNT c.set c.number || (is_command THIS_OBJECT c.set c.number || is_command GET_SLOTS c.set c.number))) ≡ true = w.1 in
    let y : false ≡ true = sym (ap (λ b. b || (is_command FRAME_COUNT c.set c.number || (is_command THIS_OBJECT c.set c.number || is_command GET_SLOTS c.set c.number))) n0 ∙ (ap (λ b. b || (is_command THIS_OBJECT c.set c.number || is_command GET_SLOTS c.set c.number)) n1 ∙ (ap (λ b. b || is_command GET_SLOTS c.set c.number) n2 ∙ n3))) ∙ x in
    absurd (cc)))))

-- ---- what they are answered

-- nothing changes
pub frames_after : {S : Type 0} (m : Meaning S) (settings : Settings) (now : Moment S) (c : Command) (t : ℕ) → action_of c ≡ Actions.AskFrames t → (effect m settings now c).after ≡ now
frames_after m settings now c t e =
    elim (is_answered settings.profile c) as (λ b. (effect_by m settings now c b).after ≡ now) [
      | true ↦ subst (λ a. (does m settings now c a).after ≡ now) (sym e) refl
      | false ↦ refl
    ]

not-zero : (n : ℕ) → 0 < n → (n == 0) ≡ false
not-zero n h = false_from_ne_true (n == 0) (λ e. let x : n ≡ 0 = eqb-true n 0 e in absurd (omega arith))

suspended-answer : {S : Type 0} (m : Meaning S) (settings : Settings) (now : Moment S) (c : Command) (v : Option ℕ) → 0 < or_zero v → answer_frames m settings now c v ≡ bounded settings (m.sizes now.machine) (m.query now.machine (query_of c))
suspended-answer m settings now c None h = absurd (omega arith)
suspended-answer m settings now c (Some n) h =
    ap (λ b. bounded settings (m.sizes now.machine) (cond b (Error THREAD_NOT_SUSPENDED) (m.query now.machine (query_of c)))) (not-zero n h)

pub frames_same : {S : Type 0} (m : Meaning S) (settings : Settings) (a b : Moment S) (c : Command) (t : ℕ) → asks_frames_of c t ≡ true → 0 < count_or_zero a.state t → 0 < count_or_zero b.state t → SameFrames m t a.machine b.machine → (effect m settings b c).answer ≡ (effect m settings a c).answer
frames_same m settings a b c t h p q f =
    let e = frames_action c t h in
    elim (is_answered settings.profile c) as (λ i. (effect_by m settings b c i).answer ≡ (effect_by m settings a c i).answer) [
      | true ↦ subst (λ x. (does m settings b c x).answer ≡ (does m settings a c x).answer) (sym e)
          (suspended-answer m settings b c (count_of b.state t) q
          ∙ (ap (λ w. bounded settings w (m.query b.machine (query_of c))) f.0
          ∙ (ap (λ x. bounded settings (m.sizes a.machine) x) (f.1 (query_of c) h)
          ∙ sym (suspended-answer m settings a c (count_of a.state t) p))))
      | false ↦ refl
    ]

-- data are answered of a suspended thread alone
data-suspended : {S : Type 0} (m : Meaning S) (settings : Settings) (now : Moment S) (c : Command) (content : List DatumMeaning) (v : Option ℕ) → answer_frames m settings now c v ≡ Data content → 0 < or_zero v
data-suspended m settings now c content None h = absurd (cc)
data-suspended m settings now c content (Some zero) h = absurd (cc)
data-suspended m settings now c content (Some (suc n)) h = omega arith

pub frames_suspended : {S : Type 0} (m : Meaning S) (settings : Settings) (now : Moment S) (c : Command) (t : ℕ) (content : List DatumMeaning) → asks_frames_of c t ≡ true → (effect m settings now c).answer ≡ Data content → 0 < count_or_zero now.state t
frames_suspended m settings now c t content h =
    elim (is_answered settings.profile c) as (λ i. (effect_by m settings now c i).answer ≡ Data content → 0 < count_or_zero now.state t) [
      | true ↦ λ e. data-suspended m settings now c content (count_of now.state t) (subst (λ x. (does m settings now c x).answer ≡ Data content) (frames_action c t h) e)
      | false ↦ λ e. absurd (cc)
    ]

-- ---- what other commands leave

other-thread : (u t : ℕ) → (u == t) ≡ false → u ≢ t
other-thread u t h e = let x : (u == t) ≡ true = eq-eqb u t e in absurd (cc)

written-frames : {S : Type 0} (m : Meaning S) → IsLawful m → (settings : Settings) (now : Moment S) (t u f : ℕ) (values : List _) → IsSound m settings now → (u == t) ≡ false → (b : Bool) → SameFrames m t now.machine (slots_at m now u f values b).after.machine
written-frames m law settings now t u f values s w true = frames_refl m t now.machine now.machine refl
written-frames m law settings now t u f values s w false =
    (law.sizes_written now.machine u f values s.state, λ q h. law.frames_written now.machine u f t values q s.state (other-thread u t w) h)

-- a string that is made leaves frames
asked-frames : {S : Type 0} (m : Meaning S) → IsLawful m → (settings : Settings) (now : Moment S) (c : Command) (t : ℕ) → IsSound m settings now → (b : Bool) → SameFrames m t now.machine (asks_by m settings now c b).after.machine
asked-frames m law settings now c t s true =
    (law.sizes_made now.machine (text_in (query_of c).content) s.state, λ q h. law.frames_made now.machine (text_in (query_of c).content) t q s.state h)
asked-frames m law settings now c t s false = frames_refl m t now.machine now.machine refl

-- a command that makes a string asks
string-asks : (c : Command) → makes_string (query_of c) ≡ true → action_of c ≡ Actions.Ask
string-asks c h =
    rw (eqb-true c.set CREATE_STRING.set (and-left (c.set == CREATE_STRING.set) (c.number == CREATE_STRING.number) h), eqb-true c.number CREATE_STRING.number (and-right (c.set == CREATE_STRING.set) (c.number == CREATE_STRING.number) h)) refl

kept-frames : {S : Type 0} (m : Meaning S) → Rests m → (settings : Settings) (now : Moment S) (c : Command) (t : ℕ) (a : Action) (made : Bool) → makes_string (query_of c) ≡ made → action_of c ≡ a → leaves_machine a ≡ true → (Actions.Ask ≡ a → ⊥)
    → SameFrames m t now.machine (effect m settings now c).after.machine
kept-frames m rests settings now c t a true on e leaves other = absurd (other (sym (string-asks c on) ∙ e))
kept-frames m rests settings now c t a false off e leaves other =
    let kept : keeps_machine c ≡ true = ap (λ (b : Bool). not b && leaves_machine (action_of c)) off ∙ subst (λ x. leaves_machine x ≡ true) (sym e) leaves in
    frames_refl m t now.machine (effect m settings now c).after.machine (rests.machine settings now c kept)

effect-by : {S : Type 0} (m : Meaning S) → Rests m → (settings : Settings) (now : Moment S) (c : Command) (t : ℕ) (a : Action) → IsSound m settings now → action_of c ≡ a → writes_by a t ≡ false → (effect m settings now c).after.state.alive ≡ true → SameFrames m t now.machine (effect m settings now c).after.machine
effect-by m rests settings now c t (Actions.SetSlots u f values) s e w al =
    elim (is_answered settings.profile c) as (λ b. SameFrames m t now.machine (effect_by m settings now c b).after.machine) [
      | true ↦ subst (λ x. SameFrames m t now.machine (does m settings now c x).after.machine) (sym e) (
          elim (count_of now.state u) as (λ v. SameFrames m t now.machine (slots_by m now u f values v).after.machine) [
            | None ↦ frames_refl m t now.machine now.machine refl
            | Some n ↦ written-frames m rests.lawful settings now t u f values s w (n == 0)
          ])
      | false ↦ frames_refl m t now.machine now.machine refl
    ]
effect-by m rests settings now c t Actions.Exit s e w al =
    elim (is_answered settings.profile c) as (λ b. (effect_by m settings now c b).after.state.alive ≡ true → SameFrames m t now.machine (effect_by m settings now c b).after.machine) [
      | true ↦ subst (λ x. (does m settings now c x).after.state.alive ≡ true → SameFrames m t now.machine (does m settings now c x).after.machine) (sym e) (λ x. absurd (cc))
      | false ↦ λ x. frames_refl m t now.machine now.machine refl
    ] al
effect-by m rests settings now c t Actions.Ask s e w al =
    elim (is_answered settings.profile c) as (λ b. SameFrames m t now.machine (effect_by m settings now c b).after.machine) [
      | true ↦ subst (λ x. SameFrames m t now.machine (does m settings now c x).after.machine) (sym e) (asked-frames m rests.lawful settings now c t s (makes_string (query_of c)))
      | false ↦ frames_refl m t now.machine now.machine refl
    ]
effect-by m rests settings now c t a s e w al = kept-frames m rests settings now c t a (makes_string (query_of c)) refl e refl (λ q. absurd (cc))

pub effect_frames : {S : Type 0} (m : Meaning S) → Rests m → (settings : Settings) (now : Moment S) (c : Command) (t : ℕ) → IsSound m settings now → writes c t ≡ false → (effect m settings now c).after.state.alive ≡ true → SameFrames m t now.machine (effect m settings now c).after.machine
effect_frames m rests settings now c t s w al = effect-by m rests settings now c t (action_of c) s refl w al

-- ---- what steps of other threads leave

ends-machine : {S : Type 0} (m : Meaning S) (s : S) (u : ℕ) (p : State × Bool) → (ends m s u p).after.machine ≡ m.ended s u
ends-machine m s u (state, dies) = refl

-- the thread that steps lives, and is not suspended
record Ready {S : Type 0} (m : Meaning S) (now : Moment S) (t : ℕ) : Type 0 where
  pub state : m.is_state now.machine
  pub live : has (m.live now.machine) t ≡ true
  pub count : count_of now.state t ≡ Some 0

ready : {S : Type 0} (m : Meaning S) → Rests m → (settings : Settings) (now : Moment S) (t : ℕ) → IsSound m settings now → may_step m settings now t ≡ true → Ready m now t
ready m rests settings now t s h =
    let count : count_of now.state t ≡ Some 0 = (rests.runs settings now t h).count in
    record { state = s.state; live = s.lives t ∙ ap is_some count; count = count }

ended-frames : {S : Type 0} (m : Meaning S) → IsLawful m → (settings : Settings) (now : Moment S) (u t : ℕ) (p : State × Bool) → Ready m now u → u ≢ t → SameFrames m t now.machine (ends m now.machine u p).after.machine
ended-frames m law settings now u t p r n =
    subst (λ x. SameFrames m t now.machine x) (sym (ends-machine m now.machine u p))
    (law.sizes_ended now.machine u (r.state, r.live), λ q h. law.frames_ended now.machine u t q (r.state, r.live) n h)

death-frames : {S : Type 0} (m : Meaning S) → IsLawful m → (settings : Settings) (now : Moment S) (u t : ℕ) (h : HappeningMeaning) (o : Option CompositeMeaning) → Ready m now u → u ≢ t → SameFrames m t now.machine (death_by m now.machine u h now.state o).after.machine
death-frames m law settings now u t h None r n = ended-frames m law settings now u t (thread_ended u (with_happening h now.state)) r n
death-frames m law settings now u t h (Some c) r n = frames_refl m t now.machine now.machine refl

report-machine : {S : Type 0} (m : Meaning S) (s : S) (u : ℕ) (h : HappeningMeaning) (state : State) (o : Option CompositeMeaning) → (report_by m s u h state o).after.machine ≡ m.stepped s u
report-machine m s u h state None = refl
report-machine m s u h state (Some c) = refl

happens-frames : {S : Type 0} (m : Meaning S) → IsLawful m → (settings : Settings) (now : Moment S) (u t : ℕ) (b : Bool) → Ready m now u → u ≢ t → runs_out (m.next now.machine u) ≡ b → SameFrames m t now.machine (happens m now u (m.next now.machine u) b).after.machine
happens-frames m law settings now u t true r n e = death-frames m law settings now u t (m.next now.machine u) (gathered (m.next now.machine u) now.state.requests) r n
happens-frames m law settings now u t false r n e =
    subst (λ x. SameFrames m t now.machine x) (sym (report-machine m now.machine u (m.next now.machine u) now.state (gathered (m.next now.machine u) now.state.requests)))
    (law.sizes_stepped now.machine u (r.state, r.live, e), λ q h. law.frames_stepped now.machine u t q (r.state, r.live, e) n h)

pub step_frames : {S : Type 0} (m : Meaning S) → Rests m → (settings : Settings) (now : Moment S) (u t : ℕ) → IsSound m settings now → may_step m settings now u ≡ true → 0 < count_or_zero now.state t → SameFrames m t now.machine (occurs m now u).after.machine
step_frames m rests settings now u t s h p =
    let r = ready m rests settings now u s h in
    let n : u ≢ t = λ e. let z : count_or_zero now.state t ≡ 0 = ap (λ x. count_or_zero now.state x) (sym e) ∙ ap or_zero r.count in absurd (omega arith) in
    elim (is_marked now.state u) as (λ b. SameFrames m t now.machine (occurs_by m now u b).after.machine) [
      | true ↦ ended-frames m rests.lawful settings now u t (thread_ended u now.state) r n
      | false ↦ happens-frames m rests.lawful settings now u t (runs_out (m.next now.machine u)) r n refl
    ]
