-- what the code keeps stays at Set and at Exit
use Rattle.jdwp_wire.specs.Numbers.{greatest_int}
use Rattle.std.proofs.Common.{◌≡◌, ◌≤◌, ◌<◌, ◌+◌, ℕ, Bool, true, false, ◌||◌, Option, Some, None, List, [], ◌∷◌, ◌++◌, length, drop, get_or, zero, suc, refl, sym, ◌∙◌, ap, subst, arith}
use Rattle.std.specs.Prelude.{nat_le, nat_lt}
use Rattle.std.proofs.lemmas.Bool.{eq-eqb}
use Rattle.std.proofs.lemmas.Bool.Decides.{nat_tests}
use Rattle.std.proofs.lemmas.List.{length-append}
use Rattle.jdwp_wire.specs.declared.error_code.ErrorCode.{ErrorCode}
use Rattle.jdwp_wire.specs.ErrorCodes.{ILLEGAL_ARGUMENT}
use Rattle.jdwp_layout.specs.declared.answer.Answer.TheVariants.{Error}
use Rattle.jdwp_event.specs.Composites.{POLICY_ALL}
use Rattle.jdwp_layout.specs.Meanings.{ScalarMeaning}
use Rattle.jdwp_event.specs.Modifiers.{ModifierMeaning, modifiers_of}
use Rattle.jdwp_event.specs.Requests.{Request, all_asked, new_request}
use Rattle.jdwp_event.specs.RequestLists.{placed}
use Rattle.jdwp_machine.specs.Meanings.{Meaning, has, numbers}
use Rattle.jdwp_machine.specs.Laws.{IsLawful, AreDistinct}
use Rattle.jdwp_action.specs.Actions
use Rattle.jdwp_debuggee.specs.Answers.{int_answer}
use Rattle.jdwp_debuggee.specs.Debuggees.{CarriesOut, Debuggee, IsKept, at_moment, visiting}
use Rattle.jdwp_debuggee.specs.Effects.{all_ended, asked, first_origin, set_by, step_thread}
use Rattle.jdwp_debuggee.specs.Facts.{AreBelow}
use Rattle.jdwp_debuggee.specs.Refusals.{LAST_REQUEST, kind_refusal, or_else, room_refusal, set_refusal, unless}
use Rattle.jdwp_debuggee.specs.Settings.{Settings}
use Rattle.jdwp_debuggee.specs.State.{Moment, dead}
use Rattle.jdwp_debuggee.specs.Wants.{early_refusal, late_refusal}
use Rattle.jdwp_debuggee.proofs.Commands.{does_all, set-sound}
use Rattle.jdwp_value.specs.declared.id.ObjectId.{ObjectId}
use Rattle.jdwp_debuggee.proofs.Distinct.{distinct-none}
use Rattle.jdwp_debuggee.proofs.Ends.{distinct-tail, tail-live}
use Rattle.jdwp_debuggee.proofs.Kept.{any}
use Rattle.jdwp_debuggee.proofs.Small.{and-left, and-right}

-- ---- Set

-- a request above all others stands at the end
pub placed-last : (r : Request) (rs : List Request) → AreBelow r.asked.id (all_asked rs) → placed r rs ≡ rs ++ r ∷ []
placed-last r [] b = refl
placed-last r (x ∷ xs) b =
    let l : x.asked.id < r.asked.id = b.0 in
    let e : nat_lt x.asked.id r.asked.id ≡ true = grind (arith, nat_tests) in
    rw e (ap (λ (l : List Request). x ∷ l) (placed-last r xs b.1))

second-none : (a b : Option ErrorCode) → or_else a b ≡ None → b ≡ None
second-none None b h = h
second-none (Some e) b h = absurd (cc)

first-none : (a b : Option ErrorCode) → or_else a b ≡ None → a ≡ None
first-none None b h = refl
first-none (Some e) b h = absurd (cc)

unless-none : (b : Bool) (e : ErrorCode) → unless b e ≡ None → b ≡ true
unless-none true e h = refl
unless-none false e h = absurd (cc)

-- a request that is not refused has room, and an id
pub set-few : {S : Type 0} (m : Meaning S) (settings : Settings) (now : Moment S) (byte policy : ℕ) (modifiers : List ModifierMeaning) → set_refusal m settings now byte policy modifiers ≡ None → length now.state.requests + 1 ≤ settings.limits.requests
set-few m settings now byte policy modifiers h =
    let a = second-none (kind_refusal settings.profile byte) _ h in
    let b = second-none _ _ a in
    let c = first-none (room_refusal settings now.state) _ b in
    let d : nat_lt (length now.state.requests) settings.limits.requests ≡ true = and-left (nat_lt (length now.state.requests) settings.limits.requests) _ (unless-none _ _ c) in
    grind (arith, nat_tests)

pub set-room : {S : Type 0} (m : Meaning S) (settings : Settings) (now : Moment S) (byte policy : ℕ) (modifiers : List ModifierMeaning) → set_refusal m settings now byte policy modifiers ≡ None → now.state.next_request ≤ greatest_int
set-room m settings now byte policy modifiers h =
    let a = second-none (kind_refusal settings.profile byte) _ h in
    let b = second-none _ _ a in
    let c = first-none (room_refusal settings now.state) _ b in
    let d : nat_le now.state.next_request LAST_REQUEST ≡ true = and-right (nat_lt (length now.state.requests) settings.limits.requests) _ (unless-none _ _ c) in
    grind (arith, nat_tests)

-- the request that a Set makes
abbrev pub made : {S : Type 0} → Meaning S → Moment S → ℕ → ℕ → List ModifierMeaning → Request
made m now byte policy modifiers = new_request (asked now.state byte policy modifiers) (first_origin m now.machine (step_thread modifiers))

pub kept-set : {S : Type 0} (m : Meaning S) (d : Debuggee S) (byte policy : ℕ) (modifiers : List ModifierMeaning) → IsKept m d → set_refusal m d.settings d.moment byte policy modifiers ≡ None → IsKept m (at_moment (set_by m d.moment byte policy modifiers None).after d)
kept-set m d byte policy modifiers k h =
    let room : d.moment.state.next_request ≤ greatest_int = set-room m d.settings d.moment byte policy modifiers h in
    record {
      sound = set-sound m d.settings d.moment byte policy modifiers k.sound;
      distinct = k.distinct;
      quiet = k.quiet;
      limit = k.limit;
      next = omega arith;
      limits = k.limits;
      room =
          let few = set-few m d.settings d.moment byte policy modifiers h in
          let more = length-append d.moment.state.requests (made m d.moment byte policy modifiers ∷ []) in
          omega (arith, few, more);
    }

placed-made : {S : Type 0} (m : Meaning S) (d : Debuggee S) (byte policy : ℕ) (modifiers : List ModifierMeaning) (r : Request) → IsKept m d → r ≡ made m d.moment byte policy modifiers → placed r d.moment.state.requests ≡ d.moment.state.requests ++ made m d.moment byte policy modifiers ∷ []
placed-made m d byte policy modifiers r k e =
    ap (λ x. placed x d.moment.state.requests) e ∙ placed-last (made m d.moment byte policy modifiers) d.moment.state.requests k.sound.below

abbrev pub set_fields : {S : Type 0} → Debuggee S → List Request → Debuggee S
set_fields d rs = at_moment (record { state = record d.moment.state { requests = rs; next_request = d.moment.state.next_request + 1 }; machine = d.moment.machine }) d

pub kept-set-by : {S : Type 0} (m : Meaning S) (d : Debuggee S) (byte policy : ℕ) (modifiers : List ModifierMeaning) (r : Request) → IsKept m d → set_refusal m d.settings d.moment byte policy modifiers ≡ None → r ≡ made m d.moment byte policy modifiers → IsKept m (set_fields d (placed r d.moment.state.requests))
kept-set-by m d byte policy modifiers r k h e =
    subst (λ (rs : List Request). IsKept m (set_fields d rs)) (sym (placed-made m d byte policy modifiers r k e)) (kept-set m d byte policy modifiers k h)

pub carries-set : {S : Type 0} (m : Meaning S) (d : Debuggee S) (byte policy : ℕ) (modifiers : List ModifierMeaning) (r : Request) → IsKept m (visiting 0 d) → set_refusal m d.settings d.moment byte policy modifiers ≡ None → r ≡ made m d.moment byte policy modifiers
    → (entries : List (List ScalarMeaning)) → modifiers ≡ modifiers_of entries → CarriesOut m (Actions.SetRequest byte policy entries) d (set_fields d (placed r d.moment.state.requests)) (int_answer d.moment.state.next_request)
carries-set m d byte policy modifiers r k h e entries are =
    let unrefused = rw are at h in
    let is = rw are at e in
    record {
      after = λ c. ap (λ (rs : List Request). set_fields d rs) (placed-made m (visiting 0 d) byte policy (modifiers_of entries) r k is) ∙ ap (λ v. at_moment (set_by m d.moment byte policy (modifiers_of entries) v).after d) (sym unrefused);
      answers = λ c. ap (λ v. (set_by m d.moment byte policy (modifiers_of entries) v).answer) (sym unrefused);
    }

-- a request that is refused behind its kind, its policy and room changes nothing
late-is : (a b c late : Option ErrorCode) → or_else a (or_else b c) ≡ None → or_else a (or_else b (or_else c late)) ≡ late
late-is None None None late h = refl
late-is None None (Some x) late h = absurd (cc)
late-is None (Some x) c late h = absurd (cc)
late-is (Some x) b c late h = absurd (cc)

pub carries-refused : {S : Type 0} (m : Meaning S) (d : Debuggee S) (byte policy : ℕ) (modifiers : List ModifierMeaning) (e : ErrorCode) → early_refusal d.settings d.moment.state byte policy ≡ None → Some e ≡ late_refusal m d.moment byte modifiers
    → (entries : List (List ScalarMeaning)) → modifiers ≡ modifiers_of entries → CarriesOut m (Actions.SetRequest byte policy entries) d d (Error e)
carries-refused m d byte policy modifiers e early late entries are =
    let told : Some e ≡ late_refusal m d.moment byte (modifiers_of entries) = rw are at late in
    let refused : set_refusal m d.settings d.moment byte policy (modifiers_of entries) ≡ Some e =
    late-is (kind_refusal d.settings.profile byte) (unless (nat_le policy POLICY_ALL) ILLEGAL_ARGUMENT) (room_refusal d.settings d.moment.state) (late_refusal m d.moment byte (modifiers_of entries)) early ∙ sym told in
    record {
      after = λ c. ap (λ v. at_moment (set_by m d.moment byte policy (modifiers_of entries) v).after d) (sym refused);
      answers = λ c. ap (λ v. (set_by m d.moment byte policy (modifiers_of entries) v).answer) (sym refused);
    }

-- a request that is refused neither before its modifiers are looked at nor later
pub set-unrefused : {S : Type 0} (m : Meaning S) (d : Debuggee S) (byte policy : ℕ) (modifiers : List ModifierMeaning) → early_refusal d.settings d.moment.state byte policy ≡ None → None ≡ late_refusal m d.moment byte modifiers
    → set_refusal m d.settings d.moment byte policy modifiers ≡ None
set-unrefused m d byte policy modifiers early late =
    late-is (kind_refusal d.settings.profile byte) (unless (nat_le policy POLICY_ALL) ILLEGAL_ARGUMENT) (room_refusal d.settings d.moment.state) (late_refusal m d.moment byte modifiers) early ∙ sym late

-- ---- Exit

pub kept-dead : {S : Type 0} (m : Meaning S) → IsLawful m → (d : Debuggee S) → IsKept m d → IsKept m (at_moment (record { state = dead d.moment.state; machine = all_ended m d.moment.machine (m.live d.moment.machine) }) d)
kept-dead m law d k = record {
  sound = (does_all m law d.settings d.moment any Actions.Exit k.sound).sound;
  distinct = distinct-none;
  quiet = λ _ t n h. absurd (cc);
  limit = k.limit;
  next = k.next;
  limits = k.limits;
  room = omega arith;
}

-- ---- threads that end one after the other

pub record IsEnding {S : Type 0} (m : Meaning S) (first now : S) (all left : List ℕ) : Type 0 where
  pub same : all_ended m now left ≡ all_ended m first all
  pub state : m.is_state now
  pub distinct : AreDistinct left
  pub live : (u : ℕ) → has left u ≡ true → has (m.live now) u ≡ true

pub ending-start : {S : Type 0} (m : Meaning S) → IsLawful m → (s : S) (all : List ℕ) → m.is_state s → all ≡ m.live s → IsEnding m s s all all
ending-start m law s all st e = record {
  same = refl;
  state = st;
  distinct = subst AreDistinct (sym e) (law.live_distinct s st);
  live = λ u h. ap (λ l. has l u) (sym e) ∙ h;
}

pub ending-live : {S : Type 0} (m : Meaning S) (first now : S) (all left : List ℕ) (t : ℕ) (ts : List ℕ) → IsEnding m first now all left → left ≡ t ∷ ts → has (m.live now) t ≡ true
ending-live m first now all left t ts e p = e.live t (ap (λ l. has l t) p ∙ ap (λ b. b || has ts t) (eq-eqb t t refl))

pub ending-step : {S : Type 0} (m : Meaning S) → IsLawful m → (first now : S) (all left : List ℕ) (t : ℕ) (ts : List ℕ) → IsEnding m first now all left → left ≡ t ∷ ts → IsEnding m first (m.ended now t) all ts
ending-step m law first now all left t ts e p =
    let distinct : AreDistinct (t ∷ ts) = subst AreDistinct p e.distinct in
    let live : (u : ℕ) → has (t ∷ ts) u ≡ true → has (m.live now) u ≡ true = λ u h. e.live u (ap (λ l. has l u) p ∙ h) in
    record {
      same = sym (ap (λ l. all_ended m now l) p) ∙ e.same;
      state = law.state_ended now t (e.state, ending-live m first now all left t ts e p);
      distinct = distinct-tail t ts distinct;
      live = tail-live m law now t ts e.state distinct live;
    }

pub numbers-drop : (ids : List ObjectId) (i : ℕ) (d : ObjectId) → i < length ids → numbers (drop i ids) ≡ (get_or ids i d).0 ∷ numbers (drop (suc i) ids)
numbers-drop [] i d h = absurd (omega arith)
numbers-drop (x ∷ xs) zero d h = refl
numbers-drop (x ∷ xs) (suc i) d h = numbers-drop xs i d (omega arith)
