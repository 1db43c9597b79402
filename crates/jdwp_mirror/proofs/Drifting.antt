-- What moves in a row make.
use Rattle.std.proofs.Common.{inl, inr, ◌≡◌, ℕ, zero, suc, ◌≤◌, ◌<◌, ◌+◌, ◌-◌, min, Bool, true, false, ◌&&◌, List, [], ◌∷◌, ◌++◌, length, get_or, refl, ◌∙◌, ap, sym, subst, Option, Some, None, if◌then◌else◌, arith}
use Rattle.std.specs.Prelude.{nat_le, nat_lt}
use Rattle.std.proofs.lemmas.List.{get_or-map, get_or_append_left, get_or_push, length-map, length_push}
use Rattle.std.proofs.lemmas.Bool.{cases_eq}
use Rattle.std.proofs.lemmas.Bool.Decides.{nat_tests}
use Rattle.jdwp_mirror.specs.declared.drift.Standing.{Standing}
use Rattle.jdwp_mirror.specs.declared.drift.Drift.{Drift}
use Rattle.jdwp_mirror.specs.declared.drift.Rise.{Rise}
use Rattle.jdwp_mirror.specs.declared.moves.Step.{Step}
use Rattle.jdwp_mirror.specs.Drifts.{AreJoined, IsJoined, after, drifted, joined_rise, lowered, no_step, ones_of, rise_after, risen}

-- ---- two in a row

lost-twice : (a b n : ℕ) → n - (a + b) ≡ (n - a) - b
lost-twice a b n = omega arith

held-twice : (a b n : ℕ) (h : Bool) → (nat_lt (a + b) n && h) ≡ (nat_lt b (n - a) && (nat_lt a n && h))
held-twice a b n h = grind (arith, nat_tests)

pub both-fallen : (f g : Drift) (s : Standing) → f.rise ≡ None → drifted (record { lost = f.lost + g.lost; rise = g.rise }) s ≡ drifted g (drifted f s)
both-fallen f g s e =
    rw e (ap (λ (n : ℕ). record { count = risen g.rise n; held = nat_lt (f.lost + g.lost) s.count && s.held }) (lost-twice f.lost g.lost s.count)
    ∙ ap (λ (b : Bool). record { count = risen g.rise ((s.count - f.lost) - g.lost); held = b }) (held-twice f.lost g.lost s.count s.held))

-- where the first rises, and not all that it leaves is lost
fallen-risen : (a least most lost n : ℕ) → min ((n - (a + (lost - least))) + (least - lost)) (most - lost) ≡ min ((n - a) + least) most - lost
fallen-risen a least most lost n = grind (arith, nat_tests)

risen-more : (x y least most : ℕ) → min (x + least) (min (y + least) most) ≡ min (min x y + least) most
risen-more x y least most = grind (arith, nat_tests)

held-risen : (a least most lost n : ℕ) (h : Bool) → lost < most → (nat_lt (a + (lost - least)) n && h) ≡ (nat_lt lost (min ((n - a) + least) most) && (nat_lt a n && h))
held-risen a least most lost n h lt = grind (arith, nat_tests)

count-risen : (r : Rise) (a lost n : ℕ) (next : Option Rise) → risen (Some (rise_after lost r next)) (n - (a + (lost - r.least))) ≡ risen next (min ((n - a) + r.least) r.most - lost)
count-risen r a lost n None = fallen-risen a r.least r.most lost n
count-risen r a lost n (Some q) =
    let x = n - (a + (lost - r.least)) in
    let sum : x + ((r.least - lost) + q.least) ≡ (x + (r.least - lost)) + q.least = omega arith in
    ap (λ (m : ℕ). min m (min ((r.most - lost) + q.least) q.most)) sum
    ∙ (risen-more (x + (r.least - lost)) (r.most - lost) q.least q.most ∙ ap (λ (m : ℕ). min (m + q.least) q.most) (fallen-risen a r.least r.most lost n))

pub both-risen : (f g : Drift) (r : Rise) (s : Standing) → f.rise ≡ Some r → g.lost < r.most → drifted (record { lost = f.lost + (g.lost - r.least); rise = Some (joined_rise r g) }) s ≡ drifted g (drifted f s)
both-risen f g r s e lt =
    rw e (ap (λ (n : ℕ). record { count = n; held = nat_lt (f.lost + (g.lost - r.least)) s.count && s.held }) (count-risen r f.lost g.lost s.count g.rise)
    ∙ ap (λ (b : Bool). record { count = risen g.rise (min ((s.count - f.lost) + r.least) r.most - g.lost); held = b }) (held-risen f.lost r.least r.most g.lost s.count s.held lt))

-- ---- many

pub after-stays : (ds : List Drift) (from at : ℕ) (s : Standing) → at ≤ from → after ds from at s ≡ s
after-stays ds from zero s le = refl
after-stays ds from (suc n) s le =
    let later : nat_le from n ≡ false = grind (arith, nat_tests) in
    ap (λ (b : Bool). if b then drifted (get_or ds n lowered) (after ds from n s) else s) later

pub after-one : (ds : List Drift) (from n : ℕ) (s : Standing) → from ≤ n → after ds from (suc n) s ≡ drifted (get_or ds n lowered) (after ds from n s)
after-one ds from n s le =
    let earlier : nat_le from n ≡ true = grind (arith, nat_tests) in
    ap (λ (b : Bool). if b then drifted (get_or ds n lowered) (after ds from n s) else s) earlier

pub after-parts : (ds : List Drift) (from middle at : ℕ) (s : Standing) → from ≤ middle → middle ≤ at → after ds from at s ≡ after ds middle at (after ds from middle s)
after-parts ds from middle zero s le lt =
    let none : middle ≡ 0 = omega arith in
    ap (λ (m : ℕ). after ds from m s) (sym none) ∙ sym (after-stays ds middle 0 (after ds from middle s) (omega arith))
after-parts ds from middle (suc n) s le lt =
    elim (cases_eq middle (suc n)) [
      | inl e ↦ ap (λ (m : ℕ). after ds from m s) (sym e) ∙ sym (after-stays ds middle (suc n) (after ds from middle s) (omega arith))
      | inr e ↦
          let within : middle ≤ n = omega arith in
          after-one ds from n s (omega arith) ∙ (ap (drifted (get_or ds n lowered)) (after-parts ds from middle n s le within) ∙ sym (after-one ds middle n (after ds from middle s) within))
    ]

pub after-append : (ds es : List Drift) (from at : ℕ) (s : Standing) → at ≤ length ds → after (ds ++ es) from at s ≡ after ds from at s
after-append ds es from zero s le = refl
after-append ds es from (suc n) s le =
    let same : get_or (ds ++ es) n lowered ≡ get_or ds n lowered = get_or_append_left ds es lowered n (omega arith) in
    ap (λ (d : Drift). if nat_le from n then drifted d (after (ds ++ es) from n s) else s) same
    ∙ ap (λ (x : Standing). if nat_le from n then drifted (get_or ds n lowered) x else s) (after-append ds es from n s (omega arith))

-- one more
pub after-next : (ds : List Drift) (d : Drift) (from : ℕ) (s : Standing) → from ≤ length ds → after (ds ++ d ∷ []) from (suc (length ds)) s ≡ drifted d (after ds from (length ds) s)
after-next ds d from s le =
    after-one (ds ++ d ∷ []) from (length ds) s le
    ∙ (ap (λ (x : Drift). drifted x (after (ds ++ d ∷ []) from (length ds) s)) (get_or_push ds d lowered (length ds) refl)
    ∙ ap (drifted d) (after-append ds (d ∷ []) from (length ds) s (omega arith)))

-- ---- as they are kept

ones-length : (steps : List Step) → length (ones_of steps) ≡ length steps
ones-length steps = length-map steps (λ (step : Step). step.one)

ones-push : (steps : List Step) (step : Step) → ones_of (steps ++ step ∷ []) ≡ ones_of steps ++ step.one ∷ []
ones-push [] step = refl
ones-push (x ∷ steps) step = ap (λ (ds : List Drift). x.one ∷ ds) (ones-push steps step)

-- what the last of the first so many steps has
abbrev pub Reaches : List Drift → ℕ → Step → Type 0
Reaches ds at step = (step.back ≤ at) × ((s : Standing) → drifted step.all s ≡ after ds step.back at s)

pub reaches : (steps : List Step) (at : ℕ) (step : Step) → AreJoined steps → 0 < at → at ≤ length steps → step ≡ get_or steps (at - 1) no_step → Reaches (ones_of steps) at step
reaches steps at step all positive inside is =
    let same : suc (at - 1) ≡ at = omega arith in
    let joined : IsJoined (ones_of steps) (at - 1) step = subst (IsJoined (ones_of steps) (at - 1)) (sym is) (all (at - 1) (omega arith)) in
    let first = joined.earlier in
    let earlier : step.back ≤ at = omega arith in
    (earlier, λ s. joined.joins s ∙ ap (λ (n : ℕ). after (ones_of steps) step.back n s) same)

-- a look goes on where a step begins
pub jumped : (steps : List Step) (at from : ℕ) (step : Step) (s : Standing) → AreJoined steps → 0 < at → at ≤ length steps → step ≡ get_or steps (at - 1) no_step → from ≤ step.back
    → drifted step.all (after (ones_of steps) from step.back s) ≡ after (ones_of steps) from at s
jumped steps at from step s all positive inside is le =
    let found = reaches steps at step all positive inside is in
    found.1 (after (ones_of steps) from step.back s) ∙ sym (after-parts (ones_of steps) from step.back at s le found.0)

-- or at the move before
pub stepped : (steps : List Step) (at from : ℕ) (step : Step) (s : Standing) → from < at → at ≤ length steps → step ≡ get_or steps (at - 1) no_step
    → drifted step.one (after (ones_of steps) from (at - 1) s) ≡ after (ones_of steps) from at s
stepped steps at from step s lt inside is =
    let same : suc (at - 1) ≡ at = omega arith in
    let one : step.one ≡ get_or (ones_of steps) (at - 1) lowered = ap (λ (x : Step). x.one) is ∙ sym (get_or-map (λ (x : Step). x.one) steps (at - 1) no_step lowered (omega arith)) in
    ap (λ (d : Drift). drifted d (after (ones_of steps) from (at - 1) s)) one
    ∙ (sym (after-one (ones_of steps) from (at - 1) s (omega arith)) ∙ ap (λ (n : ℕ). after (ones_of steps) from n s) same)

pub wide-joined : (steps : List Step) (one two all : Drift) (last before : Step) → AreJoined steps → 0 < length steps → last ≡ get_or steps (length steps - 1) no_step → 0 < last.back → last.back ≤ length steps → before ≡ get_or steps (last.back - 1) no_step
    → ((s : Standing) → drifted two s ≡ drifted last.all (drifted before.all s)) → ((s : Standing) → drifted all s ≡ drifted one (drifted two s))
    → IsJoined (ones_of steps ++ one ∷ []) (length steps) (record { one = one; back = before.back; all = all })
wide-joined steps one two all last before joined some is positive inside was first second =
    let ds = ones_of steps in
    let same = ones-length steps in
    let latest = reaches steps (length steps) last joined some (omega arith) is in
    let earlier = reaches steps last.back before joined positive inside was in
    let le = earlier.0 in
    let within : before.back ≤ length steps = omega arith in
    let among : before.back ≤ length ds = omega arith in
    let both : (s : Standing) → drifted two s ≡ after ds before.back (length steps) s = λ s.
    first s ∙ (ap (drifted last.all) (earlier.1 s) ∙ (latest.1 (after ds before.back last.back s) ∙ sym (after-parts ds before.back last.back (length steps) s earlier.0 latest.0))) in record {
      earlier = within;
      joins = λ s.
          second s ∙ (ap (drifted one) (both s ∙ ap (λ (n : ℕ). after ds before.back n s) (sym same))
          ∙ (sym (after-next ds one before.back s among) ∙ ap (λ (n : ℕ). after (ds ++ one ∷ []) before.back (suc n) s) same));
    }

pub pushed-joined : (steps new : List Step) (step : Step) → AreJoined steps → IsJoined (ones_of steps ++ step.one ∷ []) (length steps) step → new ≡ steps ++ step ∷ [] → AreJoined new
pushed-joined steps new step all joined is = subst AreJoined (sym is) (λ at inside.
    let same = ones-length steps in
    let longer = length_push steps step in
    elim (cases_eq at (length steps)) [
      | inl e ↦
          let there : get_or (steps ++ step ∷ []) at no_step ≡ step = get_or_push steps step no_step at (sym e) in
          subst (IsJoined (ones_of (steps ++ step ∷ [])) at) (sym there) (subst (λ (ds : List Drift). IsJoined ds at step) (sym (ones-push steps step)) (subst (λ (n : ℕ). IsJoined (ones_of steps ++ step.one ∷ []) n step) (sym e) joined))
      | inr e ↦
          let below : at < length steps = omega arith in
          let there : get_or (steps ++ step ∷ []) at no_step ≡ get_or steps at no_step = get_or_append_left steps (step ∷ []) no_step at below in
          let old = all at below in
          let found = get_or steps at no_step in
          let more : IsJoined (ones_of steps ++ step.one ∷ []) at found = record {
            earlier = old.earlier;
            joins = λ s. old.joins s ∙ sym (after-append (ones_of steps) (step.one ∷ []) found.back (suc at) s (omega arith));
          } in
          subst (IsJoined (ones_of (steps ++ step ∷ [])) at) (sym there) (subst (λ (ds : List Drift). IsJoined ds at found) (sym (ones-push steps step)) more)
    ])
