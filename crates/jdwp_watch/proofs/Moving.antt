-- Moves of all threads, as they are kept.
use Rattle.std.proofs.Common.{inl, inr, ◌≡◌, ℕ, suc, ◌≤◌, ◌<◌, ◌-◌, List, [], ◌∷◌, ◌++◌, length, take, drop, get_or, refl, ◌∙◌, ap, sym, subst, arith}
use Rattle.std.specs.List.{fold}
use Rattle.std.proofs.lemmas.List.{get_or-map, get_or-take, get_or_append_left, get_or_push, length-map, length_push, length-take, length-take-le, take-append-drop, take-append-le, take-map, take-take, take_all, drop-append-le, drop_all}
use Rattle.std.proofs.lemmas.List.Sums.{fold-append}
use Rattle.std.proofs.Math.Seq.{drop-length, take-suc}
use Rattle.std.proofs.lemmas.Bool.{cases_eq}
use Rattle.jdwp_watch.specs.declared.drift.Drift.{Drift}
use Rattle.jdwp_watch.specs.declared.moves.Step.{Step}
use Rattle.jdwp_watch.specs.declared.standing.Change.{Change}
use Rattle.jdwp_watch.specs.declared.standing.Change.TheVariants.{Keep}
use Rattle.jdwp_watch.specs.declared.standing.Standing.{Standing}
use Rattle.jdwp_watch.specs.Standings.{changed}
use Rattle.jdwp_watch.specs.Tables.{changed_by}
use Rattle.jdwp_watch.specs.Drifts.{AreJoined, Follows, IsJoined, between, no_step, ones_of}

-- ---- a part of them

length-first : (at : ℕ) (cs : List Change) → at ≤ length cs → length (take at cs) ≡ at
length-first at cs le = length-take-le at cs le

pub between-none : (from at : ℕ) (cs : List Change) → at ≤ from → at ≤ length cs → between from at cs ≡ []
between-none from at cs le inside = let few = length-first at cs inside in drop_all from (take at cs) (omega arith)

pub between-all : (from : ℕ) (cs : List Change) → between from (length cs) cs ≡ drop from cs
between-all from cs = ap (drop from) (take_all (length cs) cs (omega arith))

pub between-parts : (from middle at : ℕ) (cs : List Change) → from ≤ middle → middle ≤ at → at ≤ length cs → between from at cs ≡ between from middle cs ++ between middle at cs
between-parts from middle at cs le lt inside =
    let few = length-first middle cs (omega arith) in
    let within : from ≤ length (take middle cs) = omega arith in
    let front : take middle (take at cs) ≡ take middle cs = take-take middle at cs lt in
    ap (drop from) (sym (take-append-drop middle (take at cs)) ∙ ap (λ (xs : List Change). xs ++ between middle at cs) front)
    ∙ drop-append-le from (take middle cs) (between middle at cs) within

pub between-append : (from at : ℕ) (cs ds : List Change) → at ≤ length cs → between from at (cs ++ ds) ≡ between from at cs
between-append from at cs ds le = ap (drop from) (take-append-le at cs ds le)

pub between-take : (from at n : ℕ) (cs : List Change) → at ≤ n → between from at (take n cs) ≡ between from at cs
between-take from at n cs le = ap (drop from) (take-take at n cs le)

-- the last of the first so many
between-one : (n : ℕ) (cs : List Change) → n < length cs → between n (suc n) cs ≡ get_or cs n Keep ∷ []
between-one n cs lt =
    let few = length-first n cs (omega arith) in
    let one = get_or cs n Keep ∷ [] in
    ap (drop n) (take-suc cs n Keep lt) ∙ (drop-append-le n (take n cs) one (omega arith) ∙ ap (λ (xs : List Change). xs ++ one) (drop_all n (take n cs) (omega arith)))

-- those from one on, with one more
between-push : (from : ℕ) (cs : List Change) (c : Change) → from ≤ length cs → between from (suc (length cs)) (cs ++ c ∷ []) ≡ drop from cs ++ c ∷ []
between-push from cs c le =
    let longer = length_push cs c in
    ap (drop from) (take_all (suc (length cs)) (cs ++ c ∷ []) (omega arith)) ∙ drop-append-le from cs (c ∷ []) le

-- what a thread is after them
abbrev pub gone : ℕ → ℕ → List Change → Standing → Standing
gone from at cs s = fold changed_by s (between from at cs)

gone-parts : (from middle at : ℕ) (cs : List Change) (s : Standing) → from ≤ middle → middle ≤ at → at ≤ length cs → gone from at cs s ≡ gone middle at cs (gone from middle cs s)
gone-parts from middle at cs s le lt inside = ap (fold changed_by s) (between-parts from middle at cs le lt inside) ∙ fold-append changed_by s (between from middle cs) (between middle at cs)

-- ---- as they are kept

ones-length : (steps : List Step) → length (ones_of steps) ≡ length steps
ones-length steps = length-map steps (λ (step : Step). step.one)

ones-push : (steps : List Step) (step : Step) → ones_of (steps ++ step ∷ []) ≡ ones_of steps ++ step.one ∷ []
ones-push [] step = refl
ones-push (x ∷ steps) step = ap (λ (cs : List Change). x.one ∷ cs) (ones-push steps step)

-- what the last of the first so many steps has
pub record Reaches (cs : List Change) (at : ℕ) (step : Step) : Type 0 where
  pub earlier : step.back < at
  pub follows : Follows (between step.back at cs) step.all

pub reaches : (steps : List Step) (at : ℕ) (step : Step) → AreJoined steps → 0 < at → at ≤ length steps → step ≡ get_or steps (at - 1) no_step → Reaches (ones_of steps) at step
reaches steps at step all positive inside is =
    let same : suc (at - 1) ≡ at = omega arith in
    let joined : IsJoined (ones_of steps) (at - 1) step = subst (IsJoined (ones_of steps) (at - 1)) (sym is) (all (at - 1) (omega arith)) in
    let first = joined.earlier in record {
      earlier = omega arith;
      follows = subst (λ (n : ℕ). Follows (between step.back n (ones_of steps)) step.all) same joined.follows;
    }

-- the move of that step
stepped-one : (steps : List Step) (at : ℕ) (step : Step) → 0 < at → at ≤ length steps → step ≡ get_or steps (at - 1) no_step → get_or (ones_of steps) (at - 1) Keep ≡ step.one
stepped-one steps at step positive inside is = get_or-map (λ (x : Step). x.one) steps (at - 1) no_step Keep (omega arith) ∙ sym (ap (λ (x : Step). x.one) is)

-- a look goes on at the move before
pub stepped : (steps : List Step) (at from : ℕ) (step : Step) (s : Standing) → from < at → at ≤ length steps → step ≡ get_or steps (at - 1) no_step
    → changed step.one (gone from (at - 1) (ones_of steps) s) ≡ gone from at (ones_of steps) s
stepped steps at from step s lt inside is =
    let cs = ones_of steps in
    let many = ones-length steps in
    let same : suc (at - 1) ≡ at = omega arith in
    let last : between (at - 1) at cs ≡ step.one ∷ [] =
    ap (λ (n : ℕ). between (at - 1) n cs) (sym same) ∙ (between-one (at - 1) cs (omega arith) ∙ ap (λ (c : Change). c ∷ []) (stepped-one steps at step (omega arith) inside is)) in
    sym (gone-parts from (at - 1) at cs s (omega arith) (omega arith) (omega arith) ∙ ap (fold changed_by (gone from (at - 1) cs s)) last)

-- or where a step begins
pub jumped : (steps : List Step) (at from : ℕ) (step : Step) (s now : Standing) → AreJoined steps → 0 < at → at ≤ length steps → step ≡ get_or steps (at - 1) no_step → from ≤ step.back
    → ((moves : List Change) → Follows moves step.all → now ≡ fold changed_by (gone from step.back (ones_of steps) s) moves) → now ≡ gone from at (ones_of steps) s
jumped steps at from step s now all positive inside is le told =
    let found = reaches steps at step all positive inside is in
    let many = ones-length steps in
    let earlier = found.earlier in
    told (between step.back at (ones_of steps)) found.follows ∙ sym (gone-parts from step.back at (ones_of steps) s le (omega arith) (omega arith))

-- and by those with fewer moves, from there on
pub descended : (steps : List Step) (at from : ℕ) (step : Step) (s : Standing) → AreJoined steps → 0 < at → at ≤ length steps → step ≡ get_or steps (at - 1) no_step → from ≤ step.back
    → changed step.one (gone step.back (at - 1) (ones_of steps) (gone from step.back (ones_of steps) s)) ≡ gone from at (ones_of steps) s
descended steps at from step s all positive inside is le =
    let found = reaches steps at step all positive inside is in
    let many = ones-length steps in
    let earlier = found.earlier in
    stepped steps at step.back step (gone from step.back (ones_of steps) s) earlier inside is
    ∙ sym (gone-parts from step.back at (ones_of steps) s le (omega arith) (omega arith))

-- ---- one more

pub one-joined : (steps : List Step) (one : Change) (all : Drift) → Follows (one ∷ []) all → IsJoined (ones_of steps ++ one ∷ []) (length steps) (record { one = one; back = length steps; all = all })
one-joined steps one all told =
    let cs = ones_of steps in
    let many = ones-length steps in
    let part : between (length steps) (suc (length steps)) (cs ++ one ∷ []) ≡ one ∷ [] =
    ap (λ (n : ℕ). between n (suc n) (cs ++ one ∷ [])) (sym many) ∙ (between-push (length cs) cs one (omega arith) ∙ ap (λ (xs : List Change). xs ++ one ∷ []) (drop-length cs)) in record {
      earlier = omega arith;
      follows = subst (λ (xs : List Change). Follows xs all) (sym part) told;
    }

pub wide-joined : (steps : List Step) (one : Change) (last before : Step) (both single all : Drift) → AreJoined steps
    → 0 < length steps → last ≡ get_or steps (length steps - 1) no_step → 0 < last.back → last.back ≤ length steps → before ≡ get_or steps (last.back - 1) no_step
    → ((first second : List Change) → Follows first before.all → Follows second last.all → Follows (first ++ second) both)
    → Follows (one ∷ []) single
    → ((first second : List Change) → Follows first both → Follows second single → Follows (first ++ second) all)
    → IsJoined (ones_of steps ++ one ∷ []) (length steps) (record { one = one; back = before.back; all = all })
wide-joined steps one last before both single all joined some is positive inside was two told three =
    let cs = ones_of steps in
    let many = ones-length steps in
    let latest = reaches steps (length steps) last joined some (omega arith) is in
    let earlier = reaches steps last.back before joined positive inside was in
    let e1 = latest.earlier in
    let e2 = earlier.earlier in
    let parts : drop before.back cs ≡ between before.back last.back cs ++ between last.back (length steps) cs =
    sym (between-all before.back cs) ∙ (ap (λ (n : ℕ). between before.back n cs) many ∙ between-parts before.back last.back (length steps) cs (omega arith) (omega arith) (omega arith)) in
    let whole : between before.back (suc (length steps)) (cs ++ one ∷ []) ≡ (between before.back last.back cs ++ between last.back (length steps) cs) ++ one ∷ [] =
    ap (λ (n : ℕ). between before.back (suc n) (cs ++ one ∷ [])) (sym many) ∙ (between-push before.back cs one (omega arith) ∙ ap (λ (xs : List Change). xs ++ one ∷ []) parts) in record {
      earlier = omega arith;
      follows = subst (λ (xs : List Change). Follows xs all) (sym whole) (three (between before.back last.back cs ++ between last.back (length steps) cs) (one ∷ []) (two (between before.back last.back cs) (between last.back (length steps) cs) earlier.follows latest.follows) told);
    }

-- a step keeps what it has, where its moves stay the same
still-joined : (cs ds : List Change) (at : ℕ) (step : Step) → between step.back (suc at) ds ≡ between step.back (suc at) cs → IsJoined cs at step → IsJoined ds at step
still-joined cs ds at step same old = record { earlier = old.earlier; follows = subst (λ (xs : List Change). Follows xs step.all) (sym same) old.follows }

pub pushed-joined : (steps new : List Step) (step : Step) → AreJoined steps → IsJoined (ones_of steps ++ step.one ∷ []) (length steps) step → new ≡ steps ++ step ∷ [] → AreJoined new
pushed-joined steps new step all joined is = subst AreJoined (sym is) (λ at inside.
    let many = ones-length steps in
    let longer = length_push steps step in
    let later = ones_of (steps ++ step ∷ []) in
    elim (cases_eq at (length steps)) [
      | inl e ↦
          let there : get_or (steps ++ step ∷ []) at no_step ≡ step = get_or_push steps step no_step at (sym e) in
          subst (IsJoined later at) (sym there) (subst (λ (cs : List Change). IsJoined cs at step) (sym (ones-push steps step)) (subst (λ (n : ℕ). IsJoined (ones_of steps ++ step.one ∷ []) n step) (sym e) joined))
      | inr e ↦
          let below : at < length steps = omega arith in
          let there : get_or (steps ++ step ∷ []) at no_step ≡ get_or steps at no_step = get_or_append_left steps (step ∷ []) no_step at below in
          let found = get_or steps at no_step in
          let same : between found.back (suc at) later ≡ between found.back (suc at) (ones_of steps) =
          ap (between found.back (suc at)) (ones-push steps step) ∙ between-append found.back (suc at) (ones_of steps) (step.one ∷ []) (omega arith) in
          subst (IsJoined later at) (sym there) (still-joined (ones_of steps) later at found same (all at below))
    ])

-- ---- the first so many

pub ones-take : (n : ℕ) (steps : List Step) → ones_of (take n steps) ≡ take n (ones_of steps)
ones-take n steps = sym (take-map (λ (step : Step). step.one) n steps)

pub taken-joined : (steps new : List Step) (n : ℕ) → AreJoined steps → new ≡ take n steps → AreJoined new
taken-joined steps new n all is = subst AreJoined (sym is) (λ at inside.
    let fewer = length-take n steps in
    let below : at < n = omega arith in
    let found = get_or steps at no_step in
    let there : get_or (take n steps) at no_step ≡ found = get_or-take n steps at no_step below in
    let same : between found.back (suc at) (ones_of (take n steps)) ≡ between found.back (suc at) (ones_of steps) =
    ap (between found.back (suc at)) (ones-take n steps) ∙ between-take found.back (suc at) n (ones_of steps) (omega arith) in
    subst (IsJoined (ones_of (take n steps)) at) (sym there) (still-joined (ones_of steps) (ones_of (take n steps)) at found same (all at (omega arith))))
