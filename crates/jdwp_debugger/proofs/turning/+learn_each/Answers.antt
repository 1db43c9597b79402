use Rattle.std.proofs.Common.{◌≡◌, ◌∙◌, ◌≤◌, [], ◌∷◌, List, false, ◌-◌, length, get_or, take, drop, sym, subst, ap, arith}
use Rattle.std.proofs.lemmas.List.{take_all}
use Rattle.std.specs.Prelude.{OnOk, IfErr}
use Rattle.jdwp_event.specs.Composites.{CompositeMeaning}
use Rattle.jdwp_debugger.specs.DebuggerTurns.{FailsOnly, reports}
use Rattle.jdwp_debugger.specs.Orders.{has_bad_in, is_bad_in}
use Rattle.jdwp_mirror.specs.KnownThreads.{count_in}
use Rattle.jdwp_debugger.proofs.TurningLemmas.{AllLearned, all-learned, all-failed}
use Rattle.jdwp_debugger.proofs.turning.+learn_each.Goals as goal

-- a list that is not empty is its first and the rest, as a pattern takes them
rest-is : {T : Type 0} (left : List T) (v : T) → 1 ≤ length left → v ≡ get_or left 0 v → left ≡ v ∷ take (length left - 1) (drop 1 left)
rest-is [] v some is = absurd (omega arith)
rest-is {T = T} (y ∷ ys) v some is =
    let e : length (y ∷ ys) - 1 ≡ length ys = omega arith in
    rw (e, take_all (length ys) ys (omega arith)) (ap (λ (x : T). x ∷ ys) (sym is))

pub returns-in_ok-learn_composite-in-len1-up-clause-ok :
    goal.returns-in_ok-learn_composite-in-len1-up-clause-ok
returns-in_ok-learn_composite-in-len1-up-clause-ok t c =
    let cs = c.args.composites.now in
    let first = c.first-item.result in
    let old = c.args.mirror.now in
    let good : is_bad_in c.args.order (count_in old.threads) first ≡ false = sym c.is_bad.ensures ∙ c.if-is_bad.false in
    let rest = take (length cs - 1) (drop 1 cs) in
    let parts : cs ≡ first ∷ rest = rest-is cs first c.in-len1-up.len_at_least c.first-item.is in
    subst (λ (xs : List CompositeMeaning). OnOk c.learn_each.result (AllLearned c.args.order old xs c.learn_each.new.mirror)) (sym parts)
    (all-learned c.args.order c.learn_each.result first rest old c.learn_composite.new.mirror c.learn_each.new.mirror good c.in_ok-learn_composite-in-len1-up.ensures.ok c.learn_each.ensures.ok)

pub returns-in_ok-learn_composite-in-len1-up-clause-err :
    goal.returns-in_ok-learn_composite-in-len1-up-clause-err
returns-in_ok-learn_composite-in-len1-up-clause-err t c =
    let cs = c.args.composites.now in
    let first = c.first-item.result in
    let old = c.args.mirror.now in
    let good : is_bad_in c.args.order (count_in old.threads) first ≡ false = sym c.is_bad.ensures ∙ c.if-is_bad.false in
    let rest = take (length cs - 1) (drop 1 cs) in
    let parts : cs ≡ first ∷ rest = rest-is cs first c.in-len1-up.len_at_least c.first-item.is in
    subst (λ (xs : List CompositeMeaning). IfErr c.learn_each.result (λ f. FailsOnly f (has_bad_in c.args.order (count_in old.threads) (reports xs)))) (sym parts)
    (all-failed c.args.order c.learn_each.result first rest old c.learn_composite.new.mirror good c.in_ok-learn_composite-in-len1-up.ensures.ok c.learn_each.ensures.err)
