use Rattle.std.proofs.Common.{◌∙◌, ◌++◌, ◌∷◌, [], ℕ, List, length, refl, sym, ap, subst, append_assoc, arith, length-append}
use Rattle.jdwp_judge.specs.declared.capture_judge.CaptureJudge.{CaptureJudge}
use Rattle.jdwp_judge.specs.CaptureJudges.{HasHeardMore}
use Rattle.jdwp_judge.proofs.CaptureJudgeLaws.{nothing_more, joined_more, line_begun}
use Rattle.jdwp_judge.proofs.capture_judge.CaptureJudge.hear.Goals as goal

pub loop-line-init : goal.loop-line-init
loop-line-init c = ([], refl, λ table text heard. nothing_more table _ text _ heard)

pub loop-line-preserved : goal.loop-line-preserved
loop-line-preserved c =
    let inv = c.loop-line.invariant in
    let cut = c.in-Some.ensures in
    let part : List ℕ = c.in-Some.line.now ++ 10 ∷ [] in (
      inv.0 ++ part,
      inv.1 ∙ ap (λ (l : List ℕ). inv.0 ++ l) (cut.1 ∙ sym (append_assoc c.in-Some.line.now (10 ∷ []) c.in-Some.behind.now)) ∙ sym (append_assoc inv.0 part c.in-Some.behind.now),
      λ table text heard. let before = inv.2 table text heard in joined_more table _ _ text inv.0 part _ _ _ before (c.in_ok-hear_line.ensures table (text ++ inv.0) before.heard cut.0),
    )

pub loop-line-smaller : goal.loop-line-smaller
loop-line-smaller c =
    let cut = c.in-Some.ensures in
    let n = ap (λ (l : List ℕ). length l) cut.1 in
    omega (arith, n, length-append c.in-Some.line.now (10 ∷ c.in-Some.behind.now))

pub returns : goal.returns
returns c = λ table text heard.
    let inv = c.loop-line.invariant in
    let before = inv.2 table text heard in
    let none = c.in_default.ensures in
    let now : CaptureJudge = record { alloc = c.loop-line.self.alloc; lines = c.loop-line.self.lines; unfinished = c.extend_from_slice.new.self } in
    subst (λ (l : List ℕ). HasHeardMore table now text l c.args.lines.now c.loop-line.lines) (sym inv.1)
    (joined_more table c.loop-line.self now text inv.0 c.loop-line.rest.now c.args.lines.now c.loop-line.lines c.loop-line.lines before
    (line_begun table c.loop-line.self now (text ++ inv.0) c.loop-line.rest.now c.loop-line.lines before.heard none refl c.in_ok-extend_from_slice.ensures.items))
