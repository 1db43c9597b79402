use Rattle.std.proofs.Common.{◌≡◌, ◌∙◌, ◌+◌, ◌++◌, ℕ, List, Some, None, refl, sym, ap, subst, rules}
use Rattle.std.proofs.lemmas.Result.{on_ok_weaker}
use Rattle.jdwp_show.specs.Lines.{Line}
use Rattle.jdwp_judge.specs.Judges.{HasHeardPieceUnder}
use Rattle.jdwp_judge.specs.LineJudges.{pieces_in}
use Rattle.jdwp_judge.proofs.LineJudgeLaws.{line_stays, line_bad, line_good}
use Rattle.jdwp_judge.proofs.SameLaws.{none_of}
use Rattle.jdwp_judge.proofs.line_judge.LineJudge.hear.Goals as goal

pub returns-then-is_some : goal.returns-then-is_some
returns-then-is_some c = λ table before heard. line_stays table c.args.self.now before c.args.line.now _ heard (sym c.is_some.ensures ∙ c.if-is_some.true)

pub returns-in_default-2 : goal.returns-in_default-2
returns-in_default-2 c = λ table before heard.
    let judge = c.args.self.now in
    let count : c.in-Some.number ≡ judge.count + 1 = search rules in
    let none : judge.bad_line ≡ None = none_of judge.bad_line (sym c.is_some.ensures ∙ c.if-is_some.false) in
    let read = rw c.in_default-2.is at c.in_ok-sender.ensures in
    line_bad table judge _ before c.args.line.now _ heard none read.0 refl (ap (λ (n : ℕ). Some n) count)

pub returns : goal.returns
returns c = λ table before heard.
    let judge = c.args.self.now in
    let count : c.in-Some.number ≡ judge.count + 1 = search rules in
    let none : judge.bad_line ≡ None = none_of judge.bad_line (sym c.is_some.ensures ∙ c.if-is_some.false) in
    let read = rw c.in-Some-2.is at c.in_ok-sender.ensures in
    let said : Line = record { sender = c.in-Some-2.sender; bytes = read.0 } in
    let bytes : c.deref.result.now ≡ read.0 = c.deref.ensures.value ∙ read.2 ∙ ap (λ (l : List ℕ). l ++ read.0) c.clear.ensures.items in
    on_ok_weaker c.hear.result (λ piece. line_good table judge _ before c.args.line.now said _ _ heard none read.1
    (subst (λ (b : List ℕ). HasHeardPieceUnder table c.hear.new.self (pieces_in before) (record { sender = c.in-Some-2.sender; bytes = b }) c.args.lines.now c.hear.new.lines) bytes piece) refl count) (c.hear.ensures table (pieces_in before) heard.heard)
