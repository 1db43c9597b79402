use Rattle.std.proofs.Common.{◌≡◌, ◌∙◌, ℕ, None, sym, ap}
use Rattle.jdwp_show.specs.CaptureLines.{more_line}
use Rattle.jdwp_show.specs.declared.capture_line.Sender.TheVariants.{Debugger, Target}
use Rattle.jdwp_show.specs.Items.{items_of}
use Rattle.jdwp_show.proofs.TextLemmas.{grows_as}
use Rattle.jdwp_judge.proofs.SameLaws.{none_of}
use Rattle.jdwp_judge.proofs.SessionLaws.{ends_badly, ends_broken, ends_whole}
use Rattle.jdwp_judge.proofs.judge.Judge.finish.Goals as goal

pub returns-in-Some : goal.returns-in-Some
returns-in-Some c = λ table pieces heard. ends_badly table pieces c.end.new.self c.args.bad_line c.in-Some.line _ _ (c.end.ensures table (items_of pieces) heard.follows) c.in-Some.is

pub returns-then-is_some : goal.returns-then-is_some
returns-then-is_some c = λ table pieces heard. ends_broken table pieces c.end.new.self c.args.bad_line c.fault-fault.result _ _ (c.end.ensures table (items_of pieces) heard.follows) c.in_default.is c.fault-fault.ensures (sym c.is_some.ensures ∙ c.if-is_some.true)

pub returns : goal.returns
returns c = λ table pieces heard.
    let none : c.end.new.self.fault ≡ None = sym c.fault-fault.ensures ∙ none_of c.fault-fault.result (sym c.is_some.ensures ∙ c.if-is_some.false) in
    ends_whole table c.args.self c.end.new.self pieces c.args.bad_line _ _ _ _ heard (c.end.ensures table (items_of pieces) heard.follows) c.in_default.is none
    (grows_as (ap (λ (n : ℕ). more_line Debugger n) c.left_over.ensures) c.push_more.ensures) (grows_as (ap (λ (n : ℕ). more_line Target n) c.left_over-2.ensures) c.push_more-2.ensures)
