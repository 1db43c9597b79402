use Rattle.std.proofs.Common.{◌∙◌, refl, sym}
use Rattle.jdwp_judge.specs.Heard.{item_of}
use Rattle.jdwp_judge.proofs.SameLaws.{none_of}
use Rattle.jdwp_judge.proofs.HearingLaws.{heard_after_fault, heard_sure}
use Rattle.jdwp_judge.proofs.rulings.Rulings.hear.Goals as goal

pub returns-then-is_some : goal.returns-then-is_some
returns-then-is_some c = λ table items follows. heard_after_fault table c.args.self.now items (item_of c.args.heard.now) _ follows (sym c.is_some.ensures ∙ c.if-is_some.true)

pub returns-in-Some : goal.returns-in-Some
returns-in-Some c = λ table items follows.
    let none = none_of c.args.self.now.fault (sym c.is_some.ensures ∙ c.if-is_some.false) in
    heard_sure table c.args.self.now _ (item_of c.args.heard.now) c.begun-begun.result c.in_ok-waits.waits c.in-Some.sizes items _ _ follows refl none c.in-Some.is c.in_ok-waits.ensures.after c.begun-begun.ensures c.in_ok-waits.ensures.waits c.in_ok-waits.ensures.counted refl refl
    (rw c.terms.ensures at c.tell-self.ensures.fault) (rw c.terms.ensures at c.tell-self.ensures.line)

pub hear_unsure-requires : goal.hear_unsure-requires
hear_unsure-requires c = record { unsure = c.in_default.is; none = none_of c.args.self.now.fault (sym c.is_some.ensures ∙ c.if-is_some.false) }

pub returns : goal.returns
returns c = λ table items follows.
    c.hear_unsure.ensures c.args.self.now table items follows
    (record { after = c.in_ok-waits.ensures.after; begun_is = c.begun-begun.ensures; waits_is = c.in_ok-waits.ensures.waits; counted = c.in_ok-waits.ensures.counted; table = refl; sizes = refl; kept = refl; fault = refl })
