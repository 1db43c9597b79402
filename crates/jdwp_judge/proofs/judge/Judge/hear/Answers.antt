use Rattle.std.proofs.Common.{◌≡◌, ◌∙◌, ◌+◌, ℕ, true, false, Option, is_some, subst, sym, refl, rules}
use Rattle.jdwp_show.specs.declared.capture_fault.CaptureFault.{CaptureFault}
use Rattle.jdwp_judge.proofs.SameLaws.{none_of}
use Rattle.jdwp_judge.proofs.SessionLaws.{heard_quiet, heard_debugger_as, heard_target_as}
use Rattle.jdwp_judge.proofs.judge.Judge.hear.Goals as goal

pub returns-then-is_some : goal.returns-then-is_some
returns-then-is_some c = λ table pieces heard.
    let judge = c.args.self.now in
    let count : c.in-Some.pieces ≡ judge.pieces + 1 = search rules in
    heard_quiet table judge _ pieces (record { sender = c.args.sender; bytes = c.args.bytes.now }) _ heard (subst (λ (o : Option (ℕ × CaptureFault)). is_some o ≡ true) c.fault.ensures (sym c.is_some.ensures ∙ c.if-is_some.true)) refl count

pub returns-in-Debugger : goal.returns-in-Debugger
returns-in-Debugger c = λ table pieces heard.
    let judge = c.args.self.now in
    let count : c.in-Some.pieces ≡ judge.pieces + 1 = search rules in
    let none = none_of judge.rulings.fault (subst (λ (o : Option (ℕ × CaptureFault)). is_some o ≡ false) c.fault.ensures (sym c.is_some.ensures ∙ c.if-is_some.false)) in
    heard_debugger_as table c.hear_all.result judge _ pieces c.args.sender c.args.bytes.now _ _ c.in-Debugger.is heard none count (c.hear_all.ensures table) refl

pub returns-in-Target : goal.returns-in-Target
returns-in-Target c = λ table pieces heard.
    let judge = c.args.self.now in
    let count : c.in-Some.pieces ≡ judge.pieces + 1 = search rules in
    let none = none_of judge.rulings.fault (subst (λ (o : Option (ℕ × CaptureFault)). is_some o ≡ false) c.fault.ensures (sym c.is_some.ensures ∙ c.if-is_some.false)) in
    heard_target_as table c.hear_all-in-Target.result judge _ pieces c.args.sender c.args.bytes.now _ _ c.in-Target.is heard none count (c.hear_all-in-Target.ensures table) refl
