use Rattle.std.proofs.Common.{◌≡◌, ◌∙◌, true, false, Some, None, rules}
use Rattle.jdwp_layout.specs.CommandNumbers.{SET_REQUEST, is_command}
use Rattle.jdwp_debuggee.specs.ReadParts.{begins_with_thread}
use Rattle.jdwp_debuggee.proofs.OwnRefusals.{effects-refused, none-asked, refuses-no-other, set-refusal}
use Rattle.jdwp_debuggee.proofs.debuggee.Debuggee.own_refusal.Goals as goal

pub returns-in_err-kind-in-15-eq1-clause-value : goal.returns-in_err-kind-in-15-eq1-clause-value
returns-in_err-kind-in-15-eq1-clause-value g c = λ command read long.
    let none : c.kind_and_policy.result ≡ None = search rules in
    none-asked c.kind_and_policy.result _ _ none (c.kind_and_policy.ensures c.args.sizes.now command (rw (c.in-15-eq1.is-0, c.in-15-eq1.is-1) at read))

pub returns-in_ok-kind-in-15-eq1-clause-value : goal.returns-in_ok-kind-in-15-eq1-clause-value
returns-in_ok-kind-in-15-eq1-clause-value g c = λ command read long.
    let some : c.kind_and_policy.result ≡ Some (c.in_ok-kind-in-15-eq1.kind, c.in_ok-kind-in-15-eq1.policy) = search rules in
    c.early_refusal.ensures
    ∙ set-refusal c.args.self.now.settings c.args.self.now.moment.state _ _ _ c.kind_and_policy.result some (c.kind_and_policy.ensures c.args.sizes.now command (rw (c.in-15-eq1.is-0, c.in-15-eq1.is-1) at read))

pub returns-in_ok-kind-in-15-eq1-clause-effect : goal.returns-in_ok-kind-in-15-eq1-clause-effect
returns-in_ok-kind-in-15-eq1-clause-effect g c =
    effects-refused g.M.Machine.meaning c.args.self.now.settings c.args.self.now.moment c.args.sizes.now c.args.set c.args.number c.args.bytes.now c.early_refusal.result (λ command read long.
    let some : c.kind_and_policy.result ≡ Some (c.in_ok-kind-in-15-eq1.kind, c.in_ok-kind-in-15-eq1.policy) = search rules in
    c.early_refusal.ensures
    ∙ set-refusal c.args.self.now.settings c.args.self.now.moment.state _ _ _ c.kind_and_policy.result some (c.kind_and_policy.ensures c.args.sizes.now command (rw (c.in-15-eq1.is-0, c.in-15-eq1.is-1) at read)))

pub returns-in-11-default-clause-value : goal.returns-in-11-default-clause-value
returns-in-11-default-clause-value g c = λ command read long.
    let begins : begins_with_thread c.args.set ≡ true = search rules in
    c.refusal_about_thread.ensures.value command begins read long

pub returns-in-11-default-clause-effect : goal.returns-in-11-default-clause-effect
returns-in-11-default-clause-effect g c =
    effects-refused g.M.Machine.meaning c.args.self.now.settings c.args.self.now.moment c.args.sizes.now c.args.set c.args.number c.args.bytes.now c.refusal_about_thread.result
    (returns-in-11-default-clause-value g c)

pub returns-in_default-clause-value : goal.returns-in_default-clause-value
returns-in_default-clause-value g c = λ command read long.
    let begins : begins_with_thread c.args.set ≡ false = search rules in
    let off : is_command SET_REQUEST c.args.set c.args.number ≡ false = search rules in
    refuses-no-other c.args.self.now.settings.profile c.args.self.now.settings c.args.self.now.moment.state c.args.sizes.now c.args.set c.args.number c.args.bytes.now command begins off read

pub returns-in_default-2-clause-value : goal.returns-in_default-2-clause-value
returns-in_default-2-clause-value g c = λ command read long.
    let begins : begins_with_thread c.args.set ≡ false = search rules in
    let off : is_command SET_REQUEST c.args.set c.args.number ≡ false = search rules in
    refuses-no-other c.args.self.now.settings.profile c.args.self.now.settings c.args.self.now.moment.state c.args.sizes.now c.args.set c.args.number c.args.bytes.now command begins off read
