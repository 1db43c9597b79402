use Rattle.std.proofs.Common.{rules, ◌≡◌, ◌∙◌, None, ap, map, sym}
use Rattle.jdwp_event.specs.ModifierMeanings.{modifier_meaning}
use Rattle.jdwp_event.specs.RequestParts.{modifiers_meaning}
use Rattle.jdwp_layout.specs.Meanings.{entry_meanings}
use Rattle.jdwp_debuggee.specs.Wants.{early_refusal}
use Rattle.jdwp_debuggee.proofs.KeptRequests.{carries-refused, set-unrefused}
use Rattle.jdwp_debuggee.proofs.debuggee.Debuggee.set_request.Goals as goal

pub returns-in-Some-2-clause-ok : goal.returns-in-Some-2-clause-ok
returns-in-Some-2-clause-ok g c =
    let same = ap (λ l. map modifier_meaning l) c.as_slice.ensures.value in
    let early : early_refusal c.args.self.now.settings c.args.self.now.moment.state c.args.kind c.args.policy ≡ None = search rules in
    let late = sym c.in-Some-2.is ∙ c.in_ok-error.ensures.value in
    carries-refused g.M.Machine.meaning c.args.self.now c.args.kind c.args.policy (modifiers_meaning c.in_ok-modifiers.modifiers) c.in-Some-2.error early (rw same at late) (entry_meanings c.args.entries.items) c.in_ok-modifiers.ensures.value

pub add_request-requires : goal.add_request-requires
add_request-requires g c =
    let same = ap (λ l. map modifier_meaning l) c.as_slice.ensures.value in
    let early : early_refusal c.args.self.now.settings c.args.self.now.moment.state c.args.kind c.args.policy ≡ None = search rules in
    let late = sym c.in-None.is ∙ c.in_ok-error.ensures.value in
    set-unrefused g.M.Machine.meaning c.args.self.now c.args.kind c.args.policy (modifiers_meaning c.in_ok-modifiers.modifiers) early (rw same at late)
