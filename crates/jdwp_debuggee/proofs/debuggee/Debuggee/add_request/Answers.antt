use Rattle.std.proofs.Common.{rules, ◌≡◌, ap, map}
use Rattle.jdwp_event.specs.ModifierMeanings.{modifier_meaning}
use Rattle.jdwp_event.specs.RequestParts.{modifiers_meaning}
use Rattle.jdwp_debuggee.proofs.KeptRequests.{carries-set, kept-set-by, set-room}
use Rattle.jdwp_debuggee.proofs.debuggee.Debuggee.add_request.Goals as goal

pub unwrap-asked_id-requires : goal.unwrap-asked_id-requires
unwrap-asked_id-requires g c =
    let room = set-room g.M.Machine.meaning c.args.self.now.settings c.args.self.now.moment c.args.kind c.args.policy (modifiers_meaning c.args.modifiers) c.requires in
    c.new.ensures.some.1 (rw (← c.self.view_is) at room)

pub invariant_of-self-2 : goal.invariant_of-self-2
invariant_of-self-2 g c =
    let same = ap (λ l. map modifier_meaning l) c.as_slice.ensures.value in
    let free = rw (← c.self.view_is) at c.requires in
    let origin = rw same at c.in_ok-origin.ensures in
    let number : c.unwrap-asked_id.result ≡ c.self.inside.next_request = search rules in
    let request = rw (origin, number) at c.in_ok-request.ensures.value in
    rw c.in_ok-insert.ensures.ok (kept-set-by g.M.Machine.meaning _ c.args.kind c.args.policy (modifiers_meaning c.args.modifiers) c.in_ok-request.request c.self.invariant free request)

pub returns-clause-ok : goal.returns-clause-ok
returns-clause-ok g c =
    let same = ap (λ l. map modifier_meaning l) c.as_slice.ensures.value in
    let free = rw (← c.self.view_is) at c.requires in
    let origin = rw same at c.in_ok-origin.ensures in
    let number : c.unwrap-asked_id.result ≡ c.self.inside.next_request = search rules in
    let request = rw (origin, number) at c.in_ok-request.ensures.value in
    rw (← c.self.view_is, c.in_ok-insert.ensures.ok) (carries-set g.M.Machine.meaning _ c.args.kind c.args.policy (modifiers_meaning c.args.modifiers) c.in_ok-request.request c.self.invariant free request)
