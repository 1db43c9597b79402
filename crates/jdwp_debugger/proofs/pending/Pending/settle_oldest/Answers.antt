use Rattle.std.proofs.Common.{◌≡◌, ◌∙◌, ◌+◌, ◌<◌, List, arith, length, ap, rules, sym, subst}
use Rattle.jdwp_debugger.specs.Debuggers.{Asked}
use Rattle.jdwp_debugger.specs.PendingKept.{KeepsNoSettled, bare, waiting_in}
use Rattle.jdwp_debugger.proofs.Settled.{all_settled, bare_more, one_settled, some_wait, waits_behind}
use Rattle.jdwp_debugger.proofs.pending.Pending.settle_oldest.Goals as goal

pub returns-then-self-kept : goal.returns-then-self-kept
returns-then-self-kept c =
    let s = c.self.inside.settled in
    let es = c.self.inside.commands.entries in
    let all : s + 1 ≡ length es = search rules in
    rw (← c.self.view_is) (ap (waiting_in 0) c.clear.ensures.empty ∙ all_settled s es all)

pub returns-then-self-max : goal.returns-then-self-max
returns-then-self-max c =
    let s = c.self.inside.settled in
    let es = c.self.inside.commands.entries in
    let out = c.take_out.ensures in
    rw (← c.self.view_is) ((λ j. waiting_in (out.none j) (out.others j)) ∙ ap (waiting_in (s + 1)) c.settle.ensures ∙ waits_behind s es bare ∙ one_settled s es)

pub returns-else-self-max : goal.returns-else-self-max
returns-else-self-max c =
    let s = c.self.inside.settled in
    let es = c.self.inside.commands.entries in
    rw (← c.self.view_is) (ap (waiting_in (s + 1)) c.settle.ensures ∙ waits_behind s es bare ∙ one_settled s es)

pub take_out-requires : goal.take_out-requires
take_out-requires c =
    let s = c.self.inside.settled in
    let es = c.self.inside.commands.entries in
    let more = some_wait s es (subst (λ (ps : List Asked). 0 < length ps) (sym c.self.view_is) c.requires) in
    let keeps = bare_more s es more c.self.invariant in
    let same = ap length c.settle.ensures in
    omega (arith, same, keeps.0)

pub invariant_of-self-else-self-max : goal.invariant_of-self-else-self-max
invariant_of-self-else-self-max c =
    let s = c.self.inside.settled in
    let es = c.self.inside.commands.entries in
    let more = some_wait s es (subst (λ (ps : List Asked). 0 < length ps) (sym c.self.view_is) c.requires) in
    subst (KeepsNoSettled (s + 1)) (sym c.settle.ensures) (bare_more s es more c.self.invariant)
