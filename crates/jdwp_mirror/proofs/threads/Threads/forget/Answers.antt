use Rattle.std.proofs.Common.{sym, ap, ◌∙◌}
use Rattle.std.specs.Map.{values_of}
use Rattle.jdwp_mirror.specs.KnownThreads.{without}
use Rattle.jdwp_mirror.specs.Numbering.{entries_seen}
use Rattle.jdwp_mirror.proofs.NumberingLemmas.{missing, without-unknown}
use Rattle.jdwp_mirror.proofs.KeepingLemmas.{removed-kept}
use Rattle.jdwp_mirror.proofs.threads.Threads.forget.Goals as goal

pub invariant_of-self : goal.invariant_of-self
invariant_of-self c =
    let i = c.self.inside in
    let all = removed-kept i.moves i.entries.entries c.remove-in-Some.new.self.entries i.numbers c.remove.new.self c.args.id.0 c.in-Some.number c.self.invariant (sym c.in-Some.ensures.value) c.remove-in-Some.ensures.entries c.remove-in-Some.ensures.ordered c.remove.ensures.updates in
    all.0

pub returns-in-Some : goal.returns-in-Some
returns-in-Some c =
    let i = c.self.inside in
    let all = removed-kept i.moves i.entries.entries c.remove-in-Some.new.self.entries i.numbers c.remove.new.self c.args.id.0 c.in-Some.number c.self.invariant (sym c.in-Some.ensures.value) c.remove-in-Some.ensures.entries c.remove-in-Some.ensures.ordered c.remove.ensures.updates in
    all.1 ∙ ap (without c.args.id.0) c.self.view_is

pub returns-in_default : goal.returns-in_default
returns-in_default c =
    let i = c.self.inside in
    let threads = entries_seen i.moves i.entries.entries in
    let none = missing threads i.numbers c.args.id.0 c.self.invariant.numbered (sym c.remove.ensures.value ∙ c.in_default.is) in
    sym (without-unknown (values_of threads) c.args.id.0 none) ∙ ap (without c.args.id.0) c.self.view_is
