use Rattle.std.proofs.Common.{sym, ap, ◌∙◌}
use Rattle.std.specs.BTreeMap.{is_at}
use Rattle.std.specs.Ordering.{nat_cmp}
use Rattle.jdwp_mirror.specs.Numbering.{entries_seen, known_in}
use Rattle.jdwp_mirror.proofs.NumberingLemmas.{found, missing}
use Rattle.jdwp_mirror.proofs.SeenLemmas.{lookup-seen}
use Rattle.jdwp_mirror.proofs.threads.Threads.find.Goals as goal

pub returns-in-Some : goal.returns-in-Some
returns-in-Some c =
    let i = c.self.inside in
    let n = c.in-Some.number.now in
    let there = found (entries_seen i.moves i.entries.entries) i.numbers c.args.id.0 n c.self.invariant.numbered (sym c.in-Some.ensures.value) in
    c.seen_at.ensures ∙ (sym (lookup-seen (is_at (nat_cmp n)) i.moves i.entries.entries) ∙ (there ∙ ap (λ ks. known_in ks c.args.id.0) c.self.view_is))

pub returns-in-None : goal.returns-in-None
returns-in-None c =
    let i = c.self.inside in
    sym (sym (ap (λ ks. known_in ks c.args.id.0) c.self.view_is) ∙ missing (entries_seen i.moves i.entries.entries) i.numbers c.args.id.0 c.self.invariant.numbered (sym c.in-None.ensures.value))
