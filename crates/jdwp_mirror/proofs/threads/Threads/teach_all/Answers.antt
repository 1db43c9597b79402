use Rattle.std.proofs.Common.{List, ap, subst, sym, ◌∙◌}
use Rattle.std.specs.Map.{values_of}
use Rattle.jdwp_mirror.specs.declared.drift.Drift.{Drift}
use Rattle.jdwp_mirror.specs.KnownThreads.{all_taught}
use Rattle.jdwp_mirror.specs.Numbering.{AreKept, entries_seen}
use Rattle.jdwp_mirror.proofs.KeepingLemmas.{anew-kept}
use Rattle.jdwp_mirror.proofs.threads.Threads.teach_all.Goals as goal

pub invariant_of-self : goal.invariant_of-self
invariant_of-self c =
    let i = c.self.inside in
    let all = anew-kept c.args.lesson i.moves i.entries.entries c.teach_entries.new.entries.entries i.numbers c.self.invariant c.teach_entries.ensures.entries c.teach_entries.ensures.ordered in
    subst (λ (moves : List Drift). AreKept moves c.teach_entries.new.entries.entries i.numbers) (sym c.clear.ensures) all.0

pub returns : goal.returns
returns c =
    let i = c.self.inside in
    let all = anew-kept c.args.lesson i.moves i.entries.entries c.teach_entries.new.entries.entries i.numbers c.self.invariant c.teach_entries.ensures.entries c.teach_entries.ensures.ordered in
    ap (λ (moves : List Drift). values_of (entries_seen moves c.teach_entries.new.entries.entries)) c.clear.ensures ∙ (all.1 ∙ ap (all_taught c.args.lesson) c.self.view_is)
