use Rattle.std.proofs.Common.{◌≡◌, Some, None, sym, ap, ◌∙◌}
use Rattle.jdwp_mirror.specs.KnownThreads.{all_taught}
use Rattle.jdwp_mirror.specs.Numbering.{taught_at}
use Rattle.jdwp_mirror.proofs.KeepingLemmas.{AreTaught, alike-found-kept, alike-missing-kept, written}
use Rattle.jdwp_mirror.proofs.threads.Threads.teach_alike.Goals as goal

-- where its own thread is known, which is written
found : (c : goal.After-self-in-Some-get_mut-1) → AreTaught c.args.lesson c.self.inside.moves c.note.new.self c.self.inside.entries.entries (c.get_mut.follows.lender c.of.result).entries c.self.inside.numbers
found c =
    let i = c.self.inside in
    let taught = c.in-Some.taught in
    let writes = c.get_mut.follows.holds c.of.result in
    let is : c.of.result ≡ written c.len-in-Some-get_mut.result taught = c.of.ensures in
    let there : taught_at i.moves i.entries c.args.lesson c.own_number-number.result ≡ Some (c.in-Some.number, taught) = sym c.taught_at-own.ensures ∙ c.in-Some.is in
    alike-found-kept c.args.lesson i.moves c.note.new.self i.entries (c.get_mut.follows.lender c.of.result) i.numbers c.own_number-number.result c.in-Some.number taught c.of.result c.if-lesson.false c.if-not-note.ensures.done
    c.self.invariant c.own_number-number.ensures there (is ∙ ap (λ n. written n taught) c.len-in-Some-get_mut.ensures) writes.0 writes.4

-- where it is not known, or there is none
missing : (c : goal.In_default) → AreTaught c.args.lesson c.self.inside.moves c.note.new.self c.self.inside.entries.entries c.self.inside.entries.entries c.self.inside.numbers
missing c =
    let i = c.self.inside in
    let none : taught_at i.moves i.entries c.args.lesson c.own_number-number.result ≡ None = sym c.taught_at-own.ensures ∙ c.in_default.is in
    alike-missing-kept c.args.lesson i.moves c.note.new.self i.entries i.numbers c.own_number-number.result c.if-lesson.false c.if-not-note.ensures.done c.self.invariant c.own_number-number.ensures none

pub invariant_of-self-in-Some-get_mut : goal.invariant_of-self-in-Some-get_mut
invariant_of-self-in-Some-get_mut c = let all = found c in all.0

pub invariant_of-self-in_default : goal.invariant_of-self-in_default
invariant_of-self-in_default c = let all = missing c in all.0

pub returns-in-Some-get_mut-clause-done : goal.returns-in-Some-get_mut-clause-done
returns-in-Some-get_mut-clause-done c = let all = found c in all.1 ∙ ap (all_taught c.args.lesson) c.self.view_is

pub returns-in_default-clause-done : goal.returns-in_default-clause-done
returns-in_default-clause-done c = let all = missing c in all.1 ∙ ap (all_taught c.args.lesson) c.self.view_is
