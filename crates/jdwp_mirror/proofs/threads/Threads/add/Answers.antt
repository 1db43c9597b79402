use Rattle.std.proofs.Common.{◌≡◌, ◌++◌, ◌∷◌, [], None, ap, ◌∙◌}
use Rattle.std.specs.Map.{keys_of, values_of}
use Rattle.std.proofs.lemmas.List.Elements.{recursion_from_All}
use Rattle.jdwp_mirror.specs.KnownThreads.{count_in}
use Rattle.jdwp_mirror.specs.Numbering.{entries_seen}
use Rattle.jdwp_mirror.proofs.NumberingLemmas.{inserted-last}
use Rattle.jdwp_mirror.proofs.KeepingLemmas.{added-kept, undone-kept, written}
use Rattle.jdwp_mirror.proofs.threads.Threads.add.Goals as goal

pub invariant_of-self-in-Ok : goal.invariant_of-self-in-Ok
invariant_of-self-in-Ok c =
    let i = c.self.inside in
    let v = c.self.view_is in
    let u = c.requires.unknown in
    let k = c.args.known in
    let n = c.in_ok-number.number in
    let unknown : count_in (values_of (entries_seen i.moves i.entries.entries)) k.id.0 ≡ None = cc in
    let entries = c.in-Ok.ensures.entries ∙ inserted-last i.entries.entries n c.of-met.result (recursion_from_All _ (keys_of i.entries.entries) c.in_ok-number.ensures.above) in
    let is : c.of-met.result ≡ written c.len.result k = c.of-met.ensures in
    let all = added-kept i.moves i.entries.entries c.insert-2.new.self.entries i.numbers c.insert.new.self n c.of-met.result k c.self.invariant unknown c.requires.counted (is ∙ ap (λ n. written n k) c.len.ensures) entries c.in-Ok.ensures.ordered c.in_ok-insert.ensures.updates in
    all.0

pub invariant_of-self-in-Err : goal.invariant_of-self-in-Err
invariant_of-self-in-Err c =
    let i = c.self.inside in
    let v = c.self.view_is in
    let u = c.requires.unknown in
    let k = c.args.known in
    let unknown : count_in (values_of (entries_seen i.moves i.entries.entries)) k.id.0 ≡ None = cc in
    undone-kept i.moves i.entries.entries c.insert-2.new.self.entries i.numbers c.insert.new.self c.remove.new.self k.id.0 c.in_ok-number.number c.self.invariant unknown c.in-Err.ensures.err c.in-Err.ensures.ordered c.in_ok-insert.ensures.updates c.remove.ensures.updates

pub returns-in-Ok-clause-ok : goal.returns-in-Ok-clause-ok
returns-in-Ok-clause-ok c =
    let i = c.self.inside in
    let v = c.self.view_is in
    let u = c.requires.unknown in
    let k = c.args.known in
    let n = c.in_ok-number.number in
    let unknown : count_in (values_of (entries_seen i.moves i.entries.entries)) k.id.0 ≡ None = cc in
    let entries = c.in-Ok.ensures.entries ∙ inserted-last i.entries.entries n c.of-met.result (recursion_from_All _ (keys_of i.entries.entries) c.in_ok-number.ensures.above) in
    let is : c.of-met.result ≡ written c.len.result k = c.of-met.ensures in
    let all = added-kept i.moves i.entries.entries c.insert-2.new.self.entries i.numbers c.insert.new.self n c.of-met.result k c.self.invariant unknown c.requires.counted (is ∙ ap (λ n. written n k) c.len.ensures) entries c.in-Ok.ensures.ordered c.in_ok-insert.ensures.updates in
    all.1 ∙ ap (λ ks. ks ++ k ∷ []) c.self.view_is
