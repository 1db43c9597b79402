use Rattle.std.proofs.Common.{◌≡◌, ◌++◌, ◌∷◌, [], Bool, OnOk, List, sym, subst, ap, ◌∙◌, if◌then◌else◌, rules}
use Rattle.jdwp_mirror.specs.declared.threads.Known.{Known}
use Rattle.jdwp_mirror.specs.KnownThreads.{count_in, unseen_thread}
use Rattle.jdwp_mirror.specs.Numbering.{entries_seen}
use Rattle.jdwp_mirror.proofs.NumberingLemmas.{none-from, numbered-count}
use Rattle.jdwp_mirror.proofs.threads.Threads.meet.Goals as goal

pub returns-then-contains_key-clause-ok : goal.returns-then-contains_key-clause-ok
returns-then-contains_key-clause-ok c =
    let i = c.self.inside in
    let ks = c.args.self.now in
    let counts = numbered-count (entries_seen i.moves i.entries.entries) i.numbers ks c.args.id.0 c.self.invariant.numbered c.self.view_is in
    sym (ap (λ (known : Bool). if known then ks else ks ++ unseen_thread c.args.id ∷ []) (counts ∙ (sym c.contains_key.ensures ∙ c.if-contains_key.true)))

pub add-requires-clause-unknown : goal.add-requires-clause-unknown
add-requires-clause-unknown c =
    let i = c.self.inside in
    let ks = c.args.self.now in
    let counts = numbered-count (entries_seen i.moves i.entries.entries) i.numbers ks c.args.id.0 c.self.invariant.numbered c.self.view_is in
    none-from (count_in ks c.args.id.0) (counts ∙ (sym c.contains_key.ensures ∙ c.if-contains_key.false))

pub returns-clause-ok : goal.returns-clause-ok
returns-clause-ok c =
    let i = c.self.inside in
    let ks = c.args.self.now in
    let counts = numbered-count (entries_seen i.moves i.entries.entries) i.numbers ks c.args.id.0 c.self.invariant.numbered c.self.view_is in
    let new = ap (λ (known : Bool). if known then ks else ks ++ unseen_thread c.args.id ∷ []) (counts ∙ (sym c.contains_key.ensures ∙ c.if-contains_key.false)) in
    subst (λ (xs : List Known). OnOk c.add.result (c.add.new.self ≡ xs)) (sym new) c.add.ensures.ok

pub returns-clause-memory : goal.returns-clause-memory
returns-clause-memory c =
    let i = c.self.inside in
    let ks = c.args.self.now in
    let counts = numbered-count (entries_seen i.moves i.entries.entries) i.numbers ks c.args.id.0 c.self.invariant.numbered c.self.view_is in
    let unknown = none-from (count_in ks c.args.id.0) (counts ∙ (sym c.contains_key.ensures ∙ c.if-contains_key.false)) in
    search rules
