use Rattle.std.proofs.Common.{Some, None, ◌∙◌, ap, arith}
use Rattle.std.proofs.lemmas.List.{get_or_read}
use Rattle.jdwp_debuggee.specs.declared.threads.ThreadEntry.{ThreadEntry}
use Rattle.jdwp_debuggee.proofs.EntryLists.{found-mark, found-within, no_entry}
use Rattle.jdwp_debuggee.proofs.threads.Threads.is_marked.Goals as goal

pub index-requires : goal.index-requires
index-requires c =
    let found = rw c.deref.ensures.value at c.in-Some.ensures in
    let inside = found-within c.args.thread.0 c.in-Some.place c.self.inside.entries.items found in
    omega (arith, inside)

pub returns-in-Some : goal.returns-in-Some
returns-in-Some c =
    let i = c.self.inside in
    let found = rw c.deref.ensures.value at c.in-Some.ensures in
    let inside = found-within c.args.thread.0 c.in-Some.place i.entries.items found in
    let read = get_or_read i.entries.items _ _ inside c.index.ensures no_entry in
    rw (← c.self.view_is) (ap (λ (e : ThreadEntry). e.death_reported) read ∙ found-mark c.args.thread.0 (Some c.in-Some.place) i.entries.items i.counts.counts c.self.invariant found)

pub returns-in-None : goal.returns-in-None
returns-in-None c =
    let i = c.self.inside in
    let found = rw c.deref.ensures.value at c.in-None.ensures in
    rw (← c.self.view_is) (found-mark c.args.thread.0 None i.entries.items i.counts.counts c.self.invariant found)
