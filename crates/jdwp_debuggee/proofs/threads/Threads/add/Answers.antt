use Rattle.std.proofs.Common.{◌∙◌, ◌++◌, ◌∷◌, [], ap, arith, false, List}
use Rattle.levels.specs.Counts.{Counts}
use Rattle.jdwp_debuggee.specs.Entries.{threads_of}
use Rattle.jdwp_debuggee.specs.declared.threads.ThreadEntry.{ThreadEntry}
use Rattle.jdwp_debuggee.proofs.EntryLists.{length-threads, threads-push}
use Rattle.jdwp_debuggee.proofs.threads.Threads.add.Goals as goal

pub push_reserved-requires : goal.push_reserved-requires
push_reserved-requires c =
    let i = c.self.inside in
    let count = length-threads i.entries.items i.counts.counts in
    omega (arith, count, rw (← c.self.view_is) at c.requires.room, i.entries.ok.0)

pub add-requires-clause-room : goal.add-requires-clause-room
add-requires-clause-room c =
    let i = c.self.inside in
    let count = length-threads i.entries.items i.counts.counts in
    omega (arith, count, rw (← c.self.view_is) at c.requires.room, c.self.invariant)

pub add-requires-clause-few : goal.add-requires-clause-few
add-requires-clause-few c =
    let i = c.self.inside in
    let count = length-threads i.entries.items i.counts.counts in
    omega (arith, count, rw (← c.self.view_is) at c.requires.few, c.self.invariant)

pub returns-clause-list : goal.returns-clause-list
returns-clause-list c =
    let i = c.self.inside in
    let e : ThreadEntry = record { id = c.args.thread; death_reported = false } in
    rw (← c.self.view_is)
    (ap (λ (l : List ThreadEntry). threads_of l c.add.new.self.counts) c.push_reserved.ensures.items
    ∙ (ap (λ (x : Counts). threads_of (i.entries.items ++ e ∷ []) x.counts) c.add.ensures ∙ threads-push i.entries.items i.counts.counts e 0 c.self.invariant))
