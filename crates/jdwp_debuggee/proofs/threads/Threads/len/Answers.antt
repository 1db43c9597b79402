use Rattle.std.proofs.Common.{arith}
use Rattle.jdwp_debuggee.proofs.EntryLists.{length-threads}
use Rattle.jdwp_debuggee.proofs.threads.Threads.len.Goals as goal

pub returns : goal.returns
returns c =
    let i = c.self.inside in
    let count = length-threads i.entries.items i.counts.counts in
    rw (← c.self.view_is) (omega (arith, count, c.len.ensures, i.entries.ok.0))
