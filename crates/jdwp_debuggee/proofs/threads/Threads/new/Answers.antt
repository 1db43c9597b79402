use Rattle.std.proofs.Common.{◌≡◌, ◌∙◌, ap, arith, length, map, List, ℕ}
use Rattle.std.proofs.lemmas.Grind.{common_steps}
use Rattle.jdwp_machine.specs.Meanings.{numbers}
use Rattle.jdwp_debuggee.specs.Entries.{thread_of, threads_of}
use Rattle.jdwp_debuggee.specs.State.{running}
use Rattle.jdwp_debuggee.specs.declared.threads.ThreadEntry.{ThreadEntry}
use Rattle.jdwp_debuggee.proofs.EntryLists.{threads-begin}
use Rattle.jdwp_debuggee.proofs.threads.Threads.new.Goals as goal

pub returns-clause-list : goal.returns-clause-list
returns-clause-list c =
    let es = c.loop-id.entries.items in
    let all : map (λ (e : ThreadEntry). thread_of e 0) es ≡ running (numbers c.args.live.now) = grind (arith, common_steps) in
    ap (λ (ns : List ℕ). threads_of es ns) c.in_ok-counts.ensures.counts ∙ (threads-begin es (length c.args.live.now) ∙ all)

pub loop-id-preserved : goal.loop-id-preserved
loop-id-preserved c = grind (arith, common_steps)
