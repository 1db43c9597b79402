use Rattle.std.proofs.Common.{◌≡◌, map, take, vec_len}
use Rattle.jdwp_machine.specs.Meanings.{numbers}
use Rattle.jdwp_debuggee.specs.Entries.{thread_of}
use Rattle.jdwp_debuggee.specs.State.{running}
use Rattle.jdwp_debuggee.specs.declared.threads.ThreadEntry.{ThreadEntry}
use Rattle.jdwp_debuggee.proofs.threads.Threads.new.Given as goal

abbrev pub invariant-loop-id : goal.invariant-loop-id
invariant-loop-id l = (map (λ (e : ThreadEntry). thread_of e 0) l.entries.items ≡ running (numbers (take l.id-index l.live))) × (vec_len l.entries ≡ l.id-index)
