use Rattle.std.proofs.Common.{◌≡◌, ◌++◌, take, flat_map}
use Rattle.std.specs.String.{string_bytes}
use Rattle.jdwp_attach.specs.Telling.{thread_line}
use Rattle.jdwp_attach.proofs.tell.mirrors.put_threads.Given as goal

-- the lines of those so far
abbrev pub invariant-loop-thread : goal.invariant-loop-thread
invariant-loop-thread l = string_bytes l.text ≡ string_bytes l.fn.text ++ flat_map thread_line (take l.thread-index l.threads)
