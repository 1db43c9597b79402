use Rattle.std.proofs.Common.{◌≡◌, ◌++◌, flat_map}
use Rattle.std.specs.String.{string_bytes}
use Rattle.jdwp_value.specs.declared.id.ObjectId.{ObjectId}
use Rattle.jdwp_attach.specs.Telling.{named_line}
use Rattle.jdwp_attach.proofs.tell.mirrors.put_named.Given as goal

-- the lines of those so far, and of those that are left
abbrev pub invariant-loop-thread : goal.invariant-loop-thread
invariant-loop-thread l =
    string_bytes l.text ++ flat_map (λ (thread : ObjectId). named_line l.debugger thread.0) l.thread-iterator
    ≡ string_bytes l.fn.text ++ flat_map (λ (thread : ObjectId). named_line l.debugger thread.0) l.initial.thread-iterator
