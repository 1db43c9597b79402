use Rattle.std.proofs.Common.{◌≡◌, ◌++◌, take, flat_map}
use Rattle.std.specs.String.{string_bytes}
use Rattle.jdwp_attach.specs.Telling.{request_line}
use Rattle.jdwp_attach.proofs.tell.mirrors.put_requests.Given as goal

-- the lines of those so far
abbrev pub invariant-loop-request : goal.invariant-loop-request
invariant-loop-request l = string_bytes l.text ≡ string_bytes l.fn.text ++ flat_map request_line (take l.request-index l.requests)
