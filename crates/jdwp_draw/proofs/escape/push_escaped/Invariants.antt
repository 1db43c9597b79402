use Rattle.std.proofs.Common.{◌≡◌, ◌++◌, take}
use Rattle.std.specs.String.{string_bytes}
use Rattle.jdwp_draw.specs.Escapes.{escaped_text}
use Rattle.jdwp_draw.proofs.escape.push_escaped.Given as goal

-- what stands for the characters so far
abbrev pub invariant-loop-c : goal.invariant-loop-c
invariant-loop-c l = string_bytes l.out ≡ string_bytes l.fn.out ++ escaped_text (take l.c-index l.chars)
