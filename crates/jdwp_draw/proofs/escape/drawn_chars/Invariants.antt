use Rattle.std.proofs.Common.{◌≡◌}
use Rattle.std.specs.List.{filter}
use Rattle.jdwp_draw.specs.Escapes.{is_drawn}
use Rattle.jdwp_draw.proofs.escape.drawn_chars.Given as goal

-- those so far that are drawn
abbrev pub invariant-loop-c : goal.invariant-loop-c
invariant-loop-c l = l.found.items ≡ filter is_drawn l.yielded
