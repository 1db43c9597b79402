use Rattle.std.proofs.Common.{◌≡◌, ◌++◌, length, drop}
use Rattle.std.specs.Str.Lines.{lines}
use Rattle.jdwp_draw.proofs.StreamLemmas.{paired_in}
use Rattle.jdwp_draw.proofs.message_list.pair.Given as goal

-- those so far, and those of the lines that are left
abbrev pub invariant-loop-line : goal.invariant-loop-line
invariant-loop-line l = l.messages.items ++ paired_in (drop (length l.yielded) (lines l.text)) l.streams ≡ paired_in (lines l.text) l.fn.streams
