use Rattle.std.proofs.Common.{◌≡◌, ◌≤◌, drop, length, take}
use Rattle.milunovesk_c.specs.Packets.{StandFrom}
use Rattle.milunovesk_c.proofs.packets.tell.Given as goal

abbrev pub invariant-loop-count : goal.invariant-loop-count
invariant-loop-count l = record {
  used : l.used ≤ length l.bytes;
  told : StandFrom l.bytes 0 (take l.count l.places) l.used;
  kept : drop l.count l.places ≡ drop l.count l.initial.places;
}
