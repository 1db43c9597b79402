-- What a ring of bytes is once its bytes, or a part of them, were lent.
use Rattle.std.specs.Prelude.{◌≡◌, ℕ, List, length, ⊤}
use Rattle.std.specs.Borrow.{RattleType, Fml, MutBor, Array, Lends, follows_so, u8}
use Rattle.std.specs.List.{refill}
use Rattle.std.specs.contracts.alloc.Global as global
use Rattle.std.specs.contracts.impls.GlobalAllocator.TheImpl.{ghosts}
use Rattle.circular_buffer.specs.Buffer.{Buffer, buffer}
use Rattle.circular_buffer.specs.contracts.heap.HeapCircularBuffer.{the_row}
use mathlib.Core.Option.{none}

abbrev pub ring_row : RattleType
ring_row = the_row u8 global.the_row ghosts

-- lent to be read: as it was, its list and its room
abbrev pub RingStays : MutBor (Buffer ℕ) → Fml
RingStays ring = follows_so ring_row ring_row ring.ghost_name none (λ _ _. ⊤) (λ last. last ≡ ring.now)

-- with the last bytes written through the piece that was lent
abbrev pub with_piece : Buffer ℕ → List ℕ → Buffer ℕ
with_piece ring bytes = buffer (refill (length ring.items) ring.items bytes) ring.capacity

abbrev pub LendsPiece : MutBor (Buffer ℕ) → MutBor (List ℕ) → Fml
LendsPiece ring piece = Lends ring_row (Array u8 0) ring piece (with_piece ring.now)
