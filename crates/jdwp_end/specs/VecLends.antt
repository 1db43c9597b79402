-- What a vector is once its bytes were lent to be read: as it was.
use Rattle.std.specs.Prelude.{◌≡◌, ℕ, ⊤}
use Rattle.std.specs.Global.{Vec}
use Rattle.std.specs.Borrow.{RattleType, Fml, MutBor, follows_so, u8}
use Rattle.std.specs.contracts.alloc.Global as global
use Rattle.std.specs.contracts.vec.Vec as vec
use Rattle.std.specs.contracts.impls.GlobalAllocator.TheImpl.{ghosts}
use mathlib.Core.Option.{none}

abbrev pub bytes_row : RattleType
bytes_row = vec.the_row u8 global.the_row ghosts

abbrev pub VecStays : MutBor (Vec ℕ) → Fml
VecStays bytes = follows_so bytes_row bytes_row bytes.ghost_name none (λ _ _. ⊤) (λ last. last ≡ bytes.now)
