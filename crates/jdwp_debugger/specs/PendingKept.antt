-- How a debugger keeps the commands that wait for replies: by the ids of their packets, in the order asked, behind the places of those that
-- were settled as the oldest.
use Rattle.std.specs.Prelude.{◌≡◌, ℕ, ◌≤◌, List, drop, length, map, take, None}
use Rattle.std.specs.List.{AllByRecursion}
use Rattle.jdwp_debugger.specs.declared.pending.Asked as kept
use Rattle.jdwp_debugger.specs.Debuggers.{Asked}
use Rattle.jdwp_mirror.specs.Messages.{id_sizes}

abbrev pub asked_of : ℕ × kept.Asked → Asked
asked_of entry = record { id = entry.0; ticket = entry.1.ticket; command = entry.1.command }

abbrev pub asked_in : List (ℕ × kept.Asked) → List Asked
asked_in entries = map asked_of entries

-- those that wait, where so many in front are settled
abbrev pub waiting_in : ℕ → List (ℕ × kept.Asked) → List Asked
waiting_in settled entries = asked_in (drop settled entries)

-- what stands in place of a settled command: no ticket, and IDSizes, which carries nothing
abbrev pub bare : kept.Asked
bare = record { ticket = None; command = id_sizes }

abbrev pub IsBare : ℕ × kept.Asked → Type 0
IsBare entry = entry.1 ≡ bare

-- Of those that are settled nothing is kept but their ids and places.
abbrev pub KeepsNoSettled : ℕ → List (ℕ × kept.Asked) → Type 0
KeepsNoSettled settled entries = (settled ≤ length entries) × AllByRecursion IsBare (take settled entries)
