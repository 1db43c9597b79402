-- Messages that wait, but for their data.
use Rattle.std.specs.Prelude.{ℕ, List, [], ◌∷◌, take, drop}
use Rattle.std.specs.List.{sum_by}
use Rattle.jdwp_wire.specs.Streams.{Handshake, Packet}
use Rattle.jdwp_judge.specs.declared.entry.Entry.{Entry}
use Rattle.jdwp_judge.specs.declared.entry.Kind.{Kind}
use Rattle.jdwp_judge.specs.declared.entry.Kind.TheVariants as kind
use Rattle.jdwp_judge.specs.Heard.{Kept}
use Rattle.jdwp_show.specs.Found.{Found, Sent, Faulty}
use Rattle.jdwp_show.specs.Items.{Item, item_at}

-- what was found, with these data
abbrev pub thing_with : Kind → List ℕ → Found
thing_with kind.Handshake body = Sent Handshake
thing_with (kind.Packet header) body = Sent (Packet header body)
thing_with (kind.Fault fault) body = Faulty fault

abbrev pub item_with : Entry → List ℕ → Item
item_with entry body = item_at entry.piece entry.sender (thing_with entry.kind body)

abbrev pub kept_with : Entry → List ℕ → Kept
kept_with entry body = record { item = item_with entry body; begun = entry.begun; waits = entry.waits }

-- how many bytes of data they have
abbrev pub total : List Entry → ℕ
total entries = sum_by (λ entry. entry.length) entries

-- each with its data, which stand one behind the other
abbrev pub all_with : List Entry → List ℕ → List Kept
all_with [] bodies = []
all_with (entry ∷ entries) bodies = kept_with entry (take entry.length bodies) ∷ all_with entries (drop entry.length bodies)
