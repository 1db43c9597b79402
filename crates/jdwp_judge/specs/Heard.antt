-- Messages as they are heard and kept.
use Rattle.std.specs.Prelude.{◌≡◌, ℕ, List, [], ◌∷◌, ◌++◌, map, Bool, Option, Some, None, option_map}
use Rattle.std.specs.Option.{option_or}
use Rattle.jdwp_wire.specs.Streams.{Handshake, Packet}
use Rattle.jdwp_judge.specs.declared.heard.Found as heard
use Rattle.jdwp_judge.specs.declared.heard.Found.TheVariants as here
use Rattle.jdwp_judge.specs.declared.heard.Heard.{Heard}
use Rattle.jdwp_show.specs.Found.{Found, Sent, Faulty}
use Rattle.jdwp_show.specs.Items.{Item, item_at}
use Rattle.jdwp_show.specs.MessageLines.{found_line}
use Rattle.jdwp_show.specs.declared.capture_fault.CaptureFault.{CaptureFault}
use Rattle.jdwp_show.specs.declared.command_number.CommandNumber.{CommandNumber}
use Rattle.jdwp_show.specs.declared.terms.Terms.{Terms}
use Rattle.jdwp_show.specs.Rules.{has_begun, waiting_for, order_fault, data_fault}

-- what was heard, apart from where it lies in memory
abbrev pub thing : heard.Found → Found
thing here.Handshake = Sent Handshake
thing (here.Packet packet) = Sent (Packet packet.header packet.body.now)
thing (here.Fault fault) = Faulty fault

abbrev pub item_of : Heard → Item
item_of heard = item_at heard.piece heard.sender (thing heard.found)

-- ---- what those before a message say of it

-- whether the debugger's handshake is among them, and which command waits under its id
pub record IsLooked (before : List Item) (found : Found) (begun : Bool) (waits : Option CommandNumber) : Type 0 where
  pub begun_is : begun ≡ has_begun before
  pub waits_is : waits ≡ waiting_for before found

-- a message that is kept, with that
pub record Kept : Type 0 where
  pub item : Item
  pub begun : Bool
  pub waits : Option CommandNumber

abbrev pub items_kept : List Kept → List Item
items_kept kept = map (λ one. one.item) kept

abbrev pub IsKept : List Item → Kept → Type 0
IsKept before kept = IsLooked before kept.item.found kept.begun kept.waits

-- each with what those before it say
abbrev pub AreKept : List Item → List Kept → Type 0
AreKept before [] = Unit {0}
AreKept before (kept ∷ more) = IsKept before kept × AreKept (before ++ kept.item ∷ []) more

-- the rule that it breaks, where data are read so, and the piece in which its last byte stands
abbrev pub fault_by : Terms → Bool → Option CommandNumber → Item → Option (ℕ × CaptureFault)
fault_by terms begun waits item = option_map (λ fault. (item.line, fault)) (option_or (order_fault begun waits item.sender item.found) (data_fault terms waits item.sender item.found))

abbrev pub line_unless : Option (ℕ × CaptureFault) → List ℕ → List ℕ
line_unless (Some fault) line = []
line_unless None line = line

-- its line, if it breaks none
abbrev pub line_by : Terms → Bool → Option CommandNumber → Item → List ℕ
line_by terms begun waits item = line_unless (fault_by terms begun waits item) (found_line terms waits item.sender item.found)
