-- What an end sent that belongs to no message yet.
use Rattle.std.specs.Prelude.{◌≡◌, ◌≤◌, ℕ, ◌+◌, List, [], ◌∷◌, ◌++◌, length, drop, Bool, true, Option, Some, None}
use Rattle.jdwp_judge.specs.declared.coming.Coming.{Coming}
use Rattle.jdwp_judge.specs.declared.heard.Found as declared
use Rattle.jdwp_judge.specs.declared.heard.Found.TheVariants as here
use Rattle.jdwp_judge.specs.Heard.{thing}
use Rattle.jdwp_show.specs.declared.capture_line.Sender.{Sender}
use Rattle.jdwp_show.specs.CaptureLines.{lengths_of}
use Rattle.jdwp_show.specs.Found.{Found, found, found_after, found_length}
use Rattle.jdwp_show.specs.Items.{Item}

-- what is found behind it, where these bytes follow it; nothing follows a fault
abbrev pub found_behind : declared.Found → List ℕ → List Found
found_behind here.Handshake bytes = found_after true bytes
found_behind (here.Packet packet) bytes = found_after true bytes
found_behind (here.Fault fault) bytes = []

-- so many bytes in front are this, or nothing is whole there
abbrev pub IsNext : Bool → List ℕ → Option (declared.Found × ℕ) → Type 0
IsNext handshaken bytes None = found_after handshaken bytes ≡ []
IsNext handshaken bytes (Some next) = ((more : List ℕ) → found_after handshaken (bytes ++ more) ≡ thing next.0 ∷ found_behind next.0 (drop next.1 bytes ++ more)) × (next.1 ≡ found_length (thing next.0)) × (next.1 ≤ length bytes)

-- All that is whole of what the end sent was taken, and is among these items.
pub record IsComing (sent : List ℕ) (items : List Item) (sender : Sender) (coming : Coming) : Type 0 where
  pub goes_on : (more : List ℕ) → found (sent ++ more) ≡ found sent ++ found_after coming.handshaken (coming.bytes.items ++ more)
  pub none_whole : found_after coming.handshaken coming.bytes.items ≡ []
  pub counted : length sent ≡ lengths_of sender items + length coming.bytes.items
