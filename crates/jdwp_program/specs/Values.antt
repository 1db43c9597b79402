-- The values of options.
use Rattle.std.specs.Prelude.{◌≡◌, ◌≢◌, ◌<◌, ◌^◌, ◌++◌, ◌∷◌, ℕ, List, get_or, length}
use Rattle.std.specs.Str.Parse.{IsNumeral, digits_value}
use Rattle.jdwp_wire.specs.Limits.{AreLimits, Limits}

-- the text is a number below 2^32 in decimal: digits alone, at least one
abbrev pub IsDecimal : List ℕ → ℕ → Type 0
IsDecimal text number = IsNumeral 10 text × (digits_value 10 text ≡ number) × (number < 2 ^ 32)

-- the byte `,`
abbrev pub comma : ℕ
comma = 44

abbrev pub HasNoComma : List ℕ → Type 0
HasNoComma text = (place : ℕ) → place < length text → get_or text place 0 ≢ comma

-- the text is what is before its first comma, the comma, and what is behind it
abbrev pub IsPartedByComma : List ℕ → List ℕ → List ℕ → Type 0
IsPartedByComma text before behind = (text ≡ before ++ (comma ∷ behind)) × HasNoComma before

-- the texts are the four numbers of these limits in decimal
pub record AreNumbers (packet live requests pending : List ℕ) (limits : Limits) : Type 0 where
  pub packet_is : IsDecimal packet limits.packet
  pub live_is : IsDecimal live limits.live
  pub requests_is : IsDecimal requests limits.requests
  pub pending_is : IsDecimal pending limits.pending
  pub are_limits : AreLimits limits.packet limits.live limits.requests limits.pending

-- the text is these numbers, with a comma between each two
pub record IsSaidBy (text : List ℕ) (limits : Limits) : Type 0 where
  pub packet : List ℕ
  pub live : List ℕ
  pub requests : List ℕ
  pub pending : List ℕ
  pub said : text ≡ packet ++ comma ∷ (live ++ comma ∷ (requests ++ comma ∷ pending))
  pub are_numbers : AreNumbers packet live requests pending limits
