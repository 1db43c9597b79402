-- How much a session may hold. The specification leaves it to each implementation.
use Rattle.std.specs.Prelude.{ℕ, ◌≤◌, ◌+◌, ◌*◌}

-- the most bytes of a packet, and how many live threads, event requests and commands that wait for replies there may be
pub record Limits : Type 0 where
  pub packet : ℕ
  pub live : ℕ
  pub requests : ℕ
  pub pending : ℕ

-- the least and the most bytes that a packet may be limited to
abbrev pub least_packet_limit : ℕ
least_packet_limit = 2048

abbrev pub most_packet_limit : ℕ
most_packet_limit = 1048576

-- how many of something there may be
abbrev pub IsCount : ℕ → Type 0
IsCount n = (1 ≤ n) × (n ≤ 1024)

-- The most bytes of the packet of a composite event of one event for each request: 16 beside the events, and 542 for the longest event,
-- CLASS_PREPARE with ids of 8 bytes and a signature of 512.
abbrev pub composite_limit : ℕ → ℕ
composite_limit requests = 16 + 542 * requests

-- limits that there may be: such a composite event fits one packet
pub record AreLimits (packet live requests pending : ℕ) : Type 0 where
  pub packet_least : least_packet_limit ≤ packet
  pub packet_most : packet ≤ most_packet_limit
  pub live_is : IsCount live
  pub requests_is : IsCount requests
  pub pending_is : IsCount pending
  pub composite_fits : composite_limit requests ≤ packet

-- those that hold where no others are given
abbrev pub standard_limits : Limits
standard_limits = record { packet = 65536; live = 64; requests = 64; pending = 64 }
