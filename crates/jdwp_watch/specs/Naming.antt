-- Of which threads something was told.
use Rattle.std.specs.Prelude.{◌≡◌, ℕ, Bool, true, false, List, map, Option, Some, None, Contains}
use Rattle.std.specs.Ordering.{nat_cmp}
use Rattle.std.specs.List.Sorted.{IsStrictlySortedBy}
use Rattle.jdwp_value.specs.declared.id.ObjectId.{ObjectId}
use Rattle.jdwp_event.specs.Told.{object_id}
use Rattle.jdwp_apart.specs.Following.{Following}
use Rattle.jdwp_apart.specs.Watch.{Knows, Unseen, Counted, Named}
use Rattle.jdwp_watch.specs.Ledgers.{Account}
use Rattle.jdwp_watch.specs.Standings.{knows_of}
use Rattle.jdwp_watch.specs.Tables.{at}

-- whether a thread was seen to live: a composite of its own was read, or an OK reply about it
abbrev pub is_seen : Knows → Bool
is_seen Unseen = false
is_seen (Counted ticket) = true
is_seen (Named asked) = true

-- by what is followed of a session, where anybody can be told
abbrev pub is_named_in : Option Following → ℕ → Bool
is_named_in None t = false
is_named_in (Some f) t = is_seen (f.watch.knows t)

-- the same by what is kept of it
abbrev pub is_named_at : Account → ℕ → Bool
is_named_at a t = is_seen (knows_of (at a.table t).knows)

-- These threads stand in the order of their ids, and each that was named is among them.
pub record Covers (is_named : ℕ → Bool) (threads : List ObjectId) : Type 0 where
  pub ids : List ℕ
  pub are : threads ≡ map object_id ids
  pub rising : IsStrictlySortedBy nat_cmp ids
  pub all : (t : ℕ) → is_named t ≡ true → Contains ids t
