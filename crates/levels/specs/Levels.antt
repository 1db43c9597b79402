-- Suspend counts as levels above a base: what is kept of each thread, in which order threads stand, and what moves leave of both.
use Rattle.std.specs.Prelude.{ℕ, ◌≡◌, ◌<◌, ◌≤◌, ◌+◌, ◌-◌, ◌^◌, ◌==◌, ◌&&◌, not, nat_lt, Bool, true, false, List, length, get_or, map, if◌then◌else◌}
use Rattle.std.specs.List.{sum_by}
use Rattle.levels.specs.Counts.{Counts, count_most}
use Rattle.levels.specs.declared.entries.Entry.{Entry}
use Rattle.levels.specs.declared.order.Rank.{Rank}

-- entries by their places, for how many there is room, and how often one was read or written
pub record EntryList : Type 0 where
  pub list : List Entry
  pub capacity : ℕ
  pub looks : ℕ

-- ranks in the order, for how many there is room, and how often one was read or written
pub record RankList : Type 0 where
  pub list : List Rank
  pub capacity : ℕ
  pub looks : ℕ

-- one look more
abbrev pub seen : EntryList → EntryList
seen entries = record entries { looks = entries.looks + 1 }

abbrev pub rank_seen : RankList → RankList
rank_seen ranks = record ranks { looks = ranks.looks + 1 }

-- how far a level stands above a base, modulo 2 ^ 64
abbrev pub above : ℕ → ℕ → ℕ
above base level = if nat_lt level base then (level + 2 ^ 64) - base else level - base

-- one below, and one above
abbrev pub before : ℕ → ℕ
before level = if level == 0 then 2 ^ 64 - 1 else level - 1

abbrev pub after : ℕ → ℕ
after level = if level == 2 ^ 64 - 1 then 0 else level + 1

-- ---- what is kept of a thread

abbrev pub count_at : ℕ → Entry → ℕ
count_at base entry = if entry.is_suspended then above base entry.level else 0

abbrev pub view_of : ℕ → List Entry → ℕ → ℕ → Counts
view_of base entries visits capacity = record { counts = map (count_at base) entries; visits = visits; capacity = capacity; looks = 0; rank_looks = 0 }

abbrev pub no_entry : Entry
no_entry = record { level = 0; rank = 0; is_suspended = false }

abbrev pub no_rank : Rank
no_rank = record { place = 0; level = 0 }

abbrev pub entry_at : List Entry → ℕ → Entry
entry_at es i = get_or es i no_entry

abbrev pub rank_at : List Rank → ℕ → Rank
rank_at rs p = get_or rs p no_rank

-- ---- the order

-- An entry stands at a rank of the order: it knows so, it is suspended where the rank is one of the first, and both have its level.
pub record IsAt (es : List Entry) (r : Rank) (p suspended : ℕ) : Type 0 where
  pub inside : r.place < length es
  pub back : (entry_at es r.place).rank ≡ p
  pub is : (entry_at es r.place).is_suspended ≡ nat_lt p suspended
  pub height : (entry_at es r.place).level ≡ r.level

-- each rank of the order is an entry's, and each entry has one
pub record AreLinked (es : List Entry) (rs : List Rank) (suspended : ℕ) : Type 0 where
  pub same : length rs ≡ length es
  pub within : suspended ≤ length rs
  pub placed : (p : ℕ) → p < length rs → IsAt es (rank_at rs p) p suspended
  pub ranked : (i : ℕ) → i < length es → ((entry_at es i).rank < length rs) × ((rank_at rs (entry_at es i).rank).place ≡ i)

-- the levels of those that are suspended fall along the order, and stand 1 to the greatest count above the base
pub record AreFalling (base : ℕ) (rs : List Rank) (suspended : ℕ) : Type 0 where
  pub falls : (p q : ℕ) → p ≤ q → q < suspended → above base (rank_at rs q).level ≤ above base (rank_at rs p).level
  pub positive : (p : ℕ) → p < suspended → 1 ≤ above base (rank_at rs p).level
  pub most : (p : ℕ) → p < suspended → above base (rank_at rs p).level ≤ count_most
  pub levels : (p : ℕ) → p < suspended → (rank_at rs p).level < 2 ^ 64

pub record IsRight (base : ℕ) (es : List Entry) (rs : List Rank) (suspended : ℕ) : Type 0 where
  pub linked : AreLinked es rs suspended
  pub falling : AreFalling base rs suspended
  pub few : length rs < 2 ^ 32
  pub based : base < 2 ^ 64

-- ---- what a visit is counted by

-- how many run
abbrev pub one_running : Entry → ℕ
one_running entry = if entry.is_suspended then 0 else 1

abbrev pub running : List Entry → ℕ
running entries = sum_by one_running entries

-- how many are suspended at the base
abbrev pub one_at : ℕ → Entry → ℕ
one_at base entry = if entry.is_suspended && (entry.level == base) then 1 else 0

abbrev pub at_base : ℕ → List Entry → ℕ
at_base base entries = sum_by (one_at base) entries

-- ---- moves of the base

abbrev pub between : ℕ → ℕ → ℕ → Bool
between from to p = not (nat_lt p from) && nat_lt p to

abbrev pub suspended_at : ℕ → Entry → Entry
suspended_at level entry = record { level = level; rank = entry.rank; is_suspended = true }

abbrev pub runs : Entry → Entry
runs entry = record { level = entry.level; rank = entry.rank; is_suspended = false }

abbrev pub lifted : ℕ → Rank → Rank
lifted level rank = record { place = rank.place; level = level }

-- those whose rank is from `from` on and below `to` became suspended at a level
abbrev pub risen : ℕ → ℕ → ℕ → Entry → Entry
risen from level to entry = if between from to entry.rank then suspended_at level entry else entry

abbrev pub risen_rank : ℕ → ℕ → ℕ → ℕ → Rank → Rank
risen_rank from level to p rank = if between from to p then lifted level rank else rank

pub record Risen (from level to : ℕ) (es : List Entry) (rs : List Rank) (es1 : List Entry) (rs1 : List Rank) : Type 0 where
  pub entries : length es1 ≡ length es
  pub ranks : length rs1 ≡ length rs
  pub entry : (i : ℕ) → i < length es → entry_at es1 i ≡ risen from level to (entry_at es i)
  pub rank : (p : ℕ) → p < length rs → rank_at rs1 p ≡ risen_rank from level to p (rank_at rs p)

-- those whose rank is from `to` on and below `from` run
abbrev pub fallen : ℕ → ℕ → Entry → Entry
fallen from to entry = if between to from entry.rank then runs entry else entry

pub record Fallen (from to : ℕ) (es es1 : List Entry) : Type 0 where
  pub entries : length es1 ≡ length es
  pub entry : (i : ℕ) → i < length es → entry_at es1 i ≡ fallen from to (entry_at es i)

-- those from `to` on and below `from` stand at the base, and the one before them does not
pub record StopsAt (base from to : ℕ) (rs : List Rank) : Type 0 where
  pub within : to ≤ from
  pub here : (p : ℕ) → to ≤ p → p < from → (rank_at rs p).level ≡ base
  pub next : 0 < to → (rank_at rs (to - 1)).level ≡ base → ⊥

-- the one that stands before those, where there is one
abbrev pub next_one : ℕ → ℕ
next_one to = if to == 0 then 0 else 1

-- ---- a move of one thread

-- each entry has a rank in the order, and each rank is an entry's
pub record ArePaired (es : List Entry) (rs : List Rank) : Type 0 where
  pub placed : (p : ℕ) → p < length rs → ((rank_at rs p).place < length es) × ((entry_at es (rank_at rs p).place).rank ≡ p)
  pub ranked : (i : ℕ) → i < length es → ((entry_at es i).rank < length rs) × ((rank_at rs (entry_at es i).rank).place ≡ i)

-- an entry was put at a rank of the order with a level, and what stood there stands where it was
pub record Put (place to level : ℕ) (is : Bool) (es : List Entry) (rs : List Rank) (es1 : List Entry) (rs1 : List Rank) : Type 0 where
  pub entries : length es1 ≡ length es
  pub ranks : length rs1 ≡ length rs
  pub own : entry_at es1 place ≡ record { level = level; rank = to; is_suspended = is }
  pub other : ((rank_at rs to).place ≡ place → ⊥) → entry_at es1 (rank_at rs to).place ≡ record {
    level = (entry_at es (rank_at rs to).place).level;
    rank = (entry_at es place).rank;
    is_suspended = (entry_at es (rank_at rs to).place).is_suspended;
  }
  pub rest : (i : ℕ) → (i ≡ place → ⊥) → (i ≡ (rank_at rs to).place → ⊥) → entry_at es1 i ≡ entry_at es i
  pub there : rank_at rs1 to ≡ record { place = place; level = level }
  pub here : ((entry_at es place).rank ≡ to → ⊥) → rank_at rs1 (entry_at es place).rank ≡ rank_at rs to
  pub ranked : (p : ℕ) → (p ≡ to → ⊥) → (p ≡ (entry_at es place).rank → ⊥) → rank_at rs1 p ≡ rank_at rs p

-- those before a rank stand at a count or above it, and those from there on below it
pub record Splits (base least at end : ℕ) (rs : List Rank) : Type 0 where
  pub within : at ≤ end
  pub front : (p : ℕ) → p < at → least ≤ above base (rank_at rs p).level
  pub back : (p : ℕ) → at ≤ p → p < end → above base (rank_at rs p).level < least

-- ---- one more, and one less

abbrev pub last_entry : ℕ → Entry
last_entry rank = record { level = 0; rank = rank; is_suspended = false }

abbrev pub last_rank : ℕ → Rank
last_rank place = record { place = place; level = 0 }

-- what is above a place or rank that is gone moves down
abbrev pub closed : ℕ → ℕ → ℕ
closed gone n = if nat_lt gone n then n - 1 else n

abbrev pub closed_entry : ℕ → Entry → Entry
closed_entry gone entry = record { level = entry.level; rank = closed gone entry.rank; is_suspended = entry.is_suspended }

abbrev pub closed_rank : ℕ → Rank → Rank
closed_rank gone rank = record { place = closed gone rank.place; level = rank.level }

pub record AreRanksClosed (gone : ℕ) (es es1 : List Entry) : Type 0 where
  pub entries : length es1 ≡ length es
  pub entry : (i : ℕ) → i < length es → entry_at es1 i ≡ closed_entry gone (entry_at es i)

pub record ArePlacesClosed (gone : ℕ) (rs rs1 : List Rank) : Type 0 where
  pub ranks : length rs1 ≡ length rs
  pub rank : (p : ℕ) → p < length rs → rank_at rs1 p ≡ closed_rank gone (rank_at rs p)
