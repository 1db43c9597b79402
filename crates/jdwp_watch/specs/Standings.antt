-- What is kept of each thread, and what packets make of it. Numbers stop at the greatest that is kept, which none reaches.
use Rattle.std.specs.Prelude.{◌≡◌, ℕ, ◌+◌, ◌-◌, ◌^◌, ◌≤◌, nat_le, nat_lt, min, Bool, ◌||◌, ◌&&◌, Option, Some, None, is_some, if◌then◌else◌}
use Rattle.jdwp_apart.specs.Watch as definition
use Rattle.jdwp_watch.specs.declared.bound.Bound.{Bound}
use Rattle.jdwp_watch.specs.declared.standing.Knows.{Knows}
use Rattle.jdwp_watch.specs.declared.standing.Knows.TheVariants.{Unseen, Counted, Named}
use Rattle.jdwp_watch.specs.declared.standing.Standing.{Standing}
use Rattle.jdwp_watch.specs.declared.standing.Telling.{Telling}
use Rattle.jdwp_watch.specs.declared.standing.Change.{Change}
use Rattle.jdwp_watch.specs.declared.standing.Change.TheVariants.{Keep, Replied, Reported, Invoked, Returned}

-- ---- what they mean

abbrev pub bound_of : Bound → definition.Bound
bound_of b = record { value = b.value; base = b.base }

abbrev pub knows_of : Knows → definition.Knows
knows_of Unseen = definition.Unseen
knows_of (Counted n) = definition.Counted n
knows_of (Named n) = definition.Named n

-- ---- one bound

abbrev pub no_bound : Bound
no_bound = record { value = 0; base = 0 }

abbrev pub one_more : ℕ → ℕ
one_more n = min (n + 1) (2 ^ 64 - 1)

abbrev pub raised : Bool → Bound → Bound
raised is b = if is then record { value = one_more b.value; base = b.base } else b

abbrev pub raised_after : ℕ → Bool → Bound → Bound
raised_after ticket is b = if nat_le b.base ticket then raised is b else b

abbrev pub lowered_one : ℕ → Bound → Bound
lowered_one ticket b = if nat_le 1 b.value then record { value = b.value - 1; base = b.base } else record { value = 0; base = ticket }

abbrev pub lowered : ℕ → Bool → Bound → Bound
lowered ticket is b = if is then lowered_one ticket b else b

abbrev pub recounted : ℕ → ℕ → Bound → Bound
recounted ticket n b = if nat_lt b.value n then record { value = n; base = ticket } else b

-- ---- what is known to live

abbrev pub counted_at : ℕ → Knows → Knows
counted_at ticket Unseen = Counted ticket
counted_at ticket (Counted n) = Counted n
counted_at ticket (Named n) = Named n

abbrev pub named_at : ℕ → Knows → Knows
named_at asked Unseen = Named asked
named_at asked (Counted n) = Named n
named_at asked (Named n) = Named n

abbrev pub named_by : Option ℕ → Knows → Knows
named_by None k = k
named_by (Some asked) k = named_at asked k

-- ---- a thread

abbrev pub first_standing : Standing
first_standing = record { told = no_bound; recounted = no_bound; knows = Unseen; invoked = 0 }

abbrev pub is_raised : ℕ → Telling → Knows → Bool
is_raised ticket d k = d.raises && (d.shows || definition.lived_at (knows_of k) ticket)

abbrev pub replied : ℕ → Telling → Standing → Standing
replied ticket d s = record {
  told = lowered ticket d.lowers (raised (is_raised ticket d s.knows) s.told);
  recounted = recounted ticket d.count (lowered ticket d.lowers (raised (is_raised ticket d s.knows) s.recounted));
  knows = if d.shows then counted_at ticket s.knows else s.knows;
  invoked = s.invoked;
}

abbrev pub is_stopped : ℕ → Bool → Option ℕ → Knows → Bool
is_stopped after stops named k = stops && (is_some named || definition.lived_after (knows_of k) after)

abbrev pub reported : ℕ → Bool → Option ℕ → Standing → Standing
reported after stops named s = record {
  told = raised_after after (is_stopped after stops named s.knows) s.told;
  recounted = raised_after after (is_stopped after stops named s.knows) s.recounted;
  knows = named_by named s.knows;
  invoked = s.invoked;
}

abbrev pub changed : Change → Standing → Standing
changed Keep s = s
changed (Replied ticket d) s = replied ticket d s
changed (Reported after stops named) s = reported after stops named s
changed Invoked s = record s { invoked = one_more s.invoked }
changed Returned s = record s { invoked = s.invoked - 1 }

-- ---- nobody

-- Of a thread that was never named nothing is known: no command and no event surely raised its count.
pub record IsUnseen (s : Standing) : Type 0 where
  pub told : s.told.value ≡ 0
  pub recounted : s.recounted.value ≡ 0
  pub knows : s.knows ≡ Unseen

-- ---- how far numbers go

pub record IsWithin (most : ℕ) (s : Standing) : Type 0 where
  pub told : s.told.value ≤ most
  pub recounted : s.recounted.value ≤ most
  pub invoked : s.invoked ≤ most
