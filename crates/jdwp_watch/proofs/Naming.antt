-- Each thread that was named stands among the threads.
use Rattle.std.proofs.Common.{◌≡◌, ℕ, true, List, Option, Some, None, refl, sym, ap, ◌∙◌}
use Rattle.std.specs.Prelude.{unwrap_or, IsSome, Contains}
use Rattle.std.specs.BTreeMap.{is_at}
use Rattle.std.specs.Cmp.{unsigned_tied}
use Rattle.std.specs.List.Sorted.{IsStrictlySortedBy}
use Rattle.std.specs.Map.{keys_of, lookup}
use Rattle.std.specs.Ordering.{nat_cmp}
use Rattle.std.proofs.lemmas.Map.Views.{Contains-keys_from_lookup, exact_unsigned_eq}
use Rattle.jdwp_value.specs.declared.id.ObjectId.{ObjectId}
use Rattle.jdwp_watch.specs.declared.standing.Knows.{Knows}
use Rattle.jdwp_watch.specs.declared.standing.Standing.{Standing}
use Rattle.jdwp_watch.specs.Ledgers.{Account}
use Rattle.jdwp_watch.specs.Naming.{Covers, is_named_at, is_seen}
use Rattle.jdwp_watch.specs.Standings.{IsUnseen, knows_of}
use Rattle.jdwp_watch.specs.Tables.{Table, at, named}

same-id : (x y : ℕ) → is_at (nat_cmp x) y ≡ true → x ≡ y
same-id x y e = exact_unsigned_eq x y (sym (unsigned_tied x y) ∙ e)

-- of whom a look-up doesn't find is known what is known of all others: nothing
found-or-none : (others : Standing) (found : Option Standing) (P : Type 0) → IsUnseen others → (IsSome found → P) → is_seen (knows_of (unwrap_or found others).knows) ≡ true → P
found-or-none others None P h there seen = absurd (let e = sym (ap (λ (k : Knows). is_seen (knows_of k)) h.knows) ∙ seen in cc)
found-or-none others (Some s) P h there seen = there refl

named-there : (table : Table) (t : ℕ) → IsUnseen table.others → is_seen (knows_of (at table t).knows) ≡ true → Contains (keys_of table.threads) t
named-there table t h seen =
    found-or-none table.others (lookup (is_at (nat_cmp t)) table.threads) (Contains (keys_of table.threads) t) h
    (λ some. Contains-keys_from_lookup {eq = λ (x y : ℕ). is_at (nat_cmp x) y} same-id t table.threads some) seen

pub named-covered : (a : Account) (threads : List ObjectId) → IsUnseen a.table.others → threads ≡ named a.table → IsStrictlySortedBy nat_cmp (keys_of a.table.threads) → Covers (is_named_at a) threads
named-covered a threads h is rising = record { ids = keys_of a.table.threads; are = is; rising = rising; all = λ t seen. named-there a.table t h seen }
