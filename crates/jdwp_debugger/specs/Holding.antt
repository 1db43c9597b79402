-- Whom a debugger holds for suspended, and how often at least.
use Rattle.std.specs.Prelude.{ℕ, Bool, List, nat_lt, unwrap_or, Option, Some, None}
use Rattle.jdwp_apart.specs.Following.{Following}
use Rattle.jdwp_value.specs.declared.id.ObjectId.{ObjectId}
use Rattle.jdwp_apart.specs.Watch.{sure}
use Rattle.jdwp_watch.specs.Ledgers.{Account}
use Rattle.jdwp_watch.specs.Tables.{named}
use Rattle.jdwp_mirror.specs.KnownThreads.{count_in, is_held_in}
use Rattle.jdwp_debugger.specs.declared.order.Order.{Order}
use Rattle.jdwp_debugger.specs.declared.order.Order.TheVariants.{One, Apart}
use Rattle.jdwp_debugger.specs.Debuggers.{Debugger}
use Rattle.jdwp_debugger.specs.FollowingKept.{following}
use Rattle.jdwp_watch.specs.Naming.{is_named_in}

-- what the suspend count of a thread is surely no less than, 0 where nobody can be told
abbrev pub surely : Option Following → ℕ → ℕ
surely None t = 0
surely (Some f) t = sure f.watch t

-- By the order in which the target sends: the count that the mirror has, 0 where it has none, or what is sure by all that was put and read.
abbrev pub least_in : Order → Debugger → ℕ → ℕ
least_in One d t = unwrap_or (count_in d.mirror.threads t) 0
least_in Apart d t = surely (following d) t

abbrev pub at_least : Debugger → ℕ → ℕ
at_least d t = least_in d.order d t

-- whether the mirror holds a thread, or it is surely suspended
abbrev pub held_in : Order → Debugger → ℕ → Bool
held_in One d t = is_held_in d.mirror.threads t
held_in Apart d t = nat_lt 0 (surely (following d) t)

abbrev pub is_held : Debugger → ℕ → Bool
is_held d t = held_in d.order d t

-- the threads that were named, none where nothing is followed
abbrev pub named_in : Option Account → Option (List ObjectId)
named_in None = None
named_in (Some a) = Some (named a.table)

-- whether a thread was named, by what is followed
abbrev pub is_named : Debugger → ℕ → Bool
is_named d t = is_named_in (following d) t
