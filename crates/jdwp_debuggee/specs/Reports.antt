-- What every composite is like that a target sends for event requests (JDWP specification, "Protocol Details": the command Composite of
-- the set Event).
use Rattle.std.specs.Prelude.{◌≡◌, ◌≤◌, ℕ, ⊤, List, [], ◌∷◌, length, Some}
use Rattle.std.specs.List.{AllByRecursion}
use Rattle.jdwp_layout.specs.Meanings.{ScalarMeaning}
use Rattle.jdwp_event.specs.Requests.{AskedRequest}
use Rattle.jdwp_event.specs.Composites.{CompositeMeaning, POLICY_ALL}
use Rattle.jdwp_event.specs.Told.{event_thread}

-- each request's policy is one of the three
abbrev pub HavePolicies : List AskedRequest → Type 0
HavePolicies [] = ⊤
HavePolicies (r ∷ rs) = (r.policy ≤ POLICY_ALL) × HavePolicies rs

-- Its policy is one of the three, it has an event, and all its events have one thread.
pub record IsReport (c : CompositeMeaning) : Type 0 where
  pub thread : ℕ
  pub policy : c.policy ≤ POLICY_ALL
  pub some_event : 1 ≤ length c.events
  pub one_thread : AllByRecursion (λ (event : List ScalarMeaning). event_thread event ≡ Some thread) c.events
