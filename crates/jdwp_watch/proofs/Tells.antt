-- What replies and composites tell, thread by thread.
use Rattle.std.proofs.Common.{◌≡◌, ℕ, Bool, true, false, ◌||◌, Option, Some, None, refl, sym, if◌then◌else◌}
use Rattle.std.specs.Prelude.{◌==◌, unwrap_or}
use Rattle.jdwp_layout.specs.declared.answer.Answer.{Answer}
use Rattle.jdwp_layout.specs.declared.answer.Answer.TheVariants.{Data, Error}
use Rattle.jdwp_action.specs.Actions as actions
use Rattle.jdwp_action.specs.Actions.{Action}
use Rattle.jdwp_event.specs.Composites.{POLICY_EVENT_THREAD, POLICY_ALL}
use Rattle.jdwp_event.specs.Told.{id_found}
use Rattle.jdwp_apart.specs.Messages.{Composite, is_own, is_refused, is_thread, raises, lowers, counted_by, answered_count, count_in, needs, stops, one_if}
use Rattle.jdwp_watch.specs.declared.standing.Telling.{Telling}
use Rattle.jdwp_watch.specs.declared.told.Told.{Told}
use Rattle.jdwp_watch.specs.Tables.{is_of}
use Rattle.jdwp_watch.specs.Tellings.{counted, lowered, nothing, raised, stops_in, told_in}

-- what is told of a thread
abbrev pub telling_at : Told → ℕ → Telling
telling_at d t = if is_of d.thread t then d.own else unwrap_or d.others nothing

-- it is what the reply to a command with this action tells
pub record AreTold (a : Action) (answer : Answer) (t : ℕ) (d : Telling) : Type 0 where
  pub gives : (if is_refused answer then 0 else raises a t) ≡ one_if d.raises
  pub takes : (if is_refused answer then 0 else lowers a t) ≡ one_if d.lowers
  pub counted : (if is_refused answer then 0 else counted_by a (answered_count answer) t) ≡ d.count
  pub shows : (if is_refused answer then false else is_thread (needs a) t) ≡ d.shows

abbrev IsAlike : ℕ → ℕ → ℕ → Bool → Telling → Type 0
IsAlike up down n shown d = (up ≡ one_if d.raises) × (down ≡ one_if d.lowers) × (n ≡ d.count) × (shown ≡ d.shows)

one-raised : (b : Bool) → IsAlike (one_if b) 0 0 b (if b then record raised { shows = true } else nothing)
one-raised true = (refl, refl, refl, refl)
one-raised false = (refl, refl, refl, refl)

one-lowered : (b : Bool) → IsAlike 0 (one_if b) 0 b (if b then record lowered { shows = true } else nothing)
one-lowered true = (refl, refl, refl, refl)
one-lowered false = (refl, refl, refl, refl)

one-counted : (n : ℕ) (b : Bool) → IsAlike 0 0 (if b then n else 0) b (if b then record (counted n) { shows = true } else nothing)
one-counted n true = (refl, refl, refl, refl)
one-counted n false = (refl, refl, refl, refl)

pub tells : (a : Action) (answer : Answer) (t : ℕ) → AreTold a answer t (telling_at (told_in a answer) t)
tells a (Error e) t = record { gives = refl; takes = refl; counted = refl; shows = refl }
tells (actions.SuspendThread u) (Data content) t = let all = one-raised (u == t) in record { gives = all.0; takes = all.1; counted = all.2; shows = all.3 }
tells (actions.ResumeThread u) (Data content) t = let all = one-lowered (u == t) in record { gives = all.0; takes = all.1; counted = all.2; shows = all.3 }
tells (actions.SuspendCount u) (Data content) t = let all = one-counted (count_in content) (u == t) in record { gives = all.0; takes = all.1; counted = all.2; shows = all.3 }
tells a (Data content) t = record { gives = refl; takes = refl; counted = refl; shows = refl }

-- ---- composites

pub found-thread : (o : Option ℕ) (t : ℕ) → is_of (id_found o) t ≡ is_thread o t
found-thread None t = refl
found-thread (Some u) t = refl

stopped : (all one is : Bool) → one_if (if is then all || one else all) ≡ (if all then 1 else (if one then one_if is else 0))
stopped true true true = refl
stopped true true false = refl
stopped true false true = refl
stopped true false false = refl
stopped false true true = refl
stopped false true false = refl
stopped false false true = refl
stopped false false false = refl

-- a composite stops a thread of its own, or another one
pub stops-told : (s : Composite) (t : ℕ) → stops s t ≡ one_if (if is_own s t then (stops_in s.meaning).own else (stops_in s.meaning).others)
stops-told s t = sym (stopped (s.meaning.policy == POLICY_ALL) (s.meaning.policy == POLICY_EVENT_THREAD) (is_own s t))
