-- What a debugger is sure of in sessions that were worked out by hand, over a machine of two threads.
use Rattle.std.specs.Prelude.{◌≡◌, ℕ, true, false, List, [], ◌∷◌, ◌++◌, Some}
use Rattle.jdwp_layout.specs.CommandNumbers.{DISPOSE, RESUME}
use Rattle.jdwp_event.specs.Composites.{CompositeMeaning}
use Rattle.jdwp_model.specs.Events
use Rattle.jdwp_model.specs.Events.{LinkEvent}
use Rattle.jdwp_model.specs.Seen.{mirror_held}
use Rattle.jdwp_model.specs.WorkedMachine.{small, settings, measure, before}
use Rattle.jdwp_model.specs.Worked.{command, greeted, after, target_count, crossed, event_read, reply_read, both_lost}
use Rattle.jdwp_apart.specs.Watch.{sure}
use Rattle.jdwp_orders.specs.Watched.{begins, watch_after, asked_within}

-- a debugger that looks up no request
abbrev pub never : ℕ → CompositeMeaning → ℕ
never n c = 0

abbrev pub sure_after : List LinkEvent → ℕ → ℕ
sure_after events t = sure (watch_after small false never settings measure before (begins false) events) t

-- a Resume of all is asked and does not come
abbrev pub resume_asked : List LinkEvent
resume_asked = reply_read ++ Events.Ask (command RESUME []) ∷ []

abbrev pub dispose_asked : List LinkEvent
dispose_asked = reply_read ++ Events.Ask (command DISPOSE []) ∷ []

-- An event of thread 1 crosses a Suspend, and is read before its reply. By the reply the debugger is sure of thread 2, which it asked a
-- SuspendCount of before, and which the mirror does not hold.
pub record IsSureAsWorked : Type 0 where
  pub nobody : (sure_after crossed 1 ≡ 0) × (sure_after crossed 2 ≡ 0)
  pub by_the_event : (sure_after event_read 1 ≡ 1) × (sure_after event_read 2 ≡ 0)
  pub by_the_reply : (sure_after reply_read 1 ≡ 2) × (sure_after reply_read 2 ≡ 1)
  pub not_held : mirror_held (after reply_read).read 2 ≡ false
  pub in_target : (target_count (after reply_read) 1 ≡ Some 2) × (target_count (after reply_read) 2 ≡ Some 1)
  pub while_resume_waits : (sure_after resume_asked 1 ≡ 1) × (sure_after resume_asked 2 ≡ 0)
  pub within : asked_within (after resume_asked) ≡ true
  pub not_within : asked_within (after dispose_asked) ≡ false
  -- a new session after a loss
  pub anew : (sure_after both_lost 1 ≡ 0) × (sure_after (both_lost ++ greeted) 1 ≡ 0)
