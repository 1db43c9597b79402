-- Live sessions of one target, one after the other, each on a connection of its own.
use Rattle.std.specs.Prelude.{◌≡◌, ℕ, Bool, true, false, List, [], ◌∷◌, ◌++◌, ⊤, Option, None, Some, Result, Ok, Err}
use Rattle.std.specs.List.{FoldsTo}
use Rattle.jdwp_end.specs.Ends.{is_open}
use Rattle.jdwp_machine.specs.Meanings.{Meaning}
use Rattle.jdwp_target.specs.Targets.{Target, Ran, lost_target, opened_target}
use Rattle.jdwp_end.specs.declared.pipes.ended.Ended.{Ended}
use Rattle.jdwp_end.specs.declared.pipes.ended.Ended.TheVariants.{Done, LostByRead, LostByWrite, Refused, NoMemory, TurnLimit}
use Rattle.jdwp_end.specs.Story.{empty_story}
use Rattle.jdwp_engine.specs.Outcome.{MayEnd}
use Rattle.jdwp_engine.specs.Run.{InOrder}
use Rattle.jdwp_engine.specs.LiveStory.{LiveStory, empty_live}
use Rattle.jdwp_engine.specs.LiveRounds as live
use Rattle.jdwp_port.specs.declared.faults.PortCause.{PortCause}
use Rattle.jdwp_port.specs.declared.faults.PortFault.{PortFault}
use Rattle.jdwp_port.specs.declared.listening.PortListener.{PortListener}
use Rattle.jdwp_port.specs.declared.notices.Notice.TheVariants.{Again}
use Rattle.jdwp_port.specs.Listeners.{port_of}
use Rattle.jdwp_port.specs.Served.{goes_on, last_end, lives}
use Rattle.jdwp_port.specs.declared.live.causes.LiveCause.{LiveCause}
use Rattle.jdwp_port.specs.declared.live.notices.LiveNotice.{LiveNotice}
use Rattle.jdwp_port.specs.declared.live.notices.LiveNotice.TheVariants.{Port}
use Rattle.jdwp_port.specs.declared.live.serving.Happening.{Happening}
use Rattle.jdwp_port.specs.declared.live.serving.Happening.TheVariants as happening
use Rattle.jdwp_port.specs.LiveNotices.{live_notice_of, with_notice}

-- ---- one session

-- What `serve_live` says of a session of a living machine, over what went through a connection: the target was fed what was read, in order;
-- what was written is what it enqueued, or a beginning where a write failed; the reason of this end stands; and it was run round by round, so
-- that threads stepped in an established session alone, and only where a read just before found nothing.
pub record IsLiveRun {S : Type 0} (m : Meaning S) (rounds : ℕ) (old : Target S) (how : Ended) (new : Target S) (now : LiveStory) : Type 0 where
  pub in_order : InOrder old empty_story now.through new
  pub may_end : MayEnd m how empty_story now.through new
  pub by_rounds : live.Serves m rounds (opened_target old) empty_live how new now

-- A session of a closed target, which ended so. Over a dead machine it is done at once, with nothing touched.
pub record IsLiveSession {S : Type 0} (m : Meaning S) (rounds : ℕ) (old : Target S) (how : Ended) (new : Target S) : Type 0 where
  pub now : LiveStory
  pub run : old.moment.state.alive ≡ true → IsLiveRun m rounds old how new now
  pub dead : old.moment.state.alive ≡ false → (how ≡ Done) × (new ≡ old) × (now ≡ empty_live)
  pub ran : Ran m new

-- ---- sessions

-- Sessions one behind the other, each of the closed target over a living machine as the one before it left it, none of which used up its
-- rounds or wanted memory; and what is told of them and of connections that were awaited in vain, in order.
pub data Sessions {S : Type 0} (m : Meaning S) (rounds : ℕ) (base : Target S) : List LiveNotice → Target S → Type 0 where
  NoSession : Sessions m rounds base [] base
  InVain : (notices : List LiveNotice) (cause : PortCause) (now : Target S) → Sessions m rounds base notices now → Sessions m rounds base (notices ++ Port (Again cause) ∷ []) now
  OneMore : (notices : List LiveNotice) (old new : Target S) (how : Ended) (failure : Option LiveCause) → Sessions m rounds base notices old → lives m old ≡ true → is_open old.end ≡ false
      → IsLiveSession m rounds old how new → goes_on how ≡ true → Sessions m rounds base (with_notice notices (live_notice_of how failure)) new

-- Such sessions led from the first target to this one, and what is told of them was told, in order, each by a call that does this step.
abbrev pub HasServed : {S F : Type 0} → Meaning S → ℕ → Target S → (F → LiveNotice → F → Type 0) → F → Target S → F → Type 0
HasServed m rounds base step first now told = (notices : List LiveNotice) × FoldsTo step first notices told × Sessions m rounds base notices now

-- The last session behind them ended so, and its connection is lost.
pub record IsLast {S F : Type 0} (m : Meaning S) (rounds : ℕ) (base : Target S) (step : F → LiveNotice → F → Type 0) (first : F) (how : Ended) (new : Target S) (told : F) : Type 0 where
  pub old : Target S
  pub mid : Target S
  pub before : HasServed m rounds base step first old told
  pub lived : lives m old ≡ true
  pub closed : is_open old.end ≡ false
  pub session : IsLiveSession m rounds old how mid
  pub is_lost : new ≡ lost_target mid

-- How sessions end: the machine is dead; or the last one used up its rounds or wanted memory; or the port failed while the machine lived.
abbrev pub Serves : {S F : Type 0} → Meaning S → ℕ → Target S → (F → LiveNotice → F → Type 0) → F → Result Ended PortFault → Target S → F → Type 0
Serves m rounds base step first (Ok Done) new told = HasServed m rounds base step first new told × (lives m new ≡ false)
Serves m rounds base step first (Ok NoMemory) new told = IsLast m rounds base step first NoMemory new told
Serves m rounds base step first (Ok TurnLimit) new told = IsLast m rounds base step first TurnLimit new told
Serves m rounds base step first (Ok LostByRead) new told = ⊥
Serves m rounds base step first (Ok LostByWrite) new told = ⊥
Serves m rounds base step first (Ok (Refused number)) new told = ⊥
Serves m rounds base step first (Err fault) new told = HasServed m rounds base step first new told × (lives m new ≡ true)

-- ---- what happens at a port

-- whoever listens does so on this port
abbrev pub ListensAt : {L : Type 0} → ℕ → Option (PortListener L) → Type 0
ListensAt port None = ⊤
ListensAt port (Some listener) = port_of listener ≡ port

-- a connection was awaited in vain, and nothing is touched; or a session ended so
abbrev pub Happens : {S : Type 0} → Meaning S → ℕ → Target S → Happening → Target S → Type 0
Happens m rounds old (happening.InVain cause) new = new ≡ old
Happens m rounds old (happening.Session session) new = IsLiveSession m rounds old session.how new

abbrev pub notice_in : Happening → Option LiveNotice
notice_in (happening.InVain cause) = Some (Port (Again cause))
notice_in (happening.Session session) = live_notice_of session.how session.failure

-- how a session ended behind which none is served
abbrev pub end_in : Happening → Option Ended
end_in (happening.InVain cause) = None
end_in (happening.Session session) = last_end session.how

abbrev pub goes_on_behind : Happening → Bool
goes_on_behind (happening.InVain cause) = true
goes_on_behind (happening.Session session) = goes_on session.how
