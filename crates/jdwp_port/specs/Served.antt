-- Sessions of one target, one after the other, each on a connection of its own.
use Rattle.std.specs.Prelude.{◌≡◌, ℕ, ◌≤◌, ◌+◌, Bool, true, false, List, [], ◌∷◌, ◌++◌, Option, None, Some, Result, Ok, Err}
use Rattle.std.specs.List.{FoldsTo}
use Rattle.jdwp_end.specs.Ends.{is_open}
use Rattle.jdwp_machine.specs.Meanings.{Meaning}
use Rattle.jdwp_target.specs.Targets.{Target, Ran, lost_target, opened_target}
use Rattle.jdwp_end.specs.declared.pipes.ended.Ended.{Ended}
use Rattle.jdwp_end.specs.declared.pipes.ended.Ended.TheVariants.{Done, LostByRead, LostByWrite, Refused, NoMemory, TurnLimit}
use Rattle.jdwp_engine.specs.Outcome.{MayEnd}
use Rattle.jdwp_engine.specs.Run.{InOrder, cost}
use Rattle.jdwp_engine.specs.Sessions as engine
use Rattle.jdwp_end.specs.Story.{Story, empty_story}
use Rattle.jdwp_port.specs.declared.faults.PortCause.{PortCause}
use Rattle.jdwp_port.specs.declared.faults.PortFault.{PortFault}
use Rattle.jdwp_port.specs.declared.notices.Notice.{Notice}
use Rattle.jdwp_port.specs.declared.notices.Notice.TheVariants.{Again}
use Rattle.jdwp_port.specs.declared.serving.Happening.{Happening}
use Rattle.jdwp_port.specs.declared.serving.Happening.TheVariants as happening
use Rattle.jdwp_port.specs.Notices.{notice_of, with_notice}

-- ---- one session

-- What `serve` says of a session of a living machine, over what went through a connection: the target was fed what was read, in order; what
-- was written is what it enqueued, or a beginning where a write failed; the reason of this end stands; it was run round by round; turns and
-- reads with room are together no more than the rounds; and where the rounds were used, they were.
pub record IsRun {S : Type 0} (m : Meaning S) (rounds : ℕ) (old : Target S) (how : Ended) (new : Target S) (now : Story) : Type 0 where
  pub in_order : InOrder old empty_story now new
  pub may_end : MayEnd m how empty_story now new
  pub by_rounds : engine.Serves m rounds (opened_target old) empty_story how new now
  pub at_most : new.end.session.turns + now.rooms ≤ rounds
  pub all_used : how ≡ TurnLimit → rounds ≤ cost now new

-- A session of a closed target, which ended so. Over a dead machine it is done at once, with nothing touched.
pub record IsSession {S : Type 0} (m : Meaning S) (rounds : ℕ) (old : Target S) (how : Ended) (new : Target S) : Type 0 where
  pub now : Story
  pub run : old.moment.state.alive ≡ true → IsRun m rounds old how new now
  pub dead : old.moment.state.alive ≡ false → (how ≡ Done) × (new ≡ old) × (now ≡ empty_story)
  pub ran : Ran m new

-- ---- sessions

-- a thread of the machine lives
abbrev pub is_some_id : List ℕ → Bool
is_some_id [] = false
is_some_id (id ∷ ids) = true

abbrev pub lives : {S : Type 0} → Meaning S → Target S → Bool
lives m target = is_some_id (m.live target.moment.machine)

-- behind a session that ended so the next debugger is awaited, if the machine lives
abbrev pub goes_on : Ended → Bool
goes_on Done = true
goes_on LostByRead = true
goes_on LostByWrite = true
goes_on (Refused number) = true
goes_on NoMemory = false
goes_on TurnLimit = false

-- Sessions one behind the other, each of the closed target over a living machine as the one before it left it, none of which used up its
-- rounds or wanted memory; and what is told of them and of connections that were awaited in vain, in order.
pub data Sessions {S : Type 0} (m : Meaning S) (rounds : ℕ) (base : Target S) : List Notice → Target S → Type 0 where
  NoSession : Sessions m rounds base [] base
  InVain : (notices : List Notice) (cause : PortCause) (now : Target S) → Sessions m rounds base notices now → Sessions m rounds base (notices ++ Again cause ∷ []) now
  OneMore : (notices : List Notice) (old new : Target S) (how : Ended) (failure : Option PortCause) → Sessions m rounds base notices old → lives m old ≡ true → is_open old.end ≡ false
      → IsSession m rounds old how new → goes_on how ≡ true → Sessions m rounds base (with_notice notices (notice_of how failure)) new

-- Such sessions led from the first target to this one, and what is told of them was told, in order, each by a call that does this step.
abbrev pub HasServed : {S F : Type 0} → Meaning S → ℕ → Target S → (F → Notice → F → Type 0) → F → Target S → F → Type 0
HasServed m rounds base step first now told = (notices : List Notice) × FoldsTo step first notices told × Sessions m rounds base notices now

-- The last session behind them ended so, and its connection is lost.
pub record IsLast {S F : Type 0} (m : Meaning S) (rounds : ℕ) (base : Target S) (step : F → Notice → F → Type 0) (first : F) (how : Ended) (new : Target S) (told : F) : Type 0 where
  pub old : Target S
  pub mid : Target S
  pub before : HasServed m rounds base step first old told
  pub lived : lives m old ≡ true
  pub closed : is_open old.end ≡ false
  pub session : IsSession m rounds old how mid
  pub is_lost : new ≡ lost_target mid

-- How sessions end: the machine is dead; or the last one used up its rounds or wanted memory; or the port failed while the machine lived.
abbrev pub Serves : {S F : Type 0} → Meaning S → ℕ → Target S → (F → Notice → F → Type 0) → F → Result Ended PortFault → Target S → F → Type 0
Serves m rounds base step first (Ok Done) new told = HasServed m rounds base step first new told × (lives m new ≡ false)
Serves m rounds base step first (Ok NoMemory) new told = IsLast m rounds base step first NoMemory new told
Serves m rounds base step first (Ok TurnLimit) new told = IsLast m rounds base step first TurnLimit new told
Serves m rounds base step first (Ok LostByRead) new told = ⊥
Serves m rounds base step first (Ok LostByWrite) new told = ⊥
Serves m rounds base step first (Ok (Refused number)) new told = ⊥
Serves m rounds base step first (Err fault) new told = HasServed m rounds base step first new told × (lives m new ≡ true)

-- ---- what happens at a port

-- a connection was awaited in vain, and nothing is touched; or a session ended so
abbrev pub Happens : {S : Type 0} → Meaning S → ℕ → Target S → Happening → Target S → Type 0
Happens m rounds old (happening.InVain cause) new = new ≡ old
Happens m rounds old (happening.Session session) new = IsSession m rounds old session.how new

abbrev pub notice_in : Happening → Option Notice
notice_in (happening.InVain cause) = Some (Again cause)
notice_in (happening.Session session) = notice_of session.how session.failure

-- how a session ended behind which none is served
abbrev pub last_end : Ended → Option Ended
last_end NoMemory = Some NoMemory
last_end TurnLimit = Some TurnLimit
last_end Done = None
last_end LostByRead = None
last_end LostByWrite = None
last_end (Refused number) = None

abbrev pub end_in : Happening → Option Ended
end_in (happening.InVain cause) = None
end_in (happening.Session session) = last_end session.how

abbrev pub goes_on_behind : Happening → Bool
goes_on_behind (happening.InVain cause) = true
goes_on_behind (happening.Session session) = goes_on session.how
