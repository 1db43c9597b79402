-- What a ledger keeps of a session, beside the commands that wait for replies.
use Rattle.std.specs.Prelude.{◌≡◌, ℕ, ℤ, ◌+◌, ◌^◌, ◌≤◌, Bool, true, false, List, [], ◌∷◌, length, Option, Some, None, if◌then◌else◌}
use Rattle.jdwp_layout.specs.Meanings.{DatumMeaning, Int, One}
use Rattle.jdwp_layout.specs.declared.answer.Answer.{Answer}
use Rattle.jdwp_layout.specs.declared.answer.Answer.TheVariants.{Data, Error}
use Rattle.jdwp_event.specs.Composites.{CompositeMeaning}
use Rattle.jdwp_action.specs.Actions.{Command, action_of}
use Rattle.jdwp_mirror.specs.CommandKinds.{kind_of}
use Rattle.jdwp_mirror.specs.declared.command.CommandKind.{CommandKind}
use Rattle.jdwp_mirror.specs.declared.command.CommandKind.TheVariants as kinds
use Rattle.jdwp_apart.specs.Messages.{is_invocation, may_ask}
use Rattle.jdwp_apart.specs.Following.{Following, answered_by, reported}
use Rattle.jdwp_apart.specs.Watch.{later, rest}
use Rattle.jdwp_watch.specs.declared.put.Put.{Put}
use Rattle.jdwp_watch.specs.declared.put.Put.TheVariants.{Invokes, Asks, Outside}
use Rattle.jdwp_watch.specs.declared.standing.Change.TheVariants.{Replied}
use Rattle.jdwp_watch.specs.Standings.{changed, first_standing}
use Rattle.jdwp_watch.specs.Tables.{Table, at, change_for}
use Rattle.jdwp_watch.specs.Tellings.{told_in}
use Rattle.jdwp_watch.specs.Watching.{IsKept, others_of, watch_of}

-- How many commands were asked, invocations apart, and how many of them were answered; after which of them each composite took effect that is
-- still to be read; what was told of the threads; and the requests that were made since a composite was read last.
pub record Account : Type 0 where
  pub asked : ℕ
  pub answered : ℕ
  pub past : ℕ
  pub table : Table
  pub made : List (ℤ × ℕ)

abbrev pub first_account : Account
first_account = record { asked = 0; answered = 0; past = 0; table = record { threads = []; others = first_standing }; made = [] }

-- What is followed, where these commands wait, and invocations lower the count of each thread by so much.
abbrev pub following_from : Account → List Command → (ℕ → ℕ) → Following
following_from a pending invoked = record {
  watch = record (watch_of (record { one_by_one = true; answered = a.answered; pending = pending; past = a.past; table = a.table })) { invoked = invoked };
  made = a.made;
}

-- what is told of the count of a thread, from below
abbrev pub bound_at : Account → ℕ → ℕ
bound_at a t = later (at a.table t).told.value (at a.table t).recounted.value

-- ---- commands

-- an invocation; any other command that is spoken of; or one outside of these
abbrev pub put_of : Command → Put
put_of c = if is_invocation c then Invokes else (if may_ask c then Asks else Outside)

-- those that end a session or the target's machine
abbrev pub is_end_kind : CommandKind → Bool
is_end_kind kinds.Dispose = true
is_end_kind kinds.Exit = true
is_end_kind kind = false

-- those to which replies tell of threads
abbrev pub is_thread_kind : CommandKind → Bool
is_thread_kind kinds.Suspend = true
is_thread_kind kinds.Resume = true
is_thread_kind kinds.SuspendThread = true
is_thread_kind kinds.ResumeThread = true
is_thread_kind kinds.SuspendCount = true
is_thread_kind kind = false

-- whether an answer tells of threads
abbrev pub is_told : Command → Answer → Bool
is_told c (Data content) = is_thread_kind (kind_of (action_of c))
is_told c (Error e) = false

-- the id of the request in data that answer a command of a kind
abbrev pub made_in : CommandKind → List DatumMeaning → Option ℤ
made_in kinds.Request (One (Int id) ∷ []) = Some id
made_in kind content = None

-- ---- what calls do

-- what an answer under a ticket tells of each thread
abbrev pub Teaches : ℕ → Command → Answer → Table → Table → Type 0
Teaches ticket c answer old new =
    (t : ℕ) → at new t ≡ changed (change_for (told_in (action_of c) answer).thread (Replied ticket (told_in (action_of c) answer).own) (others_of ticket (told_in (action_of c) answer).others) t) (at old t)

-- the answer to the command that waits longest of these
abbrev pub HasAnswered : Command → Answer → Account → Account → Type 0
HasAnswered c answer old new =
    (pending : List Command) (invoked : ℕ → ℕ) → Some (following_from new (rest pending) invoked) ≡ answered_by None true c answer (following_from old pending invoked)

-- a composite, where these commands wait
abbrev pub HasReported : CompositeMeaning → Account → Account → Type 0
HasReported c old new =
    (pending : List Command) (invoked : ℕ → ℕ) → old.asked ≡ old.answered + length pending → following_from new pending invoked ≡ reported c (following_from old pending invoked)

-- ---- how far numbers go

pub record IsLedger (packets asked answered : ℕ) (table : Table) : Type 0 where
  pub kept : IsKept packets 0 table
  pub few : asked ≤ 2 ^ 62
  pub asks : answered ≤ asked
