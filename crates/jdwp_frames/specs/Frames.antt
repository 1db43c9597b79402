-- A client that keeps the frames that it read of threads for as long as nothing may have changed them.
use Rattle.std.specs.Prelude.{◌≡◌, ◌⊎◌, ℕ, pos, negsuc, ◌==◌, Bool, true, false, ◌&&◌, not, List, [], ◌∷◌, ◌++◌, Option, Some, None, is_some}
use Rattle.std.specs.List.{filter, list_all, position}
use Rattle.jdwp_value.specs.declared.id.ObjectId.{ObjectId}
use Rattle.jdwp_layout.specs.CommandNumbers.{FRAMES}
use Rattle.jdwp_layout.specs.declared.answer.Answer.{Answer}
use Rattle.jdwp_layout.specs.declared.answer.Answer.TheVariants.{Data, Error}
use Rattle.jdwp_action.specs.Actions.{Command}
use Rattle.jdwp_command.specs.Asks.{command_with}
use Rattle.jdwp_command.specs.Contents.{of_range}
use Rattle.jdwp_debugger.specs.Debuggers.{Debugger}
use Rattle.jdwp_end.specs.Story.{Story}
use Rattle.jdwp_client.specs.declared.errors.ClientError.{ClientError}
use Rattle.jdwp_client.specs.declared.errors.ClientError.TheVariants as error
use Rattle.jdwp_client.specs.Clients.{AsksFor, Client, FailsToAsk}
use Rattle.jdwp_frames.specs.Changing.{do_frames_last, keeps_frames, leaves_frames}

-- a client, and the frames that it read of threads
pub record FrameClient (P : Type 0) : Type 0 where
  pub client : Client P
  pub kept : List (ObjectId × Answer)

-- ---- what calls keep

-- A call keeps what was answered of the frames of this thread.
abbrev pub keeps : Option Command → Debugger → ObjectId × Answer → Bool
keeps asked d frames = keeps_frames frames.0.0 asked d

-- the command leaves it
abbrev pub is_left : Command → ObjectId × Answer → Bool
is_left c frames = leaves_frames frames.0.0 (Some c)

-- nothing may have changed it, by what a debugger knows
abbrev pub lasts_at : Debugger → ObjectId × Answer → Bool
lasts_at d frames = do_frames_last d frames.0.0

-- What is kept behind a call that asked this command, or none, and left the debugger so.
abbrev pub left_by : Option Command → List (ObjectId × Answer) → List (ObjectId × Answer)
left_by None kept = kept
left_by (Some c) kept = filter (is_left c) kept

abbrev pub kept_by : Option Command → Debugger → List (ObjectId × Answer) → List (ObjectId × Answer)
kept_by asked d kept = filter (lasts_at d) (left_by asked kept)

-- Of this thread something is kept, and no command is unanswered that may change it.
abbrev pub is_of : ℕ → ObjectId × Answer → Bool
is_of t frames = frames.0.0 == t

abbrev pub still_true : {P : Type 0} → ℕ → FrameClient P → Bool
still_true t c = do_frames_last c.client.debugger t && is_some (position (is_of t) c.kept)

-- ---- what lists of calls keep

-- a call: the command that it asked, if it did, and the debugger that it left
pub record Call : Type 0 where
  pub asked : Option Command
  pub left : Debugger

-- what is kept behind calls, one after the other
abbrev pub kept_behind : List Call → List (ObjectId × Answer) → List (ObjectId × Answer)
kept_behind [] kept = kept
kept_behind (call ∷ calls) kept = kept_behind calls (kept_by call.asked call.left kept)

-- It is just what each of them keeps.
abbrev pub KeepsWhatEachKeeps : Type 0
KeepsWhatEachKeeps =
    (calls : List Call) (kept : List (ObjectId × Answer)) → kept_behind calls kept ≡ filter (λ frames. list_all (λ (call : Call). keeps call.asked call.left frames) calls) kept

-- ---- what is read

-- those of other threads
abbrev pub others : ℕ → ObjectId × Answer → Bool
others t frames = not (frames.0.0 == t)

-- all frames of a thread
abbrev pub frames_command : ObjectId → Command
frames_command thread = command_with FRAMES (of_range thread (pos 0) (negsuc 0))

abbrev pub is_data : Answer → Bool
is_data (Data content) = true
is_data (Error code) = false

-- An answer is kept where it has data, and nothing may have changed it as it was asked for and as it came.
abbrev pub may_keep : {P : Type 0} → ℕ → Client P → Answer → Client P → Bool
may_keep t old answer new = do_frames_last old.debugger t && (do_frames_last new.debugger t && is_data answer)

abbrev pub KeepsBy : Bool → ObjectId × Answer → List (ObjectId × Answer) → Option Answer → List (ObjectId × Answer) → Type 0
KeepsBy true frames rest left new = (left ≡ None) × (new ≡ rest ++ frames ∷ [])
KeepsBy false frames rest left new = (left ≡ Some frames.1) × (new ≡ rest)

-- The frames of a thread of which nothing is kept were asked for, which changes none, and their answer is kept or left.
pub record Asks {P : Type 0} (story : P → Story) (thread : ObjectId) (old : FrameClient P) (left : Option Answer) (new : FrameClient P) : Type 0 where
  pub answer : Answer
  pub asks : AsksFor story (frames_command thread) old.client answer new.client
  pub kept_is : KeepsBy (may_keep thread.0 old.client answer new.client) (thread, answer) (kept_by None new.client.debugger old.kept) left new.kept

-- They were not, for want of memory or as asking failed.
abbrev pub FailsToAskFrames : {P : Type 0} → (P → Story) → ObjectId → FrameClient P → ClientError → FrameClient P → Type 0
FailsToAskFrames {P} story thread old e new =
    ((e ≡ error.NoMemory) × (new ≡ old))
    ⊎ (FailsToAsk story (frames_command thread) old.client e new.client × (new.kept ≡ kept_by None new.client.debugger old.kept))

-- nothing is kept of a thread
abbrev pub without : {P : Type 0} → ObjectId → FrameClient P → FrameClient P
without thread c = record c { kept = filter (others thread.0) c.kept }

-- What was kept of the thread is forgotten first.
abbrev pub Reads : {P : Type 0} → (P → Story) → ObjectId → FrameClient P → Option Answer → FrameClient P → Type 0
Reads {P} story thread old left new = Asks story thread (without thread old) left new

abbrev pub FailsToRead : {P : Type 0} → (P → Story) → ObjectId → FrameClient P → ClientError → FrameClient P → Type 0
FailsToRead {P} story thread old e new = FailsToAskFrames story thread (without thread old) e new
