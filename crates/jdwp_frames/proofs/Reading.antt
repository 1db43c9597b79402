-- Frames that were asked for.
use Rattle.std.proofs.Common.{◌≡◌, Bool, List, Option, None, inr, subst}
use Rattle.jdwp_value.specs.declared.id.ObjectId.{ObjectId}
use Rattle.jdwp_layout.specs.declared.answer.Answer.{Answer}
use Rattle.jdwp_action.specs.Actions.{Command}
use Rattle.jdwp_end.specs.Story.{Story}
use Rattle.jdwp_client.specs.declared.errors.ClientError.{ClientError}
use Rattle.jdwp_client.specs.Clients.{AsksFor, FailsToAsk}
use Rattle.jdwp_frames.specs.Frames.{Asks, FailsToAskFrames, FrameClient, KeepsBy, frames_command, kept_by, may_keep}

-- they were, and their answer was kept or left
pub asked-so : {P : Type 0} (story : P → Story) (thread : ObjectId) (old : FrameClient P) (left : Option Answer) (new : FrameClient P) (command : Command) (answer : Answer) (rest : List (ObjectId × Answer)) (keeps : Bool)
    → command ≡ frames_command thread → AsksFor story command old.client answer new.client → keeps ≡ may_keep thread.0 old.client answer new.client → rest ≡ kept_by None new.client.debugger old.kept
    → KeepsBy keeps (thread, answer) rest left new.kept → Asks story thread old left new
asked-so story thread old left new command answer rest keeps command-is asks keeps-is rest-is kept = record {
  answer = answer;
  asks = subst (λ (m : Command). AsksFor story m old.client answer new.client) command-is asks;
  kept_is = subst (λ (xs : List (ObjectId × Answer)). KeepsBy (may_keep thread.0 old.client answer new.client) (thread, answer) xs left new.kept) rest-is
      (subst (λ (b : Bool). KeepsBy b (thread, answer) rest left new.kept) keeps-is kept);
}

-- asking failed
pub fails-so : {P : Type 0} (story : P → Story) (thread : ObjectId) (old : FrameClient P) (e : ClientError) (new : FrameClient P) (command : Command) (rest : List (ObjectId × Answer))
    → command ≡ frames_command thread → FailsToAsk story command old.client e new.client → new.kept ≡ kept_by None new.client.debugger old.kept → FailsToAskFrames story thread old e new
fails-so story thread old e new command rest command-is fails rest-is =
    inr (subst (λ (m : Command). FailsToAsk story m old.client e new.client) command-is fails, rest-is)
