-- Commands that may let a thread run.
use Rattle.std.proofs.Common.{◌≡◌, ◌∙◌, ℕ, Bool, false, ◌||◌, Option, ap, refl, sym}
use Rattle.jdwp_value.specs.declared.id.ObjectId.{ObjectId}
use Rattle.jdwp_action.specs.AboutLaws.{about_action}
use Rattle.jdwp_action.specs.Actions
use Rattle.jdwp_action.specs.Actions.{Action, Command, about, action_of, thread_of}
use Rattle.jdwp_apart.specs.Messages.{is_invocation}
use Rattle.jdwp_mirror.specs.declared.command.CommandKind.{CommandKind}
use Rattle.jdwp_mirror.specs.CommandKinds.{kind_of}
use Rattle.jdwp_event.specs.Told.{id_found}
use Rattle.jdwp_client.specs.Holding.{frees, frees_by, may_free}

-- by its kind, and the thread that it is about
frees-by : (a : Action) (t : ℕ) → frees_by (kind_of a) (id_found (about a)) t ≡ frees t a
frees-by Actions.Suspend t = refl
frees-by Actions.Resume t = refl
frees-by Actions.Dispose t = refl
frees-by Actions.Exit t = refl
frees-by Actions.HoldEvents t = refl
frees-by Actions.ReleaseEvents t = refl
frees-by (Actions.SetRequest kind policy entries) t = refl
frees-by (Actions.ClearRequest kind id) t = refl
frees-by Actions.ClearBreakpoints t = refl
frees-by (Actions.SuspendThread u) t = refl
frees-by (Actions.ResumeThread u) t = refl
frees-by (Actions.SuspendCount u) t = refl
frees-by (Actions.ThreadStatus u) t = refl
frees-by (Actions.SetSlots u f slots) t = refl
frees-by (Actions.AskFrames u) t = refl
frees-by (Actions.AskThread u) t = refl
frees-by Actions.AllThreads t = refl
frees-by Actions.IdSizes t = refl
frees-by Actions.Ask t = refl

pub may-free : (c : Command) (t : ℕ) (kind : CommandKind) (thread : Option ObjectId) (r : Bool) → is_invocation c ≡ false → kind ≡ kind_of (action_of c) → thread ≡ id_found (thread_of c)
    → r ≡ frees_by kind thread t → r ≡ may_free t c
may-free c t kind thread r other kind-is thread-is is =
    is ∙ (ap (λ (k : CommandKind). frees_by k thread t) kind-is
    ∙ (ap (λ (o : Option ObjectId). frees_by (kind_of (action_of c)) o t) thread-is
    ∙ (ap (λ (o : Option ℕ). frees_by (kind_of (action_of c)) (id_found o) t) (sym (about_action c))
    ∙ (frees-by (action_of c) t ∙ ap (λ (b : Bool). b || frees t (action_of c)) (sym other)))))
