-- By either order: what is judged and learned of composites and replies.
use Rattle.std.proofs.Common.{◌≡◌, ◌∙◌, ℕ, ◌==◌, ◌&&◌, Bool, true, false, List, [], ◌∷◌, Option, Some, None, Result, Ok, Err, refl, sym, ap, if◌then◌else◌}
use Rattle.std.specs.Prelude.{OnOk}
use Rattle.std.proofs.lemmas.Bool.{eq-eqb}
use Rattle.jdwp_layout.specs.declared.answer.Answer.{Answer}
use Rattle.jdwp_layout.specs.declared.answer.Answer.TheVariants.{Data, Error}
use Rattle.jdwp_layout.specs.Meanings.{DatumMeaning}
use Rattle.jdwp_event.specs.Composites.{CompositeMeaning}
use Rattle.jdwp_action.specs.Actions
use Rattle.jdwp_action.specs.Actions.{Action, Command, action_of, thread_of}
use Rattle.jdwp_mirror.specs.declared.threads.Known.{Known}
use Rattle.jdwp_mirror.specs.CommandKinds.{kind_of}
use Rattle.jdwp_mirror.specs.Faults.{is_bad_event}
use Rattle.jdwp_mirror.specs.KnownThreads.{count_in}
use Rattle.jdwp_mirror.specs.Messages.{Message, Reply, Ticket}
use Rattle.jdwp_mirror.specs.Mirror.{Kept, is_invalid_thread, is_thread, learned, learned_data, learned_reply, lists, requests_after_data, requests_after_reply}
use Rattle.jdwp_mirror.specs.Mirrors.{Mirror, Learned, empty_mirror}
use Rattle.jdwp_debugger.specs.declared.order.Order.{Order}
use Rattle.jdwp_debugger.specs.declared.order.Order.TheVariants.{One, Apart}
use Rattle.jdwp_debugger.specs.DebuggerTurns.{LearnedAll}
use Rattle.jdwp_watch.specs.Ledgers.{is_thread_kind}
use Rattle.jdwp_debugger.specs.Orders.{LearnedIn, MayLearn, none_known}

-- ---- no thread is known

pub may-then : (o : Order) (old : Mirror) (message : Message) (new : Mirror) → LearnedIn o old message new → MayLearn o new
may-then One old message new l = tt
may-then Apart old message new l = l.0

may-after : (o : Order) (messages : List Message) (old new : Mirror) → MayLearn o old → LearnedAll o old messages new → MayLearn o new
may-after One messages old new may l = tt
may-after Apart [] old new may l = ap (λ (m : Mirror). m.threads) l ∙ may
may-after Apart (message ∷ messages) old new may (middle, first, others) = may-after Apart messages middle new first.0 others

may-empty : (o : Order) → MayLearn o empty_mirror
may-empty One = tt
may-empty Apart = refl

pub may-learn : (o : Order) (messages : List Message) (m : Mirror) → LearnedAll o empty_mirror messages m → MayLearn o m
may-learn o messages m l = may-after o messages empty_mirror m (may-empty o) l

pub may-from : (o : Order) (m : Mirror) → m ≡ empty_mirror → MayLearn o m
may-from One m e = tt
may-from Apart m e = ap (λ (x : Mirror). x.threads) e

none-in : (ks : List Known) → ks ≡ [] → count_in ks ≡ none_known
none-in ks e = ap count_in e

pub judged-apart : (m : Mirror) (c : CompositeMeaning) → m.threads ≡ [] → is_bad_event (count_in m.threads) c ≡ is_bad_event none_known c
judged-apart m c e = ap (λ (f : ℕ → Option ℕ). is_bad_event f c) (none-in m.threads e)

-- ---- replies

listed : (b : Bool) → (if b then none_known 0 else none_known 0) ≡ none_known 0
listed true = refl
listed false = refl

data-none : (a : Action) (content : List DatumMeaning) (t : ℕ) → is_thread_kind (kind_of a) ≡ false → learned_data a content t None ≡ None
data-none Actions.Suspend content t h = refl
data-none Actions.Resume content t h = refl
data-none Actions.Dispose content t h = refl
data-none Actions.Exit content t h = refl
data-none Actions.HoldEvents content t h = refl
data-none Actions.ReleaseEvents content t h = refl
data-none (Actions.SetRequest kind policy entries) content t h = refl
data-none (Actions.ClearRequest kind id) content t h = refl
data-none Actions.ClearBreakpoints content t h = refl
data-none (Actions.SuspendThread u) content t h = listed (u == t)
data-none (Actions.ResumeThread u) content t h = listed (u == t)
data-none (Actions.SuspendCount u) content t h = absurd cc
data-none (Actions.ThreadStatus u) content t h = refl
data-none (Actions.SetSlots u f slots) content t h = refl
data-none (Actions.AskFrames u) content t h = refl
data-none (Actions.AskThread u) content t h = refl
data-none Actions.AllThreads content t h = listed (lists content t)
data-none Actions.IdSizes content t h = refl
data-none Actions.Ask content t h = refl

reply-none : (c : Command) (answer : Answer) (t : ℕ) → is_thread_kind (kind_of (action_of c)) ≡ false → learned_reply c answer t None ≡ None
reply-none c (Data content) t h = data-none (action_of c) content t h
reply-none c (Error e) t h = listed (is_invalid_thread e && is_thread (thread_of c) t)

empty-by : (ks : List Known) → ((t : ℕ) → count_in ks t ≡ None) → ks ≡ []
empty-by [] h = refl
empty-by (k ∷ ks) h =
    let first = h k.id.0 in
    let same : (k.id.0 == k.id.0) ≡ true = eq-eqb k.id.0 k.id.0 refl in
    absurd (let e : Some k.count ≡ None = sym (ap (λ (b : Bool). if b then Some k.count else count_in ks k.id.0) same) ∙ first in cc)

pub learned-apart : (k : Ticket) (c : Command) (answer : Answer) (old new : Mirror) → old.threads ≡ [] → is_thread_kind (kind_of (action_of c)) ≡ false → Learned old (Reply k c answer) new
    → LearnedIn Apart old (Reply k c answer) new
learned-apart k c answer old new none other l = (
  empty-by new.threads (λ t. l.counts t ∙ ap (λ (ks : List Known). learned (Reply k c answer) t (count_in ks t)) none ∙ reply-none c answer t other),
  l.requests,
)

data-same : (a : Action) (content : List DatumMeaning) (requests : List Kept) → is_thread_kind (kind_of a) ≡ true → requests ≡ requests_after_data a content requests
data-same Actions.Suspend content requests h = refl
data-same Actions.Resume content requests h = refl
data-same Actions.Dispose content requests h = absurd cc
data-same Actions.Exit content requests h = absurd cc
data-same Actions.HoldEvents content requests h = refl
data-same Actions.ReleaseEvents content requests h = refl
data-same (Actions.SetRequest kind policy entries) content requests h = absurd cc
data-same (Actions.ClearRequest kind id) content requests h = absurd cc
data-same Actions.ClearBreakpoints content requests h = absurd cc
data-same (Actions.SuspendThread u) content requests h = refl
data-same (Actions.ResumeThread u) content requests h = refl
data-same (Actions.SuspendCount u) content requests h = refl
data-same (Actions.ThreadStatus u) content requests h = refl
data-same (Actions.SetSlots u f slots) content requests h = refl
data-same (Actions.AskFrames u) content requests h = refl
data-same (Actions.AskThread u) content requests h = refl
data-same Actions.AllThreads content requests h = refl
data-same Actions.IdSizes content requests h = refl
data-same Actions.Ask content requests h = refl

reply-same : (c : Command) (answer : Answer) (requests : List Kept) → is_thread_kind (kind_of (action_of c)) ≡ true → requests ≡ requests_after_reply c answer requests
reply-same c (Data content) requests h = data-same (action_of c) content requests h
reply-same c (Error e) requests h = refl

-- what is told of threads teaches nothing
pub threads-apart : (k : Ticket) (c : Command) (answer : Answer) (old : Mirror) → old.threads ≡ [] → is_thread_kind (kind_of (action_of c)) ≡ true → LearnedIn Apart old (Reply k c answer) old
threads-apart k c answer old none is = (none, reply-same c answer old.requests is)

-- the same of what a call answered
pub learned-where : {U E : Type 0} (r : Result U E) (c : Command) (answer : Answer) (old new : Mirror) → old.threads ≡ [] → is_thread_kind (kind_of (action_of c)) ≡ false
    → OnOk r ((k : Ticket) → Learned old (Reply k c answer) new) → OnOk r ((k : Ticket) → LearnedIn Apart old (Reply k c answer) new)
learned-where (Ok u) c answer old new none other l = λ k. learned-apart k c answer old new none other (l k)
learned-where (Err e) c answer old new none other l = tt
