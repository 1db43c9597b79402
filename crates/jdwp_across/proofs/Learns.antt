-- a mirror learns what a packet tells
use Rattle.std.proofs.Common.{◌≡◌, ℕ, Bool, true, false, Option, Some, None, is_some, List, [], ◌∷◌, ◌++◌, refl}
use Rattle.std.proofs.lemmas.Bool.{cond_both}
use Rattle.jdwp_value.specs.declared.id.ObjectId.{ObjectId}
use Rattle.jdwp_wire.specs.declared.error_code.ErrorCode.{ErrorCode}
use Rattle.jdwp_layout.specs.Meanings.{DatumMeaning}
use Rattle.jdwp_layout.specs.declared.answer.Answer.{Answer}
use Rattle.jdwp_layout.specs.declared.answer.Answer.TheVariants.{Data, Error}
use Rattle.jdwp_event.specs.Composites.{CompositeMeaning}
use Rattle.jdwp_event.specs.Told.{composite_thread, id_found, is_vm_death}
use Rattle.jdwp_action.specs.Actions.{Command, action_of, thread_of}
use Rattle.jdwp_mirror.specs.declared.command.CommandKind.{CommandKind}
use Rattle.jdwp_mirror.specs.declared.command.CommandKind.TheVariants as kinds
use Rattle.jdwp_mirror.specs.declared.threads.Known.{Known}
use Rattle.jdwp_mirror.specs.CommandKinds.{kind_of, lesson_of, lesson_of_event, ready_for, requests_after_kind, threads_after_data, threads_after_error, threads_after_event, with_counted, with_found, without_found}
use Rattle.jdwp_mirror.specs.KnownThreads.{AreSound, all_taught, count_in, unseen_thread, with_thread, without}
use Rattle.jdwp_mirror.specs.Messages.{Message, Reply, Report, Ticket}
use Rattle.jdwp_mirror.specs.Mirror.{counted, is_invalid_thread, is_last_of_thread, lists}
use Rattle.jdwp_mirror.specs.Mirrors.{Learned, Mirror, empty_mirror}
use Rattle.jdwp_mirror.proofs.KnownLemmas.{sound-added, sound-only, sound-taught, sound-without}
use Rattle.jdwp_mirror.proofs.Learning.{learned-by_data, learned-by_death, learned-by_error, learned-by_event}
use Rattle.jdwp_debugger.specs.DebuggerTurns.{LearnedAll, reports}
use Rattle.jdwp_debugger.specs.declared.order.Order.TheVariants.{One}

-- ---- each thread stays known once, and held with a count alone

pub sound-none : AreSound []
sound-none = record { distinct = tt; counted = tt }

unknown : (n : Option ℕ) → is_some n ≡ false → n ≡ None
unknown None h = refl
unknown (Some n) h = absurd (cc)

sound-with : (t : ObjectId) (ks : List Known) → AreSound ks → AreSound (with_thread t ks)
sound-with t ks s = cond_both (is_some (count_in ks t.0)) ks (ks ++ unseen_thread t ∷ []) AreSound (λ h. s) (λ h. sound-added ks (unseen_thread t) (unknown (count_in ks t.0) h) refl s)

sound-counted : (thread : Option ObjectId) (n : Option ℕ) (ks : List Known) → AreSound ks → AreSound (with_counted thread n ks)
sound-counted None n ks s = s
sound-counted (Some t) None ks s = s
sound-counted (Some t) (Some n) ks s = sound-with t ks s

sound-found : (thread : Option ObjectId) (ks : List Known) → AreSound ks → AreSound (with_found thread ks)
sound-found None ks s = s
sound-found (Some t) ks s = sound-with t ks s

sound-lost : (thread : Option ObjectId) (ks : List Known) → AreSound ks → AreSound (without_found thread ks)
sound-lost None ks s = s
sound-lost (Some t) ks s = sound-without t.0 ks s

sound-ready : (kind : CommandKind) (thread : Option ObjectId) (content : List DatumMeaning) (ks : List Known) → AreSound ks → AreSound (ready_for kind thread content ks)
sound-ready kinds.SuspendCount thread content ks s = sound-counted thread (counted content) ks s
sound-ready kinds.AllThreads thread content ks s = sound-only (lists content) ks s
sound-ready kinds.Exit thread content ks s = sound-none
sound-ready kinds.Dispose thread content ks s = sound-none
sound-ready kind thread content ks s = s

sound-data : (kind : CommandKind) (thread : Option ObjectId) (content : List DatumMeaning) (ks : List Known) → AreSound ks → AreSound (threads_after_data kind thread content ks)
sound-data kinds.Request thread content ks s = s
sound-data kind thread content ks s = sound-taught (lesson_of kind thread content) (ready_for kind thread content ks) (sound-ready kind thread content ks s)

sound-error : (thread : Option ObjectId) (e : ErrorCode) (ks : List Known) → AreSound ks → AreSound (threads_after_error thread e ks)
sound-error None e ks s = s
sound-error (Some t) e ks s = cond_both (is_invalid_thread e) (without t.0 ks) ks AreSound (λ h. sound-without t.0 ks s) (λ h. s)

sound-event : (thread : Option ObjectId) (c : CompositeMeaning) (ks : List Known) → AreSound ks → AreSound (threads_after_event thread c ks)
sound-event thread c ks s =
    cond_both (is_last_of_thread c) (without_found thread ks) (all_taught (lesson_of_event thread c.policy) (with_found thread ks)) AreSound
    (λ h. sound-lost thread ks s) (λ h. sound-taught (lesson_of_event thread c.policy) (with_found thread ks) (sound-found thread ks s))

-- ---- what is learned

pub record Learns (old : Mirror) (message : Message) : Type 0 where
  pub mirror : Mirror
  pub sound : AreSound mirror.threads
  pub learned : Learned old message mirror

pub learns-answer : (old : Mirror) (k : Ticket) (c : Command) (answer : Answer) → AreSound old.threads → Learns old (Reply k c answer)
learns-answer old k c (Error e) s = record {
  mirror = record old { threads = threads_after_error (id_found (thread_of c)) e old.threads };
  sound = sound-error (id_found (thread_of c)) e old.threads s;
  learned = learned-by_error k c e old s;
}
learns-answer old k c (Data content) s =
    let new : Mirror = record {
      threads = threads_after_data (kind_of (action_of c)) (id_found (thread_of c)) content old.threads;
      requests = requests_after_kind (kind_of (action_of c)) c.carried content old.requests;
    } in
    record { mirror = new; sound = sound-data (kind_of (action_of c)) (id_found (thread_of c)) content old.threads s; learned = learned-by_data k c content old new s refl refl }

learns-event : (old : Mirror) (c : CompositeMeaning) (dead : Bool) → is_vm_death c ≡ dead → AreSound old.threads → Learns old (Report c)
learns-event old c true e s = record { mirror = empty_mirror; sound = sound-none; learned = learned-by_death c old empty_mirror e refl }
learns-event old c false e s =
    let new : Mirror = record old { threads = threads_after_event (id_found (composite_thread c)) c old.threads } in
    record { mirror = new; sound = sound-event (id_found (composite_thread c)) c old.threads s; learned = learned-by_event c old new s e refl }

pub learns-report : (old : Mirror) (c : CompositeMeaning) → AreSound old.threads → Learns old (Report c)
learns-report old c s = learns-event old c (is_vm_death c) refl s

-- composites, and the answer behind them
pub record LearnsAll (old : Mirror) (messages : List Message) : Type 0 where
  pub mirror : Mirror
  pub sound : AreSound mirror.threads
  pub learned : LearnedAll One old messages mirror

pub learns-waited : (old : Mirror) (cs : List CompositeMeaning) (k : Ticket) (c : Command) (answer : Answer) → AreSound old.threads → LearnsAll old (reports cs ++ Reply k c answer ∷ [])
learns-waited old [] k c answer s =
    let l = learns-answer old k c answer s in
    record { mirror = l.mirror; sound = l.sound; learned = (l.mirror, l.learned, refl) }
learns-waited old (e ∷ es) k c answer s =
    let first = learns-report old e s in
    let rest = learns-waited first.mirror es k c answer first.sound in
    record { mirror = rest.mirror; sound = rest.sound; learned = (first.mirror, first.learned, rest.learned) }
