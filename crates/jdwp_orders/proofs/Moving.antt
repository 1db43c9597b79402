-- what replies and composites do to counts, in both models alike
use Rattle.std.proofs.Common.{◌≡◌, ℕ, ◌==◌, ◌+◌, ◌-◌, Bool, true, false, ◌||◌, ◌&&◌, not, cond, Option, Some, None, List, [], ◌∷◌, refl, sym, ◌∙◌, ap, arith, is_some}
use Rattle.std.specs.Prelude.{pos}
use Rattle.std.specs.Option.{option_map}
use Rattle.std.proofs.lemmas.Bool.{eq-eqb}
use Rattle.jdwp_layout.specs.declared.answer.Answer.{Answer}
use Rattle.jdwp_layout.specs.declared.answer.Answer.TheVariants.{Data, Error}
use Rattle.jdwp_layout.specs.Meanings.{Int, DatumMeaning, One}
use Rattle.jdwp_event.specs.Composites.{POLICY_EVENT_THREAD, POLICY_ALL}
use Rattle.jdwp_event.specs.Told.{composite_thread}
use Rattle.jdwp_debuggee.specs.State.{or_zero}
use Rattle.jdwp_debuggee.specs.Facts.{moved, moved_by}
use Rattle.jdwp_action.specs.Actions
use Rattle.jdwp_action.specs.Actions.{Command, Action, action_of, thread_of, about, is_dispose, is_exit}
use Rattle.jdwp_mirror.specs.Messages.{Message, Handshake, Reply, Report}
use Rattle.jdwp_mirror.specs.Mirror as mirror
use Rattle.jdwp_mirror.specs.Faults.{is_bad_data}
use Rattle.jdwp_model.proofs.Acts.{event_raise, kills, move}
use Rattle.jdwp_apart.specs.Messages.{Composite, raises, lowers, is_refused, count_in, stops, one_if}
use Rattle.jdwp_apart.specs.Messages as apart_messages
use Rattle.jdwp_apart.specs.World.{Life, Unborn, Alive, Ended, is_unborn, is_alive, count_after, may_answer, lives_one}
use Rattle.jdwp_orders.proofs.People.{Person}

-- ---- commands

data-moved : (a : Action) (t n : ℕ) → is_dispose a ≡ false → is_exit a ≡ false → moved_by a t (Some n) ≡ Some (n + raises a t - lowers a t)
data-moved Actions.Suspend t n d e = ap Some (omega arith)
data-moved Actions.Resume t n d e = ap Some (omega arith)
data-moved Actions.Dispose t n d e = absurd (cc)
data-moved Actions.Exit t n d e = absurd (cc)
data-moved (Actions.SuspendThread u) t n d e = elim (u == t) as (λ b. Some (cond b (n + 1) n) ≡ Some (n + cond b 1 0 - 0)) [ true ↦ ap Some (omega arith) | false ↦ ap Some (omega arith) ]
data-moved (Actions.ResumeThread u) t n d e = elim (u == t) as (λ b. Some (cond b (n - 1) n) ≡ Some (n + 0 - cond b 1 0)) [ true ↦ ap Some (omega arith) | false ↦ ap Some (omega arith) ]
data-moved a t n d e = ap Some (omega arith)

pub reply_moved : (a : Action) (x : Answer) (t n : ℕ) → is_dispose a ≡ false → is_exit a ≡ false → moved a x t (Some n) ≡ Some (count_after (is_refused x) (raises a t) (lowers a t) n)
reply_moved a (Data content) t n d e = data-moved a t n d e
reply_moved a (Error code) t n d e = refl

data-none : (a : Action) (t : ℕ) → moved_by a t None ≡ None
data-none Actions.Suspend t = refl
data-none Actions.Resume t = refl
data-none Actions.Dispose t = refl
data-none Actions.Exit t = refl
data-none (Actions.SuspendThread u) t = refl
data-none (Actions.ResumeThread u) t = refl
data-none a t = refl

reply-none : (a : Action) (x : Answer) (t : ℕ) → moved a x t None ≡ None
reply-none a (Data content) t = data-none a t
reply-none a (Error code) t = refl

-- a thread after a command that was carried out
pub reply_person : (a : Action) (x : Answer) (t : ℕ) (life : Life) (n : ℕ) (count to : Option ℕ) (ever : Bool) → is_dispose a ≡ false → is_exit a ≡ false → to ≡ moved a x t count → Person life n count ever → Person life (cond (is_alive life) (count_after (is_refused x) (raises a t) (lowers a t) n) n) to ever
reply_person a x t life n None to ever d e q p =
    let none : to ≡ None = q ∙ reply-none a x t in
    record {
      lives = p.lives ∙ sym (ap is_some none);
      counts = ap (λ b. cond b (count_after (is_refused x) (raises a t) (lowers a t) n) n) p.lives ∙ (p.counts ∙ sym (ap or_zero none));
      begun = p.begun;
    }
reply_person a x t life n (Some k) to ever d e q p =
    let some : to ≡ Some (count_after (is_refused x) (raises a t) (lowers a t) k) = q ∙ reply_moved a x t k d e in
    record {
      lives = p.lives ∙ sym (ap is_some some);
      counts = ap (λ b. cond b (count_after (is_refused x) (raises a t) (lowers a t) n) n) p.lives ∙ (ap (count_after (is_refused x) (raises a t) (lowers a t)) p.counts ∙ sym (ap or_zero some));
      begun = p.begun;
    }

-- ---- composites

same-thread : (o : Option ℕ) (t : ℕ) → apart_messages.is_thread o t ≡ mirror.is_thread o t
same-thread None t = refl
same-thread (Some u) t = refl

event-moved : (s : Composite) (t n : ℕ) → n + stops s t ≡ event_raise s.meaning t n
event-moved s t n =
    elim (s.meaning.policy == POLICY_ALL) as (λ a. n + cond a 1 (cond (s.meaning.policy == POLICY_EVENT_THREAD) (one_if (apart_messages.is_own s t)) 0) ≡ cond a (n + 1) (cond (s.meaning.policy == POLICY_EVENT_THREAD) (cond (mirror.is_thread (composite_thread s.meaning) t) (n + 1) n) n)) [
      | true ↦ refl
      | false ↦ elim (s.meaning.policy == POLICY_EVENT_THREAD) as (λ b. n + cond b (one_if (apart_messages.is_own s t)) 0 ≡ cond b (cond (mirror.is_thread (composite_thread s.meaning) t) (n + 1) n) n) [
        | true ↦ ap (λ b. n + one_if b) (same-thread (composite_thread s.meaning) t) ∙ elim (mirror.is_thread (composite_thread s.meaning) t) as (λ b. n + cond b 1 0 ≡ cond b (n + 1) n) [ true ↦ refl | false ↦ omega arith ]
        | false ↦ omega arith
      ]
    ]

pub event_person : (s : Composite) (t : ℕ) (life : Life) (n : ℕ) (count to : Option ℕ) (ever : Bool) → to ≡ option_map (event_raise s.meaning t) count → Person life n count ever → Person life (n + cond (is_alive life) (stops s t) 0) to ever
event_person s t life n None to ever q p =
    record {
      lives = p.lives ∙ sym (ap is_some q);
      counts = ap (λ b. n + cond b (stops s t) 0) p.lives ∙ (let c : n ≡ 0 = p.counts in let d : n + 0 ≡ 0 = omega arith in d) ∙ sym (ap or_zero q);
      begun = p.begun;
    }
event_person s t life n (Some k) to ever q p =
    record {
      lives = p.lives ∙ sym (ap is_some q);
      counts = ap (λ b. n + cond b (stops s t) 0) p.lives ∙ (ap (λ i. i + stops s t) p.counts ∙ (event-moved s t k ∙ sym (ap or_zero q)));
      begun = p.begun;
    }

-- ---- who lives before a message lives after it

data-survives : (a : Action) (t j : ℕ) → is_dispose a ≡ false → is_exit a ≡ false → (k : ℕ) × (moved_by a t (Some j) ≡ Some k)
data-survives a t j d e = (j + raises a t - lowers a t, data-moved a t j d e)

pub survives : (message : Message) (t j : ℕ) → kills message ≡ false → (k : ℕ) × (move message t (Some j) ≡ Some k)
survives Handshake t j h = (j, refl)
survives (Reply i c (Data content)) t j h =
    let b = neither (is_dispose (action_of c)) (is_exit (action_of c)) h in
    data-survives (action_of c) t j b.0 b.1
  where
    neither : (a b : Bool) → (a || b) ≡ false → (a ≡ false) × (b ≡ false)
    neither true b h = absurd (cc)
    neither false b h = (refl, h)
survives (Reply i c (Error e)) t j h = (j, refl)
survives (Report c) t j h = (event_raise c t j, ap (λ b. cond b None (Some (event_raise c t j))) h)

-- ---- what may be answered

same-here : (t : ℕ) → (t == t) ≡ true
same-here t = eq-eqb t t refl

is-here : (o : Option ℕ) (t : ℕ) → Some t ≡ o → mirror.is_thread o t ≡ true
is-here o t e = ap (λ x. mirror.is_thread x t) (sym e) ∙ same-here t

born : (life : Life) → is_alive life ≡ true → not (is_unborn life) ≡ true
born life h = elim life as (λ l. is_alive l ≡ true → not (is_unborn l) ≡ true) [ Unborn ↦ λ x. absurd (cc) | Alive ↦ λ x. refl | Ended ↦ λ x. absurd (cc) ] h

both-true : (a b : Bool) → a ≡ true → b ≡ true → (a && b) ≡ true
both-true a b h k = ap (λ x. x && b) h ∙ k

some-counted : (content : List DatumMeaning) → not (is_some (mirror.counted content)) ≡ false → (n : ℕ) × (mirror.counted content ≡ Some n)
some-counted content h = elim (mirror.counted content) as (λ o. not (is_some o) ≡ false → (n : ℕ) × (o ≡ Some n)) [ Some n ↦ λ _. (n, refl) | None ↦ λ x. absurd (cc) ] h

same-count : (content : List DatumMeaning) → count_in content ≡ or_zero (mirror.counted content)
same-count (One (Int (pos n)) ∷ []) = refl
same-count content = refl

-- What is known of a command that is answered with data.
pub record Answered (c : Command) (a : Action) (content : List DatumMeaning) (lives : ℕ → Life) (counts : ℕ → ℕ) (mid after : ℕ → Option ℕ) : Type 0 where
  pub of : about a ≡ thread_of c
  pub good : is_bad_data a content ≡ false
  pub shown : (t : ℕ) → mirror.shows_data c a content t ≡ true → is_some (mid t) ≡ true
  pub told : (t n : ℕ) → mirror.learned_data a content t None ≡ Some n → after t ≡ Some n
  pub moves : (t : ℕ) → after t ≡ moved_by a t (mid t)
  pub alive : (t : ℕ) → is_alive (lives t) ≡ is_some (mid t)
  pub same : (t : ℕ) → counts t ≡ or_zero (mid t)

abbrev Answers : Command → Action → List DatumMeaning → (ℕ → Life) → (ℕ → ℕ) → (ℕ → Option ℕ) → (ℕ → Option ℕ) → Type 0
Answers c a content lives counts mid after = Answered c a content lives counts mid after → may_answer a (Data content) lives counts ≡ true

may-count : (c : Command) (t : ℕ) (content : List DatumMeaning) (lives : ℕ → Life) (counts : ℕ → ℕ) (mid after : ℕ → Option ℕ) → Answers c (Actions.SuspendCount t) content lives counts mid after
may-count c t content lives counts mid after h =
    let n = some-counted content h.good in
    let x : after t ≡ Some n.0 = h.told t n.0 (ap (λ b. cond b (mirror.taught (mirror.counted content) None) None) (same-here t) ∙ ap (λ o. mirror.taught o None) n.1) in
    let y : mid t ≡ Some n.0 = sym (h.moves t) ∙ x in
    let z : counts t ≡ n.0 = h.same t ∙ ap or_zero y in
    let i : count_in content ≡ counts t = same-count content ∙ (ap or_zero n.1 ∙ sym z) in
    both-true (not (is_unborn (lives t))) (count_in content == counts t)
    (born (lives t) (h.alive t ∙ ap is_some y)) (eq-eqb (count_in content) (counts t) i)

may-thread : (c : Command) (t : ℕ) (lives : ℕ → Life) (mid : ℕ → Option ℕ) → (mirror.is_thread (thread_of c) t ≡ true → is_some (mid t) ≡ true) → is_alive (lives t) ≡ is_some (mid t) → Some t ≡ thread_of c → (not (is_unborn (lives t)) && true) ≡ true
may-thread c t lives mid shown alive of = both-true (not (is_unborn (lives t))) true (born (lives t) (alive ∙ shown (is-here (thread_of c) t of))) refl

may-data : (c : Command) (a : Action) (content : List DatumMeaning) (lives : ℕ → Life) (counts : ℕ → ℕ) (mid after : ℕ → Option ℕ) → Answers c a content lives counts mid after
may-data c (Actions.SuspendThread t) content lives counts mid after h = may-thread c t lives mid (h.shown t) (h.alive t) h.of
may-data c (Actions.ResumeThread t) content lives counts mid after h = may-thread c t lives mid (h.shown t) (h.alive t) h.of
may-data c (Actions.SuspendCount t) content lives counts mid after h = may-count c t content lives counts mid after h
may-data c a content lives counts mid after h = refl

pub answer_may : (c : Command) (content : List DatumMeaning) (lives : ℕ → Life) (counts : ℕ → ℕ) (mid after : ℕ → Option ℕ) → Answered c (action_of c) content lives counts mid after → may_answer (action_of c) (Data content) lives counts ≡ true
answer_may c content lives counts mid after h = may-data c (action_of c) content lives counts mid after h

-- whoever a composite is of lives
pub thread_lives : (o : Option ℕ) (lives : ℕ → Life) (mid : ℕ → Option ℕ) → ((t : ℕ) → mirror.is_thread o t ≡ true → is_some (mid t) ≡ true) → ((t : ℕ) → is_alive (lives t) ≡ is_some (mid t)) → lives_one o lives ≡ true
thread_lives None lives mid shown alive = refl
thread_lives (Some t) lives mid shown alive = alive t ∙ shown t (same-here t)
