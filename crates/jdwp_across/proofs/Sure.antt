-- what a debugger follows of a session is the watch that the model has of it
use Rattle.std.proofs.Common.{◌≡◌, ◌≤◌, ℕ, ◌+◌, true, cond, Option, Some, None, List, [], ◌∷◌, ◌++◌, length, max, fold, refl, sym, ◌∙◌, ap, subst, arith, ℤ, if◌then◌else◌}
use Rattle.std.specs.Prelude.{◌==◌, nat_le, nat_lt}
use Rattle.std.specs.Ordering.{int_eq}
use Rattle.std.proofs.Math.Nat.{max-le}
use Rattle.std.proofs.lemmas.Bool.{cond_both, eq-eqb, eqb-true, leb-false, leb-true, ne_eqb}
use Rattle.jdwp_layout.specs.Meanings.{ScalarMeaning, Byte, Int}
use Rattle.jdwp_layout.specs.declared.answer.Answer.{Answer}
use Rattle.jdwp_event.specs.Composites.{CompositeMeaning}
use Rattle.jdwp_action.specs.Actions.{Command, action_of}
use Rattle.jdwp_apart.specs.Following as follow
use Rattle.jdwp_apart.specs.Following.{Following, MADE_MOST, event_ticket, made_by, reported, reported_to, ticket_by, with_made}
use Rattle.jdwp_apart.specs.Messages.{Composite}
use Rattle.jdwp_apart.specs.Watch.{Watch, asks, later, raised_after, reads_composite, reads_reply, surely_stops, named_at}
use Rattle.jdwp_apart.specs.Messages.{is_own}
use Rattle.jdwp_apart.specs.World.{reply_of}
use Rattle.jdwp_mirror.specs.Messages.{Reply, Report, Ticket}
use Rattle.jdwp_debugger.specs.DebuggerTurns.{reports}
use Rattle.jdwp_model.specs.Next.{messages_of}
use Rattle.jdwp_model.specs.World.{Packet}
use Rattle.jdwp_orders.specs.Watched.{Since, hears, hears_all}

-- ---- the tickets of requests

-- none of them is of a later command
abbrev pub AreUpTo : ℕ → List (ℤ × ℕ) → Type 0
AreUpTo n [] = Unit {0}
AreUpTo n (m ∷ ms) = (m.1 ≤ n) × AreUpTo n ms

one-up-to : (id : ℤ) (n k : ℕ) (m : ℤ × ℕ) → k ≤ n → m.1 ≤ n → ticket_by id k m ≤ n
one-up-to id n k m h e = cond_both (int_eq m.0 id) (max k m.1) k (λ (x : ℕ). x ≤ n) (λ _. max-le h e) (λ _. h)

found-up-to : (id : ℤ) (n k : ℕ) (ms : List (ℤ × ℕ)) → k ≤ n → AreUpTo n ms → fold (ticket_by id) k ms ≤ n
found-up-to id n k [] h all = h
found-up-to id n k (m ∷ ms) h all = found-up-to id n (ticket_by id k m) ms (one-up-to id n k m h all.0) all.1

event-up-to : (n : ℕ) (ms : List (ℤ × ℕ)) (event : List ScalarMeaning) → AreUpTo n ms → event_ticket ms event ≤ n
event-up-to n ms (Byte kind ∷ Int id ∷ details) all = found-up-to id n 0 ms (omega arith) all
event-up-to n ms event all = omega arith

events-up-to : (n k : ℕ) (ms : List (ℤ × ℕ)) (events : List (List ScalarMeaning)) → k ≤ n → AreUpTo n ms → fold (λ (i : ℕ) (event : List ScalarMeaning). max i (event_ticket ms event)) k events ≤ n
events-up-to n k ms [] h all = h
events-up-to n k ms (event ∷ events) h all = events-up-to n (max k (event_ticket ms event)) ms events (max-le h (event-up-to n ms event all)) all

since-up-to : (n : ℕ) (ms : List (ℤ × ℕ)) (c : CompositeMeaning) → AreUpTo n ms → follow.since ms c ≤ n
since-up-to n ms c all = events-up-to n 0 ms c.events (omega arith) all

more-up-to : (n : ℕ) (ms : List (ℤ × ℕ)) → AreUpTo n ms → AreUpTo (n + 1) ms
more-up-to n [] all = tt
more-up-to n (m ∷ ms) all = let first = all.0 in (omega arith, more-up-to n ms all.1)

and-up-to : (n : ℕ) (ms : List (ℤ × ℕ)) (id : ℤ) → AreUpTo n ms → AreUpTo n (ms ++ (id, n) ∷ [])
and-up-to n [] id all = (omega arith, tt)
and-up-to n (m ∷ ms) id all = (all.0, and-up-to n ms id all.1)

made-up-to : (o : Option ℤ) (n : ℕ) (ms : List (ℤ × ℕ)) → AreUpTo n ms → AreUpTo n (with_made o n ms)
made-up-to None n ms all = all
made-up-to (Some id) n ms all = cond_both (nat_lt (length ms) MADE_MOST) (ms ++ (id, n) ∷ []) ((id, n) ∷ []) (AreUpTo n) (λ _. and-up-to n ms id all) (λ _. (omega arith, tt))

-- ---- the later of two tickets

later-first : (a b : ℕ) → b ≤ a → later a b ≡ a
later-first a b h = cond_both (nat_le a b) b a (λ (x : ℕ). x ≡ a) (λ e. let le = leb-true a b e in omega arith) (λ _. refl)

later-least : (a b : ℕ) → b ≤ later a b
later-least a b = cond_both (nat_le a b) b a (λ (x : ℕ). b ≤ x) (λ _. omega arith) (λ e. let lt = leb-false a b e in omega arith)

-- ---- what is followed

-- Whoever says of a composite that comes as so many commands were answered what these requests say, which were known as that many became it.
abbrev pub Uses : (ℕ → List (ℤ × ℕ)) → ℕ → Since → Type 0
Uses made n since = (k : ℕ) (c : CompositeMeaning) → k ≤ n → since k c ≡ follow.since (made k) c

-- A watch that depends on what is said so is what is followed, where it is said by the requests that were known as each number of commands became
-- answered.
pub record Watched (watch : Since → Watch) (f : Following) : Type 0 where
  pub made : ℕ → List (ℤ × ℕ)
  pub same : (since : Since) → Uses made f.watch.answered since → watch since ≡ f.watch
  pub now : (c : CompositeMeaning) → later f.watch.past (follow.since f.made c) ≡ later f.watch.past (follow.since (made f.watch.answered) c)
  pub past : (k : ℕ) (c : CompositeMeaning) → follow.since (made k) c ≤ k
  pub known : AreUpTo f.watch.answered f.made
  pub one_by_one : f.watch.one_by_one ≡ true

-- nothing is said of composites as a session begins
pub begins-watched : (watch : Since → Watch) → ((since : Since) → watch since ≡ follow.begun.watch) → Watched watch follow.begun
begins-watched watch h = record {
  made = λ k. [];
  same = λ since uses. h since;
  now = λ c. refl;
  past = λ k c. since-up-to k [] c tt;
  known = tt;
  one_by_one = refl;
}

-- the same watch
pub watched-as : (watch next : Since → Watch) (f : Following) → ((since : Since) → next since ≡ watch since) → Watched watch f → Watched next f
watched-as watch next f e h = record { made = h.made; same = λ since uses. e since ∙ h.same since uses; now = h.now; past = h.past; known = h.known; one_by_one = h.one_by_one }

pub asks-watched : (watch : Since → Watch) (f : Following) (c : Command) → Watched watch f → Watched (λ since. asks (watch since) c) (record f { watch = asks f.watch c })
asks-watched watch f c h = record {
  made = h.made;
  same = λ since uses. ap (λ v. asks v c) (h.same since uses);
  now = h.now;
  past = h.past;
  known = h.known;
  one_by_one = h.one_by_one;
}

-- ---- a reply

-- the requests as one command more became answered
abbrev and_made : (ℕ → List (ℤ × ℕ)) → ℕ → List (ℤ × ℕ) → ℕ → List (ℤ × ℕ)
and_made made n ms k = if k == n then ms else made k

made-there : (made : ℕ → List (ℤ × ℕ)) (n : ℕ) (ms : List (ℤ × ℕ)) → and_made made n ms n ≡ ms
made-there made n ms = ap (λ b. cond b ms (made n)) (eq-eqb n n refl)

made-else : (made : ℕ → List (ℤ × ℕ)) (n k : ℕ) (ms : List (ℤ × ℕ)) → k ≤ n → and_made made (n + 1) ms k ≡ made k
made-else made n k ms h = ap (λ b. cond b ms (made k)) (ne_eqb k (n + 1) (λ e. absurd (omega arith)))

made-past : (made : ℕ → List (ℤ × ℕ)) (n k : ℕ) (ms : List (ℤ × ℕ)) (c : CompositeMeaning) → AreUpTo n ms → follow.since (made k) c ≤ k → follow.since (and_made made n ms k) c ≤ k
made-past made n k ms c all h =
    cond_both (k == n) ms (made k) (λ l. follow.since l c ≤ k) (λ e. let same = eqb-true k n e in let le = since-up-to n ms c all in omega arith) (λ _. h)

pub answers-watched : (watch : Since → Watch) (f : Following) (k : Ticket) (c : Command) (answer : Answer) → Watched watch f
    → Watched (λ since. hears since (watch since) (Reply k c answer)) (record { watch = reads_reply f.watch (reply_of c answer); made = with_made (made_by (action_of c) answer) (f.watch.answered + 1) f.made })
answers-watched watch f k c answer h =
    let n = f.watch.answered in
    let ms = with_made (made_by (action_of c) answer) (n + 1) f.made in
    let made = and_made h.made (n + 1) ms in
    let known : AreUpTo (n + 1) ms = made-up-to (made_by (action_of c) answer) (n + 1) f.made (more-up-to n f.made h.known) in
    record {
      made = made;
      same = λ since uses. ap (λ v. reads_reply v (reply_of c answer))
          (h.same since (λ i e le. uses i e (omega (le, arith)) ∙ ap (λ l. follow.since l e) (made-else h.made n i ms le)));
      now = λ e. ap (λ l. later f.watch.past (follow.since l e)) (sym (made-there h.made (n + 1) ms));
      past = λ i e. made-past h.made (n + 1) i ms e known (h.past i e);
      known = known;
      one_by_one = h.one_by_one;
    }

-- ---- a composite

-- all that a composite says of its requests is after which command it came, beside what is known
composite-same : (v : Watch) (c : CompositeMeaning) (a b : ℕ) → later v.past a ≡ later v.past b → reads_composite v (record { meaning = c; since = a }) ≡ reads_composite v (record { meaning = c; since = b })
composite-same v c a b e =
    let s : Composite = record { meaning = c; since = a } in
    let read : ℕ → Watch = λ l. record {
      one_by_one = v.one_by_one;
      answered = v.answered;
      pending = v.pending;
      invoked = v.invoked;
      past = later l (if v.one_by_one then v.answered else 0);
      told = λ t. raised_after l (surely_stops (v.knows t) l s t) (v.told t);
      recounted = λ t. raised_after l (surely_stops (v.knows t) l s t) (v.recounted t);
      knows = λ t. if is_own s t then named_at (v.answered + length v.pending) (v.knows t) else v.knows t;
    } in
    ap read e

pub reports-watched : (watch : Since → Watch) (f : Following) (c : CompositeMeaning) → Watched watch f → Watched (λ since. hears since (watch since) (Report c)) (reported c f)
reports-watched watch f c h =
    let n = f.watch.answered in
    let past = later (later f.watch.past (follow.since f.made c)) (if f.watch.one_by_one then n else 0) in
    let le : n ≤ past = subst (λ b. n ≤ later (later f.watch.past (follow.since f.made c)) (if b then n else 0)) (sym h.one_by_one) (later-least (later f.watch.past (follow.since f.made c)) n) in
    record {
      made = h.made;
      same = λ since uses.
          ap (λ v. hears since v (Report c)) (h.same since uses)
          ∙ composite-same f.watch c (since n c) (follow.since f.made c) (ap (later f.watch.past) (uses n c (omega arith)) ∙ sym (h.now c));
      now = λ e.
          let none : follow.since [] e ≤ n = since-up-to n [] e tt in
          let some = h.past n e in
          later-first past (follow.since [] e) (omega (none, le, arith)) ∙ sym (later-first past (follow.since (h.made n) e) (omega (some, le, arith)));
      past = h.past;
      known = tt;
      one_by_one = h.one_by_one;
    }

abbrev some_following : Following → Option Following
some_following f = Some f

-- composites that waited, in order
pub waited-watched : {S : Type 0} (watch : Since → Watch) (f last : Following) (cs : List CompositeMeaning) (parked : List (Packet S)) → reports cs ≡ messages_of parked → Watched watch f → fold reported_to (Some f) cs ≡ Some last
    → Watched (λ since. hears_all since (watch since) parked) last
waited-watched watch f last [] [] e h is = let same : some_following f ≡ some_following last = is in let q : f ≡ last = cc in subst (Watched watch) q h
waited-watched watch f last [] (p ∷ ps) e h is = absurd (cc)
waited-watched watch f last (c ∷ cs) [] e h is = absurd (cc)
waited-watched watch f last (c ∷ cs) ((message, a) ∷ ps) e h is =
    let first : Report c ≡ message = cc in
    let others : reports cs ≡ messages_of ps = cc in
    let one = subst (λ x. Watched (λ since. hears since (watch since) x) (reported c f)) first (reports-watched watch f c h) in
    waited-watched (λ since. hears since (watch since) message) (reported c f) last cs ps others one is
