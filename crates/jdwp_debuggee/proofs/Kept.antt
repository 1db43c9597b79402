-- what the code keeps stays
use Rattle.jdwp_wire.specs.Numbers.{greatest_int}
use Rattle.std.proofs.Common.{◌≡◌, ◌≤◌, ◌==◌, ◌+◌, ◌-◌, cond, ℕ, Bool, true, false, Option, Some, None, List, [], length, refl, sym, ◌∙◌, ap, subst, arith}
use Rattle.std.specs.Prelude.{IfSome}
use Rattle.jdwp_machine.specs.Meanings.{Meaning, has}
use Rattle.jdwp_machine.specs.Laws.{IsLawful, AreDistinct}
use Rattle.jdwp_action.specs.Actions.{Command, Raw}
use Rattle.jdwp_debuggee.specs.Debuggees.{AreRoomy, Debuggee, IsKept, at_moment, with_state}
use Rattle.jdwp_debuggee.specs.Entries.{AllAtMost}
use Rattle.jdwp_debuggee.specs.Facts.{IsSound}
use Rattle.jdwp_debuggee.specs.Settings.{Settings, IsCountLimit}
use Rattle.jdwp_debuggee.specs.State.{State, at_limit, changed, count_in, count_of, ids, new_state, only, raised, lowered, cleared, reset, running, with_counts}
use Rattle.jdwp_debuggee.specs.SoundLaws.{mapped, raised-by-most, sound_counts}
use Rattle.jdwp_debuggee.specs.ThreadLaws.{count-changed, count-running, has-count, ids-running}
use Rattle.jdwp_debuggee.proofs.Distinct.{all-at-most, at-most-more, ids-changed}
use Rattle.jdwp_debuggee.specs.Steps.{raised_by}
use Rattle.jdwp_debuggee.proofs.Commands.{lowered-most, only-most, raised-most}

pub most-of : {S : Type 0} (m : Meaning S) (d : Debuggee S) → IsKept m d → AllAtMost greatest_int d.moment.state.threads
most-of m d k =
    at-most-more d.settings.count_limit greatest_int d.moment.state.threads k.limit.1
    (all-at-most d.settings.count_limit d.moment.state.threads k.distinct k.sound.at_most)

-- a live thread's count
pub count-most : {S : Type 0} (m : Meaning S) (d : Debuggee S) (t : ℕ) (count : Option ℕ) → IsKept m d → count ≡ count_of d.moment.state t → IfSome count (λ n. n ≤ d.settings.count_limit)
count-most m d t None k e = tt
count-most m d t (Some n) k e = k.sound.at_most t n (sym e)

pub kept-new : {S : Type 0} (m : Meaning S) → IsLawful m → (settings : Settings) (s : S) → m.is_state s → IsCountLimit settings.count_limit → AreRoomy settings.limits → IsKept m (record { settings = settings; moment = record { state = new_state (m.live s); machine = s }; visits = 0 })
kept-new m law settings s st limit limits = record {
  sound = record {
    state = st;
    lives = λ t. sym (ap (λ l. has l t) (ids-running (m.live s))) ∙ has-count (running (m.live s)) t;
    at_most = λ t n e. let z : n ≡ 0 = count-running (m.live s) t n e in omega arith;
    below = tt;
  };
  distinct = subst AreDistinct (sym (ids-running (m.live s))) (law.live_distinct s st);
  quiet = λ _ t n e. count-running (m.live s) t n e;
  limit = limit;
  next = omega arith;
  limits = limits;
  room = omega arith;
}

-- counts change, and a count that is 0 stays 0 before the first handshake
pub kept-counts : {S : Type 0} (m : Meaning S) (d : Debuggee S) (f : ℕ → ℕ → ℕ) → IsKept m d → ((t n : ℕ) → count_of d.moment.state t ≡ Some n → f t n ≤ d.settings.count_limit) → (d.moment.state.handshaken ≡ false → (t : ℕ) → f t 0 ≡ 0) → IsKept m (with_state (with_counts f d.moment.state) d)
kept-counts m d f k most zero = record {
  sound = sound_counts m d.settings d.moment f k.sound most;
  distinct = subst AreDistinct (sym (ids-changed f d.moment.state.threads)) k.distinct;
  quiet = λ e t n h.
      let j = mapped (f t) (count_of d.moment.state t) n (sym (count-changed f d.moment.state.threads t) ∙ h) in
      j.2 ∙ (ap (f t) (k.quiet e t j.0 j.1) ∙ zero e t);
  limit = k.limit;
  next = k.next;
  limits = k.limits;
  room = k.room;
}

-- the threads are the same, or a part of them, and so are the requests
pub kept-threads : {S : Type 0} (m : Meaning S) (d : Debuggee S) (state : State) → IsKept m d → state.threads ≡ d.moment.state.threads → state.handshaken ≡ d.moment.state.handshaken → state.next_request ≡ d.moment.state.next_request → length state.requests ≤ length d.moment.state.requests → IsSound m d.settings (record { state = state; machine = d.moment.machine }) → IsKept m (with_state state d)
kept-threads m d state k e h n l s = record {
  sound = s;
  distinct = subst (λ l. AreDistinct (ids l)) (sym e) k.distinct;
  quiet = λ x t c y. k.quiet (sym h ∙ x) t c (sym (ap (λ l. count_in l t) e) ∙ y);
  limit = k.limit;
  next = subst (λ x. x ≤ greatest_int + 1) (sym n) k.next;
  limits = k.limits;
  room = let r : length d.moment.state.requests ≤ d.settings.limits.requests = k.room in omega arith;
}

both : {b : Bool} → b ≡ true → b ≡ false → ⊥
both h k = cc

-- after the first handshake
pub kept-shaken : {S : Type 0} (m : Meaning S) (d : Debuggee S) (f : ℕ → ℕ → ℕ) → IsKept m d → d.moment.state.handshaken ≡ true → ((t n : ℕ) → count_of d.moment.state t ≡ Some n → f t n ≤ d.settings.count_limit) → IsKept m (with_state (with_counts f d.moment.state) d)
kept-shaken m d f k h most = kept-counts m d f k most (λ e. absurd (both h e))

-- the threads that an event stopped count for nothing here
pub kept-stopped : {S : Type 0} (m : Meaning S) (d : Debuggee S) (stopped : List ℕ) → IsKept m d → IsKept m (with_state (record d.moment.state { stopped = stopped }) d)
kept-stopped m d stopped k = record {
  sound = record { state = k.sound.state; lives = k.sound.lives; at_most = k.sound.at_most; below = k.sound.below };
  distinct = k.distinct;
  quiet = k.quiet;
  limit = k.limit;
  next = k.next;
  limits = k.limits;
  room = k.room;
}

pub kept-lowered : {S : Type 0} (m : Meaning S) (d : Debuggee S) → IsKept m d → IsKept m (with_state (with_counts lowered d.moment.state) d)
kept-lowered m d k = kept-counts m d lowered k (λ t n h. lowered-most n d.settings.count_limit (k.sound.at_most t n h)) (λ _ t. refl)

-- one thread's count
same-count : (c : Option ℕ) (j n : ℕ) → c ≡ Some j → c ≡ Some n → n ≡ j
same-count c j n h k = cc

raised-one-most : {S : Type 0} (m : Meaning S) (d : Debuggee S) (u j : ℕ) → IsKept m d → count_of d.moment.state u ≡ Some j → (j ≡ d.settings.count_limit → ⊥) → (t n : ℕ) → count_of d.moment.state t ≡ Some n → only u raised t n ≤ d.settings.count_limit
raised-one-most m d u j k c h t n e =
    only-most u t (n + 1) n d.settings.count_limit
    (λ s.
    let same : n ≡ j = same-count (count_of d.moment.state u) j n c (ap (λ x. count_of d.moment.state x) s ∙ e) in
    let most : n ≤ d.settings.count_limit = k.sound.at_most t n e in
    omega arith)
    (k.sound.at_most t n e)

pub kept-raised-one : {S : Type 0} (m : Meaning S) (d : Debuggee S) (u j : ℕ) → IsKept m d → d.moment.state.handshaken ≡ true → count_of d.moment.state u ≡ Some j → (j ≡ d.settings.count_limit → ⊥) → IsKept m (with_state (with_counts (only u raised) d.moment.state) d)
kept-raised-one m d u j k x c h = kept-shaken m d (only u raised) k x (raised-one-most m d u j k c h)

pub kept-raised : {S : Type 0} (m : Meaning S) (d : Debuggee S) → IsKept m d → d.moment.state.handshaken ≡ true → at_limit d.settings.count_limit d.moment.state ≡ false → IsKept m (with_state (with_counts raised d.moment.state) d)
kept-raised m d k x h = kept-shaken m d raised k x (raised-most d.settings d.moment k.sound.at_most h)

lowered-zero : (u t : ℕ) → only u lowered t 0 ≡ 0
lowered-zero u t = elim (u == t) as (λ b. cond b (0 - 1) 0 ≡ 0) [ true ↦ refl | false ↦ refl ]

pub kept-lowered-one : {S : Type 0} (m : Meaning S) (d : Debuggee S) (u : ℕ) → IsKept m d → IsKept m (with_state (with_counts (only u lowered) d.moment.state) d)
kept-lowered-one m d u k =
    kept-counts m d (only u lowered) k
    (λ t n h. only-most u t (n - 1) n d.settings.count_limit (λ _. lowered-most n d.settings.count_limit (k.sound.at_most t n h)) (k.sound.at_most t n h))
    (λ _ t. lowered-zero u t)

pub kept-reset : {S : Type 0} (m : Meaning S) (d : Debuggee S) → IsKept m d → IsKept m (with_state (reset d.moment.state) d)
kept-reset m d k =
    let c = kept-counts m d cleared k (λ t n h. omega arith) (λ _ t. refl) in
    record {
      sound = record { state = c.sound.state; lives = c.sound.lives; at_most = c.sound.at_most; below = tt };
      distinct = c.distinct;
      quiet = c.quiet;
      limit = c.limit;
      next = c.next;
      limits = c.limits;
      room = omega arith;
    }

pub kept-start : {S : Type 0} (m : Meaning S) (d : Debuggee S) (f : ℕ → ℕ → ℕ) (packet : ℕ) → IsKept m d → d.moment.state.handshaken ≡ false → ((t n : ℕ) → f t n ≤ n + 1) → IsKept m (with_state (record d.moment.state { threads = changed f d.moment.state.threads; handshaken = true; next_packet = packet }) d)
kept-start m d f packet k h most =
    let now = at_moment (record { state = record d.moment.state { handshaken = true; next_packet = packet }; machine = d.moment.machine }) d in
    let kept : IsKept m now = record {
      sound = record { state = k.sound.state; lives = k.sound.lives; at_most = k.sound.at_most; below = k.sound.below };
      distinct = k.distinct;
      quiet = λ e. absurd (cc);
      limit = k.limit;
      next = k.next;
      limits = k.limits;
      room = k.room;
    } in
    kept-shaken m now f kept refl (λ t n c. let z : n ≡ 0 = k.quiet h t n c in let l : f t n ≤ n + 1 = most t n in let i : 1 ≤ d.settings.count_limit = k.limit.0 in omega arith)

-- a command, where the action alone matters
abbrev pub any : Command
any = record { set = 0; number = 0; carried = Raw [] }

pub kept-start-by : {S : Type 0} (m : Meaning S) (d : Debuggee S) (policy thread packet : ℕ) → IsKept m d → d.moment.state.handshaken ≡ false → IsKept m (with_state (record d.moment.state { threads = changed (raised_by policy thread) d.moment.state.threads; handshaken = true; next_packet = packet }) d)
kept-start-by m d policy thread packet k h = kept-start m d (raised_by policy thread) packet k h (raised-by-most policy thread)
