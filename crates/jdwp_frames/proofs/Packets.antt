-- What was read of a thread's frames lasts as packets are read, where no command that may change it is answered.
use Rattle.std.proofs.Common.{◌≡◌, ℕ, ◌+◌, ◌<◌, ◌≤◌, inr, true, false, not, ◌&&◌, List, [], ◌∷◌, Some, refl, sym, ap, subst, arith}
use Rattle.jdwp_layout.specs.Meanings.{DatumMeaning}
use Rattle.jdwp_machine.specs.Meanings.{Meaning}
use Rattle.jdwp_action.specs.Actions.{Command}
use Rattle.jdwp_debuggee.specs.State.{Moment, count_or_zero}
use Rattle.jdwp_mirror.specs.Messages.{Handshake, Reply, Report}
use Rattle.jdwp_model.specs.Lasting.{IsAnswer, IsLasting, answers_write}
use Rattle.jdwp_model.specs.Next.{entered}
use Rattle.jdwp_model.specs.Seen.{seen_moment}
use Rattle.jdwp_model.specs.World.{Packet}
use Rattle.jdwp_model.proofs.Acts.{disposes, message_lowers}
use Rattle.jdwp_model.proofs.Keeps.{IsLast}
use Rattle.jdwp_model.proofs.Session.{Links, Sent, last, links_lower, replies}

-- the packet read last is an OK reply to the command with these data
abbrev pub IsReadLast : {S : Type 0} → List (Packet S) → Command → List DatumMeaning → Type 0
IsReadLast [] c content = ⊥
IsReadLast (p ∷ ps) c content = IsAnswer p.0 c content

-- Something was read, and where the machine lived as the last packet was sent, the thread was suspended then, and the answer lasts.
abbrev pub LastsAt : {S : Type 0} → ℕ → Command → List DatumMeaning → List (Packet S) → Type 0
LastsAt t c content [] = ⊥
LastsAt t c content (p ∷ ps) = p.1.state.alive ≡ true → (0 < count_or_zero p.1.state t) × IsLasting (p ∷ ps) t c content

more : (was base next low : ℕ) → 0 < was → was ≡ base → base ≤ next + (low + 0) → low ≡ 0 → 0 < next
more was base next low h e l z = omega arith

pub read-on : {S : Type 0} (m : Meaning S) (t : ℕ) (c : Command) (content : List DatumMeaning) (read : List (Packet S)) (base : Moment S) (p : Packet S) → LastsAt t c content read → IsLast read base → Sent m base p
    → message_lowers p.0 t ≡ 0 → disposes p.0 ≡ false → answers_write p.0 t ≡ false → LastsAt t c content (p ∷ read)
read-on m t c content [] base p l e s low d w = absurd l
read-on m t c content (q ∷ qs) base p l e s low d w = λ live.
    let was = l (subst (λ (x : Moment _). x.state.alive ≡ true) (sym e) (s.quiet.alive (s.acts.alive live))) in
    let least : count_or_zero base.state t ≤ count_or_zero p.1.state t + (message_lowers p.0 t + 0) = links_lower m base (p ∷ []) t (s, tt) (ap (λ b. not b && true) d) live in
    let up = more (count_or_zero q.1.state t) (count_or_zero base.state t) (count_or_zero p.1.state t) (message_lowers p.0 t) was.0 (ap (λ (x : Moment _). count_or_zero x.state t) e) least low in
    (up, inr (up, w, was.1))

-- packets that answer nothing
pub enter-on : {S : Type 0} (m : Meaning S) (t : ℕ) (c : Command) (content : List DatumMeaning) (ps read : List (Packet S)) (base : Moment S) → LastsAt t c content read → IsLast read base → Links m base ps → replies ps ≡ []
    → LastsAt t c content (entered ps read)
enter-on m t c content [] read base l e links none = l
enter-on m t c content ((Handshake, a) ∷ ps) read base l e links none =
    enter-on m t c content ps ((Handshake, a) ∷ read) a (read-on m t c content read base (Handshake, a) l e links.0 refl refl refl) refl links.1 none
enter-on m t c content ((Report r, a) ∷ ps) read base l e links none =
    enter-on m t c content ps ((Report r, a) ∷ read) a (read-on m t c content read base (Report r, a) l e links.0 refl refl refl) refl links.1 none
enter-on m t c content ((Reply k d x, a) ∷ ps) read base l e links none = absurd (cc)

pub entered-last : {S : Type 0} (ps read : List (Packet S)) (base : Moment S) → IsLast read base → IsLast (entered ps read) (last base ps)
entered-last [] read base e = e
entered-last (p ∷ ps) read base e = entered-last ps (p ∷ read) p.1 refl

-- the moment of the last packet read
pub record LastsThen {S : Type 0} (t : ℕ) (c : Command) (content : List DatumMeaning) (read : List (Packet S)) : Type 0 where
  pub then : Moment S
  pub saw : seen_moment read ≡ Some then
  pub lasts : then.state.alive ≡ true → (0 < count_or_zero then.state t) × IsLasting read t c content

pub lasts-then : {S : Type 0} (t : ℕ) (c : Command) (content : List DatumMeaning) (read : List (Packet S)) → LastsAt t c content read → LastsThen t c content read
lasts-then t c content [] l = absurd l
lasts-then t c content (p ∷ ps) l = record { then = p.1; saw = refl; lasts = l }
