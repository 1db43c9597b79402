-- A session's begin and its loss in the protocol's words.
use Rattle.std.proofs.Common.{◌≡◌, ◌∙◌, ℕ, zero, suc, false, List, [], ◌∷◌, Option, Some, None, ap, refl}
use Rattle.std.specs.Prelude.{nat_lt}
use Rattle.jdwp_debugger.specs.declared.order.Order.{Order}
use Rattle.jdwp_debugger.specs.declared.order.Order.TheVariants.{One, Apart}
use Rattle.jdwp_debugger.specs.declared.pending.Ticket.{Ticket}
use Rattle.jdwp_debugger.specs.Debuggers.{Asked, Debugger, attached, first_in, lost_debugger, tickets_of}
use Rattle.jdwp_debugger.specs.FollowingKept.{following_of}
use Rattle.jdwp_debugger.specs.Holding.{held_in, surely}
use Rattle.jdwp_debugger.specs.Protocol.{HoldsNobody, LosesEach, ticket_asked, ticket_at}

-- nobody is held as a session begins
unheld-first : (o : Order) (d : Debugger) (t : ℕ) → d.order ≡ o → held_in o (attached d) t ≡ false
unheld-first One d t is = refl
unheld-first Apart d t is = ap (λ (o : Order). nat_lt 0 (surely (following_of (first_in o) None []) t)) is

pub attached-nobody : (d : Debugger) → HoldsNobody (attached d)
attached-nobody d = λ t. (unheld-first d.order d t refl, refl)

-- nor behind a loss
unheld-lost : (o : Order) (d : Debugger) (t : ℕ) → held_in o (lost_debugger d) t ≡ false
unheld-lost One d t = refl
unheld-lost Apart d t = refl

pub lost-nobody : (d : Debugger) → HoldsNobody (lost_debugger d)
lost-nobody d = λ t. (unheld-lost d.order d t, refl)

-- the tickets that are told are those of the commands that wait under one
pub loses-each : (ps : List Asked) → LosesEach ps (tickets_of ps)
loses-each [] = λ i. refl
loses-each (p ∷ ps) = λ i. by p.ticket refl i (loses-each ps)
  where
    by : (o : Option Ticket) → p.ticket ≡ o → (i : ℕ) → LosesEach ps (tickets_of ps) → ticket_at (tickets_of (p ∷ ps)) i ≡ ticket_asked (p ∷ ps) i
    by None is i rest = rw is (rest i)
    by (Some k) is zero rest = rw is refl
    by (Some k) is (suc i) rest = rw is (rest i)
