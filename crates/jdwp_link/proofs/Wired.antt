-- messages under way, and the commands that wait for replies
use Rattle.std.proofs.Common.{◌≡◌, ℕ, ◌⊎◌, inl, inr, Bool, List, [], ◌∷◌, ◌++◌, refl, sym, ◌∙◌, ap, subst}
use Rattle.std.proofs.lemmas.List.{append_assoc}
use Rattle.std.specs.List.{AllByRecursion}
use Rattle.jdwp_wire.specs.Streams.{AreSendable, stream}
use Rattle.jdwp_wire.specs.Widths.{Widths}
use Rattle.jdwp_end.specs.Ends.{End}
use Rattle.jdwp_mirror.specs.Messages.{Greets, Asks, Handshake, Reply, Report}
use Rattle.jdwp_debugger.specs.Debuggers.{Asked}
use Rattle.jdwp_link.specs.Stands.{AreCut}
use Rattle.jdwp_link.specs.Wires.{CallWire, PacketWire, Waiting, IsAmong, calls_sent, packets_sent, IsMessage, ArePackets, replied, asked, waiting, Awaits}
use Rattle.jdwp_link.proofs.Cuts.{cut-longer}
use Rattle.jdwp_link.proofs.Sizes.{stream-calls, stream-packets}

-- ---- lists

pub all-append : {X : Type 0} (P : X → Type 0) (xs ys : List X) → AllByRecursion P xs → AllByRecursion P ys → AllByRecursion P (xs ++ ys)
all-append P [] ys a b = b
all-append P (x ∷ xs) ys a b = (a.0, all-append P xs ys a.1 b)

pub replied-append : {S : Type 0} (xs ys : List (PacketWire S)) → replied (xs ++ ys) ≡ replied xs ++ replied ys
replied-append [] ys = refl
replied-append ((id, (Reply k c answer, a)) ∷ xs) ys = ap (λ l. (id, (k, c)) ∷ l) (replied-append xs ys)
replied-append ((id, (Report c, a)) ∷ xs) ys = replied-append xs ys
replied-append ((id, (Handshake, a)) ∷ xs) ys = replied-append xs ys

pub asked-append : (xs ys : List CallWire) → asked (xs ++ ys) ≡ asked xs ++ asked ys
asked-append [] ys = refl
asked-append ((id, Asks k c) ∷ xs) ys = ap (λ l. (id, (k, c)) ∷ l) (asked-append xs ys)
asked-append ((id, Greets) ∷ xs) ys = asked-append xs ys

pub waiting-append : (xs ys : List Asked) → waiting (xs ++ ys) ≡ waiting xs ++ waiting ys
waiting-append [] ys = refl
waiting-append (x ∷ xs) ys = ap (λ l. waiting (x ∷ []) ++ l) (waiting-append xs ys)

-- ---- what is among them

pub among-front : (p : Waiting) (xs ys : List Waiting) → IsAmong p xs → IsAmong p (xs ++ ys)
among-front p [] ys h = absurd h
among-front p (x ∷ xs) ys (inl e) = inl e
among-front p (x ∷ xs) ys (inr h) = inr (among-front p xs ys h)

pub among-back : (p : Waiting) (xs ys : List Waiting) → IsAmong p ys → IsAmong p (xs ++ ys)
among-back p [] ys h = h
among-back p (x ∷ xs) ys h = inr (among-back p xs ys h)

pub among-either : (p : Waiting) (xs ys : List Waiting) → IsAmong p (xs ++ ys) → IsAmong p xs ⊎ IsAmong p ys
among-either p [] ys h = inr h
among-either p (x ∷ xs) ys (inl e) = inl (inl e)
among-either p (x ∷ xs) ys (inr h) = elim (among-either p xs ys h) [ inl a ↦ inl (inr a) | inr b ↦ inr b ]

-- one stands further behind
pub among-moved : (p q : Waiting) (xs ys : List Waiting) → IsAmong p (q ∷ (xs ++ ys)) → IsAmong p (xs ++ q ∷ ys)
among-moved p q xs ys (inl e) = among-back p xs (q ∷ ys) (inl e)
among-moved p q xs ys (inr h) = elim (among-either p xs ys h) [ inl a ↦ among-front p xs (q ∷ ys) a | inr b ↦ among-back p xs (q ∷ ys) (inr b) ]

-- ---- what waits

-- what is asked stands behind all else
pub asked-behind : {S : Type 0} (from : List (PacketWire S)) (deferred : List Waiting) (to : List CallWire) (sent : CallWire) → replied from ++ (deferred ++ asked (to ++ sent ∷ [])) ≡ (replied from ++ (deferred ++ asked to)) ++ asked (sent ∷ [])
asked-behind from deferred to sent =
    ap (λ l. replied from ++ (deferred ++ l)) (asked-append to (sent ∷ [])) ∙ (ap (λ l. replied from ++ l) (sym (append_assoc deferred (asked to) (asked (sent ∷ [])))) ∙ sym (append_assoc (replied from) (deferred ++ asked to) (asked (sent ∷ []))))

pub awaits-same : {S : Type 0} (pending : List Asked) (from after : List (PacketWire S)) (deferred : List Waiting) (to : List CallWire) → replied from ≡ replied after → Awaits pending from deferred to → Awaits pending after deferred to
awaits-same pending from after deferred to e a = λ p h. a p (subst (λ l. IsAmong p (l ++ (deferred ++ asked to))) (sym e) h)

-- what was deferred is so no more
pub awaits-dropped : {S : Type 0} (pending : List Asked) (from : List (PacketWire S)) (deferred : List Waiting) (to : List CallWire) → Awaits pending from deferred to → Awaits pending from [] to
awaits-dropped pending from deferred to a = λ p h. a p (elim (among-either p (replied from) (asked to) h) [
  | inl b ↦ among-front p (replied from) (deferred ++ asked to) b
  | inr b ↦ among-back p (replied from) (deferred ++ asked to) (among-back p deferred (asked to) b)
])

-- commands that were under way or deferred are replied to, or deferred
pub awaits-replied : {S : Type 0} (pending : List Asked) (from more : List (PacketWire S)) (deferred kept : List Waiting) (to rest : List CallWire) (done : List Waiting) → replied more ≡ done
    → ((p : Waiting) → IsAmong p (done ++ (kept ++ asked rest)) → IsAmong p (deferred ++ asked to)) → Awaits pending from deferred to → Awaits pending (from ++ more) kept rest
awaits-replied pending from more deferred kept to rest done r e a = λ p h.
    let whole : IsAmong p (replied from ++ (done ++ (kept ++ asked rest))) =
    subst (IsAmong p) (ap (λ l. l ++ (kept ++ asked rest)) (replied-append from more ∙ ap (λ l. replied from ++ l) r) ∙ append_assoc (replied from) done (kept ++ asked rest)) h in
    a p (elim (among-either p (replied from) (done ++ (kept ++ asked rest)) whole) [
      | inl b ↦ among-front p (replied from) (deferred ++ asked to) b
      | inr b ↦ among-back p (replied from) (deferred ++ asked to) (e p b)
    ])

-- ---- what is sent

pub cut-sent : {S : Type 0} (w : Widths) (wires more : List (PacketWire S)) (at : ℕ) (way way_after : List ℕ) (to after : End) (closed : Bool) → after.incoming ≡ to.incoming → way_after ≡ way ++ stream (packets_sent w more)
    → AreCut at (stream (packets_sent w wires)) way to closed → AreCut at (stream (packets_sent w (wires ++ more))) way_after after closed
cut-sent w wires more at way way_after to after closed same left c =
    subst (λ b. AreCut at b way_after after closed) (sym (stream-packets w wires more)) (cut-longer at (stream (packets_sent w wires)) (stream (packets_sent w more)) way way_after to after closed same left c)

pub cut-asked : (w : Widths) (wires more : List CallWire) (at : ℕ) (way way_after : List ℕ) (to after : End) (closed : Bool) → after.incoming ≡ to.incoming → way_after ≡ way ++ stream (calls_sent w more)
    → AreCut at (stream (calls_sent w wires)) way to closed → AreCut at (stream (calls_sent w (wires ++ more))) way_after after closed
cut-asked w wires more at way way_after to after closed same left c =
    subst (λ b. AreCut at b way_after after closed) (sym (stream-calls w wires more)) (cut-longer at (stream (calls_sent w wires)) (stream (calls_sent w more)) way way_after to after closed same left c)

-- messages that may be sent, and that mean what they say
pub packets-can : {S : Type 0} (w : Widths) (limit : ℕ) (more : List (PacketWire S)) → AreSendable limit (packets_sent w more) → AllByRecursion (λ (p : PacketWire S). IsMessage w p.1.0) more → ArePackets w limit more
packets-can w limit [] a b = tt
packets-can w limit (p ∷ ps) a b = ((a.0, b.0), packets-can w limit ps a.1 b.1)
