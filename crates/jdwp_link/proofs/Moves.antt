-- bytes that are moved in pieces
use Rattle.std.proofs.Common.{◌≡◌, ◌≤◌, ℕ, zero, suc, ◌+◌, ◌-◌, min, inl, inr, length, take, drop, Bool, true, false, cond, List, [], ◌∷◌, ◌++◌, refl, sym, ◌∙◌, ap, arith}
use Rattle.std.proofs.lemmas.Bool.{cases_lt}
use Rattle.std.proofs.lemmas.List.{append_assoc, append-nil, drop-drop, drop_at, length-append, length-drop, length-take-le, take-append-le, take_all}
use Rattle.std.proofs.Math.Seq.{take-add, take-append-add}
use Rattle.jdwp_end.specs.Ends as ends
use Rattle.jdwp_end.specs.Ends.{End, is_open, room_of}

-- ---- one piece behind another

pub taken-twice : (a b : List ℕ) (e : End) → ends.with_taken b (ends.with_taken a e) ≡ ends.with_taken (a ++ b) e
taken-twice a b e =
    let out : drop (length b) (drop (length a) e.outgoing) ≡ drop (length (a ++ b)) e.outgoing = drop-drop (length b) (length a) e.outgoing ∙ ap (λ n. drop n e.outgoing) (sym (length-append a b)) in
    ap (λ o. record e { outgoing = o; session = record e.session { taken = (e.session.taken ++ a) ++ b } }) out
    ∙ ap (λ t. record e { outgoing = drop (length (a ++ b)) e.outgoing; session = record e.session { taken = t } }) (append_assoc e.session.taken a b)

pub fed-twice : (a b : List ℕ) (e : End) → ends.with_fed b (ends.with_fed a e) ≡ ends.with_fed (a ++ b) e
fed-twice a b e =
    ap (λ i. record e { incoming = i; session = record e.session { fed = (e.session.fed ++ a) ++ b } }) (append_assoc e.incoming a b)
    ∙ ap (λ f. record e { incoming = e.incoming ++ (a ++ b); session = record e.session { fed = f } }) (append_assoc e.session.fed a b)

-- none is moved
pub taken-none : (e : End) → ends.with_taken [] e ≡ e
taken-none e = ap (λ t. record e { session = record e.session { taken = t } }) (append-nil e.session.taken)

pub fed-none : (e : End) → ends.with_fed [] e ≡ e
fed-none e =
    ap (λ i. record e { incoming = i; session = record e.session { fed = e.session.fed ++ [] } }) (append-nil e.incoming)
    ∙ ap (λ f. record e { session = record e.session { fed = f } }) (append-nil e.session.fed)

-- ---- pieces of what waits

room-by : (unshut : Bool) (packet size more p k : ℕ) → more ≡ size + k → k + p ≤ cond unshut (packet - size) 0 → p ≤ cond unshut (packet - more) 0
room-by true packet size more p k e h = omega arith
room-by false packet size more p k e h = omega arith

room-left : (k p : ℕ) (bytes : List ℕ) (to : End) → length bytes ≡ k → k + p ≤ room_of to → p ≤ room_of (ends.with_fed bytes to)
room-left k p bytes to size room = room-by (is_open to) to.limits.packet (length to.incoming) (length (to.incoming ++ bytes)) p k (length-append to.incoming bytes ∙ ap (λ n. length to.incoming + n) size) room

-- a piece of what waits, from an end that gave so many bytes to one that took them
pub piece-is : (k p : ℕ) (from to : End) → k + p ≤ length from.outgoing → k + p ≤ room_of to
    → take (min (min p (room_of (ends.with_fed (take k from.outgoing) to))) (length (ends.with_taken (take k from.outgoing) from).outgoing)) (ends.with_taken (take k from.outgoing) from).outgoing ≡ take p (drop k from.outgoing)
piece-is k p from to waits room =
    let size : length (take k from.outgoing) ≡ k = length-take-le k from.outgoing (omega arith) in
    let left : drop (length (take k from.outgoing)) from.outgoing ≡ drop k from.outgoing = ap (λ n. drop n from.outgoing) size in
    let more : length (drop k from.outgoing) ≡ length from.outgoing - k = length-drop k from.outgoing in
    let many : length (drop (length (take k from.outgoing)) from.outgoing) ≡ length from.outgoing - k = ap length left ∙ more in
    let roomy : p ≤ room_of (ends.with_fed (take k from.outgoing) to) = room-left k p (take k from.outgoing) to size room in
    let first : min p (room_of (ends.with_fed (take k from.outgoing) to)) ≡ p = omega arith in
    let all : min p (length (drop (length (take k from.outgoing)) from.outgoing)) ≡ p = omega arith in
    ap (λ n. take (min n (length (drop (length (take k from.outgoing)) from.outgoing))) (drop (length (take k from.outgoing)) from.outgoing)) first
    ∙ (ap (λ n. take n (drop (length (take k from.outgoing)) from.outgoing)) all ∙ ap (take p) left)

-- so many of these bytes, and then some more
pub pieces : (k p : ℕ) (bytes : List ℕ) → take k bytes ++ take p (drop k bytes) ≡ take (k + p) bytes
pieces k p bytes = sym (take-add k p bytes)

-- ---- first what a queue has, and then what waits at an end

room-after-by : (unshut : Bool) (packet size more k : ℕ) → more ≡ size + k → cond unshut (packet - more) 0 ≡ cond unshut (packet - size) 0 - k
room-after-by true packet size more k e = omega arith
room-after-by false packet size more k e = omega arith

pub room-after : (bytes : List ℕ) (e : End) → room_of (ends.with_fed bytes e) ≡ room_of e - length bytes
room-after bytes e = room-after-by (is_open e) e.limits.packet (length e.incoming) (length (e.incoming ++ bytes)) (length bytes) (length-append e.incoming bytes)

drop-all : (n : ℕ) (xs : List ℕ) → length xs ≤ n → drop n xs ≡ []
drop-all zero [] h = refl
drop-all (suc n) [] h = refl
drop-all zero (x ∷ xs) h = absurd (omega arith)
drop-all (suc n) (x ∷ xs) h = drop-all n xs (omega arith)

-- what came of both
pub record Comes (queue out come : List ℕ) (first second : ℕ) : Type 0 where
  pub whole : take first queue ++ take second out ≡ come
  pub rest : take second out ≡ drop (length queue) come
  pub left : drop first queue ≡ drop (length come) queue

pub comes : (n room first second : ℕ) (queue out : List ℕ) → first ≡ min n (min (length queue) room) → second ≡ min (min (length out) (room - first)) (n - first)
    → Comes queue out (take (min n (min (length (queue ++ out)) room)) (queue ++ out)) first second
comes n room first second queue out a b =
    let both = length-append queue out in
    elim (cases_lt (min n room) (length queue)) [
      | inl few ↦
          let e : first ≡ min n room = omega (a, few, arith) in
          let none : second ≡ 0 = omega (b, e, arith) in
          let count : min n (min (length (queue ++ out)) room) ≡ first = omega (e, few, both, arith) in
          let come : take (min n (min (length (queue ++ out)) room)) (queue ++ out) ≡ take first queue = ap (λ k. take k (queue ++ out)) count ∙ take-append-le first queue out (omega (e, few, arith)) in
          let size : length (take first queue) ≡ first = length-take-le first queue (omega (e, few, arith)) in
          let nothing : take second out ≡ [] = ap (λ k. take k out) none in
          record {
            whole = ap (λ l. take first queue ++ l) nothing ∙ (append-nil (take first queue) ∙ sym come);
            rest = nothing ∙ sym (ap (drop (length queue)) come ∙ drop-all (length queue) (take first queue) (omega (size, e, few, arith)));
            left = ap (λ k. drop k queue) (sym (ap length come ∙ size));
          }
      | inr all ↦
          let e : first ≡ length queue = omega (a, all, arith) in
          let count : min n (min (length (queue ++ out)) room) ≡ length queue + second = omega (b, e, all, both, arith) in
          let come : take (min n (min (length (queue ++ out)) room)) (queue ++ out) ≡ queue ++ take second out = ap (λ k. take k (queue ++ out)) count ∙ take-append-add queue out second in
          let front : take first queue ≡ queue = take_all first queue (omega (e, arith)) in
          let size = length-append queue (take second out) in
          record {
            whole = ap (λ l. l ++ take second out) front ∙ sym come;
            rest = sym (ap (drop (length queue)) come ∙ drop_at queue (take second out) (length queue) refl);
            left = drop-all first queue (omega (e, arith)) ∙ sym (ap (λ l. drop (length l) queue) come ∙ drop-all (length (queue ++ take second out)) queue (omega (size, arith)));
          }
    ]
