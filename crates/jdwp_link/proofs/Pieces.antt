-- what one piece more makes of two ends
use Rattle.std.proofs.Common.{◌≡◌, ◌≤◌, ℕ, ◌+◌, ◌-◌, length, take, drop, List, [], ◌++◌, refl, sym, ◌∙◌, ap, subst, arith}
use Rattle.std.proofs.lemmas.List.{append_assoc, append-nil, length-drop, length-take-le, take_all, take_at}
use Rattle.jdwp_link.specs.Queue.{Queue}
use Rattle.jdwp_end.specs.Ends as ends
use Rattle.jdwp_end.specs.Ends.{End, room_of}
use Rattle.jdwp_debugger.specs.Debuggers.{Debugger}
use Rattle.jdwp_debugger.specs.Debuggers as debuggers
use Rattle.jdwp_link.specs.Moving.{moved}
use Rattle.jdwp_target.specs.Targets.{Target}
use Rattle.jdwp_target.specs.Targets as targets
use Rattle.jdwp_link.proofs.Moves.{fed-none, fed-twice, piece-is, pieces, taken-none, taken-twice}

-- one piece more, of an end that gave so many bytes to one that took them
pub taken-more : (count left piece : ℕ) (from from_now to to_now : End) → piece ≤ left → left ≤ count → count ≤ length from.outgoing → count ≤ room_of to
    → from_now ≡ ends.with_taken (take (count - left) from.outgoing) from → to_now ≡ ends.with_fed (take (count - left) from.outgoing) to
    → (ends.with_taken (moved piece from_now to_now) from_now ≡ ends.with_taken (take (count - (left - piece)) from.outgoing) from)
    × (ends.with_fed (moved piece from_now to_now) to_now ≡ ends.with_fed (take (count - (left - piece)) from.outgoing) to)
taken-more count left piece from from_now to to_now a b waits room e f =
    let k : ℕ = count - left in
    let next : (count - left) + piece ≡ count - (left - piece) = omega arith in
    let is : moved piece (ends.with_taken (take (count - left) from.outgoing) from) (ends.with_fed (take (count - left) from.outgoing) to) ≡ take piece (drop (count - left) from.outgoing) =
    piece-is (count - left) piece from to (omega arith) (omega arith) in
    let both : take (count - left) from.outgoing ++ take piece (drop (count - left) from.outgoing) ≡ take (count - (left - piece)) from.outgoing = pieces (count - left) piece from.outgoing ∙ ap (λ n. take n from.outgoing) next in (
      ap (λ x. ends.with_taken (moved piece x to_now) x) e ∙ (ap (λ y. ends.with_taken (moved piece (ends.with_taken (take (count - left) from.outgoing) from) y) (ends.with_taken (take (count - left) from.outgoing) from)) f
          ∙ (ap (λ bytes. ends.with_taken bytes (ends.with_taken (take (count - left) from.outgoing) from)) is
          ∙ (taken-twice (take (count - left) from.outgoing) (take piece (drop (count - left) from.outgoing)) from ∙ ap (λ bytes. ends.with_taken bytes from) both))),
      ap (λ x. ends.with_fed (moved piece x to_now) to_now) e ∙ (ap (λ y. ends.with_fed (moved piece (ends.with_taken (take (count - left) from.outgoing) from) y) y) f
          ∙ (ap (λ bytes. ends.with_fed bytes (ends.with_fed (take (count - left) from.outgoing) to)) is
          ∙ (fed-twice (take (count - left) from.outgoing) (take piece (drop (count - left) from.outgoing)) to ∙ ap (λ bytes. ends.with_fed bytes to) both))),
    )

-- what was moved and then one piece more
pub moved-more : (count left piece : ℕ) (from from_now to to_now : End) → piece ≤ left → left ≤ count → count ≤ length from.outgoing → count ≤ room_of to
    → from_now ≡ ends.with_taken (take (count - left) from.outgoing) from → to_now ≡ ends.with_fed (take (count - left) from.outgoing) to
    → take (count - left) from.outgoing ++ moved piece from_now to_now ≡ take (count - (left - piece)) from.outgoing
moved-more count left piece from from_now to to_now a b waits room e f =
    let next : (count - left) + piece ≡ count - (left - piece) = omega arith in
    let is : moved piece (ends.with_taken (take (count - left) from.outgoing) from) (ends.with_fed (take (count - left) from.outgoing) to) ≡ take piece (drop (count - left) from.outgoing) =
    piece-is (count - left) piece from to (omega arith) (omega arith) in
    ap (λ x. take (count - left) from.outgoing ++ moved piece x to_now) e
    ∙ (ap (λ y. take (count - left) from.outgoing ++ moved piece (ends.with_taken (take (count - left) from.outgoing) from) y) f
    ∙ (ap (λ bytes. take (count - left) from.outgoing ++ bytes) is ∙ (pieces (count - left) piece from.outgoing ∙ ap (λ n. take n from.outgoing) next)))

pub to-target-more : {S : Type 0} (count left piece : ℕ) (d d_now d_new : Debugger) (t t_now t_new : Target S) → piece ≤ left → left ≤ count → count ≤ length d.end.outgoing → count ≤ room_of t.end
    → d_now ≡ debuggers.with_taken (take (count - left) d.end.outgoing) d → t_now ≡ targets.with_fed (take (count - left) d.end.outgoing) t
    → d_new ≡ debuggers.with_taken (moved piece d_now.end t_now.end) d_now → t_new ≡ targets.with_fed (moved piece d_now.end t_now.end) t_now
    → (d_new ≡ debuggers.with_taken (take (count - (left - piece)) d.end.outgoing) d) × (t_new ≡ targets.with_fed (take (count - (left - piece)) d.end.outgoing) t)
to-target-more {S} count left piece d d_now d_new t t_now t_new a b waits room e f g h =
    let more = taken-more count left piece d.end d_now.end t.end t_now.end a b waits room (ap (λ x. x.end) e) (ap (λ x. x.end) f) in (
      g ∙ (ap (λ (x : Debugger). record x { end = ends.with_taken (moved piece d_now.end t_now.end) d_now.end }) e ∙ ap (λ x. record d { end = x }) more.0),
      h ∙ (ap (λ (x : Target S). record x { end = ends.with_fed (moved piece d_now.end t_now.end) t_now.end }) f ∙ ap (λ x. record t { end = x }) more.1),
    )

pub to-debugger-more : {S : Type 0} (count left piece : ℕ) (t t_now t_new : Target S) (d d_now d_new : Debugger) → piece ≤ left → left ≤ count → count ≤ length t.end.outgoing → count ≤ room_of d.end
    → t_now ≡ targets.with_taken (take (count - left) t.end.outgoing) t → d_now ≡ debuggers.with_fed (take (count - left) t.end.outgoing) d
    → t_new ≡ targets.with_taken (moved piece t_now.end d_now.end) t_now → d_new ≡ debuggers.with_fed (moved piece t_now.end d_now.end) d_now
    → (t_new ≡ targets.with_taken (take (count - (left - piece)) t.end.outgoing) t) × (d_new ≡ debuggers.with_fed (take (count - (left - piece)) t.end.outgoing) d)
to-debugger-more {S} count left piece t t_now t_new d d_now d_new a b waits room e f g h =
    let more = taken-more count left piece t.end t_now.end d.end d_now.end a b waits room (ap (λ x. x.end) e) (ap (λ x. x.end) f) in (
      g ∙ (ap (λ (x : Target S). record x { end = ends.with_taken (moved piece t_now.end d_now.end) t_now.end }) e ∙ ap (λ x. record t { end = x }) more.0),
      h ∙ (ap (λ (x : Debugger). record x { end = ends.with_fed (moved piece t_now.end d_now.end) d_now.end }) f ∙ ap (λ x. record d { end = x }) more.1),
    )

-- before the first piece
pub none-left : (count : ℕ) (bytes : List ℕ) → take (count - count) bytes ≡ []
none-left count bytes = let e : count - count ≡ 0 = omega arith in ap (λ n. take n bytes) e

-- after the last
pub all-left : (count left : ℕ) (bytes : List ℕ) → left ≤ 0 → take (count - left) bytes ≡ take count bytes
all-left count left bytes h = let e : count - left ≡ count = omega arith in ap (λ n. take n bytes) e

-- ---- what is kept

-- one piece more of what waits goes into a queue
pub kept-more : (count left piece : ℕ) (from from_now : End) (queue queue_now : List ℕ) → piece ≤ length from_now.outgoing → left ≤ count → count ≡ length from.outgoing
    → from_now ≡ ends.with_taken (take (count - left) from.outgoing) from → queue_now ≡ queue ++ take (count - left) from.outgoing
    → (ends.with_taken (take piece from_now.outgoing) from_now ≡ ends.with_taken (take (count - (left - piece)) from.outgoing) from) × (queue_now ++ take piece from_now.outgoing ≡ queue ++ take (count - (left - piece)) from.outgoing)
kept-more count left piece from from_now queue queue_now p b all e f =
    let size : length (take (count - left) from.outgoing) ≡ count - left = length-take-le (count - left) from.outgoing (omega arith) in
    let rest : length from.outgoing - (count - left) ≡ left = omega arith in
    let out : from_now.outgoing ≡ drop (count - left) from.outgoing = ap (λ x. x.outgoing) e ∙ ap (λ n. drop n from.outgoing) size in
    let many : length from_now.outgoing ≡ left = ap length out ∙ (length-drop (count - left) from.outgoing ∙ rest) in
    let next : (count - left) + piece ≡ count - (left - piece) = omega (many, p, b, arith) in
    let both : take (count - left) from.outgoing ++ take piece (drop (count - left) from.outgoing) ≡ take (count - (left - piece)) from.outgoing = pieces (count - left) piece from.outgoing ∙ ap (λ n. take n from.outgoing) next in (
      ap (λ o. ends.with_taken (take piece o) from_now) out ∙ (ap (λ x. ends.with_taken (take piece (drop (count - left) from.outgoing)) x) e
          ∙ (taken-twice (take (count - left) from.outgoing) (take piece (drop (count - left) from.outgoing)) from ∙ ap (λ bytes. ends.with_taken bytes from) both)),
      ap (λ o. queue_now ++ take piece o) out ∙ (ap (λ q. q ++ take piece (drop (count - left) from.outgoing)) f ∙ (append_assoc queue (take (count - left) from.outgoing) (take piece (drop (count - left) from.outgoing)) ∙ ap (λ bytes. queue ++ bytes) both)),
    )

-- the front of a buffer that bytes were taken into
pub buffer-front : (piece : ℕ) (bytes rest : List ℕ) → piece ≤ length bytes → take piece (take piece bytes ++ rest) ≡ take piece bytes
buffer-front piece bytes rest h = take_at (take piece bytes) rest piece (length-take-le piece bytes h)

-- nothing waits where everything was taken
pub all-taken : (from : End) → take (length from.outgoing) from.outgoing ≡ from.outgoing
all-taken from = take_all (length from.outgoing) from.outgoing (omega arith)

-- ---- a loop over pieces

taken-start : (count : ℕ) (bytes : List ℕ) (e : End) → e ≡ ends.with_taken (take (count - count) bytes) e
taken-start count bytes e = sym (ap (λ b. ends.with_taken b e) (none-left count bytes) ∙ taken-none e)

fed-start : (count : ℕ) (bytes : List ℕ) (e : End) → e ≡ ends.with_fed (take (count - count) bytes) e
fed-start count bytes e = sym (ap (λ b. ends.with_fed b e) (none-left count bytes) ∙ fed-none e)

pub to-target-start : {S : Type 0} (count : ℕ) (d : Debugger) (t : Target S)
    → (count ≤ count) × (d ≡ debuggers.with_taken (take (count - count) d.end.outgoing) d) × (t ≡ targets.with_fed (take (count - count) d.end.outgoing) t)
to-target-start count d t = (omega arith, ap (λ e. record d { end = e }) (taken-start count d.end.outgoing d.end), ap (λ e. record t { end = e }) (fed-start count d.end.outgoing t.end))

pub to-debugger-start : {S : Type 0} (count : ℕ) (t : Target S) (d : Debugger)
    → (count ≤ count) × (t ≡ targets.with_taken (take (count - count) t.end.outgoing) t) × (d ≡ debuggers.with_fed (take (count - count) t.end.outgoing) d)
to-debugger-start count t d = (omega arith, ap (λ e. record t { end = e }) (taken-start count t.end.outgoing t.end), ap (λ e. record d { end = e }) (fed-start count t.end.outgoing d.end))

queue-start : (count : ℕ) (bytes : List ℕ) (q : Queue) → q ≡ record q { bytes = q.bytes ++ take (count - count) bytes }
queue-start count bytes q = sym (ap (λ b. record q { bytes = q.bytes ++ b }) (none-left count bytes) ∙ ap (λ b. record q { bytes = b }) (append-nil q.bytes))

pub keep-target-start : {S : Type 0} (count : ℕ) (t : Target S) (q : Queue) → count ≡ length t.end.outgoing
    → (count ≤ length t.end.outgoing) × (t ≡ targets.with_taken (take (length t.end.outgoing - count) t.end.outgoing) t) × (q ≡ record q { bytes = q.bytes ++ take (length t.end.outgoing - count) t.end.outgoing })
keep-target-start count t q e =
    subst (λ n. (n ≤ length t.end.outgoing) × (t ≡ targets.with_taken (take (length t.end.outgoing - n) t.end.outgoing) t) × (q ≡ record q { bytes = q.bytes ++ take (length t.end.outgoing - n) t.end.outgoing })) (sym e)
    (omega arith, ap (λ x. record t { end = x }) (taken-start (length t.end.outgoing) t.end.outgoing t.end), queue-start (length t.end.outgoing) t.end.outgoing q)

pub keep-debugger-start : (count : ℕ) (d : Debugger) (q : Queue) → count ≡ length d.end.outgoing
    → (count ≤ length d.end.outgoing) × (d ≡ debuggers.with_taken (take (length d.end.outgoing - count) d.end.outgoing) d) × (q ≡ record q { bytes = q.bytes ++ take (length d.end.outgoing - count) d.end.outgoing })
keep-debugger-start count d q e =
    subst (λ n. (n ≤ length d.end.outgoing) × (d ≡ debuggers.with_taken (take (length d.end.outgoing - n) d.end.outgoing) d) × (q ≡ record q { bytes = q.bytes ++ take (length d.end.outgoing - n) d.end.outgoing })) (sym e)
    (omega arith, ap (λ x. record d { end = x }) (taken-start (length d.end.outgoing) d.end.outgoing d.end), queue-start (length d.end.outgoing) d.end.outgoing q)

-- one piece more is kept
pub keep-target-more : {S : Type 0} (left piece : ℕ) (t t_now t_new : Target S) (q q_now q_new : Queue) → piece ≤ length t_now.end.outgoing → left ≤ length t.end.outgoing
    → t_now ≡ targets.with_taken (take (length t.end.outgoing - left) t.end.outgoing) t → q_now ≡ record q { bytes = q.bytes ++ take (length t.end.outgoing - left) t.end.outgoing }
    → t_new ≡ targets.with_taken (take piece t_now.end.outgoing) t_now → q_new ≡ record q_now { bytes = q_now.bytes ++ take piece t_now.end.outgoing }
    → (left - piece ≤ length t.end.outgoing) × (t_new ≡ targets.with_taken (take (length t.end.outgoing - (left - piece)) t.end.outgoing) t) × (q_new ≡ record q { bytes = q.bytes ++ take (length t.end.outgoing - (left - piece)) t.end.outgoing })
keep-target-more {S} left piece t t_now t_new q q_now q_new p b e f g h =
    let more = kept-more (length t.end.outgoing) left piece t.end t_now.end q.bytes q_now.bytes p b refl (ap (λ x. x.end) e) (ap (λ x. x.bytes) f) in (
      omega arith,
      g ∙ (ap (λ (x : Target S). record x { end = ends.with_taken (take piece t_now.end.outgoing) t_now.end }) e ∙ ap (λ x. record t { end = x }) more.0),
      h ∙ (ap (λ (x : Queue). record x { bytes = q_now.bytes ++ take piece t_now.end.outgoing }) f ∙ ap (λ x. record q { bytes = x }) more.1),
    )

pub keep-debugger-more : (left piece : ℕ) (d d_now d_new : Debugger) (q q_now q_new : Queue) → piece ≤ length d_now.end.outgoing → left ≤ length d.end.outgoing
    → d_now ≡ debuggers.with_taken (take (length d.end.outgoing - left) d.end.outgoing) d → q_now ≡ record q { bytes = q.bytes ++ take (length d.end.outgoing - left) d.end.outgoing }
    → d_new ≡ debuggers.with_taken (take piece d_now.end.outgoing) d_now → q_new ≡ record q_now { bytes = q_now.bytes ++ take piece d_now.end.outgoing }
    → (left - piece ≤ length d.end.outgoing) × (d_new ≡ debuggers.with_taken (take (length d.end.outgoing - (left - piece)) d.end.outgoing) d) × (q_new ≡ record q { bytes = q.bytes ++ take (length d.end.outgoing - (left - piece)) d.end.outgoing })
keep-debugger-more left piece d d_now d_new q q_now q_new p b e f g h =
    let more = kept-more (length d.end.outgoing) left piece d.end d_now.end q.bytes q_now.bytes p b refl (ap (λ x. x.end) e) (ap (λ x. x.bytes) f) in (
      omega arith,
      g ∙ (ap (λ (x : Debugger). record x { end = ends.with_taken (take piece d_now.end.outgoing) d_now.end }) e ∙ ap (λ x. record d { end = x }) more.0),
      h ∙ (ap (λ (x : Queue). record x { bytes = q_now.bytes ++ take piece d_now.end.outgoing }) f ∙ ap (λ x. record q { bytes = x }) more.1),
    )

-- so many bytes still wait
pub still-waits : (left : ℕ) (from from_now : End) → left ≤ length from.outgoing → from_now ≡ ends.with_taken (take (length from.outgoing - left) from.outgoing) from → length from_now.outgoing ≡ left
still-waits left from from_now b e =
    let size : length (take (length from.outgoing - left) from.outgoing) ≡ length from.outgoing - left = length-take-le (length from.outgoing - left) from.outgoing (omega arith) in
    let rest : length from.outgoing - (length from.outgoing - left) ≡ left = omega arith in
    ap length (ap (λ x. x.outgoing) e ∙ ap (λ n. drop n from.outgoing) size) ∙ (length-drop (length from.outgoing - left) from.outgoing ∙ rest)
