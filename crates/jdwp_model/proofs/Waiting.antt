-- where the commands are that wait for replies, whatever their order
use Rattle.std.proofs.Common.{◌≡◌, ℕ, zero, suc, ◌+◌, ◌≤◌, ◌⊎◌, inl, inr, Bool, true, false, ◌||◌, cond, Option, Some, None, List, [], ◌∷◌, ◌++◌, refl, sym, ◌∙◌, ap, subst, arith}
use Rattle.std.proofs.lemmas.Bool.{eq-eqb}
use Rattle.jdwp_action.specs.Actions.{Command, action_of, is_dispose}
use Rattle.jdwp_debuggee.specs.Deferring.{beside, released_at}
use Rattle.jdwp_mirror.specs.Messages.{Ticket, same_ticket}
use Rattle.jdwp_mirror.specs.Faults.{is_waited_for}
pub use Rattle.jdwp_model.specs.Places.{tally, one_of}
use Rattle.jdwp_model.specs.Next.{without_ticket}
use Rattle.jdwp_model.specs.Seen.{unanswered, has_dispose}
use Rattle.jdwp_model.specs.Lasting.{writes, has_write}

-- ---- lists

abbrev pub In : List (Ticket × Command) → Ticket × Command → Type 0
In [] p = ⊥
In (q ∷ qs) p = (q ≡ p) ⊎ In qs p

in-append : (xs ys : List (Ticket × Command)) (p : Ticket × Command) → In (xs ++ ys) p → In xs p ⊎ In ys p
in-append [] ys p h = inr h
in-append (x ∷ xs) ys p (inl e) = inl (inl e)
in-append (x ∷ xs) ys p (inr h) = elim (in-append xs ys p h) [ inl k ↦ inl (inr k) | inr k ↦ inr k ]

in-front : (xs ys : List (Ticket × Command)) (p : Ticket × Command) → In xs p → In (xs ++ ys) p
in-front [] ys p h = absurd h
in-front (x ∷ xs) ys p (inl e) = inl e
in-front (x ∷ xs) ys p (inr h) = inr (in-front xs ys p h)

in-back : (xs ys : List (Ticket × Command)) (p : Ticket × Command) → In ys p → In (xs ++ ys) p
in-back [] ys p h = h
in-back (x ∷ xs) ys p h = inr (in-back xs ys p h)

pub tally-append : (f : Ticket × Command → ℕ) (xs ys : List (Ticket × Command)) → tally f (xs ++ ys) ≡ tally f xs + tally f ys
tally-append f [] ys = omega arith
tally-append f (x ∷ xs) ys = omega (arith, tally-append f xs ys)

-- ---- tickets

pub same-ticket : (k : Ticket) → same_ticket k k ≡ true
same-ticket None = refl
same-ticket (Some n) = eq-eqb n n refl

abbrev pub bit : Bool → ℕ
bit b = cond b 1 0

one-if : (b : Bool) → bit b ≡ 0 → b ≡ false
one-if true h = absurd (cc)
one-if false h = refl

none-of : (k : Ticket) (xs : List (Ticket × Command)) (q : Ticket × Command) → tally (one_of k) xs ≡ 0 → In xs q → same_ticket q.0 k ≡ false
none-of k [] q z h = absurd h
none-of k (x ∷ xs) q z (inl e) = let a : one_of k x ≡ 0 = omega arith in ap (λ (p : Ticket × Command). same_ticket p.0 k) (sym e) ∙ one-if (same_ticket x.0 k) a
none-of k (x ∷ xs) q z (inr h) = let a : tally (one_of k) xs ≡ 0 = omega arith in none-of k xs q a h

unwaited : (k : Ticket) (xs : List (Ticket × Command)) → tally (one_of k) xs ≡ 0 → is_waited_for k xs ≡ false
unwaited k [] z = refl
unwaited k (x ∷ xs) z =
    let a : one_of k x ≡ 0 = omega arith in
    let b : tally (one_of k) xs ≡ 0 = omega arith in
    ap (λ b. b || is_waited_for k xs) (one-if (same_ticket x.0 k) a) ∙ unwaited k xs b

one-in : (k : Ticket) (c : Command) (xs : List (Ticket × Command)) → In xs (k, c) → 1 ≤ tally (one_of k) xs
one-in k c [] h = absurd h
one-in k c (x ∷ xs) (inl e) = let a : one_of k x ≡ 1 = ap (one_of k) e ∙ ap (λ b. cond b 1 0) (same-ticket k) in omega arith
one-in k c (x ∷ xs) (inr h) = let a : 1 ≤ tally (one_of k) xs = one-in k c xs h in omega arith

pub waited : (k : Ticket) (c : Command) (xs : List (Ticket × Command)) → In xs (k, c) → is_waited_for k xs ≡ true
waited k c [] h = absurd h
waited k c (x ∷ xs) (inl e) = ap (λ b. b || is_waited_for k xs) (ap (λ (p : Ticket × Command). same_ticket p.0 k) e ∙ same-ticket k)
waited k c (x ∷ xs) (inr h) = ap (λ b. same_ticket x.0 k || b) (waited k c xs h) ∙ elim (same_ticket x.0 k) as (λ b. (b || true) ≡ true) [ true ↦ refl | false ↦ refl ]

-- ---- all but the command under a ticket

abbrev pub first_weight : (Ticket × Command → ℕ) → Ticket → List (Ticket × Command) → ℕ
first_weight f k [] = 0
first_weight f k (x ∷ xs) = cond (same_ticket x.0 k) (f x) (first_weight f k xs)

pub without-tally : (f : Ticket × Command → ℕ) (k : Ticket) (xs : List (Ticket × Command)) → tally f xs ≡ first_weight f k xs + tally f (without_ticket k xs)
without-tally f k [] = omega arith
without-tally f k (x ∷ xs) =
    let e : tally f xs ≡ first_weight f k xs + tally f (without_ticket k xs) = without-tally f k xs in
    elim (same_ticket x.0 k) as (λ b. f x + tally f xs ≡ cond b (f x) (first_weight f k xs) + tally f (cond b xs (x ∷ without_ticket k xs))) [ true ↦ refl | false ↦ omega arith ]

-- what weighs only under a ticket
abbrev masked : (Ticket × Command → ℕ) → Ticket → Ticket × Command → ℕ
masked f k p = cond (same_ticket p.0 k) (f p) 0

masked-none : (f : Ticket × Command → ℕ) (k : Ticket) (xs : List (Ticket × Command)) → tally (one_of k) xs ≡ 0 → tally (masked f k) xs ≡ 0
masked-none f k [] z = refl
masked-none f k (x ∷ xs) z =
    let a : one_of k x ≡ 0 = omega arith in
    let b : tally (one_of k) xs ≡ 0 = omega arith in
    let c : masked f k x ≡ 0 = ap (λ b. cond b (f x) 0) (one-if (same_ticket x.0 k) a) in
    let d : tally (masked f k) xs ≡ 0 = masked-none f k xs b in
    omega arith

masked-first : (f : Ticket × Command → ℕ) (k : Ticket) (xs : List (Ticket × Command)) → tally (one_of k) xs ≤ 1 → tally (masked f k) xs ≡ first_weight f k xs
masked-first f k [] h = refl
masked-first f k (x ∷ xs) h =
    elim (same_ticket x.0 k) as (λ b. cond b 1 0 + tally (one_of k) xs ≤ 1 → cond b (f x) 0 + tally (masked f k) xs ≡ cond b (f x) (first_weight f k xs)) [
      | true ↦ λ l. let z : tally (one_of k) xs ≡ 0 = omega arith in let d : tally (masked f k) xs ≡ 0 = masked-none f k xs z in omega arith
      | false ↦ λ l. let z : tally (one_of k) xs ≤ 1 = omega arith in let d : tally (masked f k) xs ≡ first_weight f k xs = masked-first f k xs z in omega arith
    ] h

in-without : (k : Ticket) (xs : List (Ticket × Command)) (q : Ticket × Command) → In xs q → same_ticket q.0 k ≡ false → In (without_ticket k xs) q
in-without k [] q h n = absurd h
in-without k (x ∷ xs) q (inl e) n =
    let m : same_ticket x.0 k ≡ false = ap (λ (p : Ticket × Command). same_ticket p.0 k) e ∙ n in
    subst (λ b. In (cond b xs (x ∷ without_ticket k xs)) q) (sym m) (inl e)
in-without k (x ∷ xs) q (inr h) n = elim (same_ticket x.0 k) as (λ b. In (cond b xs (x ∷ without_ticket k xs)) q) [ true ↦ h | false ↦ inr (in-without k xs q h n) ]

-- a ticket that stands once stands alone
pub one-alone : (k : Ticket) (c : Command) (xs : List (Ticket × Command)) → tally (one_of k) xs ≤ 1 → In xs (k, c) → (before : List (Ticket × Command)) × (after : List (Ticket × Command)) × (xs ≡ before ++ (k, c) ∷ after) × (is_waited_for k before ≡ false) × (is_waited_for k after ≡ false)
one-alone k c [] l h = absurd h
one-alone k c (x ∷ xs) l (inl e) =
    let a : one_of k x ≡ 1 = ap (one_of k) e ∙ ap (λ b. cond b 1 0) (same-ticket k) in
    let z : tally (one_of k) xs ≡ 0 = omega arith in
    ([], xs, ap (λ p. p ∷ xs) e, refl, unwaited k xs z)
one-alone k c (x ∷ xs) l (inr h) =
    let a : 1 ≤ tally (one_of k) xs = one-in k c xs h in
    let z : one_of k x ≡ 0 = omega arith in
    let m : tally (one_of k) xs ≤ 1 = omega arith in
    let r = one-alone k c xs m h in
    (x ∷ r.0, r.1, ap (λ l. x ∷ l) r.2, ap (λ b. b || is_waited_for k r.0) (one-if (same_ticket x.0 k) z) ∙ r.3, r.4)

-- ---- where they are

-- The commands that wait are those whose replies are under way, the deferred ones, those that are under way themselves, and those that
-- were deferred as the target's end closed.
pub record Waits (pending replied deferred sent : List (Ticket × Command)) : Type 0 where
  pub dropped : List (Ticket × Command)
  pub same : (f : Ticket × Command → ℕ) → tally f pending ≡ tally f replied + (tally f deferred + (tally f dropped + tally f sent))
  pub in_replied : (p : Ticket × Command) → In replied p → In pending p
  pub in_deferred : (p : Ticket × Command) → In deferred p → In pending p
  pub in_sent : (p : Ticket × Command) → In sent p → In pending p

pub waits-none : Waits [] [] [] []
waits-none = record { dropped = []; same = λ f. omega arith; in_replied = λ p h. absurd h; in_deferred = λ p h. absurd h; in_sent = λ p h. absurd h }

pub waits-asked : (p r d s : List (Ticket × Command)) (x : Ticket × Command) → Waits p r d s → Waits (p ++ x ∷ []) r d (s ++ x ∷ [])
waits-asked p r d s x w =
    record {
      dropped = w.dropped;
      same = λ f. let e = w.same f in let i = tally-append f p (x ∷ []) in let j = tally-append f s (x ∷ []) in omega arith;
      in_replied = λ q h. in-front p (x ∷ []) q (w.in_replied q h);
      in_deferred = λ q h. in-front p (x ∷ []) q (w.in_deferred q h);
      in_sent = λ q h. elim (in-append s (x ∷ []) q h) [ inl z ↦ in-front p (x ∷ []) q (w.in_sent q z) | inr z ↦ in-back p (x ∷ []) q z ];
    }

pub waits-replied : (p r d s : List (Ticket × Command)) (x : Ticket × Command) → Waits p r d (x ∷ s) → Waits p (r ++ x ∷ []) d s
waits-replied p r d s x w =
    record {
      dropped = w.dropped;
      same = λ f. let e : tally f p ≡ tally f r + (tally f d + (tally f w.dropped + (f x + tally f s))) = w.same f in let i = tally-append f r (x ∷ []) in omega arith;
      in_replied = λ q h. elim (in-append r (x ∷ []) q h) [ inl z ↦ w.in_replied q z | inr z ↦ elim z [ inl e ↦ w.in_sent q (inl e) | inr n ↦ absurd n ] ];
      in_deferred = w.in_deferred;
      in_sent = λ q h. w.in_sent q (inr h);
    }

pub waits-deferred : (p r d s : List (Ticket × Command)) (x : Ticket × Command) → Waits p r d (x ∷ s) → Waits p r (d ++ x ∷ []) s
waits-deferred p r d s x w =
    record {
      dropped = w.dropped;
      same = λ f. let e : tally f p ≡ tally f r + (tally f d + (tally f w.dropped + (f x + tally f s))) = w.same f in let i = tally-append f d (x ∷ []) in omega arith;
      in_replied = w.in_replied;
      in_deferred = λ q h. elim (in-append d (x ∷ []) q h) [ inl z ↦ w.in_deferred q z | inr z ↦ elim z [ inl e ↦ w.in_sent q (inl e) | inr n ↦ absurd n ] ];
      in_sent = λ q h. w.in_sent q (inr h);
    }

-- one of those that are deferred, and the others
pub record Parts (d : List (Ticket × Command)) (x : Ticket × Command) (rest : List (Ticket × Command)) : Type 0 where
  pub weighs : (f : Ticket × Command → ℕ) → tally f d ≡ f x + tally f rest
  pub here : In d x
  pub others : (q : Ticket × Command) → In rest q → In d q

beside-parts : (p : Ticket × Command) (o : Option ((Ticket × Command) × List (Ticket × Command))) (d : List (Ticket × Command)) → ((x : Ticket × Command) (rest : List (Ticket × Command)) → o ≡ Some (x, rest) → Parts d x rest) → (x : Ticket × Command) (rest : List (Ticket × Command)) → beside p o ≡ Some (x, rest) → Parts (p ∷ d) x rest
beside-parts p None d h x rest e = absurd (cc)
beside-parts p (Some (q, qs)) d h x rest e =
    let a = h q qs refl in
    let y : (q, p ∷ qs) ≡ (x, rest) = cc in
    subst (λ (o : (Ticket × Command) × List (Ticket × Command)). Parts (p ∷ d) o.0 o.1) y
    (record {
      weighs = λ f. let s = a.weighs f in omega arith;
      here = inr a.here;
      others = λ r k. elim k [ inl z ↦ inl z | inr z ↦ inr (a.others r z) ];
    })

pub released-parts : (place : ℕ) (d : List (Ticket × Command)) (x : Ticket × Command) (rest : List (Ticket × Command)) → released_at place d ≡ Some (x, rest) → Parts d x rest
released-parts zero [] x rest e = absurd (cc)
released-parts (suc place) [] x rest e = absurd (cc)
released-parts zero (p ∷ ps) x rest e =
    let y : (p, ps) ≡ (x, rest) = cc in
    subst (λ (o : (Ticket × Command) × List (Ticket × Command)). Parts (p ∷ ps) o.0 o.1) y (record { weighs = λ f. refl; here = inl refl; others = λ q h. inr h })
released-parts (suc place) (p ∷ ps) x rest e = beside-parts p (released_at place ps) ps (released-parts place ps) x rest e

pub waits-released : (p r d s : List (Ticket × Command)) (x : Ticket × Command) (rest : List (Ticket × Command)) → Parts d x rest → Waits p r d s → Waits p (r ++ x ∷ []) rest s
waits-released p r d s x rest a w =
    record {
      dropped = w.dropped;
      same = λ f. let e = w.same f in let v = a.weighs f in let i = tally-append f r (x ∷ []) in omega arith;
      in_replied = λ q h. elim (in-append r (x ∷ []) q h) [ inl z ↦ w.in_replied q z | inr z ↦ elim z [ inl e ↦ subst (In p) e (w.in_deferred x a.here) | inr n ↦ absurd n ] ];
      in_deferred = λ q h. w.in_deferred q (a.others q h);
      in_sent = w.in_sent;
    }

pub waits-dropped : (p r d s : List (Ticket × Command)) → Waits p r d s → Waits p r [] s
waits-dropped p r d s w =
    record {
      dropped = d ++ w.dropped;
      same = λ f. let e = w.same f in let i = tally-append f d w.dropped in omega arith;
      in_replied = w.in_replied;
      in_deferred = λ q h. absurd h;
      in_sent = w.in_sent;
    }

pub waits-closing : (p r d s : List (Ticket × Command)) (closes : Bool) → Waits p r d s → Waits p r (cond closes [] d) s
waits-closing p r d s true w = waits-dropped p r d s w
waits-closing p r d s false w = w

pub waits-read : (p r d s : List (Ticket × Command)) (k : Ticket) (c : Command) → tally (one_of k) p ≤ 1 → Waits p ((k, c) ∷ r) d s → Waits (without_ticket k p) r d s
waits-read p r d s k c once w =
    let all : tally (one_of k) p ≡ one_of k (k, c) + tally (one_of k) r + (tally (one_of k) d + (tally (one_of k) w.dropped + tally (one_of k) s)) = w.same (one_of k) in
    let one : one_of k (k, c) ≡ 1 = ap (λ b. cond b 1 0) (same-ticket k) in
    let zr : tally (one_of k) r ≡ 0 = omega arith in
    let zd : tally (one_of k) d ≡ 0 = omega arith in
    let zx : tally (one_of k) w.dropped ≡ 0 = omega arith in
    let zs : tally (one_of k) s ≡ 0 = omega arith in
    record {
      dropped = w.dropped;
      same = λ f.
          let e : tally f p ≡ f (k, c) + tally f r + (tally f d + (tally f w.dropped + tally f s)) = w.same f in
          let g : tally (masked f k) p ≡ masked f k (k, c) + tally (masked f k) r + (tally (masked f k) d + (tally (masked f k) w.dropped + tally (masked f k) s)) = w.same (masked f k) in
          let h : masked f k (k, c) ≡ f (k, c) = ap (λ b. cond b (f (k, c)) 0) (same-ticket k) in
          let mr = masked-none f k r zr in
          let md = masked-none f k d zd in
          let mx = masked-none f k w.dropped zx in
          let ms = masked-none f k s zs in
          let first : tally (masked f k) p ≡ first_weight f k p = masked-first f k p once in
          let parts : tally f p ≡ first_weight f k p + tally f (without_ticket k p) = without-tally f k p in
          omega arith;
      in_replied = λ q h. in-without k p q (w.in_replied q (inr h)) (none-of k r q zr h);
      in_deferred = λ q h. in-without k p q (w.in_deferred q h) (none-of k d q zd h);
      in_sent = λ q h. in-without k p q (w.in_sent q h) (none-of k s q zs h);
    }

-- ---- what is said of those that wait

pub tally-unanswered : (by : Command → ℕ → ℕ) (xs : List (Ticket × Command)) (t : ℕ) → tally (λ (p : Ticket × Command). by p.1 t) xs ≡ unanswered by xs t
tally-unanswered by [] t = refl
tally-unanswered by (x ∷ xs) t = ap (λ n. by x.1 t + n) (tally-unanswered by xs t)

pub replied-most : (by : Command → ℕ → ℕ) (p r d s : List (Ticket × Command)) (t : ℕ) → Waits p r d s → unanswered by r t ≤ unanswered by p t
replied-most by p r d s t w =
    let all = w.same (λ (q : Ticket × Command). by q.1 t) in
    let a = tally-unanswered by p t in
    let c = tally-unanswered by r t in
    omega arith

abbrev counts : (Command → Bool) → Ticket × Command → ℕ
counts test p = cond (test p.1) 1 0

no-dispose-in : (xs : List (Ticket × Command)) → has_dispose xs ≡ false → tally (counts (λ c. is_dispose (action_of c))) xs ≡ 0
no-dispose-in [] h = refl
no-dispose-in (x ∷ xs) h =
    elim (is_dispose (action_of x.1)) as (λ b. (b || has_dispose xs) ≡ false → cond b 1 0 + tally (counts (λ c. is_dispose (action_of c))) xs ≡ 0) [
      | true ↦ λ y. absurd (cc)
      | false ↦ λ y. let i = no-dispose-in xs y in omega arith
    ] h

dispose-in : (xs : List (Ticket × Command)) → tally (counts (λ c. is_dispose (action_of c))) xs ≡ 0 → has_dispose xs ≡ false
dispose-in [] h = refl
dispose-in (x ∷ xs) h =
    let a : counts (λ c. is_dispose (action_of c)) x ≡ 0 = omega arith in
    let b : tally (counts (λ c. is_dispose (action_of c))) xs ≡ 0 = omega arith in
    ap (λ b. b || has_dispose xs) (one-if (is_dispose (action_of x.1)) a) ∙ dispose-in xs b

pub replied-no-dispose : (p r d s : List (Ticket × Command)) → Waits p r d s → has_dispose p ≡ false → has_dispose r ≡ false
replied-no-dispose p r d s w h =
    let all = w.same (counts (λ c. is_dispose (action_of c))) in
    let z = no-dispose-in p h in
    let y : tally (counts (λ c. is_dispose (action_of c))) r ≡ 0 = omega arith in
    dispose-in r y

no-write-in : (xs : List (Ticket × Command)) (t : ℕ) → has_write xs t ≡ false → tally (counts (λ c. writes c t)) xs ≡ 0
no-write-in [] t h = refl
no-write-in (x ∷ xs) t h =
    elim (writes x.1 t) as (λ b. (b || has_write xs t) ≡ false → cond b 1 0 + tally (counts (λ c. writes c t)) xs ≡ 0) [
      | true ↦ λ y. absurd (cc)
      | false ↦ λ y. let i = no-write-in xs t y in omega arith
    ] h

write-in : (xs : List (Ticket × Command)) (t : ℕ) → tally (counts (λ c. writes c t)) xs ≡ 0 → has_write xs t ≡ false
write-in [] t h = refl
write-in (x ∷ xs) t h =
    let a : counts (λ c. writes c t) x ≡ 0 = omega arith in
    let b : tally (counts (λ c. writes c t)) xs ≡ 0 = omega arith in
    ap (λ b. b || has_write xs t) (one-if (writes x.1 t) a) ∙ write-in xs t b

pub replied-no-write : (p r d s : List (Ticket × Command)) (t : ℕ) → Waits p r d s → has_write p t ≡ false → has_write r t ≡ false
replied-no-write p r d s t w h =
    let all = w.same (counts (λ c. writes c t)) in
    let z = no-write-in p t h in
    let y : tally (counts (λ c. writes c t)) r ≡ 0 = omega arith in
    write-in r t y
