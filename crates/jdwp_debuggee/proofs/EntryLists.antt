-- Entries with their counts, and the threads that they mean.
use Rattle.std.proofs.Common.{inl, inr, ◌≡◌, ℕ, zero, suc, ◌<◌, ◌≤◌, ◌==◌, ◌||◌, ltb, Bool, true, false, cond, Option, Some, None, List, [], ◌∷◌, ◌++◌, length, get_or, set, replicate, map, take, drop, refl, ◌∙◌, sym, ap, subst, arith, ◌-◌, ◌+◌}
use Rattle.std.proofs.lemmas.List.{get_or-map, get_or-set_other, get_or-set_same, length-map, length-set, take_all}
use Rattle.std.proofs.lemmas.List.Elements.{All-from_get_or}
use Rattle.std.proofs.lemmas.List.Sums.{sum_by-cons}
use Rattle.std.specs.List.{All, filter, list_any, remove}
use Rattle.std.specs.Option.{option_map}
use Rattle.std.proofs.lemmas.Bool.{cases_eq, cases_lt}
use Rattle.std.proofs.lemmas.Bool.Decides.{nat_tests}
use Rattle.jdwp_wire.specs.Numbers.{greatest_int}
use Rattle.levels.specs.Counts.{count_most, standing}
use Rattle.jdwp_debuggee.specs.Answers.{inserted, rising, first_of}
use Rattle.jdwp_debuggee.specs.Entries.{AllAtMost, all_marked, ids_of, least_of, mark_of, place_from, stands_at, thread_of, threads_of}
use Rattle.jdwp_debuggee.specs.State.{Thread, changed, count_by, count_in, ids, is_marked_by, is_other, lowered, marked, only, raised, thread_in}
use Rattle.jdwp_debuggee.specs.Visits.{turned, turned_one}
use Rattle.jdwp_debuggee.specs.declared.threads.ThreadEntry.{ThreadEntry}

abbrev pub no_entry : ThreadEntry
no_entry = record { id = record { 0 = 0 }; death_reported = false }

abbrev pub id_at : List ThreadEntry → ℕ → ℕ
id_at es i = (get_or es i no_entry).id.0

-- ---- as many

pub length-threads : (es : List ThreadEntry) (ns : List ℕ) → length (threads_of es ns) ≡ length es
length-threads [] ns = refl
length-threads (e ∷ es) [] = ap (λ (k : ℕ). suc k) (length-threads es [])
length-threads (e ∷ es) (n ∷ ns) = ap (λ (k : ℕ). suc k) (length-threads es ns)

pub ids-threads : (es : List ThreadEntry) (ns : List ℕ) → ids (threads_of es ns) ≡ ids_of es
ids-threads [] ns = refl
ids-threads (e ∷ es) [] = ap (λ (l : List ℕ). e.id.0 ∷ l) (ids-threads es [])
ids-threads (e ∷ es) (n ∷ ns) = ap (λ (l : List ℕ). e.id.0 ∷ l) (ids-threads es ns)

-- ---- those that begin

pub threads-begin : (es : List ThreadEntry) (n : ℕ) → threads_of es (replicate n 0) ≡ map (λ (e : ThreadEntry). thread_of e 0) es
threads-begin [] n = refl
threads-begin (e ∷ es) zero = ap (λ (l : List Thread). thread_of e 0 ∷ l) (threads-begin es zero)
threads-begin (e ∷ es) (suc n) = ap (λ (l : List Thread). thread_of e 0 ∷ l) (threads-begin es n)

pub threads-push : (es : List ThreadEntry) (ns : List ℕ) (e : ThreadEntry) (n : ℕ) → length ns ≡ length es → threads_of (es ++ e ∷ []) (ns ++ n ∷ []) ≡ threads_of es ns ++ thread_of e n ∷ []
threads-push [] [] e n h = refl
threads-push [] (k ∷ ns) e n h = absurd (omega arith)
threads-push (x ∷ es) [] e n h = absurd (omega arith)
threads-push (x ∷ es) (k ∷ ns) e n h = ap (λ (l : List Thread). thread_of x k ∷ l) (threads-push es ns e n (omega arith))

-- ---- counts at their places

-- a change of the counts
pub threads-changed : (f : ℕ → ℕ → ℕ) (es : List ThreadEntry) (ns ms : List ℕ) → length ns ≡ length es → length ms ≡ length es → ((i : ℕ) → i < length es → get_or ms i 0 ≡ f (id_at es i) (get_or ns i 0)) → threads_of es ms ≡ changed f (threads_of es ns)
threads-changed f [] ns ms a b h = refl
threads-changed f (e ∷ es) [] ms a b h = absurd (omega arith)
threads-changed f (e ∷ es) (n ∷ ns) [] a b h = absurd (omega arith)
threads-changed f (e ∷ es) (n ∷ ns) (m ∷ ms) a b h =
    ap (λ (k : ℕ). thread_of e k ∷ threads_of es ms) (h 0 (omega arith))
    ∙ ap (λ (l : List Thread). thread_of e (f e.id.0 n) ∷ l) (threads-changed f es ns ms (omega arith) (omega arith) (λ i k. h (suc i) (omega arith)))

-- a change of all of them
pub threads-mapped : (f : ℕ → ℕ → ℕ) (g : ℕ → ℕ) (es : List ThreadEntry) (ns : List ℕ) → ((t n : ℕ) → g n ≡ f t n) → length ns ≡ length es → threads_of es (map g ns) ≡ changed f (threads_of es ns)
threads-mapped f g es ns same h =
    threads-changed f es ns (map g ns) h (length-map ns g ∙ h)
    (λ i k. get_or-map g ns i 0 0 (omega arith) ∙ same (id_at es i) (get_or ns i 0))

pub most-at : (k : ℕ) (es : List ThreadEntry) (ns : List ℕ) (i : ℕ) → length ns ≡ length es → AllAtMost k (threads_of es ns) → i < length ns → get_or ns i 0 ≤ k
most-at k [] [] i h a l = absurd (omega arith)
most-at k [] (n ∷ ns) i h a l = absurd (omega arith)
most-at k (e ∷ es) [] i h a l = absurd (omega arith)
most-at k (e ∷ es) (n ∷ ns) zero h a l = a.0
most-at k (e ∷ es) (n ∷ ns) (suc i) h a l = most-at k es ns i (omega arith) a.1 (omega arith)

pub all-below : (es : List ThreadEntry) (ns : List ℕ) → length ns ≡ length es → AllAtMost greatest_int (threads_of es ns) → All (λ n. n < count_most) ns
all-below es ns h a = All-from_get_or (λ n. n < count_most) ns 0 (λ i l. let m = most-at greatest_int es ns i h a l in omega arith)

pub all-within : (k : ℕ) (es : List ThreadEntry) (ns : List ℕ) → length ns ≡ length es → AllAtMost k (threads_of es ns) → All (λ n. n ≤ k) ns
all-within k es ns h a = All-from_get_or (λ n. n ≤ k) ns 0 (λ i l. most-at k es ns i h a l)

pub any-stands : (k : ℕ) (es : List ThreadEntry) (ns : List ℕ) → length ns ≡ length es → list_any (λ n. n == k) ns ≡ stands_at k (threads_of es ns)
any-stands k [] [] h = refl
any-stands k [] (n ∷ ns) h = absurd (omega arith)
any-stands k (e ∷ es) [] h = absurd (omega arith)
any-stands k (e ∷ es) (n ∷ ns) h = ap (λ (b : Bool). (n == k) || b) (any-stands k es ns (omega arith))

-- ---- those that turn

one-raised : (n : ℕ) → cond (n == 0) 1 0 ≡ turned_one (n == 0) (n + 1 == 0)
one-raised n =
    let no : (n + 1 == 0) ≡ false = grind (arith, nat_tests) in
    rw no (elim (n == 0) as (λ b. cond b 1 0 ≡ turned_one b false) [ true ↦ refl | false ↦ refl ])

same-two : (b : Bool) → 0 ≡ turned_one b b
same-two true = refl
same-two false = refl

lowered-apart : (n : ℕ) → (n ≡ 1 → ⊥) → (n - 1 == 0) ≡ (n == 0)
lowered-apart zero h = refl
lowered-apart (suc n) h =
    let a : (suc n - 1 == 0) ≡ false = let more : 0 < n = omega arith in grind (arith, nat_tests) in
    let b : (suc n == 0) ≡ false = grind (arith, nat_tests) in
    a ∙ sym b

one-lowered : (n : ℕ) → cond (n == 1) 1 0 ≡ turned_one (n == 0) (n - 1 == 0)
one-lowered n = elim (cases_eq n 1) [
  | inl e ↦ subst (λ (k : ℕ). cond (k == 1) 1 0 ≡ turned_one (k == 0) (k - 1 == 0)) (sym e) refl
  | inr h ↦
      let no : (n == 1) ≡ false = grind (arith, nat_tests) in
      rw (no, lowered-apart n h) (same-two (n == 0))
]

pub turned-raised : (es : List ThreadEntry) (ns : List ℕ) → length ns ≡ length es → standing 0 ns ≡ turned (threads_of es ns) (changed raised (threads_of es ns))
turned-raised [] [] h = refl
turned-raised [] (n ∷ ns) h = absurd (omega arith)
turned-raised (e ∷ es) [] h = absurd (omega arith)
turned-raised (e ∷ es) (n ∷ ns) h =
    let first = sum_by-cons (λ (k : ℕ). cond (k == 0) 1 0) n ns in
    let one = one-raised n in
    let rest = turned-raised es ns (omega arith) in
    omega (arith, first, one, rest)

pub turned-lowered : (es : List ThreadEntry) (ns : List ℕ) → length ns ≡ length es → standing 1 ns ≡ turned (threads_of es ns) (changed lowered (threads_of es ns))
turned-lowered [] [] h = refl
turned-lowered [] (n ∷ ns) h = absurd (omega arith)
turned-lowered (e ∷ es) [] h = absurd (omega arith)
turned-lowered (e ∷ es) (n ∷ ns) h =
    let first = sum_by-cons (λ (k : ℕ). cond (k == 1) 1 0) n ns in
    let one = one-lowered n in
    let rest = turned-lowered es ns (omega arith) in
    omega (arith, first, one, rest)

-- ---- one thread, wherever its id stands

-- the counts of this thread at the first places changed, and no other
pub record IsMoved (f : ℕ → ℕ) (t place : ℕ) (es : List ThreadEntry) (old new : List ℕ) : Type 0 where
  pub same : length new ≡ length old
  pub done : (i : ℕ) → i < place → get_or new i 0 ≡ cond (t == id_at es i) (f (get_or old i 0)) (get_or old i 0)
  pub left : (i : ℕ) → place ≤ i → get_or new i 0 ≡ get_or old i 0

pub moved-none : (f : ℕ → ℕ) (t : ℕ) (es : List ThreadEntry) (ns : List ℕ) → IsMoved f t 0 es ns ns
moved-none f t es ns = record { same = refl; done = λ i h. absurd (omega arith); left = λ i h. refl }

at-place : (f : ℕ → ℕ) (t place : ℕ) (es : List ThreadEntry) (old new : List ℕ) → ((i : ℕ) → i < place → get_or new i 0 ≡ cond (t == id_at es i) (f (get_or old i 0)) (get_or old i 0)) → get_or new place 0 ≡ cond (t == id_at es place) (f (get_or old place 0)) (get_or old place 0) → (i : ℕ) → i < place + 1 → get_or new i 0 ≡ cond (t == id_at es i) (f (get_or old i 0)) (get_or old i 0)
at-place f t place es old new below here i h = elim (cases_lt i place) [
  | inl l ↦ below i l
  | inr l ↦ let is : place ≡ i = omega arith in subst (λ (j : ℕ). get_or new j 0 ≡ cond (t == id_at es j) (f (get_or old j 0)) (get_or old j 0)) is here
]

pub moved-hit : (f : ℕ → ℕ) (t place : ℕ) (es : List ThreadEntry) (old new : List ℕ) → (t == id_at es place) ≡ true → place < length old → IsMoved f t place es old new → IsMoved f t (place + 1) es old (set new place (f (get_or new place 0)))
moved-hit f t place es old new hit inside m =
    let y = f (get_or new place 0) in
    let fits : place < length new = let s = m.same in omega arith in
    record {
      same = length-set new place y ∙ m.same;
      done = at-place f t place es old (set new place y)
          (λ i h. let other : i ≡ place → ⊥ = omega arith in get_or-set_other new place i y 0 other ∙ m.done i h)
          (get_or-set_same new place y 0 fits ∙ ap f (m.left place (omega arith)) ∙ sym (ap (λ (b : Bool). cond b (f (get_or old place 0)) (get_or old place 0)) hit));
      left = λ i h. let other : i ≡ place → ⊥ = omega arith in get_or-set_other new place i y 0 other ∙ m.left i (omega arith);
    }

pub moved-miss : (f : ℕ → ℕ) (t place : ℕ) (es : List ThreadEntry) (old new : List ℕ) → (t == id_at es place) ≡ false → IsMoved f t place es old new → IsMoved f t (place + 1) es old new
moved-miss f t place es old new miss m = record {
  same = m.same;
  done = at-place f t place es old new m.done (m.left place (omega arith) ∙ sym (ap (λ (b : Bool). cond b (f (get_or old place 0)) (get_or old place 0)) miss));
  left = λ i h. m.left i (omega arith);
}

pub threads-moved : (f : ℕ → ℕ) (g : ℕ → ℕ → ℕ) (t : ℕ) (es : List ThreadEntry) (old new : List ℕ) → ((u n : ℕ) → f n ≡ g u n) → length old ≡ length es → IsMoved f t (length es) es old new → threads_of es new ≡ changed (only t g) (threads_of es old)
threads-moved f g t es old new same h m =
    threads-changed (only t g) es old new h (m.same ∙ h)
    (λ i l. m.done i l ∙ ap (λ (k : ℕ). cond (t == id_at es i) k (get_or old i 0)) (same (id_at es i) (get_or old i 0)))

-- ---- the place of a thread

-- it, among entries of which the first has place 0
abbrev pub place_of : ℕ → List ThreadEntry → Option ℕ
place_of t [] = None
place_of t (e ∷ es) = cond (e.id.0 == t) (Some 0) (option_map (λ (p : ℕ). suc p) (place_of t es))

moved-place : (k : ℕ) (o : Option ℕ) → option_map (λ (p : ℕ). k + 1 + p) o ≡ option_map (λ (p : ℕ). k + p) (option_map (λ (p : ℕ). suc p) o)
moved-place k None = refl
moved-place k (Some p) = ap (λ (n : ℕ). Some n) (omega arith)

place-from : (k t : ℕ) (es : List ThreadEntry) → place_from k t es ≡ option_map (λ (p : ℕ). k + p) (place_of t es)
place-from k t [] = refl
place-from k t (e ∷ es) =
    elim (e.id.0 == t) as (λ b. cond b (Some k) (place_from (k + 1) t es) ≡ option_map (λ (p : ℕ). k + p) (cond b (Some 0) (option_map (λ (p : ℕ). suc p) (place_of t es)))) [
      | true ↦ ap (λ (n : ℕ). Some n) (omega arith)
      | false ↦ place-from (k + 1) t es ∙ moved-place k (place_of t es)
    ]

same-option : (o : Option ℕ) → option_map (λ (p : ℕ). 0 + p) o ≡ o
same-option None = refl
same-option (Some p) = ap (λ (n : ℕ). Some n) (omega arith)

pub place-is : (t : ℕ) (es : List ThreadEntry) → place_from 0 t es ≡ place_of t es
place-is t es = place-from 0 t es ∙ same-option (place_of t es)

-- the thread there
abbrev pub thread_at : List ThreadEntry → List ℕ → ℕ → Thread
thread_at es ns p = thread_of (get_or es p no_entry) (get_or ns p 0)

after-first : (e : ThreadEntry) (es : List ThreadEntry) (n : ℕ) (ns : List ℕ) (o : Option ℕ) → option_map (thread_at es ns) o ≡ option_map (thread_at (e ∷ es) (n ∷ ns)) (option_map (λ (p : ℕ). suc p) o)
after-first e es n ns None = refl
after-first e es n ns (Some p) = refl

pub thread-placed : (t : ℕ) (es : List ThreadEntry) (ns : List ℕ) → length ns ≡ length es → thread_in (threads_of es ns) t ≡ option_map (thread_at es ns) (place_of t es)
thread-placed t [] ns h = refl
thread-placed t (e ∷ es) [] h = absurd (omega arith)
thread-placed t (e ∷ es) (n ∷ ns) h =
    elim (e.id.0 == t) as (λ b. cond b (Some (thread_of e n)) (thread_in (threads_of es ns) t) ≡ option_map (thread_at (e ∷ es) (n ∷ ns)) (cond b (Some 0) (option_map (λ (p : ℕ). suc p) (place_of t es)))) [
      | true ↦ refl
      | false ↦ thread-placed t es ns (omega arith) ∙ after-first e es n ns (place_of t es)
    ]

before-first : (o : Option ℕ) (p : ℕ) → option_map (λ (k : ℕ). suc k) o ≡ Some p → (k : ℕ) × (o ≡ Some k) × (suc k ≡ p)
before-first None p h = absurd (cc)
before-first (Some k) p h = (k, refl, cc)

pub placed-within : (t p : ℕ) (es : List ThreadEntry) → place_of t es ≡ Some p → p < length es
placed-within t p [] h = absurd (cc)
placed-within t p (e ∷ es) h =
    elim (e.id.0 == t) as (λ b. cond b (Some 0) (option_map (λ (k : ℕ). suc k) (place_of t es)) ≡ Some p → p < length (e ∷ es)) [
      | true ↦ λ x. let is : 0 ≡ p = cc in omega arith
      | false ↦ λ x. let k = before-first (place_of t es) p x in let l = placed-within t k.0 es k.1 in let is = k.2 in omega arith
    ] h

-- what is found, and where nothing is
pub found-within : (t p : ℕ) (es : List ThreadEntry) → Some p ≡ place_from 0 t es → p < length es
found-within t p es h = placed-within t p es (sym (h ∙ place-is t es))

pub found-thread : (t : ℕ) (o : Option ℕ) (es : List ThreadEntry) (ns : List ℕ) → length ns ≡ length es → o ≡ place_from 0 t es → option_map (thread_at es ns) o ≡ thread_in (threads_of es ns) t
found-thread t o es ns h e = ap (λ (x : Option ℕ). option_map (thread_at es ns) x) (e ∙ place-is t es) ∙ sym (thread-placed t es ns h)

pub found-count : (t : ℕ) (o : Option ℕ) (es : List ThreadEntry) (ns : List ℕ) → length ns ≡ length es → o ≡ place_from 0 t es → count_by (option_map (thread_at es ns) o) ≡ count_in (threads_of es ns) t
found-count t o es ns h e = ap count_by (found-thread t o es ns h e)

pub found-mark : (t : ℕ) (o : Option ℕ) (es : List ThreadEntry) (ns : List ℕ) → length ns ≡ length es → o ≡ place_from 0 t es → is_marked_by (option_map (thread_at es ns) o) ≡ is_marked_by (thread_in (threads_of es ns) t)
found-mark t o es ns h e = ap is_marked_by (found-thread t o es ns h e)

-- ---- one that is taken out

others-same : (t p : ℕ) (es : List ThreadEntry) (ns : List ℕ) → length ns ≡ length es → place_of t es ≡ Some p → filter (is_other t) (threads_of (remove es p) (remove ns p)) ≡ filter (is_other t) (threads_of es ns)
others-same t p [] ns h e = absurd (cc)
others-same t p (x ∷ es) [] h e = absurd (omega arith)
others-same t p (x ∷ es) (n ∷ ns) h e =
    elim (x.id.0 == t) as (λ b. (x.id.0 == t) ≡ b → cond b (Some 0) (option_map (λ (k : ℕ). suc k) (place_of t es)) ≡ Some p → filter (is_other t) (threads_of (remove (x ∷ es) p) (remove (n ∷ ns) p)) ≡ filter (is_other t) (threads_of (x ∷ es) (n ∷ ns))) [
      | true ↦ λ y z.
          let is : 0 ≡ p = cc in
          subst (λ (q : ℕ). filter (is_other t) (threads_of (remove (x ∷ es) q) (remove (n ∷ ns) q)) ≡ filter (is_other t) (threads_of (x ∷ es) (n ∷ ns))) is (rw y refl)
      | false ↦ λ y z.
          let k = before-first (place_of t es) p z in
          let rest = others-same t k.0 es ns (omega arith) k.1 in
          subst (λ (q : ℕ). filter (is_other t) (threads_of (remove (x ∷ es) q) (remove (n ∷ ns) q)) ≡ filter (is_other t) (threads_of (x ∷ es) (n ∷ ns))) k.2 (rw y (ap (λ (l : List Thread). thread_of x n ∷ l) rest))
    ] refl e

pub found-others : (t p : ℕ) (es : List ThreadEntry) (ns : List ℕ) → length ns ≡ length es → Some p ≡ place_from 0 t es → filter (is_other t) (threads_of (remove es p) (remove ns p)) ≡ filter (is_other t) (threads_of es ns)
found-others t p es ns h e = others-same t p es ns h (sym (e ∙ place-is t es))

not-some : (o : Option ℕ) → option_map (λ (k : ℕ). suc k) o ≡ None → o ≡ None
not-some None h = refl
not-some (Some k) h = absurd (cc)

all-others : (t : ℕ) (es : List ThreadEntry) (ns : List ℕ) → place_of t es ≡ None → filter (is_other t) (threads_of es ns) ≡ threads_of es ns
all-others t [] ns e = refl
all-others t (x ∷ es) [] e =
    elim (x.id.0 == t) as (λ b. (x.id.0 == t) ≡ b → cond b (Some 0) (option_map (λ (k : ℕ). suc k) (place_of t es)) ≡ None → filter (is_other t) (threads_of (x ∷ es) []) ≡ threads_of (x ∷ es) []) [
      | true ↦ λ y z. absurd (cc)
      | false ↦ λ y z. rw y (ap (λ (l : List Thread). thread_of x 0 ∷ l) (all-others t es [] (not-some (place_of t es) z)))
    ] refl e
all-others t (x ∷ es) (n ∷ ns) e =
    elim (x.id.0 == t) as (λ b. (x.id.0 == t) ≡ b → cond b (Some 0) (option_map (λ (k : ℕ). suc k) (place_of t es)) ≡ None → filter (is_other t) (threads_of (x ∷ es) (n ∷ ns)) ≡ threads_of (x ∷ es) (n ∷ ns)) [
      | true ↦ λ y z. absurd (cc)
      | false ↦ λ y z. rw y (ap (λ (l : List Thread). thread_of x n ∷ l) (all-others t es ns (not-some (place_of t es) z)))
    ] refl e

pub found-none : (t : ℕ) (es : List ThreadEntry) (ns : List ℕ) → None ≡ place_from 0 t es → filter (is_other t) (threads_of es ns) ≡ threads_of es ns
found-none t es ns e = all-others t es ns (sym (e ∙ place-is t es))

pub none-left : (o : Option ℕ) → ((p : ℕ) → o ≡ Some p → ⊥) → o ≡ None
none-left None h = refl
none-left (Some p) h = absurd (h p refl)

-- ---- one that is marked

marked-one : (t n : ℕ) (e : ThreadEntry) → thread_of (mark_of t e) n ≡ marked t (thread_of e n)
marked-one t n e = elim (e.id.0 == t) as (λ b. thread_of (cond b (record e { death_reported = true }) e) n ≡ cond b (record (thread_of e n) { death_reported = true }) (thread_of e n)) [ true ↦ refl | false ↦ refl ]

pub threads-marked : (t : ℕ) (es : List ThreadEntry) (ns : List ℕ) → threads_of (all_marked t es) ns ≡ map (marked t) (threads_of es ns)
threads-marked t [] ns = refl
threads-marked t (e ∷ es) [] = ap (λ (x : Thread). x ∷ threads_of (all_marked t es) []) (marked-one t 0 e) ∙ ap (λ (x : List Thread). marked t (thread_of e 0) ∷ x) (threads-marked t es [])
threads-marked t (e ∷ es) (n ∷ ns) = ap (λ (x : Thread). x ∷ threads_of (all_marked t es) ns) (marked-one t n e) ∙ ap (λ (x : List Thread). marked t (thread_of e n) ∷ x) (threads-marked t es ns)

-- ---- the least

lesser : ℕ → ℕ → ℕ
lesser m n = cond (ltb m n) m n

first-inserted : (n m : ℕ) (ms : List ℕ) → first_of (inserted n (inserted m ms)) ≡ first_of (inserted (cond (ltb m n) m n) ms)
first-inserted n m [] = elim (cases_lt m n) [ inl h ↦ grind (arith, nat_tests) | inr h ↦ grind (arith, nat_tests) ]
first-inserted n m (x ∷ xs) = grind (arith, nat_tests)

pub least-first : (n : ℕ) (ms : List ℕ) → least_of n ms ≡ first_of (inserted n (rising ms))
least-first n [] = refl
least-first n (m ∷ ms) = least-first (cond (ltb m n) m n) ms ∙ sym (first-inserted n m (rising ms))

pub least-split : (es : List ThreadEntry) (ns : List ℕ) (d : ThreadEntry) → 1 ≤ length es → least_of (get_or es 0 d).id.0 (ids_of (take (length es - 1) (drop 1 es))) ≡ first_of (rising (ids (threads_of es ns)))
least-split [] ns d h = absurd (omega arith)
least-split (e ∷ es) ns d h =
    ap (λ (l : List ThreadEntry). least_of e.id.0 (ids_of l)) (take_all (length (e ∷ es) - 1) es (omega arith))
    ∙ (least-first e.id.0 (ids_of es) ∙ sym (ap (λ (l : List ℕ). first_of (rising l)) (ids-threads (e ∷ es) ns)))
