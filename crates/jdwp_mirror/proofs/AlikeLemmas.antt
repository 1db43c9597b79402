-- A lesson without a walk: all are moved alike, and then the thread that the packet is about is put in.
use Rattle.std.proofs.Common.{◌≡◌, ℕ, ◌-◌, Bool, true, false, ◌||◌, ◌&&◌, not, List, [], ◌∷◌, ◌++◌, length, map, refl, ◌∙◌, ap, sym, Option, Some, None, if◌then◌else◌, arith}
use Rattle.std.specs.Prelude.{◌==◌, nat_lt}
use Rattle.std.specs.Map.{values_of}
use Rattle.std.proofs.lemmas.Bool.Decides.{nat_tests}
use Rattle.jdwp_value.specs.declared.id.ObjectId.{ObjectId}
use Rattle.jdwp_mirror.specs.declared.drift.Drift.{Drift}
use Rattle.jdwp_mirror.specs.declared.threads.Change.TheVariants.{Keep, Raise, Lower}
use Rattle.jdwp_mirror.specs.declared.threads.Known.{Known}
use Rattle.jdwp_mirror.specs.declared.threads.Lesson.{Lesson}
use Rattle.jdwp_mirror.specs.KnownThreads.{AreDistinct, AreSound, HeldHaveCounts, all_taught, change_of, count_in, is_of_id, taught_by}
use Rattle.jdwp_mirror.specs.Mirror.{one_less, one_more}
use Rattle.jdwp_mirror.specs.Drifts.{drifted, lowered, raised, risen}
use Rattle.jdwp_mirror.specs.Numbering.{AreBefore, entries_seen, known_in, seen, standing_of, with_standing}
use Rattle.jdwp_mirror.proofs.KnownLemmas.{and_twice, other_of, rest_of, same_from, turned}
use Rattle.jdwp_mirror.proofs.NumberingLemmas.{known-id, own_in, put-absent, put_in, unknown-count}
use Rattle.jdwp_mirror.proofs.SeenLemmas.{Kept, seen-more}

abbrev pub IsCounted : Known → Type 0
IsCounted k = k.held ≡ (not (k.count == 0) && k.held)

-- ---- of threads whose ids stay

unknown-mapped : (f : Known → Known) → ((k : Known) → (f k).id.0 ≡ k.id.0) → (ks : List Known) (t : ℕ) → count_in ks t ≡ None → count_in (map f ks) t ≡ None
unknown-mapped f same [] t e = refl
unknown-mapped f same (k ∷ ks) t e =
    let other : ((f k).id.0 == t) ≡ false = ap (λ (u : ℕ). u == t) (same k) ∙ other_of (k.id.0 == t) k.count (count_in ks t) e in
    rw other (unknown-mapped f same ks t (rest_of (k.id.0 == t) k.count (count_in ks t) e))

distinct-mapped : (f : Known → Known) → ((k : Known) → (f k).id.0 ≡ k.id.0) → (ks : List Known) → AreDistinct ks → AreDistinct (map f ks)
distinct-mapped f same [] d = tt
distinct-mapped f same (k ∷ ks) d = (ap (count_in (map f ks)) (same k) ∙ unknown-mapped f same ks k.id.0 d.0, distinct-mapped f same ks d.1)

counted-mapped : (f : Known → Known) → ((k : Known) → IsCounted k → IsCounted (f k)) → (ks : List Known) → HeldHaveCounts ks → HeldHaveCounts (map f ks)
counted-mapped f keeps [] h = tt
counted-mapped f keeps (k ∷ ks) h = (keeps k h.0, counted-mapped f keeps ks h.1)

sound-mapped : (f : Known → Known) → ((k : Known) → (f k).id.0 ≡ k.id.0) → ((k : Known) → IsCounted k → IsCounted (f k)) → (ks : List Known) → AreSound ks → AreSound (map f ks)
sound-mapped f same keeps ks s = record { distinct = distinct-mapped f same ks s.distinct; counted = counted-mapped f keeps ks s.counted }

-- ---- moved

-- a thread whose count becomes what a lesson makes of those of the others
abbrev pub moved : Lesson → Known → Known
moved l k = record { id = k.id; count = change_of l.others k.count; held = not (change_of l.others k.count == 0) && k.held }

pub sound-moved : (l : Lesson) (ks : List Known) → AreSound ks → AreSound (map (moved l) ks)
sound-moved l ks s = sound-mapped (moved l) (λ k. refl) (λ k h. and_twice (not (change_of l.others k.count == 0)) k.held) ks s

pub moved-kept : (l : Lesson) (ks : List Known) → l.others ≡ Keep → HeldHaveCounts ks → ks ≡ map (moved l) ks
moved-kept l [] o h = refl
moved-kept l (k ∷ ks) o h =
    let same : k ≡ moved l k = rw o (ap (λ (b : Bool). record k { held = b }) h.0) in
    ap (λ (xs : List Known). k ∷ xs) (moved-kept l ks o h.1) ∙ ap (λ (x : Known). x ∷ map (moved l) ks) same

-- one that moves upwards
held-raised : (n : ℕ) (h : Bool) → h ≡ (not (n == 0) && h) → (nat_lt 0 n && h) ≡ (not (one_more n == 0) && h)
held-raised n true e = grind (arith, nat_tests)
held-raised n false e = grind (arith, nat_tests)

count-raised : (n : ℕ) → risen raised.rise (n - 0) ≡ one_more n
count-raised n = let none : n - 0 ≡ n = omega arith in ap one_more none

raised-is : (l : Lesson) (k : Known) → l.others ≡ Raise → IsCounted k → with_standing k (drifted raised (standing_of k)) ≡ moved l k
raised-is l k o h = rw o (ap (λ (n : ℕ). record { id = k.id; count = n; held = nat_lt 0 k.count && k.held }) (count-raised k.count) ∙ ap (λ (b : Bool). record { id = k.id; count = one_more k.count; held = b }) (held-raised k.count k.held h))

-- one that moves downwards
held-lowered : (n : ℕ) (h : Bool) → (nat_lt 1 n && h) ≡ (not (one_less n == 0) && h)
held-lowered n h = grind (arith, nat_tests)

lowered-is : (l : Lesson) (k : Known) → l.others ≡ Lower → with_standing k (drifted lowered (standing_of k)) ≡ moved l k
lowered-is l k o = rw o (ap (λ (b : Bool). record { id = k.id; count = one_less k.count; held = b }) (held-lowered k.count k.held))

-- all of them, where there is one move more
pub seen-moved : (l : Lesson) (moves : List Drift) (d : Drift) (es : Kept) → ((k : Known) → IsCounted k → with_standing k (drifted d (standing_of k)) ≡ moved l k) → AreBefore (length moves) es → HeldHaveCounts (values_of (entries_seen moves es))
    → values_of (entries_seen (moves ++ d ∷ []) es) ≡ map (moved l) (values_of (entries_seen moves es))
seen-moved l moves d [] is b h = refl
seen-moved l moves d (x ∷ es) is b h =
    let first : seen (moves ++ d ∷ []) x.1 ≡ moved l (seen moves x.1) = seen-more moves d x.1 b.0 ∙ is (seen moves x.1) h.0 in
    ap (λ (k : Known). k ∷ values_of (entries_seen (moves ++ d ∷ []) es)) first ∙ ap (λ (ks : List Known). moved l (seen moves x.1) ∷ ks) (seen-moved l moves d es is b.1 h.1)

pub seen-raised : (l : Lesson) (moves : List Drift) (es : Kept) → l.others ≡ Raise → AreBefore (length moves) es → HeldHaveCounts (values_of (entries_seen moves es))
    → values_of (entries_seen (moves ++ raised ∷ []) es) ≡ map (moved l) (values_of (entries_seen moves es))
seen-raised l moves es o b h = seen-moved l moves raised es (λ k i. raised-is l k o i) b h

pub seen-lowered : (l : Lesson) (moves : List Drift) (es : Kept) → l.others ≡ Lower → AreBefore (length moves) es → HeldHaveCounts (values_of (entries_seen moves es))
    → values_of (entries_seen (moves ++ lowered ∷ []) es) ≡ map (moved l) (values_of (entries_seen moves es))
seen-lowered l moves es o b h = seen-moved l moves lowered es (λ k i. lowered-is l k o) b h

-- ---- put in

id-put : (v k : Known) → (put_in v k).id.0 ≡ k.id.0
id-put v k =
    elim (k.id.0 == v.id.0) as (λ b. (k.id.0 == v.id.0) ≡ b → (if b then v else k).id.0 ≡ k.id.0) [
      | true ↦ λ e. sym (same_from k.id.0 v.id.0 e)
      | false ↦ λ e. refl
    ] refl

counted-put : (v k : Known) → IsCounted v → IsCounted k → IsCounted (put_in v k)
counted-put v k h i = elim (k.id.0 == v.id.0) as (λ b. IsCounted (if b then v else k)) [ true ↦ h | false ↦ i ]

pub sound-put : (v : Known) (ks : List Known) → IsCounted v → AreSound ks → AreSound (map (put_in v) ks)
sound-put v ks h s = sound-mapped (put_in v) (id-put v) (λ k i. counted-put v k h i) ks s

-- where none of those that were moved is the one
put-moved : (l : Lesson) (v : Known) (ks : List Known) → count_in ks v.id.0 ≡ None → map (put_in v) (map (moved l) ks) ≡ map (moved l) ks
put-moved l v ks e = put-absent v (map (moved l) ks) (unknown-mapped (moved l) (λ k. refl) ks v.id.0 e)

-- ---- what a lesson leaves

-- of another thread than its own
abbrev taught_as : Lesson → Known → Bool → Known
taught_as l k own = record {
  id = k.id;
  count = if own then change_of l.own k.count else change_of l.others k.count;
  held = not ((if own then change_of l.own k.count else change_of l.others k.count) == 0) && ((l.shows_all || own) || k.held);
}

other-moved : (l : Lesson) (k : Known) → l.shows_all ≡ false → is_of_id l.thread k.id.0 ≡ false → moved l k ≡ taught_by l k
other-moved l k m e =
    let first : taught_by l k ≡ taught_as l k false = ap (taught_as l k) e in
    let second : taught_as l k false ≡ moved l k = ap (λ (b : Bool). record { id = k.id; count = change_of l.others k.count; held = not (change_of l.others k.count == 0) && ((b || false) || k.held) }) m in
    sym (first ∙ second)

alike-nobody : (l : Lesson) (ks : List Known) → l.thread ≡ None → l.shows_all ≡ false → map (moved l) ks ≡ all_taught l ks
alike-nobody l [] th m = refl
alike-nobody l (k ∷ ks) th m =
    let first = other-moved l k m (ap (λ (v : Option ObjectId). is_of_id v k.id.0) th) in
    ap (λ (x : Known). x ∷ map (moved l) ks) first ∙ ap (λ (xs : List Known). taught_by l k ∷ xs) (alike-nobody l ks th m)

alike-absent : (l : Lesson) (u : ObjectId) (ks : List Known) → l.thread ≡ Some u → l.shows_all ≡ false → count_in ks u.0 ≡ None → map (moved l) ks ≡ all_taught l ks
alike-absent l u [] th m e = refl
alike-absent l u (k ∷ ks) th m e =
    let other : (u.0 == k.id.0) ≡ false = turned k.id.0 u.0 (other_of (k.id.0 == u.0) k.count (count_in ks u.0) e) in
    let first = other-moved l k m (ap (λ (v : Option ObjectId). is_of_id v k.id.0) th ∙ other) in
    ap (λ (x : Known). x ∷ map (moved l) ks) first ∙ ap (λ (xs : List Known). taught_by l k ∷ xs) (alike-absent l u ks th m (rest_of (k.id.0 == u.0) k.count (count_in ks u.0) e))

alike-found : (l : Lesson) (u : ObjectId) (ks : List Known) (w : Known) → l.thread ≡ Some u → l.shows_all ≡ false → AreDistinct ks → known_in ks u.0 ≡ Some w
    → map (put_in (taught_by l w)) (map (moved l) ks) ≡ all_taught l ks
alike-found l u [] w th m d e = cc
alike-found l u (k ∷ ks) w th m d e =
    let v = taught_by l w in
    let id : w.id.0 ≡ u.0 = known-id (k ∷ ks) u.0 w e in
    elim (k.id.0 == u.0) as (λ b. (k.id.0 == u.0) ≡ b → (if b then Some k else known_in ks u.0) ≡ Some w → put_in v (moved l k) ∷ map (put_in v) (map (moved l) ks) ≡ taught_by l k ∷ all_taught l ks) [
      | true ↦ λ j f.
          let same : k ≡ w = cc in
          let here : (k.id.0 == w.id.0) ≡ true = ap (λ (n : ℕ). k.id.0 == n) id ∙ j in
          let absent : count_in ks w.id.0 ≡ None = ap (λ (x : Known). count_in ks x.id.0) (sym same) ∙ d.0 in
          let gone : count_in ks u.0 ≡ None = ap (count_in ks) (sym id) ∙ absent in
          ap (λ (b : Bool). (if b then v else moved l k) ∷ map (put_in v) (map (moved l) ks)) here ∙ ap (λ (x : Known). taught_by l x ∷ map (put_in v) (map (moved l) ks)) (sym same)
          ∙ ap (λ (xs : List Known). taught_by l k ∷ xs) (put-moved l v ks absent ∙ alike-absent l u ks th m gone)
      | false ↦ λ j f.
          let there : (k.id.0 == w.id.0) ≡ false = ap (λ (n : ℕ). k.id.0 == n) id ∙ j in
          let first = other-moved l k m (ap (λ (x : Option ObjectId). is_of_id x k.id.0) th ∙ turned k.id.0 u.0 j) in
          ap (λ (b : Bool). (if b then v else moved l k) ∷ map (put_in v) (map (moved l) ks)) there ∙ ap (λ (x : Known). x ∷ map (put_in v) (map (moved l) ks)) first
          ∙ ap (λ (xs : List Known). taught_by l k ∷ xs) (alike-found l u ks w th m d.1 f)
    ] refl e

-- where its own thread is not known, or it has none
pub alike-others : (l : Lesson) (ks : List Known) → l.shows_all ≡ false → AreSound ks → own_in l.thread ks ≡ None → map (moved l) ks ≡ all_taught l ks
alike-others l ks m s e =
    elim l.thread as (λ (v : Option ObjectId). l.thread ≡ v → own_in v ks ≡ None → map (moved l) ks ≡ all_taught l ks) [
      | None ↦ λ th f. alike-nobody l ks th m
      | Some u ↦ λ th f. alike-absent l u ks th m (unknown-count ks u.0 f)
    ] refl e

-- where it is known
pub alike-own : (l : Lesson) (ks : List Known) (w : Known) → l.shows_all ≡ false → AreSound ks → own_in l.thread ks ≡ Some w → map (put_in (taught_by l w)) (map (moved l) ks) ≡ all_taught l ks
alike-own l ks w m s e =
    elim l.thread as (λ (v : Option ObjectId). l.thread ≡ v → own_in v ks ≡ Some w → map (put_in (taught_by l w)) (map (moved l) ks) ≡ all_taught l ks) [
      | None ↦ λ th f. cc
      | Some u ↦ λ th f. alike-found l u ks w th m s.distinct f
    ] refl e
