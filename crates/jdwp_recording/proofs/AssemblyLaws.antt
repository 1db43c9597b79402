-- What a piece adds to an assembly.
use Rattle.std.proofs.Common.{◌≡◌, ◌≤◌, ◌<◌, ◌+◌, ◌-◌, ℕ, List, [], ◌∷◌, ◌++◌, length, take, drop, Option, Some, None, IsSome, Bool, true, false, cond, ltb, eqb, eq-eqb, refl, sym, ◌∙◌, ap, subst, inl, inr, arith, rules, length-append, length-drop}
use Rattle.std.specs.BTreeMap.{get, is_at, btree_map_len}
use Rattle.std.specs.Map.{lookup}
use Rattle.std.specs.List.{All, slice_get}
use Rattle.std.specs.Ordering.{nat_cmp, is_eq, is_gt}
use Rattle.std.specs.declared.cmp.Ordering.{Ordering}
use Rattle.std.specs.declared.cmp.Ordering.TheVariants.{Less, Equal, Greater}
use Rattle.std.proofs.lemmas.Bool.{cases_Bool, cases_lt}
use Rattle.std.proofs.lemmas.List.{append-nil, nil_from_length, drop_all, drop-take, drop-drop}
use Rattle.std.proofs.Math.Seq.{take-add}
use Rattle.std.proofs.lemmas.List.Elements.{All-pop, All-push, All-weaker}
use borrow.Author.Tests.{eqb-true, ltb-true}
use Rattle.jdwp_recording.specs.declared.assembly.Assembly.{Assembly}
use Rattle.jdwp_recording.specs.declared.assembly.Piece.{Piece}
use Rattle.jdwp_recording.specs.Streams.{Part, IsPart, IsBeginning, AreParts, IsAssembled, end_of}
use Rattle.jdwp_recording.specs.Assemblies.{Stands, IsHeld, kept_at, part_of}

abbrev part_at : ℕ → List ℕ → Part
part_at place bytes = record { place = place; bytes = bytes }

eq_of : (x y : Bool) → is_eq (cond x Less (cond y Equal Greater)) ≡ true → y ≡ true
eq_of true y h = cc
eq_of false true h = refl
eq_of false false h = cc

-- keys that compare as equal are equal
pub same_key : (a b : ℕ) → is_at (nat_cmp a) b ≡ true → a ≡ b
same_key a b h = eqb-true a b (eq_of (ltb a b) (eqb a b) h)

not_gt_of : (a b : ℕ) (x y : Bool) → ltb a b ≡ x → eqb a b ≡ y → is_gt (cond x Less (cond y Equal Greater)) ≡ false → a ≤ b
not_gt_of a b true y less e h = let is = ltb-true a b less in omega arith
not_gt_of a b false true less e h = let is = eqb-true a b e in omega arith
not_gt_of a b false false less e h = cc

pub not_above : (a b : ℕ) → is_gt (nat_cmp a b) ≡ false → a ≤ b
not_above a b h = not_gt_of a b (ltb a b) (eqb a b) refl refl h

-- a beginning of the stream, and what a part has beyond it
pub joined : (s known bytes : List ℕ) (place k : ℕ) → place + k ≡ length known → k < length bytes → IsBeginning s known → IsPart s (record { place = place; bytes = bytes }) → IsBeginning s (known ++ drop k bytes)
joined s known bytes place k e less begins part =
    let m : ℕ = length bytes - k in
    let split : k + m ≡ length bytes = omega arith in
    let cut : drop k bytes ≡ drop k (take (k + m) (drop place s)) = ap (drop k) (part.same ∙ ap (λ x. take x (drop place s)) (sym split)) in
    let rest : drop k bytes ≡ take m (drop (length known) s) =
    cut ∙ (drop-take k m (drop place s) ∙ (ap (take m) (drop-drop k place s) ∙ ap (λ x. take m (drop x s)) e)) in
    let whole : known ++ drop k bytes ≡ take (length known + m) s =
    ap (λ x. x ++ drop k bytes) begins.same ∙ (ap (λ x. take (length known) s ++ x) rest ∙ sym (take-add (length known) m s)) in
    let many : length (known ++ drop k bytes) ≡ length known + m = length-append known (drop k bytes) ∙ ap (λ x. length known + x) (length-drop k bytes) in
    let place_within = part.within in
    record { same = whole ∙ ap (λ x. take x s) (sym many); within = omega arith }

all_both : (P : Part → Type 0) (xs : List Part) (x : Part) → All P (xs ++ x ∷ []) → All P xs × P x
all_both P xs x all = All-pop P (xs ++ x ∷ []) xs (Some x) refl all

-- the same where the part has nothing beyond it, too
pub extended : (s known bytes : List ℕ) (place : ℕ) → place ≤ length known → IsBeginning s known → IsPart s (record { place = place; bytes = bytes }) → IsBeginning s (known ++ drop (length known - place) bytes)
extended s known bytes place before begins part =
    elim (cases_lt (length known - place) (length bytes)) [
      | inl more ↦ joined s known bytes place (length known - place) (omega arith) more begins part
      | inr none ↦ let e : drop (length known - place) bytes ≡ [] = drop_all (length known - place) bytes (omega arith) in subst (λ x. IsBeginning s (known ++ x)) (sym e) (subst (IsBeginning s) (sym (append-nil known)) begins)
    ]

-- a part that was held is held still, where no less is known and what is kept at its place was not let go
held_still : (old new : Assembly) (p : Part) → old.known ≤ new.known → ((kept : Piece) → kept_at old p.place ≡ Some kept → length p.bytes ≤ length kept.bytes.now → IsHeld new p) → IsHeld old p → IsHeld new p
held_still old new p more kept held = elim held [
  | inl is ↦ inl (omega arith)
  | inr k ↦ kept k.0 k.1 k.2
]

-- what a piece adds that begins within what is known
pub record Joins (old new : Assembly) (piece : Piece) (fresh : List ℕ) : Type 0 where
  pub place : piece.place ≤ old.known
  pub fresh_is : fresh ≡ drop (old.known - piece.place) piece.bytes.now
  pub known : new.known ≡ old.known + length fresh

begins_on : (parts : List Part) (bytes fresh : List ℕ) (old new : Assembly) (piece : Piece) → Joins old new piece fresh → Stands parts bytes old → (s : List ℕ) → AreParts s parts → IsPart s (part_of piece) → IsBeginning s (bytes ++ fresh)
begins_on parts bytes fresh old new piece j st s are part =
    let at = j.place in let is = st.known in
    let e : fresh ≡ drop (length bytes - piece.place) piece.bytes.now = j.fresh_is ∙ ap (λ n. drop (n - piece.place) piece.bytes.now) st.known in
    subst (λ x. IsBeginning s (bytes ++ x)) (sym e) (extended s bytes piece.bytes.now piece.place (omega arith) (st.beginning s are) part)

known_on : (parts : List Part) (bytes fresh : List ℕ) (old new : Assembly) (piece : Piece) → Joins old new piece fresh → Stands parts bytes old → new.known ≡ length (bytes ++ fresh)
known_on parts bytes fresh old new piece j st = let a = j.known in let b = st.known in omega (arith, length-append bytes fresh)

end_on : (old new : Assembly) (piece : Piece) (fresh : List ℕ) → Joins old new piece fresh → end_of (part_of piece) ≤ new.known
end_on old new piece fresh j =
    let a = j.known in let b = j.place in
    let many : length fresh ≡ length piece.bytes.now - (old.known - piece.place) = ap length j.fresh_is ∙ length-drop (old.known - piece.place) piece.bytes.now in
    omega arith

pub joins : (parts : List Part) (bytes fresh : List ℕ) (old new : Assembly) (piece : Piece) → Joins old new piece fresh → new.ahead ≡ old.ahead → Stands parts bytes old → Stands (parts ++ part_of piece ∷ []) (bytes ++ fresh) new
joins parts bytes fresh old new piece j ahead st =
    let same = λ (q : ℕ). ap (λ m. get nat_cmp m q) ahead in
    let more = j.known in
    record {
      known = known_on parts bytes fresh old new piece j st;
      keyed = λ q k e. st.keyed q k (sym (same q) ∙ e);
      beginning = λ s are. begins_on parts bytes fresh old new piece j st s (all_both (IsPart s) parts (part_of piece) are).0 (all_both (IsPart s) parts (part_of piece) are).1;
      kept = λ s are q k e. st.kept s (all_both (IsPart s) parts (part_of piece) are).0 q k (sym (same q) ∙ e);
      held = All-push (IsHeld new) parts (part_of piece)
          (All-weaker (IsHeld old) (IsHeld new) (λ p. held_still old new p (omega arith) (λ k e longer. inr (k, same p.place ∙ e, longer))) parts st.held)
          (inl (end_on old new piece fresh j));
    }

still_there : (at : Bool) (o : Option Piece) (k : Piece) → cond at None o ≡ Some k → o ≡ Some k
still_there true o k e = cc
still_there false o k e = e

popped_held : (old new : Assembly) (key : ℕ) (piece : Piece) (fresh : List ℕ) (p : Part) (k : Piece) → kept_at old key ≡ Some piece → ((q : ℕ) → kept_at new q ≡ cond (is_at (nat_cmp key) q) None (kept_at old q)) → Joins old new piece fresh → piece.place ≡ key → kept_at old p.place ≡ Some k → length p.bytes ≤ length k.bytes.now → IsHeld new p
popped_held old new key piece fresh p k was gone j keyed e longer = elim (cases_Bool (is_at (nat_cmp key) p.place)) [
  | inl at ↦
      let is = same_key key p.place at in
      let one : Some piece ≡ Some k = sym was ∙ (ap (kept_at old) is ∙ e) in
      let same : piece ≡ k = cc in
      let long : length piece.bytes.now ≡ length k.bytes.now = ap (λ (x : Piece). length x.bytes.now) same in
      let end = end_on old new piece fresh j in
      inl (omega arith)
  | inr at ↦ inr (k, gone p.place ∙ (ap (λ b. cond b None (kept_at old p.place)) at ∙ e), longer)
]

pub pops : (parts : List Part) (bytes fresh : List ℕ) (old new : Assembly) (key : ℕ) (piece : Piece) → kept_at old key ≡ Some piece → ((q : ℕ) → kept_at new q ≡ cond (is_at (nat_cmp key) q) None (kept_at old q)) → Joins old new piece fresh → Stands parts bytes old → Stands parts (bytes ++ fresh) new
pops parts bytes fresh old new key piece was gone j st =
    let more = j.known in
    let there = λ (q : ℕ) (k : Piece) (e : kept_at new q ≡ Some k). still_there (is_at (nat_cmp key) q) (kept_at old q) k (sym (gone q) ∙ e) in
    record {
      known = known_on parts bytes fresh old new piece j st;
      keyed = λ q k e. st.keyed q k (there q k e);
      beginning = λ s are. begins_on parts bytes fresh old new piece j st s are (st.kept s are key piece was);
      kept = λ s are q k e. st.kept s are q k (there q k e);
      held = All-weaker (IsHeld old) (IsHeld new) (λ p. held_still old new p (omega arith) (λ k e longer. popped_held old new key piece fresh p k was gone j (st.keyed key piece was) e longer)) parts st.held;
    }

at_itself : (a : ℕ) → is_at (nat_cmp a) a ≡ true
at_itself a = by (ltb a a) refl
  where
    by : (x : Bool) → ltb a a ≡ x → is_at (nat_cmp a) a ≡ true
    by true less = let h = ltb-true a a less in absurd (omega arith)
    by false same = ap (λ x. is_eq (cond x Less (cond (eqb a a) Equal Greater))) same ∙ ap (λ y. is_eq (cond y Equal Greater)) (eq-eqb a a refl)

part_same : (x y : Piece) → y.place ≡ x.place → y.bytes.now ≡ x.bytes.now → part_of x ≡ part_of y
part_same x y place bytes = ap (λ n. part_at n x.bytes.now) (sym place) ∙ ap (λ b. part_at y.place b) (sym bytes)

-- a piece behind a hole is kept under its place, in place of what was kept there before and is shorter
pub keeps : (parts : List Part) (bytes : List ℕ) (old new : Assembly) (piece kept : Piece) → ((q : ℕ) → kept_at new q ≡ cond (is_at (nat_cmp piece.place) q) (Some kept) (kept_at old q))
    → kept.place ≡ piece.place → kept.bytes.now ≡ piece.bytes.now → new.known ≡ old.known → ((k : Piece) → kept_at old piece.place ≡ Some k → length k.bytes.now ≤ length piece.bytes.now)
    → Stands parts bytes old → Stands (parts ++ part_of piece ∷ []) bytes new
keeps parts bytes old new piece kept put place same known longest st =
    record {
      known = known ∙ st.known;
      keyed = λ q k e. keyed_by q k (is_at (nat_cmp piece.place) q) refl (kept_at old q) refl (sym (put q) ∙ e);
      beginning = λ s are. st.beginning s (all_both (IsPart s) parts (part_of piece) are).0;
      kept = λ s are q k e. let both = all_both (IsPart s) parts (part_of piece) are in kept_by s q k (is_at (nat_cmp piece.place) q) (kept_at old q) both.1 (λ h. st.kept s both.0 q k h) (sym (put q) ∙ e);
      held = All-push (IsHeld new) parts (part_of piece)
          (All-weaker (IsHeld old) (IsHeld new) (λ p. held_still old new p (omega arith) (λ k e longer. held_by p k (is_at (nat_cmp piece.place) p.place) refl e longer)) parts st.held)
          (inr (kept, put piece.place ∙ ap (λ b. cond b (Some kept) (kept_at old piece.place)) (at_itself piece.place), (omega (arith, ap length same))));
    }
  where
    keyed_by : (q : ℕ) (k : Piece) (at : Bool) → is_at (nat_cmp piece.place) q ≡ at → (o : Option Piece) → kept_at old q ≡ o → cond at (Some kept) o ≡ Some k → k.place ≡ q
    keyed_by q k true at o was e = let one : kept ≡ k = cc in ap (λ (x : Piece). x.place) (sym one) ∙ (place ∙ same_key piece.place q at)
    keyed_by q k false at o was e = st.keyed q k (was ∙ e)

    kept_by : (s : List ℕ) (q : ℕ) (k : Piece) (at : Bool) (o : Option Piece) → IsPart s (part_of piece) → (o ≡ Some k → IsPart s (part_of k)) → cond at (Some kept) o ≡ Some k → IsPart s (part_of k)
    kept_by s q k true o part old_part e =
        let one : kept ≡ k = cc in
        let is : part_of piece ≡ part_of kept = part_same piece kept place same in
        subst (λ (x : Piece). IsPart s (part_of x)) one (subst (IsPart s) is part)
    kept_by s q k false o part old_part e = old_part e

    held_by : (p : Part) (k : Piece) (at : Bool) → is_at (nat_cmp piece.place) p.place ≡ at → kept_at old p.place ≡ Some k → length p.bytes ≤ length k.bytes.now → IsHeld new p
    held_by p k true at e longer =
        let is = same_key piece.place p.place at in
        let long = longest k (ap (kept_at old) is ∙ e) in
        inr (kept, put p.place ∙ ap (λ b. cond b (Some kept) (kept_at old p.place)) at, omega (arith, ap length same))
    held_by p k false at e longer = inr (k, put p.place ∙ (ap (λ b. cond b (Some kept) (kept_at old p.place)) at ∙ e), longer)

-- a longer piece is kept there
pub keeps_other : (parts : List Part) (bytes : List ℕ) (old new : Assembly) (piece kept : Piece) → new ≡ old → kept_at old piece.place ≡ Some kept → length piece.bytes.now ≤ length kept.bytes.now
    → Stands parts bytes old → Stands (parts ++ part_of piece ∷ []) bytes new
keeps_other parts bytes old new piece kept same was longer st = subst (Stands (parts ++ part_of piece ∷ []) bytes) (sym same) (record {
  known = st.known;
  keyed = st.keyed;
  beginning = λ s are. st.beginning s (all_both (IsPart s) parts (part_of piece) are).0;
  kept = λ s are. st.kept s (all_both (IsPart s) parts (part_of piece) are).0;
  held = All-push (IsHeld old) parts (part_of piece) st.held (inr (kept, was, longer));
})

-- where all that is kept lies behind a hole, all of the parts is known up to it
pub assembled : (parts : List Part) (bytes : List ℕ) (a : Assembly) → ((q : ℕ) (k : Piece) → kept_at a q ≡ Some k → a.known < q) → Stands parts bytes a → IsAssembled parts bytes
assembled parts bytes a behind st = record {
  beginning = st.beginning;
  complete = All-weaker (IsHeld a) (λ p. p.place ≤ length bytes → end_of p ≤ length bytes) (λ p held before. let is = st.known in elim held [
    | inl end ↦ omega arith
    | inr k ↦ let far = behind p.place k.0 k.1 in absurd (omega arith)
  ]) parts st.held;
}

pub all_known : (parts : List Part) (bytes : List ℕ) (a : Assembly) → ((q : ℕ) → kept_at a q ≡ None) → Stands parts bytes a → All (λ (p : Part). end_of p ≤ length bytes) parts
all_known parts bytes a none st = All-weaker (IsHeld a) (λ p. end_of p ≤ length bytes) (λ p held. let is = st.known in elim held [
  | inl end ↦ omega arith
  | inr k ↦ let nothing : None ≡ Some k.0 = sym (none p.place) ∙ k.1 in cc
]) parts st.held

-- nothing is kept in an empty map
pub none_kept : (a : Assembly) → (0 < btree_map_len a.ahead → ⊥) → (q : ℕ) → kept_at a q ≡ None
none_kept a none q = ap (λ (es : List (ℕ × Piece)). lookup (is_at (nat_cmp q)) es) (nil_from_length a.ahead.entries (omega arith))

pub nothing_kept : (parts : List Part) (bytes : List ℕ) (a : Assembly) → (0 < btree_map_len a.ahead → ⊥) → Stands parts bytes a → IsAssembled parts bytes
nothing_kept parts bytes a none st = assembled parts bytes a (λ q k e. let nothing : None ≡ Some k = sym (none_kept a none q) ∙ e in cc) st

some_is : (k : Piece) → IsSome (Some k)
some_is k = search rules

-- the first piece that is kept lies behind a hole
pub far_off : (parts : List Part) (bytes : List ℕ) (a : Assembly) (key : ℕ) (first : Piece) → kept_at a key ≡ Some first → ((q : ℕ) → IsSome (kept_at a q) → is_gt (nat_cmp key q) ≡ false) → a.known < first.place → Stands parts bytes a → IsAssembled parts bytes
far_off parts bytes a key first was least far st = assembled parts bytes a (λ q k e.
    let at = st.keyed key first was in
    let le = not_above key q (least q (subst IsSome (sym e) (some_is k))) in
    omega arith) st

pub same_first : (xs ys : List (ℕ × Piece)) (p q : ℕ × Piece) → xs ≡ p ∷ ys → slice_get xs 0 ≡ Some q → p ≡ q
same_first xs ys p q e first = let h : Some p ≡ Some q = sym (ap (λ l. slice_get l 0) e) ∙ first in cc
