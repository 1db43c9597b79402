-- What a segment adds to a direction.
use Rattle.std.proofs.Common.{◌≡◌, ◌≤◌, ◌<◌, ◌+◌, ◌^◌, ℕ, suc, List, [], ◌∷◌, ◌++◌, length, Bor, IfNone, IfSome, Option, None, Some, refl, sym, ◌∙◌, ap, subst, arith, length-append}
use Rattle.std.proofs.lemmas.List.{get_or_append_left, get_or_push}
use Rattle.jdwp_recording.specs.declared.assembly.Piece.{Piece}
use Rattle.jdwp_recording.specs.declared.direction.Direction.{Direction}
use Rattle.jdwp_recording.specs.declared.packets.Segment.{Segment}
use Rattle.jdwp_recording.specs.declared.sequence.Mark.{Mark}
use Rattle.jdwp_recording.specs.Assemblies.{Stands, part_of}
use Rattle.jdwp_recording.specs.Directions.{Knows}
use Rattle.jdwp_recording.specs.SequenceNumbers.{number_at, AreNear}
use Rattle.jdwp_recording.specs.Sides.{ArePlaced, AreGiven, StandsAt, data_at, parts_from, place_before}
use Rattle.jdwp_recording.specs.Streams.{Part, IsAssembled}

abbrev data_by : ℕ → List ℕ → Part
data_by place bytes = record { place = place; bytes = bytes }

pub parts_from-push : (places : ℕ → ℕ) (k : ℕ) (xs : List Segment) (x : Segment) → parts_from places k (xs ++ x ∷ []) ≡ parts_from places k xs ++ data_at (places (k + length xs)) x ∷ []
parts_from-push places k [] x = let e : k ≡ k + 0 = omega arith in ap (λ n. data_at (places n) x ∷ []) e
parts_from-push places k (y ∷ xs) x =
    let e : suc k + length xs ≡ k + suc (length xs) = omega arith in
    ap (λ l. data_at (places k) y ∷ l) (parts_from-push places (suc k) xs x ∙ ap (λ n. parts_from places (suc k) xs ++ data_at (places n) x ∷ []) e)

-- the places of all but the last
pub placed_before : (first : ℕ) (places : ℕ → ℕ) (xs : List Segment) (x : Segment) → ArePlaced first places (xs ++ x ∷ []) → ArePlaced first places xs
placed_before first places xs x placed = λ k d less.
    subst (StandsAt first (place_before places k) (places k)) (get_or_append_left xs (x ∷ []) d k less) (placed k d (omega (arith, length-append xs (x ∷ []))))

pub placed_last : (first : ℕ) (places : ℕ → ℕ) (xs : List Segment) (x : Segment) → ArePlaced first places (xs ++ x ∷ []) → StandsAt first (place_before places (length xs)) (places (length xs)) x
placed_last first places xs x placed =
    subst (StandsAt first (place_before places (length xs)) (places (length xs))) (get_or_push xs x x (length xs) refl) (placed (length xs) x (omega (arith, length-append xs (x ∷ []))))

-- where a segment is found to stand
abbrev pub Finds : Direction → Segment → Option ℕ → Type 0
Finds old x found = (first place : ℕ) → old.mark.sequence ≡ number_at first old.mark.place → x.sequence ≡ number_at first place → AreNear old.mark.place place → place < 2 ^ 64 → found ≡ Some place

-- a segment that stands in the stream is found there
pub found_at : (first : ℕ) (xs : List Segment) (bytes : List ℕ) (old : Direction) (x : Segment) (found : Option ℕ) → Finds old x found → Knows first xs bytes old
    → (places : ℕ → ℕ) → ArePlaced first places (xs ++ x ∷ []) → found ≡ Some (places (length xs))
found_at first xs bytes old x found finds knows places placed =
    let here = placed_last first places xs x placed in
    let fits = here.fits in
    let known = knows places (placed_before first places xs x placed) in
    finds first (places (length xs)) known.number here.number (subst (λ n. AreNear n (places (length xs))) (sym known.place) here.near) (omega arith)

pub came : (first : ℕ) (xs : List Segment) (bytes fresh : List ℕ) (old new : Direction) (x : Segment) (piece : Piece) (found : Option ℕ) → Finds old x found → found ≡ Some piece.place → piece.bytes.now ≡ x.payload.now
    → ((parts : List Part) (known : List ℕ) → Stands parts known old.assembly → Stands (parts ++ part_of piece ∷ []) (known ++ fresh) new.assembly)
    → new.mark.place ≡ piece.place → new.mark.sequence ≡ x.sequence → Knows first xs bytes old → Knows first (xs ++ x ∷ []) (bytes ++ fresh) new
came first xs bytes fresh old new x piece found finds at same stands place number knows = λ places placed.
    let n : ℕ = length xs in
    let here = placed_last first places xs x placed in
    let known = knows places (placed_before first places xs x placed) in
    let is : Some piece.place ≡ Some (places n) = sym at ∙ found_at first xs bytes old x found finds knows places placed in
    let there : piece.place ≡ places n = cc in
    let part : part_of piece ≡ data_at (places n) x = ap (λ p. data_by p piece.bytes.now) there ∙ ap (data_by (places n)) same in
    let all : parts_from places 0 xs ++ part_of piece ∷ [] ≡ parts_from places 0 (xs ++ x ∷ []) =
    ap (λ p. parts_from places 0 xs ++ p ∷ []) part ∙ (ap (λ k. parts_from places 0 xs ++ data_at (places k) x ∷ []) zero_more ∙ sym (parts_from-push places 0 xs x)) in
    let many : length (xs ++ x ∷ []) ≡ suc n = omega (arith, length-append xs (x ∷ [])) in
    record {
      stands = subst (λ l. Stands l (bytes ++ fresh) new.assembly) all (stands (parts_from places 0 xs) bytes known.stands);
      place = place ∙ (there ∙ sym (ap (place_before places) many));
      number = number ∙ (here.number ∙ ap (number_at first) (sym (place ∙ there)));
    }
  where
    zero_more : length xs ≡ 0 + length xs
    zero_more = omega arith

-- a segment that stands nowhere in the stream was none of it
pub came_not : (first : ℕ) (xs : List Segment) (bytes : List ℕ) (old new : Direction) (x : Segment) (found : Option ℕ) → Finds old x found → ((place : ℕ) → found ≡ Some place → place + length x.payload.now < 2 ^ 64 → ⊥)
    → Knows first xs bytes old → Knows first (xs ++ x ∷ []) bytes new
came_not first xs bytes old new x found finds none knows = λ places placed.
    absurd (none (places (length xs)) (found_at first xs bytes old x found finds knows places placed) (placed_last first places xs x placed).fits)

-- the same with another state of what no clause speaks of
pub still_knows : (first : ℕ) (xs : List Segment) (bytes : List ℕ) (old new : Direction) → new.assembly ≡ old.assembly → new.mark ≡ old.mark → Knows first xs bytes old → Knows first xs bytes new
still_knows first xs bytes old new assembly mark knows = λ places placed.
    let known = knows places placed in
    record {
      stands = subst (Stands (parts_from places 0 xs) bytes) (sym assembly) known.stands;
      place = ap (λ (m : Mark). m.place) mark ∙ known.place;
      number = ap (λ (m : Mark). m.sequence) mark ∙ (known.number ∙ ap (λ (m : Mark). number_at first m.place) (sym mark));
    }

pub moved_on : (first : ℕ) (xs : List Segment) (bytes fresh : List ℕ) (old new : Direction) → ((parts : List Part) (known : List ℕ) → Stands parts known old.assembly → Stands parts (known ++ fresh) new.assembly) → new.mark ≡ old.mark
    → Knows first xs bytes old → Knows first xs (bytes ++ fresh) new
moved_on first xs bytes fresh old new stands mark knows = λ places placed.
    let known = knows places placed in
    record {
      stands = stands (parts_from places 0 xs) bytes known.stands;
      place = ap (λ (m : Mark). m.place) mark ∙ known.place;
      number = ap (λ (m : Mark). m.sequence) mark ∙ (known.number ∙ ap (λ (m : Mark). number_at first m.place) (sym mark));
    }

pub given : (first : ℕ) (xs : List Segment) (bytes : List ℕ) (a : Direction) → ((parts : List Part) (known : List ℕ) → Stands parts known a.assembly → IsAssembled parts known) → Knows first xs bytes a → AreGiven first xs bytes
given first xs bytes a all knows = λ places placed. all (parts_from places 0 xs) bytes (knows places placed).stands

pub next_some : (given : Option (Bor (List ℕ))) (old new : Direction)
    → IfSome given (λ fresh. (parts : List Part) (known : List ℕ) → Stands parts known old.assembly → Stands parts (known ++ fresh.now) new.assembly) → new.mark ≡ old.mark
    → IfSome given (λ fresh. (first : ℕ) (xs : List Segment) (bytes : List ℕ) → Knows first xs bytes old → Knows first xs (bytes ++ fresh.now) new)
next_some None old new stands mark = tt
next_some (Some fresh) old new stands mark = λ first xs bytes. moved_on first xs bytes fresh.now old new stands mark

pub next_none : (none : Option (Bor (List ℕ))) (new : Direction) → IfNone none ((parts : List Part) (known : List ℕ) → Stands parts known new.assembly → IsAssembled parts known)
    → IfNone none ((first : ℕ) (xs : List Segment) (bytes : List ℕ) → Knows first xs bytes new → AreGiven first xs bytes)
next_none None new all = λ first xs bytes. given first xs bytes new all
next_none (Some fresh) new all = tt
