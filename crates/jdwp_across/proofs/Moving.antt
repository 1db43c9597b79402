-- moves that go on, and their bytes
use Rattle.std.proofs.Common.{◌≡◌, ℕ, List, [], ◌∷◌, ◌++◌, refl, sym, ◌∙◌, ap, subst}
use Rattle.std.proofs.lemmas.List.{append_assoc}
use Rattle.jdwp_across.specs.Programs.{Act}
use Rattle.jdwp_across.specs.Acting.{Leads, Move, bytes_of, last_of}

pub leads-all : {E : Type 0} (D : Act → E → E → Type 0) (first mid last : E) (moves more : List (Move E)) → Leads D first moves mid → Leads D mid more last → Leads D first (moves ++ more) last
leads-all D first mid last [] more same h = subst (λ x. Leads D x more last) same h
leads-all D first mid last (move ∷ moves) more h g = (h.0, leads-all D move.behind mid last moves more h.1 g)

-- one move
pub leads-one : {E : Type 0} (D : Act → E → E → Type 0) (first last : E) (act : Act) → D act first last → Leads D first (record { act = act; behind = last } ∷ []) last
leads-one D first last act h = (h, refl)

pub bytes-all : {E : Type 0} (by : Act → List ℕ) (moves more : List (Move E)) → bytes_of by (moves ++ more) ≡ bytes_of by moves ++ bytes_of by more
bytes-all by [] more = refl
bytes-all by (move ∷ moves) more = ap (λ b. by move.act ++ b) (bytes-all by moves more) ∙ sym (append_assoc (by move.act) (bytes_of by moves) (bytes_of by more))

-- bytes behind bytes
pub bytes-on : {E : Type 0} (by : Act → List ℕ) (moves more : List (Move E)) (a b c : List ℕ) → b ≡ a ++ bytes_of by moves → c ≡ b ++ bytes_of by more → c ≡ a ++ bytes_of by (moves ++ more)
bytes-on by moves more a b c e f =
    f ∙ (ap (λ x. x ++ bytes_of by more) e ∙ (append_assoc a (bytes_of by moves) (bytes_of by more) ∙ ap (λ x. a ++ x) (sym (bytes-all by moves more))))

pub last-more : {E : Type 0} (first : E) (moves : List (Move E)) (move : Move E) → last_of first (moves ++ move ∷ []) ≡ move.behind
last-more first [] move = refl
last-more first (m ∷ moves) move = last-more m.behind moves move

pub leads-last : {E : Type 0} (D : Act → E → E → Type 0) (first last : E) (moves : List (Move E)) → Leads D first moves last → last ≡ last_of first moves
leads-last D first last [] h = h
leads-last D first last (move ∷ moves) h = leads-last D move.behind last moves h.1

-- each move leads from where the ones before it led
pub leads-next : {E : Type 0} (D : Act → E → E → Type 0) (first last : E) (moves rest : List (Move E)) (move : Move E) → Leads D first (moves ++ move ∷ rest) last → D move.act (last_of first moves) move.behind
leads-next D first last [] rest move h = h.0
leads-next D first last (m ∷ moves) rest move h = leads-next D m.behind last moves rest move h.1
