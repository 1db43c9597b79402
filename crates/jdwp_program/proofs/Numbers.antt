-- Numbers that texts are.
use Rattle.std.proofs.Common.{arith, ◌≡◌, ◌↔◌, ◌<◌, [], ◌∷◌, ◌++◌, ℕ, List, Some, None, IsSome, IfSome, MatchOption, Option, zero, suc, Bor, refl, ap, subst, sym, ◌∙◌}
use Rattle.std.specs.Char.{digit_value}
use Rattle.std.specs.Str.Parse.{AllDigits}
use Rattle.jdwp_wire.specs.Limits.{AreLimits, Limits}
use Rattle.jdwp_program.specs.Values.{AreNumbers, HasNoComma, IsDecimal, IsPartedByComma, comma}

-- a text that reads as no number is none
pub no-number : (r : Option ℕ) (text : List ℕ) → ((number : ℕ) → (r ≡ Some number) ↔ IsDecimal text number) → r ≡ None
    → (number : ℕ) → IsDecimal text number → ⊥
no-number r text reads none number is = let some = (reads number).1 is in absurd cc

-- a text is one number
pub same-number : (text : List ℕ) (read : ℕ) → ((number : ℕ) → (Some read ≡ Some number) ↔ IsDecimal text number)
    → (number : ℕ) → IsDecimal text number → number ≡ read
same-number text read reads number is = let some = (reads number).1 is in cc

-- digits are no comma
digits-no-comma : (text : List ℕ) → AllDigits 10 text → HasNoComma text
digits-no-comma [] all place inside = absurd (omega arith)
digits-no-comma (c ∷ cs) all zero inside = λ is. let value : digit_value 44 < 10 = subst (λ (x : ℕ). digit_value x < 10) is all.0 in absurd (omega arith)
digits-no-comma (c ∷ cs) all (suc place) inside = digits-no-comma cs all.1 place (omega arith)

pub no-comma : (text : List ℕ) (number : ℕ) → IsDecimal text number → HasNoComma text
no-comma text number is = digits-no-comma text is.0.1

of-four : (limits : Limits) (a b c d : ℕ) → limits.packet ≡ a → limits.live ≡ b → limits.requests ≡ c → limits.pending ≡ d
    → limits ≡ record { packet = a; live = b; requests = c; pending = d }
of-four limits a b c d p l r w = λ i. record { packet = p i; live = l i; requests = r i; pending = w i }

-- what a text's first comma parts
pub first-comma : (text : List ℕ) (r : Option (Bor (List ℕ) × Bor (List ℕ)))
    → MatchOption r (HasNoComma text) (λ x. (text ≡ x.0.now ++ (comma ∷ x.1.now)) × HasNoComma x.0.now)
    → IfSome r (λ x. IsPartedByComma text x.0.now x.1.now)
first-comma text None parts = tt
first-comma text (Some x) parts = parts

none-is-some : {A : Type 0} → IsSome {T = Limits} None → A
none-is-some is = absurd cc

-- what four numbers make is the limits that they say
pub made-of : (packet live requests pending : List ℕ) (a b c d : ℕ) (made : Option Limits)
    → ((number : ℕ) → (Some a ≡ Some number) ↔ IsDecimal packet number) → ((number : ℕ) → (Some b ≡ Some number) ↔ IsDecimal live number)
    → ((number : ℕ) → (Some c ≡ Some number) ↔ IsDecimal requests number) → ((number : ℕ) → (Some d ≡ Some number) ↔ IsDecimal pending number)
    → (IsSome made ↔ AreLimits a b c d) → IfSome made (λ l. l ≡ record { packet = a; live = b; requests = c; pending = d })
    → (limits : Limits) → (made ≡ Some limits) ↔ AreNumbers packet live requests pending limits
made-of packet live requests pending a b c d None pa pb pc pd some same limits =
    ((λ e. absurd cc), (λ are. none-is-some (some.1 (subst (λ (l : Limits). AreLimits l.packet l.live l.requests l.pending) (of-four limits a b c d (same-number packet a pa _ are.packet_is) (same-number live b pb _ are.live_is) (same-number requests c pc _ are.requests_is) (same-number pending d pd _ are.pending_is)) are.are_limits))))
made-of packet live requests pending a b c d (Some l) pa pb pc pd some same limits = (
  (λ e. let is : limits ≡ record { packet = a; live = b; requests = c; pending = d } = cc in
      subst (λ (x : Limits). AreNumbers packet live requests pending x) (sym is) (record {
        packet_is = (pa a).0 refl;
        live_is = (pb b).0 refl;
        requests_is = (pc c).0 refl;
        pending_is = (pd d).0 refl;
        are_limits = some.0 refl;
      })),
  (λ are. ap Some (same ∙ sym (of-four limits a b c d (same-number packet a pa _ are.packet_is) (same-number live b pb _ are.live_is) (same-number requests c pc _ are.requests_is) (same-number pending d pd _ are.pending_is)))),
)
