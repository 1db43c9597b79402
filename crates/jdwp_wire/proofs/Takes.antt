-- Taking a value from the front, by the laws of its reader.
use Rattle.std.proofs.Common.{◌≡◌, ◌≤◌, ◌-◌, ◌+◌, ◌++◌, ℕ, List, length, take, drop, Result, Ok, Err, refl, sym, ap, subst, ◌∙◌, arith}
use Rattle.std.proofs.lemmas.List.{take_at, take-append-drop, length-append, length-drop, append_cancel_right}
use Rattle.jdwp_wire.specs.declared.data_fault.DataFault.{DataFault}
use Rattle.jdwp_wire.specs.declared.data_fault.DataFault.TheVariants.{Short, Extra, BadTag, NegativeCount, NotUtf8, BadSize, IdTooWide, NoMemory}
use Rattle.jdwp_wire.specs.Bytes.{IsBytes}
use Rattle.jdwp_wire.specs.Reading.{Reader, Encoding, Fails, Takes}
use Rattle.jdwp_wire.specs.Codes.{Found, Again, ok_is}

abbrev err_of : {Y : Type 0} → DataFault → Result (Y × ℕ) DataFault
err_of e = Err e

module _ {X : Type 0} (decode : Reader X) (encodes : Encoding X) where
  pub front_found : Found decode encodes → (bytes : List ℕ) (x : X) (rest : List ℕ) → IsBytes bytes → decode bytes ≡ Ok (x, rest)
      → (length bytes - length rest ≤ length bytes) × encodes x (take (length bytes - length rest) bytes)
  front_found law bytes x rest fits e =
      let t = law bytes x rest fits e in
      let len : length bytes - length rest ≡ length t.0 = (let parts : length bytes ≡ length t.0 + length rest = ap (λ (ys : List ℕ). length ys) t.2 ∙ length-append t.0 rest in omega (arith, parts)) in
      let front : take (length bytes - length rest) bytes ≡ t.0 = ap (λ (n : ℕ). take n bytes) len ∙ ap (λ (ys : List ℕ). take (length t.0) ys) t.2 ∙ take_at t.0 rest (length t.0) refl in
      (omega arith, subst (λ (ys : List ℕ). encodes x ys) (sym front) t.1)

  again_at : Again decode encodes → (bytes : List ℕ) (x : X) (n : ℕ) → encodes x (take n bytes) → decode bytes ≡ Ok (x, drop n bytes)
  again_at law bytes x n s = ap decode (sym (take-append-drop n bytes)) ∙ law (take n bytes) x (drop n bytes) s

  pub front_only : Again decode encodes → (bytes : List ℕ) (y x : X) (rest : List ℕ) (n : ℕ) → decode bytes ≡ Ok (y, rest) → n ≤ length bytes → encodes x (take n bytes)
      → (y ≡ x) × (length bytes - length rest ≡ n)
  front_only law bytes y x rest n e le s =
      let both = ok_is (y, rest) (x, drop n bytes) (sym e ∙ again_at law bytes x n s) in
      let len : length rest ≡ length bytes - n = ap (λ (p : X × List ℕ). length p.1) both ∙ length-drop n bytes in
      (ap (λ (p : X × List ℕ). p.0) both, omega (arith, len, le))

  not_failed : {T : Type 0} (meaning : T → X) (e : DataFault) (bytes : List ℕ) (y : X × List ℕ) (x : X) (n : ℕ) → Fails e (decode bytes) → decode bytes ≡ Ok y → Takes meaning (err_of {Y = T} e) x n
  not_failed meaning (Short p) bytes y x n f e = absurd (let both = sym f ∙ e in cc)
  not_failed meaning (Extra p) bytes y x n f e = absurd (let both = sym f ∙ e in cc)
  not_failed meaning BadTag bytes y x n f e = absurd (let both = sym f ∙ e in cc)
  not_failed meaning NegativeCount bytes y x n f e = absurd (let both = sym f ∙ e in cc)
  not_failed meaning NotUtf8 bytes y x n f e = absurd (let both = sym f ∙ e in cc)
  not_failed meaning BadSize bytes y x n f e = absurd (let both = sym f ∙ e in cc)
  not_failed meaning IdTooWide bytes y x n f e = absurd (let both = sym f ∙ e in cc)
  not_failed meaning NoMemory bytes y x n f e = tt

  pub front_not_failed : {T : Type 0} (meaning : T → X) → Again decode encodes → (e : DataFault) (bytes : List ℕ) (x : X) (n : ℕ) → Fails e (decode bytes) → encodes x (take n bytes) → Takes meaning (err_of {Y = T} e) x n
  front_not_failed meaning law e bytes x n f s = not_failed meaning e bytes (x, drop n bytes) x n f (again_at law bytes x n s)

  pub one_value : Again decode encodes → (x y : X) (code other rest more : List ℕ) → encodes x code → encodes y other → code ++ rest ≡ other ++ more → (x ≡ y) × (code ≡ other) × (rest ≡ more)
  one_value law x y code other rest more p q e =
      let both = ok_is (x, rest) (y, more) (sym (law code x rest p) ∙ ap decode e ∙ law other y more q) in
      let same : rest ≡ more = ap (λ (r : X × List ℕ). r.1) both in
      let ends : code ++ rest ≡ other ++ rest = e ∙ ap (λ (ys : List ℕ). other ++ ys) (sym same) in
      (ap (λ (r : X × List ℕ). r.0) both, append_cancel_right code other rest ends, same)
