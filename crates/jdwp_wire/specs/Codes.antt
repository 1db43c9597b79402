-- Readers that give exactly what bytes encode: the laws, and how they are put together.
use Rattle.std.specs.Prelude.{◌≡◌, ℕ, ◌+◌, ◌<◌, List, [], ◌++◌, length, slice_index, Bool, true, false, cond, Result, Ok, Err, refl, ◌⊎◌}
use Rattle.std.proofs.Common.{ap, sym, ◌∙◌, subst, append_assoc, inl, inr}
use Rattle.std.proofs.lemmas.List.{get_or-append-add}
use Rattle.jdwp_wire.specs.declared.data_fault.DataFault.{DataFault}
use Rattle.jdwp_wire.specs.Bytes.{IsBytes}
use Rattle.jdwp_wire.specs.Reading.{Reader, Encoding, Faults, ◌>>=◌}
use Rattle.jdwp_wire.specs.Sequence.{seq, Then, FirstFault, give, Is, NoFault, mapped, Made, unless, When, UnlessFault, refuse, Nothing, Always}

-- ---- the laws

-- what is read is encoded in front
abbrev pub Found : {X : Type 0} → Reader X → Encoding X → Type 0
Found {X = X} decode encodes = (bytes : List ℕ) (x : X) (rest : List ℕ) → IsBytes bytes → decode bytes ≡ Ok (x, rest) → (code : List ℕ) × encodes x code × (bytes ≡ code ++ rest)

-- what is encoded is read, whatever follows
abbrev pub Again : {X : Type 0} → Reader X → Encoding X → Type 0
Again {X = X} decode encodes = (code : List ℕ) (x : X) (rest : List ℕ) → encodes x code → decode (code ++ rest) ≡ Ok (x, rest)

-- what is answered as the fault is the fault
abbrev pub Blamed : {X : Type 0} → Reader X → Faults → Type 0
Blamed decode faults = (bytes : List ℕ) (f : DataFault) → IsBytes bytes → decode bytes ≡ Err f → faults bytes f

-- what is the fault is answered
abbrev pub Judged : {X : Type 0} → Reader X → Faults → Type 0
Judged decode faults = (bytes : List ℕ) (f : DataFault) → faults bytes f → decode bytes ≡ Err f

pub record Codes {X : Type 0} (decode : Reader X) (encodes : Encoding X) (faults : Faults) : Type 0 where
  pub found : Found decode encodes
  pub again : Again decode encodes
  pub blamed : Blamed decode faults
  pub judged : Judged decode faults

-- ---- steps of a reader

-- the value of a step that did not fail
pub bind_ok : {A B : Type 0} (r : Result A DataFault) (f : A → Result B DataFault) (y : B) → (r >>= f) ≡ Ok y → (x : A) × (r ≡ Ok x) × (f x ≡ Ok y)
bind_ok (Ok x) f y e = (x, refl, e)
bind_ok (Err d) f y e = absurd cc

abbrev failed : {A : Type 0} → DataFault → Result A DataFault
failed e = Err e

pub err_is : (A : Type 0) (d f : DataFault) → failed {A = A} d ≡ failed f → d ≡ f
err_is A d f e = cc

-- the same failure of another call
pub failed_too : (A B : Type 0) (d f : DataFault) → failed {A = A} d ≡ failed f → failed {A = B} d ≡ failed f
failed_too A B d f e = ap (λ (y : DataFault). failed {A = B} y) (err_is A d f e)

-- the step that failed
pub bind_err : {A B : Type 0} (r : Result A DataFault) (f : A → Result B DataFault) (d : DataFault) → (r >>= f) ≡ Err d → (r ≡ Err d) ⊎ ((x : A) × (r ≡ Ok x) × (f x ≡ Err d))
bind_err (Ok x) f d e = inr (x, refl, e)
bind_err {A = A} {B = B} (Err c) f d e = inl (ap (λ (y : DataFault). failed {A = A} y) (err_is B c d e))

-- a test that did not fail
pub guard_ok : {A : Type 0} (b : Bool) (d : DataFault) (x : Result A DataFault) (y : A) → cond b (Err d) x ≡ Ok y → (b ≡ false) × (x ≡ Ok y)
guard_ok true d x y e = absurd cc
guard_ok false d x y e = (refl, e)

pub must_ok : {A : Type 0} (b : Bool) (d : DataFault) (x : Result A DataFault) (y : A) → cond b x (Err d) ≡ Ok y → (b ≡ true) × (x ≡ Ok y)
must_ok true d x y e = (refl, e)
must_ok false d x y e = absurd cc

-- a test, or what stands behind it, that failed
pub guard_err : {A : Type 0} (b : Bool) (d : DataFault) (x : Result A DataFault) (f : DataFault) → cond b (Err d) x ≡ Err f → ((b ≡ true) × (f ≡ d)) ⊎ ((b ≡ false) × (x ≡ Err f))
guard_err {A = A} true d x f e = inl (refl, sym (err_is A d f e))
guard_err false d x f e = inr (refl, e)

abbrev done : {A : Type 0} → A → Result A DataFault
done x = Ok x

pub ok_is : {A : Type 0} (x y : A) → done x ≡ done y → x ≡ y
ok_is x y e = cc

-- the rest of bytes are bytes
pub IsBytes-rest : (code rest bytes : List ℕ) → bytes ≡ code ++ rest → IsBytes bytes → IsBytes rest
IsBytes-rest code rest bytes e fits i =
    let moved : slice_index bytes (length code + i) ≡ slice_index rest i = rw e (get_or-append-add code rest i 0) in
    subst (λ n. n < 256) moved (fits (length code + i))

-- two parts in front, one after the other
pub joined : (front back rest bytes after : List ℕ) → bytes ≡ front ++ after → after ≡ back ++ rest → bytes ≡ (front ++ back) ++ rest
joined front back rest bytes after e d = e ∙ ap (λ (xs : List ℕ). front ++ xs) d ∙ sym (append_assoc front back rest)

-- ---- laws put together

pub seq_codes : {A B : Type 0} {decode : Reader A} {next : A → Reader B} {P : Encoding A} {Q : A → Encoding B} {F : Faults} {G : A → Faults}
    → Codes decode P F → ((x : A) → Codes (next x) (Q x) (G x)) → Codes (seq decode next) (Then P Q) (FirstFault P F G)
seq_codes {A = A} {B = B} {decode = decode} {next = next} {F = F} {G = G} law laws = record {
  found = λ bytes y rest fits e.
      let a = bind_ok (decode bytes) (λ x. next x.0 x.1) (y, rest) e in
      let t = law.found bytes a.0.0 a.0.1 fits a.1 in
      let u = (laws a.0.0).found a.0.1 y rest (IsBytes-rest t.0 a.0.1 bytes t.2 fits) a.2 in
      (t.0 ++ u.0, (a.0.0, t.0, u.0, t.1, u.1, refl), joined t.0 u.0 rest bytes a.0.1 t.2 u.2);
  again = λ code y rest (x, front, back, p, q, e).
      let regroup : code ++ rest ≡ front ++ (back ++ rest) = rw e (append_assoc front back rest) in
      rw (regroup, law.again front x (back ++ rest) p) ((laws x).again back y rest q);
  blamed = λ bytes f fits e. elim (bind_err (decode bytes) (λ x. next x.0 x.1) f e) [
    | inl first ↦ inl (law.blamed bytes f fits first)
    | inr (x, ok, later) ↦
        let t = law.found bytes x.0 x.1 fits ok in
        inr (x.0, t.0, x.1, t.1, t.2, (laws x.0).blamed x.1 f (IsBytes-rest t.0 x.1 bytes t.2 fits) later)
  ];
  judged = λ bytes f h. elim h [
    | inl first ↦ rw (law.judged bytes f first) refl
    | inr (x, front, back, p, parts, later) ↦ rw (parts, law.again front x back p) ((laws x).judged back f later)
  ];
}

pub give_codes : {A : Type 0} (x : A) → Codes (give x) (Is x) NoFault
give_codes {A = A} x = record {
  found = λ bytes y rest fits e.
      let both = ok_is (x, bytes) (y, rest) e in
      ([], (sym (ap (λ (p : A × List ℕ). p.0) both), refl), ap (λ (p : A × List ℕ). p.1) both);
  again = λ code y rest (same, e). rw (same, e) refl;
  blamed = λ bytes f fits e. absurd cc;
  judged = λ bytes f h. absurd h;
}

pub mapped_codes : {A B : Type 0} (make : A → B) {decode : Reader A} {P : Encoding A} {F : Faults} → Codes decode P F → Codes (mapped make decode) (Made make P) F
mapped_codes {A = A} {B = B} make {decode = decode} {P = P} law = record {
  found = λ bytes y rest fits e.
      let a = bind_ok (decode bytes) (λ x. Ok (make x.0, x.1)) (y, rest) e in
      let t = law.found bytes a.0.0 a.0.1 fits a.1 in
      subst (λ (p : B × List ℕ). (code : List ℕ) × Made make P p.0 code × (bytes ≡ code ++ p.1)) (ok_is (make a.0.0, a.0.1) (y, rest) a.2) (t.0, (a.0.0, refl, t.1), t.2);
  again = λ code y rest (x, is, p). rw (law.again code x rest p, is) refl;
  blamed = λ bytes f fits e. elim (bind_err (decode bytes) (λ x. Ok (make x.0, x.1)) f e) [
    | inl first ↦ law.blamed bytes f fits first
    | inr (x, ok, later) ↦ absurd cc
  ];
  judged = λ bytes f h. rw (law.judged bytes f h) refl;
}

pub unless_codes : {A : Type 0} (b : Bool) (d : DataFault) {decode : Reader A} {P : Encoding A} {F : Faults} → (b ≡ false → Codes decode P F) → Codes (unless b d decode) (When (b ≡ false) P) (UnlessFault b d F)
unless_codes b d {decode = decode} law = record {
  found = λ bytes y rest fits e.
      let g = guard_ok b d (decode bytes) (y, rest) e in
      let t = (law g.0).found bytes y rest fits g.1 in
      (t.0, (g.0, t.1), t.2);
  again = λ code y rest (off, p). rw off ((law off).again code y rest p);
  blamed = λ bytes f fits e. elim (guard_err b d (decode bytes) f e) [
    | inl (on, is) ↦ inl (on, is)
    | inr (off, later) ↦ inr (off, (law off).blamed bytes f fits later)
  ];
  judged = λ bytes f h. elim h [
    | inl (on, is) ↦ rw (on, is) refl
    | inr (off, later) ↦ rw off ((law off).judged bytes f later)
  ];
}

pub refuse_codes : {A : Type 0} (d : DataFault) → Codes (refuse {A = A} d) Nothing (Always d)
refuse_codes {A = A} d = record {
  found = λ bytes y rest fits e. absurd cc;
  again = λ code y rest h. absurd h;
  blamed = λ bytes f fits e. sym (err_is (A × List ℕ) d f e);
  judged = λ bytes f is. rw is refl;
}

-- the same under another name for the encoding
pub codes_as : {A : Type 0} {decode : Reader A} {P : Encoding A} {F : Faults} (Q : Encoding A)
    → ((y : A) (code : List ℕ) → P y code → Q y code) → ((y : A) (code : List ℕ) → Q y code → P y code) → Codes decode P F → Codes decode Q F
codes_as Q into back law = record {
  found = λ bytes y rest fits e. let t = law.found bytes y rest fits e in (t.0, into y t.0 t.1, t.2);
  again = λ code y rest q. law.again code y rest (back y code q);
  blamed = law.blamed;
  judged = law.judged;
}

-- the same under another name for the faults
pub faults_as : {A : Type 0} {decode : Reader A} {P : Encoding A} {F : Faults} (G : Faults)
    → ((bytes : List ℕ) (f : DataFault) → IsBytes bytes → F bytes f → G bytes f) → ((bytes : List ℕ) (f : DataFault) → G bytes f → F bytes f) → Codes decode P F → Codes decode P G
faults_as G into back law = record {
  found = law.found;
  again = law.again;
  blamed = λ bytes f fits e. into bytes f fits (law.blamed bytes f fits e);
  judged = λ bytes f g. law.judged bytes f (back bytes f g);
}
