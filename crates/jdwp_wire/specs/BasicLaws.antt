-- The readers of bytes, booleans, ints and longs give exactly what bytes encode.
use Rattle.std.specs.Prelude.{◌≡◌, ℕ, zero, suc, ◌<◌, List, [], ◌∷◌, ◌++◌, Bool, true, false, refl}
use Rattle.std.specs.Int.{w32, w64, cast_signed}
use Rattle.std.proofs.Common.{ap, sym, arith, subst}
use Rattle.jdwp_wire.specs.declared.data_fault.DataFault.TheVariants.{Short}
use Rattle.jdwp_wire.specs.Numbers.{NumberFault}
use Rattle.jdwp_wire.specs.NumberLaws.{number_codes}
use Rattle.jdwp_wire.specs.Basic.{EncodesByte, ByteFault, byte_at, EncodesBool, bool_at, EncodesInt, int_at, EncodesLong, long_at}
use Rattle.jdwp_wire.specs.Codes.{Found, Again, Blamed, Judged, Codes, mapped_codes, ok_is, err_is}

byte_found : (whole : ℕ) → Found (byte_at whole) EncodesByte
byte_found whole [] x rest fits e = absurd cc
byte_found whole (b ∷ bytes) x rest fits e =
    let both = ok_is (b, bytes) (x, rest) e in
    let first : b ≡ x = ap (λ (p : ℕ × List ℕ). p.0) both in
    let second : bytes ≡ rest = ap (λ (p : ℕ × List ℕ). p.1) both in
    (x ∷ [], (subst (λ n. n < 256) first (fits 0), refl), cc)

byte_again : (whole : ℕ) → Again (byte_at whole) EncodesByte
byte_again whole code x rest s = rw (s.1) refl

byte_blamed : (whole : ℕ) → Blamed (byte_at whole) (ByteFault whole)
byte_blamed whole [] f fits e = (sym (err_is (ℕ × List ℕ) (Short whole) f e), refl)
byte_blamed whole (b ∷ bytes) f fits e = absurd cc

byte_judged : (whole : ℕ) → Judged (byte_at whole) (ByteFault whole)
byte_judged whole bytes f (is, none) = rw (none, is) refl

pub byte_codes : (whole : ℕ) → Codes (byte_at whole) EncodesByte (ByteFault whole)
byte_codes whole = record { found = byte_found whole; again = byte_again whole; blamed = byte_blamed whole; judged = byte_judged whole }

bool_found : (whole : ℕ) → Found (bool_at whole) EncodesBool
bool_found whole [] x rest fits e = absurd cc
bool_found whole (zero ∷ bytes) x rest fits e =
    let both = ok_is (false, bytes) (x, rest) e in
    subst (λ (p : Bool × List ℕ). (code : List ℕ) × EncodesBool p.0 code × (0 ∷ bytes ≡ code ++ p.1)) both (0 ∷ [], refl, refl)
bool_found whole (suc b ∷ bytes) x rest fits e =
    let both = ok_is (true, bytes) (x, rest) e in
    subst (λ (p : Bool × List ℕ). (code : List ℕ) × EncodesBool p.0 code × (suc b ∷ bytes ≡ code ++ p.1)) both (suc b ∷ [], (suc b, omega arith, fits 0, refl), refl)

bool_again : (whole : ℕ) → Again (bool_at whole) EncodesBool
bool_again whole code false rest s = rw s refl
bool_again whole code true rest (zero, pos, fits, s) = absurd (omega arith)
bool_again whole code true rest (suc b, pos, fits, s) = rw s refl

bool_blamed : (whole : ℕ) → Blamed (bool_at whole) (ByteFault whole)
bool_blamed whole [] f fits e = (sym (err_is (Bool × List ℕ) (Short whole) f e), refl)
bool_blamed whole (zero ∷ bytes) f fits e = absurd cc
bool_blamed whole (suc b ∷ bytes) f fits e = absurd cc

bool_judged : (whole : ℕ) → Judged (bool_at whole) (ByteFault whole)
bool_judged whole bytes f (is, none) = rw (none, is) refl

pub bool_codes : (whole : ℕ) → Codes (bool_at whole) EncodesBool (ByteFault whole)
bool_codes whole = record { found = bool_found whole; again = bool_again whole; blamed = bool_blamed whole; judged = bool_judged whole }

pub int_codes : (whole : ℕ) → Codes (int_at whole) EncodesInt (NumberFault 4 whole)
int_codes whole = mapped_codes (cast_signed w32) (number_codes 4 whole)

pub long_codes : (whole : ℕ) → Codes (long_at whole) EncodesLong (NumberFault 8 whole)
long_codes whole = mapped_codes (cast_signed w64) (number_codes 8 whole)
