-- Unsigned numbers as bytes, the highest first: a law that byteorder lacks.
use Rattle.std.specs.Prelude.{◌≡◌, ℕ, zero, suc, ◌+◌, ◌*◌, ◌/◌, ◌%◌, ◌^◌, ◌<◌, ◌≤◌, List, [], ◌∷◌, length, take, refl}
use Rattle.std.proofs.Common.{ap, sym, ◌∙◌, arith}
use Rattle.std.proofs.Math.Nat.{mul_assoc, pow-succ', div-eq_of_lt, mod-eq_of_lt, mul-add-div_right, mul-add-mod_self_right, one-le-pow, div-one}
use Rattle.std.specs.Int.{byte_at, bytes_high_first}
use Rattle.byteorder.specs.Endian.{big_from}
use Rattle.byteorder.specs.Numbers.{big_from-cons, big_from-lt}
use Rattle.jdwp_wire.specs.Bytes.{IsBytes}

byte_at-pow : (k x : ℕ) → byte_at k x ≡ x / 256 ^ k % 256
byte_at-pow zero x = ap (λ (y : ℕ). y % 256) (sym (div-one x))
byte_at-pow (suc k) x = refl

pow_pos : (n : ℕ) → zero < 256 ^ n
pow_pos n = let h = one-le-pow n 256 (omega arith) in omega arith

-- the low bytes of a number don't see what stands above them
low_bytes_alone : (n c r : ℕ) → bytes_high_first n (c * 256 ^ n + r) ≡ bytes_high_first n r
low_bytes_alone zero c r = refl
low_bytes_alone (suc n) c r =
    let regroup : c * 256 ^ suc n + r ≡ c * 256 * 256 ^ n + r = rw (pow-succ' 256 n) (ap (λ (x : ℕ). x + r) (sym (mul_assoc c 256 (256 ^ n)))) in
    let tail : bytes_high_first n (c * 256 * 256 ^ n + r) ≡ bytes_high_first n r = low_bytes_alone n (c * 256) r in
    let head : byte_at n (c * 256 * 256 ^ n + r) ≡ byte_at n r =
    byte_at-pow n (c * 256 * 256 ^ n + r) ∙ ap (λ (x : ℕ). x % 256) (mul-add-div_right (pow_pos n) (c * 256) r) ∙ mul-add-mod_self_right c 256 (r / 256 ^ n) ∙ sym (byte_at-pow n r) in
    rw (regroup, head, tail) refl

-- the bytes of the number that bytes make are those bytes
pub bytes_again : (n : ℕ) (xs : List ℕ) → IsBytes xs → n ≤ length xs → bytes_high_first n (big_from 0 n xs) ≡ take n xs
bytes_again zero xs fits le = refl
bytes_again (suc n) [] fits le = absurd (omega arith)
bytes_again (suc n) (a ∷ xs) fits le =
    let below : a < 256 = fits 0 in
    let rest_fits : IsBytes xs = λ i. fits (suc i) in
    let moved = big_from-cons 0 n a xs in
    let small = big_from-lt 0 n xs rest_fits in
    let high : byte_at n (a * 256 ^ n + big_from 0 n xs) ≡ a =
    byte_at-pow n (a * 256 ^ n + big_from 0 n xs) ∙ ap (λ (x : ℕ). x % 256) (mul-add-div_right (pow_pos n) a (big_from 0 n xs) ∙ ap (λ (x : ℕ). a + x) (div-eq_of_lt small) ∙ omega arith) ∙ mod-eq_of_lt below in
    let low = low_bytes_alone n a (big_from 0 n xs) ∙ bytes_again n xs rest_fits (omega arith) in
    rw (moved, high, low) refl
