use Rattle.std.proofs.Common.{◌≡◌, ◌+◌, ◌*◌, ◌/◌, ◌%◌, ◌<◌, ℕ, List, [], length, get_or, slice_index, refl, ap, add-zero, subst, ◌∙◌, lit<, arith}
use Rattle.jdwp_show.proofs.DigitLemmas.{IsValue, digit_at, decoding_none, decoding_more, decoded}
use Rattle.jdwp_show.proofs.hex_digits.decode_into.Goals as goal

pub loop-i-init : goal.loop-i-init
loop-i-init c = decoding_none c.args.digits.now c.args.bytes.now

pub loop-i-preserved : goal.loop-i-preserved
loop-i-preserved c =
    let s = c.args.digits.now in
    let i = c.loop-i.i in
    let fits : 2 * i + 1 < length s = omega arith in
    let room : i < length c.loop-i.bytes = omega arith in
    let a : ℕ = slice_index s (2 * i) in
    let b : ℕ = slice_index s (2 * i + 1) in
    let same : (j : ℕ) → j < 2 → get_or (get_or c.as_chunks.result.0.now i []) j 0 ≡ get_or s (2 * i + j) 0 =
    λ j low. ap (λ (p : List (List ℕ)). get_or (get_or p i []) j 0) c.as_chunks.ensures.front ∙ digit_at (length s / 2) s i j (omega arith) low in
    let one = same 0 (lit< tt) ∙ ap (λ (n : ℕ). get_or s n 0) (add-zero (2 * i)) in
    let other = same 1 (lit< tt) in
    let both : c.from_le_bytes-both.result ≡ a + b * 256 = omega (arith, c.from_le_bytes-both.ensures, one, other) in
    let low_a = c.type_inv.digits (2 * i) in
    let low_b = c.type_inv.digits (2 * i + 1) in
    let high : c.from_le_bytes-both.result % 256 ≡ a = omega (arith, both, low_a, low_b) in
    let low : c.from_le_bytes-both.result / 256 ≡ b = omega (arith, both, low_a, low_b) in
    let first : IsValue a c.digit_value-high.result = subst (λ (d : ℕ). IsValue d c.digit_value-high.result) high (record { value = c.digit_value-high.ensures.value; is_digit = c.digit_value-high.ensures.is_digit }) in
    let second : IsValue b c.digit_value-low.result = subst (λ (d : ℕ). IsValue d c.digit_value-low.result) low (record { value = c.digit_value-low.ensures.value; is_digit = c.digit_value-low.ensures.is_digit }) in
    decoding_more s c.loop-i.bytes i c.loop-i.worst c.digit_value-high.result c.digit_value-low.result _ _ fits room refl (λ lt. let parts = c.larger-worst.ensures.0 lt in let two = c.larger-pair.ensures.0 parts.1 in (parts.0, two.0, two.1)) (λ w h l. c.larger-worst.ensures.1 (w, c.larger-pair.ensures.1 (h, l))) first second c.loop-i.invariant

pub returns : goal.returns
returns c = decoded c.args.digits.now c.loop-i.bytes c.loop-i.i c.loop-i.worst (omega arith) (omega arith) c.loop-i.invariant
