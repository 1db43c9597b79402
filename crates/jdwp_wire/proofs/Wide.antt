-- Eight bytes and more hold every number of 64 bits.
use Rattle.std.proofs.Common.{◌≡◌, ◌≤◌, ◌<◌, ◌+◌, ◌*◌, ◌-◌, ◌^◌, ℕ, zero, suc, sym, subst, arith}
use Rattle.std.proofs.Math.Nat.{pow-suc}

wide : (n k : ℕ) → n < 2 ^ 64 → n < 256 ^ (8 + k)
wide n zero lt = omega (arith, lt)
wide n (suc k) lt =
    let before = wide n k lt in
    let more : 256 ^ suc (8 + k) ≡ 256 ^ (8 + k) * 256 = pow-suc 256 (8 + k) in
    let next : 8 + suc k ≡ suc (8 + k) = omega arith in
    let more_than : n < 256 ^ suc (8 + k) = omega (arith, before, more) in
    subst (λ (m : ℕ). n < 256 ^ m) (sym next) more_than

pub wide_at : (n width : ℕ) → 8 ≤ width → n < 2 ^ 64 → n < 256 ^ width
wide_at n width le lt =
    let is : 8 + (width - 8) ≡ width = omega (arith, le) in
    subst (λ (m : ℕ). n < 256 ^ m) is (wide n (width - 8) lt)
