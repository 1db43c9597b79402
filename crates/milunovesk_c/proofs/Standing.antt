-- Packets that stand one behind the other, and one more behind them.
use Rattle.std.proofs.Common.{◌≡◌, ℕ, ◌+◌, ◌==◌, Bool, true, false, cond, List, [], ◌∷◌, ◌++◌, Some, None, subst, arith}
use Rattle.jdwp_wire.specs.Frames.{Front, Whole, More, Fault}
use Rattle.milunovesk_c.specs.Numbers.{NOTHING_LEFT, BEGINNING_LEFT, PACKET_LEFT}
use Rattle.milunovesk_c.specs.Packets.{StandFrom, front_at, left_of, length_of}

pub StandFrom-snoc : (bytes : List ℕ) (place : ℕ) (places : List ℕ) (behind n : ℕ) → StandFrom bytes place places behind
    → length_of (front_at bytes behind) ≡ Some n → StandFrom bytes place (places ++ behind ∷ []) (behind + n)
StandFrom-snoc bytes place [] behind n e there =
    let P : ℕ → Type 0 = λ k. length_of (front_at bytes k) ≡ Some n in
    let same : behind + n ≡ place + n = omega (arith, e) in (e, (n, subst P e there, same))
StandFrom-snoc bytes place (at ∷ places) behind n (first, (m, whole, others)) there =
    (first, (m, whole, StandFrom-snoc bytes (place + m) places behind n others there))

neither : (b : Bool) → cond b NOTHING_LEFT BEGINNING_LEFT ≡ PACKET_LEFT → ⊥
neither true e = omega (arith, e)
neither false e = omega (arith, e)

-- where a packet is left, one stands there
pub left-packet : (behind : ℕ) (front : Front) → left_of behind front ≡ PACKET_LEFT → length_of front ≡ None → ⊥
left-packet behind (Whole header body used) e none = cc
left-packet behind More e none = neither (behind == 0) e
left-packet behind (Fault fault) e none = omega (arith, e)
