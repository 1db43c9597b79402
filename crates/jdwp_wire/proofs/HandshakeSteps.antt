-- The handshake, byte by byte.
use Rattle.std.proofs.Common.{◌≡◌, ◌≤◌, ◌<◌, ℕ, ◌+◌, List, length, get_or, drop, cond, eqb, refl, ap, arith}
use Rattle.std.proofs.lemmas.List.{drop_more, drop_all}
use Rattle.jdwp_wire.specs.declared.frame.NextHello.TheVariants as hello
use Rattle.jdwp_wire.specs.declared.frame.FrameFault.TheVariants.{BadHandshake}
use Rattle.jdwp_wire.specs.Handshake.{handshake_from}

pub step_on : (i : ℕ) (xs bytes : List ℕ) → i < length xs → i < length bytes → handshake_from i (drop i xs) (drop i bytes) ≡ cond (eqb (get_or bytes i 0) (get_or xs i 0)) (handshake_from (i + 1) (drop (i + 1) xs) (drop (i + 1) bytes)) (hello.Fault (BadHandshake i))
step_on i xs bytes p q = rw (drop_more xs i 0 p, drop_more bytes i 0 q) (ap (λ (n : ℕ). cond (eqb (get_or bytes i 0) (get_or xs i 0)) (handshake_from n (drop (i + 1) xs) (drop (i + 1) bytes)) (hello.Fault (BadHandshake i))) (omega arith))

pub runs_out : (i : ℕ) (xs bytes : List ℕ) → i < length xs → length bytes ≤ i → handshake_from i (drop i xs) (drop i bytes) ≡ hello.More
runs_out i xs bytes p q = rw (drop_more xs i 0 p, drop_all i bytes q) refl

pub all_compared : (i : ℕ) (xs bytes : List ℕ) → length xs ≤ i → handshake_from i (drop i xs) (drop i bytes) ≡ hello.Whole
all_compared i xs bytes p = rw (drop_all i xs p) refl
