use Rattle.std.proofs.Common.{◌≡◌, ℕ, List, length, take, ◌++◌, subst, sym, ◌∙◌}
use Rattle.std.proofs.Math.Seq.{take-append_seam}
use Rattle.std.proofs.lemmas.Slice.Eq.{bytes_eq-Decides}
use Rattle.jdwp_pair.proofs.loopback.pass.Goals as goal

-- what was read stands in front of what is left of the buffer
stands : (read piece rest : List ℕ) → read ≡ piece → take (length piece) (read ++ rest) ≡ piece
stands read piece rest same = subst (λ (bytes : List ℕ). take (length bytes) (read ++ rest) ≡ bytes) same (take-append_seam read rest)

pub returns-then-eq : goal.returns-then-eq
returns-then-eq g c =
    let read = c.read_exact.new.buf in
    let piece = c.args.piece.now in
    stands read piece _ ((bytes_eq-Decides read piece).0 (sym c.eq.ensures ∙ c.if-eq.true))
