-- Bytes that are enqueued one after the other.
use Rattle.std.proofs.Common.{◌≡◌, ℕ, List, ◌++◌, ap, ◌∙◌, append_assoc, refl}
use Rattle.jdwp_end.specs.Ends.{End, with_enqueued}

pub enqueued-twice : (e : End) (a b : List ℕ) → with_enqueued b (with_enqueued a e) ≡ with_enqueued (a ++ b) e
enqueued-twice e a b = rw (append_assoc e.outgoing a b, append_assoc e.session.enqueued a b) refl

pub two_enqueued : (e e1 e2 : End) (x y h b : List ℕ) → x ≡ h → y ≡ b → e1 ≡ with_enqueued x e → e2 ≡ with_enqueued y e1 → e2 ≡ with_enqueued (h ++ b) e
two_enqueued e e1 e2 x y h b ex ey e1-is e2-is =
    e2-is ∙ ap (λ (z : List ℕ). with_enqueued z e1) ey ∙ ap (λ (z : End). with_enqueued b z) (e1-is ∙ ap (λ (z : List ℕ). with_enqueued z e) ex) ∙ enqueued-twice e h b
