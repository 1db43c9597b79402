-- Reading a string, as the code does.
use Rattle.std.specs.Prelude.{◌==◌}
use Rattle.std.proofs.Common.{◌≡◌, ◌≤◌, ◌<◌, ℕ, List, [], ◌∷◌, arith, length, take, drop, false, Ok, Err, refl}
use Rattle.std.specs.Str.{IsUtf8}
use Rattle.std.proofs.lemmas.Bool.{le-ltb}
use Rattle.std.proofs.lemmas.Str.{is_utf8-from_IsUtf8}
use Rattle.jdwp_wire.specs.declared.data_fault.DataFault.TheVariants.{NotUtf8}
use Rattle.jdwp_wire.specs.Numbers.{count_at}
use Rattle.jdwp_wire.specs.Bytes.{IsBytes}
use Rattle.jdwp_wire.specs.Text.{TextIsKept, text_at}
use Rattle.jdwp_wire.specs.TextLaws.{text_codes, not_utf8}

pub text_reads : (whole n : ℕ) (bytes after : List ℕ) → count_at whole bytes ≡ Ok (n, after) → n ≤ length after → IsUtf8 (take n after) → text_at whole bytes ≡ Ok (take n after, drop n after)
text_reads whole n bytes after e le utf8 = rw (e, le-ltb (length after) n le, is_utf8-from_IsUtf8 (take n after) utf8) refl

pub text_refuses : (whole n : ℕ) (bytes after : List ℕ) → count_at whole bytes ≡ Ok (n, after) → n ≤ length after → (IsUtf8 (take n after) → ⊥) → text_at whole bytes ≡ Err NotUtf8
text_refuses whole n bytes after e le bad = rw (e, le-ltb (length after) n le, not_utf8 (take n after) bad) refl

some_bytes : (s : List ℕ) → (length s == 0) ≡ false → 0 < length s
some_bytes [] e = absurd cc
some_bytes (x ∷ xs) e = omega arith

pub text_is_kept : (whole : ℕ) (bytes text after : List ℕ) → IsBytes bytes → text_at whole bytes ≡ Ok (text, after) → (length text == 0) ≡ false → TextIsKept bytes
text_is_kept whole bytes text after fits e some =
    let t = (text_codes whole).found bytes text after fits e in
    (text, t.0, after, (some_bytes text some, t.1), t.2)
