-- Of a composite that is read: what has to be kept, and what follows it.
use Rattle.std.proofs.Common.{◌≡◌, ℕ, List, ◌++◌, Ok, ap, ◌∙◌}
use Rattle.jdwp_wire.specs.Widths.{Widths}
use Rattle.jdwp_wire.specs.Bytes.{IsBytes}
use Rattle.jdwp_wire.specs.Reading.{passed}
use Rattle.jdwp_wire.specs.Basic.{byte_at}
use Rattle.jdwp_wire.specs.BasicLaws.{byte_codes}
use Rattle.jdwp_wire.specs.Numbers.{count_at}
use Rattle.jdwp_wire.specs.Each.{times_at}
use Rattle.jdwp_wire.specs.Codes.{IsBytes-rest}
use Rattle.jdwp_wire.proofs.Passed.{passed_mapped}
use Rattle.jdwp_layout.specs.Shapes.{Events}
use Rattle.jdwp_layout.specs.Keeping.{EntriesAreKept}
use Rattle.jdwp_layout.specs.Reads.{entry_at}
use Rattle.jdwp_layout.proofs.Keeps.{list_is_kept}
use Rattle.jdwp_event.specs.CompositeBytes.{with_policy, composite_at, CompositeIsKept}

pub composite_is_kept : (w : Widths) (whole : ℕ) (bytes : List ℕ) (policy : ℕ) (behind : List ℕ) (n : ℕ) (events : List ℕ) → IsBytes bytes → byte_at whole bytes ≡ Ok (policy, behind)
    → count_at whole behind ≡ Ok (n, events) → EntriesAreKept w Events n events → CompositeIsKept w bytes
composite_is_kept w whole bytes policy behind n events fits byte count kept =
    let t = (byte_codes whole).found bytes policy behind fits byte in
    (policy, behind, t.2 ∙ ap (λ (x : List ℕ). x ++ behind) t.1.1, list_is_kept w whole Events behind n events (IsBytes-rest t.0 behind bytes t.2 fits) count kept)

pub composite_passes : (w : Widths) (whole : ℕ) (bytes : List ℕ) (policy : ℕ) (behind : List ℕ) (n : ℕ) (events : List ℕ) → byte_at whole bytes ≡ Ok (policy, behind) → count_at whole behind ≡ Ok (n, events)
    → passed (composite_at w whole bytes) ≡ passed (times_at (entry_at w whole Events) n events)
composite_passes w whole bytes policy behind n events byte count = rw (byte, count) (passed_mapped (with_policy policy) (times_at (entry_at w whole Events) n events))
