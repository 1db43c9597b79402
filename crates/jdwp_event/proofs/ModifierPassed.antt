-- What follows a modifier is what follows its entry.
use Rattle.std.proofs.Common.{◌≡◌, ℕ, List, Result, Ok, Err, refl}
use Rattle.jdwp_wire.specs.declared.data_fault.DataFault.{DataFault}
use Rattle.jdwp_wire.specs.Widths.{Widths}
use Rattle.jdwp_wire.specs.Bytes.{IsBytes}
use Rattle.jdwp_wire.specs.Reading.{◌>>=◌, passed}
use Rattle.jdwp_layout.specs.Shapes.{Modifiers}
use Rattle.jdwp_layout.specs.Meanings.{ScalarMeaning}
use Rattle.jdwp_layout.specs.Reads.{entry_at}
use Rattle.jdwp_layout.specs.EntryLaws.{entry_codes}
use Rattle.jdwp_event.specs.Modifiers.{modifier_of}
use Rattle.jdwp_event.specs.ModifierBytes.{give_found, modifier_at}
use Rattle.jdwp_event.specs.ModifierLaws.{entry_is, found_is}

module _ (w : Widths) (whole : ℕ) (bytes : List ℕ) (fits : IsBytes bytes) where
  read_passes : (r : Result (List ScalarMeaning × List ℕ) DataFault) → entry_at w whole Modifiers bytes ≡ r → passed (r >>= λ x. give_found (modifier_of x.0) x.1) ≡ passed r
  read_passes (Err f) e = refl
  read_passes (Ok x) e =
      let t = (entry_codes w whole Modifiers).found bytes x.0 x.1 fits e in
      let m = entry_is w x.0 t.0 t.1 in
      rw (found_is x.0 m.0 m.1) refl

  pub modifier_passes : passed (modifier_at w whole bytes) ≡ passed (entry_at w whole Modifiers bytes)
  modifier_passes = read_passes (entry_at w whole Modifiers bytes) refl
