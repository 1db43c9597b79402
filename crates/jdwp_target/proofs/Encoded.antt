-- VM_START and VM_DEATH are encoded by their bytes.
use Rattle.std.proofs.Common.{◌≡◌, ◌⊎◌, ℕ, ◌<◌, ◌^◌, pos, nat_lt, Bool, true, false, List, [], ◌∷◌, ◌++◌, Some, None, refl, arith, inl, inr}
use Rattle.std.proofs.lemmas.Bool.{ltb-true}
use Rattle.byteorder.specs.Endian.{big_bytes}
use Rattle.jdwp_wire.specs.Basic.{EncodesInt, int_canonical}
use Rattle.jdwp_wire.specs.Numbers.{id_refusal}
use Rattle.jdwp_wire.specs.Widths.{Widths}
use Rattle.jdwp_layout.specs.declared.item.Field.TheVariants as field
use Rattle.jdwp_layout.specs.EventKindNumbers as event
use Rattle.jdwp_layout.specs.Grammar.{EncodesEntry}
use Rattle.jdwp_layout.specs.Meanings.{ScalarMeaning, Byte, Int, Object}
use Rattle.jdwp_layout.specs.Shapes.{Events}
use Rattle.jdwp_layout.specs.Writes.{entry_canonical}
use Rattle.jdwp_event.specs.CompositeBytes.{EncodesComposite, composite_canonical, with_policy}
use Rattle.jdwp_event.specs.Composites.{vm_start, vm_death}
use Rattle.jdwp_event.specs.Constants.{policy_byte}
use Rattle.jdwp_event.specs.declared.policy.Policy.{Policy}
use Rattle.jdwp_event.specs.declared.policy.Policy.TheVariants as policies
use Rattle.jdwp_target.specs.Sends.{IsEncoded}

either : (b : Bool) → (b ≡ true) ⊎ (b ≡ false)
either true = inl refl
either false = inr refl

fits : (width n : ℕ) → id_refusal width n ≡ None → n < 256 ^ width
fits width n h = elim (either (nat_lt n (256 ^ width))) [ inl k ↦ ltb-true n (256 ^ width) k | inr k ↦ let bad = rw k at h in absurd cc ]

no-request : EncodesInt (pos 0) (int_canonical (pos 0))
no-request = (0, refl, (omega arith, refl))

-- a composite of one event
alone : (w : Widths) (policy : ℕ) (entry : List ScalarMeaning) → policy < 256 → EncodesEntry w Events entry (entry_canonical w entry) → EncodesComposite w (with_policy policy (entry ∷ [])) (composite_canonical w (with_policy policy (entry ∷ [])))
alone w policy entry small h =
    let code = entry_canonical w entry in
    (big_bytes 4 1 ++ (code ++ []), small, (omega arith, code ++ [], (code, [], h, refl, refl), refl), refl)

start-entry : (w : Widths) (thread : ℕ) → thread < 256 ^ w.object → EncodesEntry w Events (Byte event.VM_START ∷ Int (pos 0) ∷ Object thread ∷ []) (entry_canonical w (Byte event.VM_START ∷ Int (pos 0) ∷ Object thread ∷ []))
start-entry w thread h =
    let id = big_bytes w.object thread in (
      event.VM_START,
      omega arith,
      (
        field.Int ∷ field.ObjectId ∷ [],
        Int (pos 0) ∷ Object thread ∷ [],
        int_canonical (pos 0) ++ (id ++ []),
        refl,
        (int_canonical (pos 0), id ++ [], (refl, no-request), (id, [], (refl, (h, refl)), refl, refl), refl),
        refl,
        refl,
      ),
    )

death-entry : (w : Widths) → EncodesEntry w Events (Byte event.VM_DEATH ∷ Int (pos 0) ∷ []) (entry_canonical w (Byte event.VM_DEATH ∷ Int (pos 0) ∷ []))
death-entry w = (
  event.VM_DEATH,
  omega arith,
  (
    field.Int ∷ [],
    Int (pos 0) ∷ [],
    int_canonical (pos 0) ++ [],
    refl,
    (int_canonical (pos 0), [], (refl, no-request), refl, refl),
    refl,
    refl,
  ),
)

pub start-encoded : (w : Widths) (policy thread : ℕ) → policy < 256 → id_refusal w.object thread ≡ None → IsEncoded w (Some (vm_start policy thread))
start-encoded w policy thread small h = alone w policy (Byte event.VM_START ∷ Int (pos 0) ∷ Object thread ∷ []) small (start-entry w thread (fits w.object thread h))

pub policy-small : (p : Policy) → policy_byte p < 256
policy-small policies.None = omega arith
policy-small policies.EventThread = omega arith
policy-small policies.All = omega arith

pub death-encoded : (w : Widths) → IsEncoded w (Some vm_death)
death-encoded w = alone w 0 (Byte event.VM_DEATH ∷ Int (pos 0) ∷ []) (omega arith) (death-entry w)
