-- The reader of tags gives exactly what bytes encode.
use Rattle.std.specs.Prelude.{◌≡◌, ◌≢◌, ℕ, ◌<◌, List, [], ◌∷◌, ◌++◌, cond, Option, Some, None, IfSome, refl}
use Rattle.std.proofs.Common.{ap, sym, ◌∙◌, arith, eqb, inl, inr}
use Rattle.std.proofs.lemmas.Bool.Decides.{eqb_tells}
use Rattle.jdwp_wire.specs.declared.data_fault.DataFault.{DataFault}
use Rattle.jdwp_wire.specs.declared.data_fault.DataFault.TheVariants.{BadTag}
use Rattle.jdwp_wire.specs.Reading.{Encoding, Faults}
use Rattle.jdwp_wire.specs.Sequence.{Is, NoFault, Nothing, Always}
use Rattle.jdwp_wire.specs.BasicLaws.{byte_codes}
use Rattle.jdwp_wire.specs.Codes.{Codes, seq_codes, give_codes, refuse_codes, codes_as, faults_as}
use Rattle.jdwp_value.specs.declared.tag.ObjectTag.TheVariants as kind
use Rattle.jdwp_value.specs.declared.tag.Tag.{Tag}
use Rattle.jdwp_value.specs.declared.tag.Tag.TheVariants as tag
use Rattle.jdwp_value.specs.Tags.{tag_byte, EncodesTag, TagFault, tag_of_byte, tag_found, tag_at}

pick : (b k : ℕ) (t found : Tag) (more : Option Tag) → k ≡ tag_byte t → (more ≡ Some found → b ≡ tag_byte found) → cond (eqb b k) (Some t) more ≡ Some found → b ≡ tag_byte found
pick b k t found more is others e = elim (eqb_tells b k) [
  | inl (same, b-is) ↦ let g = rw same at e in let h : t ≡ found = cc in b-is ∙ is ∙ ap tag_byte h
  | inr (other, b-not) ↦ others (rw other at e)
]

-- the byte of the tag that is found
pub tag_is : (b : ℕ) (found : Tag) → tag_of_byte b ≡ Some found → b ≡ tag_byte found
tag_is b found e =
    pick b 66 tag.Byte found _ refl (λ e0.
    pick b 67 tag.Char found _ refl (λ e1.
    pick b 68 tag.Double found _ refl (λ e2.
    pick b 70 tag.Float found _ refl (λ e3.
    pick b 73 tag.Int found _ refl (λ e4.
    pick b 74 tag.Long found _ refl (λ e5.
    pick b 83 tag.Short found _ refl (λ e6.
    pick b 86 tag.Void found _ refl (λ e7.
    pick b 90 tag.Boolean found _ refl (λ e8.
    pick b 91 (tag.Object kind.Array) found _ refl (λ e9.
    pick b 76 (tag.Object kind.Object) found _ refl (λ e10.
    pick b 115 (tag.Object kind.String) found _ refl (λ e11.
    pick b 116 (tag.Object kind.Thread) found _ refl (λ e12.
    pick b 103 (tag.Object kind.ThreadGroup) found _ refl (λ e13.
    pick b 108 (tag.Object kind.ClassLoader) found _ refl (λ e14.
    pick b 99 (tag.Object kind.ClassObject) found _ refl (λ e15.
    absurd cc) e14) e13) e12) e11) e10) e9) e8) e7) e6) e5) e4) e3) e2) e1) e0) e

pub found_is_tag : (b : ℕ) (found : Option Tag) → tag_of_byte b ≡ found → IfSome found (λ t. tag_byte t ≡ b)
found_is_tag b None e = tt
found_is_tag b (Some t) e = sym (tag_is b t e)

-- the tag of a tag's byte
pub tag_again : (t : Tag) → tag_of_byte (tag_byte t) ≡ Some t
tag_again tag.Byte = refl
tag_again tag.Char = refl
tag_again tag.Double = refl
tag_again tag.Float = refl
tag_again tag.Int = refl
tag_again tag.Long = refl
tag_again tag.Short = refl
tag_again tag.Void = refl
tag_again tag.Boolean = refl
tag_again (tag.Object kind.Array) = refl
tag_again (tag.Object kind.Object) = refl
tag_again (tag.Object kind.String) = refl
tag_again (tag.Object kind.Thread) = refl
tag_again (tag.Object kind.ThreadGroup) = refl
tag_again (tag.Object kind.ClassLoader) = refl
tag_again (tag.Object kind.ClassObject) = refl

pub tag_small : (t : Tag) → tag_byte t < 256
tag_small tag.Byte = omega arith
tag_small tag.Char = omega arith
tag_small tag.Double = omega arith
tag_small tag.Float = omega arith
tag_small tag.Int = omega arith
tag_small tag.Long = omega arith
tag_small tag.Short = omega arith
tag_small tag.Void = omega arith
tag_small tag.Boolean = omega arith
tag_small (tag.Object kind.Array) = omega arith
tag_small (tag.Object kind.Object) = omega arith
tag_small (tag.Object kind.String) = omega arith
tag_small (tag.Object kind.Thread) = omega arith
tag_small (tag.Object kind.ThreadGroup) = omega arith
tag_small (tag.Object kind.ClassLoader) = omega arith
tag_small (tag.Object kind.ClassObject) = omega arith

-- two tags of one byte are one
pub tag_byte-injective : (s t : Tag) → tag_byte s ≡ tag_byte t → s ≡ t
tag_byte-injective s t e = let both = sym (tag_again s) ∙ ap tag_of_byte e ∙ tag_again t in cc

no_tag : (b : ℕ) → tag_of_byte b ≡ None → (t : Tag) → b ≢ tag_byte t
no_tag b none t is = let found = sym none ∙ ap tag_of_byte is ∙ tag_again t in cc

-- what the byte told
abbrev FoundIs : Option Tag → Encoding Tag
FoundIs None = Nothing
FoundIs (Some t) = Is t

abbrev FoundFault : Option Tag → Faults
FoundFault None = Always BadTag
FoundFault (Some t) = NoFault

found_codes : (found : Option Tag) → Codes (tag_found found) (FoundIs found) (FoundFault found)
found_codes None = refuse_codes BadTag
found_codes (Some t) = give_codes t

found_is : (b : ℕ) (found : Option Tag) (t : Tag) (back : List ℕ) → tag_of_byte b ≡ found → FoundIs found t back → (b ≡ tag_byte t) × (back ≡ [])
found_is b None t back e h = absurd h
found_is b (Some s) t back e (same, nil) = (tag_is b s e ∙ ap tag_byte (sym same), nil)

found_fault : (b : ℕ) (found : Option Tag) (back : List ℕ) (f : DataFault) → tag_of_byte b ≡ found → FoundFault found back f → (f ≡ BadTag) × ((t : Tag) → b ≢ tag_byte t)
found_fault b None back f e is = (is, no_tag b e)
found_fault b (Some t) back f e h = absurd h

fault_found : (b : ℕ) (found : Option Tag) (back : List ℕ) (f : DataFault) → tag_of_byte b ≡ found → f ≡ BadTag → ((t : Tag) → b ≢ tag_byte t) → FoundFault found back f
fault_found b None back f e is none = is
fault_found b (Some t) back f e is none = absurd (none t (tag_is b t e))

pub tag_codes : (whole : ℕ) → Codes (tag_at whole) EncodesTag (TagFault whole)
tag_codes whole = faults_as (TagFault whole)
    (λ bytes f fits h. elim h [
      | inl short ↦ inl short
      | inr (b, front, back, (small, front-is), parts, later) ↦
          let bad = found_fault b (tag_of_byte b) back f refl later in
          inr (bad.0, (b, back, small, parts ∙ ap (λ (xs : List ℕ). xs ++ back) front-is, bad.1))
    ])
    (λ bytes f h. elim h [
      | inl short ↦ inl short
      | inr (is, (b, rest, small, parts, none)) ↦ inr (b, b ∷ [], rest, (small, refl), parts, fault_found b (tag_of_byte b) rest f refl is none)
    ])
    (codes_as EncodesTag
    (λ t code (b, front, back, (small, front-is), h, e). let is = found_is b (tag_of_byte b) t back refl h in rw (e, front-is, is.0, is.1) refl)
    (λ t code e. (tag_byte t, tag_byte t ∷ [], [], (tag_small t, refl), rw (tag_again t) (refl, refl), e))
    (seq_codes (byte_codes whole) (λ b. found_codes (tag_of_byte b))))
