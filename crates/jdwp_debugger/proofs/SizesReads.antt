-- The reply to IDSizes, in which no id stands, is read by any widths.
use Rattle.std.proofs.Common.{◌≡◌, ◌∙◌, ℕ, zero, suc, true, List, [], ◌∷◌, ◌++◌, Some, pos, refl, sym, ap, subst, arith}
use Rattle.std.specs.Int.{w32}
use Rattle.std.proofs.lemmas.Bool.{le-leb}
use Rattle.std.proofs.lemmas.Int.{to_z_pos}
use Rattle.jdwp_wire.specs.Basic.{EncodesInt, int_canonical}
use Rattle.jdwp_wire.specs.ErrorCodes.{NONE}
use Rattle.jdwp_wire.specs.Widths.{AreWidths, IsWidth, Widths}
use Rattle.jdwp_layout.specs.declared.answer.Answer.{Answer}
use Rattle.jdwp_layout.specs.declared.answer.Answer.TheVariants.{Data, Error}
use Rattle.jdwp_layout.specs.declared.item.Field.TheVariants as field
use Rattle.jdwp_layout.specs.Grammar.{EncodesData, EncodesItem}
use Rattle.jdwp_layout.specs.Meanings.{Byte, Boolean, Int, Long, Text, Object, ReferenceType, Method, OfField, Frame, Located, Valued, Tagged, DatumMeaning, One, Many, Elements, Raw}
use Rattle.jdwp_layout.specs.Shapes.{ItemShape, OneOf}
use Rattle.jdwp_layout.specs.Writes.{data_canonical, datum_canonical}
use Rattle.jdwp_action.specs.AnswerPackets.{sizes_answer, EncodesAnswer, answer_bytes, error_of}
use Rattle.jdwp_mirror.specs.Faults.{is_width}
use Rattle.jdwp_mirror.specs.Messages.{id_sizes}
use Rattle.jdwp_mirror.specs.Widths.{widths_in}
use Rattle.jdwp_debugger.specs.News.{EIGHT, answer_in}
use Rattle.jdwp_debugger.proofs.AnsweredReads.{reads-as-answered}
use Rattle.jdwp_debugger.proofs.EncodedReads.{ReadsEncoded}

-- ---- ints are the same in ids of any width

item-same : (v w : Widths) (x : DatumMeaning) (code : List ℕ) → EncodesItem w (OneOf field.Int) x code → EncodesItem v (OneOf field.Int) x code × (datum_canonical w x ≡ datum_canonical v x)
item-same v w (One (Int z)) code h = (h, refl)
item-same v w (One (Byte n)) code h = absurd (let e = h.0 in cc)
item-same v w (One (Boolean b)) code h = absurd (let e = h.0 in cc)
item-same v w (One (Long z)) code h = absurd (let e = h.0 in cc)
item-same v w (One (Text s)) code h = absurd (let e = h.0 in cc)
item-same v w (One (Object n)) code h = absurd (let e = h.0 in cc)
item-same v w (One (ReferenceType n)) code h = absurd (let e = h.0 in cc)
item-same v w (One (Method n)) code h = absurd (let e = h.0 in cc)
item-same v w (One (OfField n)) code h = absurd (let e = h.0 in cc)
item-same v w (One (Frame n)) code h = absurd (let e = h.0 in cc)
item-same v w (One (Located p)) code h = absurd (let e = h.0 in cc)
item-same v w (One (Valued p)) code h = absurd (let e = h.0 in cc)
item-same v w (One (Tagged t)) code h = absurd (let e = h.0 in cc)
item-same v w (Many xs) code h = absurd h
item-same v w (Elements region) code h = absurd h
item-same v w (Raw bytes) code h = absurd h

-- so many ints
abbrev ints : ℕ → List ItemShape
ints zero = []
ints (suc n) = OneOf field.Int ∷ ints n

ints-same : (v w : Widths) (n : ℕ) (content : List DatumMeaning) (code : List ℕ) → EncodesData w (ints n) content code → EncodesData v (ints n) content code × (data_canonical w content ≡ data_canonical v content)
ints-same v w zero [] code h = (h, refl)
ints-same v w zero (x ∷ xs) code h = absurd h
ints-same v w (suc n) [] code h = absurd h
ints-same v w (suc n) (x ∷ xs) code (front, back, first, rest, e) =
    let i = item-same v w x front first in
    let r = ints-same v w n xs back rest in
    ((front, back, i.0, r.0, e), ap (λ (y : List ℕ). y ++ data_canonical w xs) i.1 ∙ ap (λ (y : List ℕ). datum_canonical v x ++ y) r.1)

pub reads-sizes : ReadsEncoded → (v w : Widths) (answer : Answer) → EncodesAnswer w id_sizes.set id_sizes.number answer → answer_in v id_sizes (error_of answer) (answer_bytes w answer) ≡ Some answer
reads-sizes again v w (Data content) h =
    let s = ints-same v w 5 content (data_canonical w content) h in
    let encoded : EncodesAnswer v id_sizes.set id_sizes.number (Data content) = subst (λ (code : List ℕ). EncodesData v (ints 5) content code) s.1 s.0 in
    subst (λ (code : List ℕ). answer_in v id_sizes NONE code ≡ Some (Data content)) (sym s.1) (reads-as-answered again v id_sizes (Data content) encoded)
reads-sizes again v w (Error e) h = reads-as-answered again v id_sizes (Error e) h

-- ---- the widths that it tells

int-encoded : (n : ℕ) → IsWidth n → EncodesInt (pos n) (int_canonical (pos n))
int-encoded n h = (n, sym (to_z_pos w32 n (omega (arith, h.1))), (omega (arith, h.1), refl))

sized : (w : Widths) → AreWidths w.field w.method w.object w.reference w.frame → EncodesAnswer w id_sizes.set id_sizes.number (sizes_answer w)
sized w h =
    let frame = int_canonical (pos w.frame) ++ [] in
    let reference = int_canonical (pos w.reference) ++ frame in
    let object = int_canonical (pos w.object) ++ reference in
    let method = int_canonical (pos w.method) ++ object in (
      int_canonical (pos w.field),
      method,
      (refl, int-encoded w.field h.field_is),
      (
        int_canonical (pos w.method),
        object,
        (refl, int-encoded w.method h.method_is),
        (
          int_canonical (pos w.object),
          reference,
          (refl, int-encoded w.object h.object_is),
          (
            int_canonical (pos w.reference),
            frame,
            (refl, int-encoded w.reference h.reference_is),
            (int_canonical (pos w.frame), [], (refl, int-encoded w.frame h.frame_is), refl, refl),
            refl,
          ),
          refl,
        ),
        refl,
      ),
      refl,
    )

pub reads-widths : ReadsEncoded → (w : Widths) → AreWidths w.field w.method w.object w.reference w.frame → answer_in EIGHT id_sizes NONE (answer_bytes w (sizes_answer w)) ≡ Some (sizes_answer w)
reads-widths again w h = reads-sizes again EIGHT w (sizes_answer w) (sized w h)

width-told : (n : ℕ) → IsWidth n → is_width (One (Int (pos n))) ≡ true
width-told n h = rw (le-leb 1 n h.0, le-leb n 8 h.1) refl

pub widths-told : (w : Widths) → AreWidths w.field w.method w.object w.reference w.frame → widths_in (sizes_answer w) ≡ Some w
widths-told w h = rw (width-told w.field h.field_is, width-told w.method h.method_is, width-told w.object h.object_is, width-told w.reference h.reference_is, width-told w.frame h.frame_is) refl
