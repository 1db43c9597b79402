-- What was answered is read by the layout of the reply's row.
use Rattle.std.proofs.Common.{◌≡◌, ◌⊎◌, ◌==◌, Bool, true, false, List, [], ◌∷◌, Option, Some, None, ap, refl, inl, inr}
use Rattle.std.proofs.lemmas.List.{append-nil}
use Rattle.std.specs.Prelude.{ℕ, IsSome}
use Rattle.std.proofs.lemmas.Bool.{eqb-true}
use Rattle.jdwp_wire.specs.ErrorCodes.{NONE}
use Rattle.jdwp_wire.specs.Widths.{Widths}
use Rattle.jdwp_layout.specs.declared.answer.Answer.{Answer}
use Rattle.jdwp_layout.specs.declared.answer.Answer.TheVariants.{Data, Error}
use Rattle.jdwp_layout.specs.CommandTable.{row_at}
use Rattle.jdwp_layout.specs.Meanings.{DatumMeaning, Raw, raw_bytes}
use Rattle.jdwp_layout.specs.Shapes.{ItemShape}
use Rattle.jdwp_layout.specs.Writes.{data_canonical}
use Rattle.jdwp_action.specs.Actions.{Command}
use Rattle.jdwp_action.specs.AnswerPackets.{EncodesReply, EncodesAnswer, answer_bytes, error_of}
use Rattle.jdwp_action.specs.RowLayouts.{row_reply}
use Rattle.jdwp_debugger.specs.News.{answer_in, data_by}
use Rattle.jdwp_debugger.proofs.EncodedReads.{ReadsEncoded}

either : (b : Bool) → (b ≡ true) ⊎ (b ≡ false)
either true = inl refl
either false = inr refl

-- data that are not read are their bytes
raw-again : (w : Widths) (content : List DatumMeaning) → IsSome (raw_bytes content) → data_by w None (data_canonical w content) ≡ Some (Data content)
raw-again w (Raw bytes ∷ []) h = ap (λ (code : List ℕ). Some (Data (Raw code ∷ []))) (append-nil bytes)
raw-again w content h = absurd cc

by-shape : ReadsEncoded → (w : Widths) (shape : Option (List ItemShape)) (content : List DatumMeaning) → EncodesReply w shape content → data_by w shape (data_canonical w content) ≡ Some (Data content)
by-shape again w None content h = raw-again w content h
by-shape again w (Some shape) content h = rw (again w shape content (data_canonical w content) h) refl

pub reads-as-answered : ReadsEncoded → (w : Widths) (c : Command) (answer : Answer) → EncodesAnswer w c.set c.number answer → answer_in w c (error_of answer) (answer_bytes w answer) ≡ Some answer
reads-as-answered again w c (Data content) h =
    by-shape again w (row_reply (row_at c.set c.number)) content h
reads-as-answered again w c (Error e) h = elim (either (e.0 == NONE.0)) [ inl k ↦ absurd (h (eqb-true e.0 NONE.0 k)) | inr k ↦ rw k refl ]
