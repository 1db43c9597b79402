-- Data that are nothing more, and data that are; and what is answered of what was asked.
use Rattle.std.proofs.Common.{◌≡◌, ◌≤◌, ◌<◌, List, [], ◌∷◌, length, Result, Ok, Err, IfOk, IfErr, IsTrue, refl, sym, subst, ◌∙◌, arith}
use Rattle.jdwp_wire.specs.ErrorCodes.{ILLEGAL_ARGUMENT}
use Rattle.jdwp_wire.specs.declared.no_memory.NoMemory.{NoMemory}
use Rattle.jdwp_layout.specs.declared.answer.Answer.{Answer}
use Rattle.jdwp_layout.specs.declared.answer.Answer.TheVariants.{Data, Error}
use Rattle.jdwp_layout.specs.declared.datum.Datum.{Datum}
use Rattle.jdwp_layout.specs.Meanings.{DatumMeaning, meanings}
use Rattle.jdwp_machine.specs.Laws.{takes_memory}
use Rattle.jdwp_script_machine.specs.Requests.{alone}

pub alone_none : (answer : Answer) (content : List Datum) → length content < 1 → alone answer (meanings content) ≡ answer
alone_none answer [] h = refl
alone_none answer (x ∷ xs) h = absurd (omega arith)

pub alone_more : (answer : Answer) (content : List Datum) → 1 ≤ length content → alone answer (meanings content) ≡ Error ILLEGAL_ARGUMENT
alone_more answer [] h = absurd (omega arith)
alone_more answer (x ∷ xs) h = refl

pub answers_asked : (result : Result Answer NoMemory) (asked answer : Answer) → asked ≡ answer → IfOk result (λ a. a ≡ answer) → IfOk result (λ a. a ≡ asked)
answers_asked result asked answer h told = subst (λ (x : Answer). IfOk result (λ a. a ≡ x)) (sym h) told

pub answers_alone : (result : Result Answer NoMemory) (asked answer : Answer) (content : List Datum) → asked ≡ alone answer (meanings content) → length content < 1
    → IfOk result (λ a. a ≡ answer) → IfOk result (λ a. a ≡ asked)
answers_alone result asked answer content h k told = answers_asked result asked answer (h ∙ alone_none answer content k) told

-- a refusal takes no memory, in the same way
pub wants_asked : (result : Result Answer NoMemory) (asked answer : Answer) → asked ≡ answer → IfErr result (λ _. IsTrue (takes_memory answer)) → IfErr result (λ _. IsTrue (takes_memory asked))
wants_asked result asked answer h wants = subst (λ (x : Answer). IfErr result (λ _. IsTrue (takes_memory x))) (sym h) wants

pub wants_alone : (result : Result Answer NoMemory) (asked answer : Answer) (content : List Datum) → asked ≡ alone answer (meanings content) → length content < 1
    → IfErr result (λ _. IsTrue (takes_memory answer)) → IfErr result (λ _. IsTrue (takes_memory asked))
wants_alone result asked answer content h k wants = wants_asked result asked answer (h ∙ alone_none answer content k) wants

-- data may take memory
pub data_alone : (result : Result Answer NoMemory) (asked : Answer) (items : List DatumMeaning) (content : List Datum) → asked ≡ alone (Data items) (meanings content) → length content < 1
    → IfOk result (λ a. a ≡ Data items) → IfErr result (λ _. IsTrue (takes_memory asked))
data_alone (Ok a) asked items content h k told = tt
data_alone (Err e) asked items content h k told = subst (λ (x : Answer). IsTrue (takes_memory x)) (sym (h ∙ alone_none (Data items) content k)) refl
