-- What a command of the debuggee's own is answered is encoded by the bytes that are sent for it.
use Rattle.std.proofs.Common.{◌≡◌, ℕ, ℤ, ◌==◌, Bool, true, false, List, [], Option, Some, None, Result, Ok, Err, IfOk, ap, sym, subst, arith}
use Rattle.jdwp_wire.specs.Widths.{Widths}
use Rattle.jdwp_value.specs.declared.value.Value.{Value}
use Rattle.jdwp_layout.specs.declared.answer.Answer.{Answer}
use Rattle.jdwp_layout.specs.declared.answer.Answer.TheVariants.{Data, Error}
use Rattle.jdwp_layout.specs.CommandNumbers.{ALL_THREADS}
use Rattle.jdwp_layout.specs.CommandTable.{row_at}
use Rattle.jdwp_layout.specs.Shapes.{ItemShape}
use Rattle.jdwp_event.specs.Modifiers.{modifiers_of}
use Rattle.jdwp_machine.specs.declared.query.Query.{Query}
use Rattle.jdwp_machine.specs.Laws.{IsLawful}
use Rattle.jdwp_machine.specs.Meanings.{Meaning}
use Rattle.jdwp_action.specs.Actions
use Rattle.jdwp_action.specs.Actions.{Command, Action, action_of}
use Rattle.jdwp_debuggee.specs.Answers.{all_threads, bounded}
use Rattle.jdwp_debuggee.specs.Askings.{Asking, asking_of}
use Rattle.jdwp_debuggee.specs.Debuggees.{Debuggee, IsKept}
use Rattle.jdwp_debuggee.specs.Effects.{does, carried, carried_by, is_early, slots_by, slots_at}
use Rattle.jdwp_action.specs.AnswerPackets.{EncodesAnswer, EncodesReply}
use Rattle.jdwp_action.specs.RowLayouts.{row_reply}
use Rattle.jdwp_debuggee.specs.Sending.{is_question}
use Rattle.jdwp_debuggee.specs.State.{Moment, count_of, at_limit}
use Rattle.jdwp_debuggee.proofs.OwnAnswers.{done-encoded, suspend-encoded, suspend-thread-encoded, resume-thread-encoded, count-encoded, status-encoded, sizes-encoded, written-encoded}
use Rattle.jdwp_debuggee.proofs.ReplyShapes.{HasShape, has-shape}
use Rattle.jdwp_debuggee.proofs.SetAnswers.{set-encoded}

slots-at-encoded : {S : Type 0} (m : Meaning S) → IsLawful m → (now : Moment S) → m.is_state now.machine → (w : Widths) (set number t f : ℕ) (values : List (ℤ × Value)) (b : Bool) → row_reply (row_at set number) ≡ Some []
    → EncodesAnswer w set number (slots_at m now t f values b).answer
slots-at-encoded m law now is w set number t f values true shape = omega arith
slots-at-encoded m law now is w set number t f values false shape = written-encoded m now.machine w set number (m.write_answer now.machine t f values) (law.write_answers now.machine t f values is) shape

slots-encoded : {S : Type 0} (m : Meaning S) → IsLawful m → (now : Moment S) → m.is_state now.machine → (w : Widths) (set number t f : ℕ) (values : List (ℤ × Value)) (count : Option ℕ) → row_reply (row_at set number) ≡ Some []
    → EncodesAnswer w set number (slots_by m now t f values count).answer
slots-encoded m law now is w set number t f values None shape = omega arith
slots-encoded m law now is w set number t f values (Some n) shape = slots-at-encoded m law now is w set number t f values (n == 0) shape

does-encoded : {S : Type 0} (m : Meaning S) → IsLawful m → (d : Debuggee S) → IsKept m d → (c : Command) (a : Action) → HasShape c a → is_question a ≡ false
    → EncodesAnswer (m.sizes d.moment.machine) c.set c.number (does m d.settings d.moment c a).answer
does-encoded m law d k c Actions.Suspend shape h = suspend-encoded (m.sizes d.moment.machine) c.set c.number d.moment (at_limit d.settings.count_limit d.moment.state) shape
does-encoded m law d k c Actions.Resume shape h = done-encoded (m.sizes d.moment.machine) c.set c.number shape
does-encoded m law d k c Actions.Dispose shape h = done-encoded (m.sizes d.moment.machine) c.set c.number shape
does-encoded m law d k c Actions.Exit shape h = done-encoded (m.sizes d.moment.machine) c.set c.number shape
does-encoded m law d k c Actions.HoldEvents shape h = done-encoded (m.sizes d.moment.machine) c.set c.number shape
does-encoded m law d k c Actions.ReleaseEvents shape h = done-encoded (m.sizes d.moment.machine) c.set c.number shape
does-encoded m law d k c (Actions.SetRequest byte policy entries) shape h =
    set-encoded m law d.settings d.moment k.sound.state byte policy (modifiers_of entries) (m.sizes d.moment.machine) c.set c.number shape
does-encoded m law d k c (Actions.ClearRequest byte id) shape h = done-encoded (m.sizes d.moment.machine) c.set c.number shape
does-encoded m law d k c Actions.ClearBreakpoints shape h = done-encoded (m.sizes d.moment.machine) c.set c.number shape
does-encoded m law d k c (Actions.SuspendThread t) shape h = suspend-thread-encoded (m.sizes d.moment.machine) c.set c.number t d.settings d.moment (count_of d.moment.state t) shape
does-encoded m law d k c (Actions.ResumeThread t) shape h = resume-thread-encoded (m.sizes d.moment.machine) c.set c.number t d.moment (count_of d.moment.state t) shape
does-encoded m law d k c (Actions.SetSlots t f values) shape h = slots-encoded m law d.moment k.sound.state (m.sizes d.moment.machine) c.set c.number t f values (count_of d.moment.state t) shape
does-encoded m law d k c (Actions.SuspendCount t) shape h = count-encoded m d (m.sizes d.moment.machine) c.set c.number t k shape
does-encoded m law d k c (Actions.ThreadStatus t) shape h = status-encoded (m.sizes d.moment.machine) c.set c.number (count_of d.moment.state t) shape
does-encoded m law d k c Actions.IdSizes shape h = sizes-encoded (m.sizes d.moment.machine) c.set c.number (law.sizes_are_widths d.moment.machine k.sound.state) shape
does-encoded m law d k c (Actions.AskFrames t) shape h = absurd cc
does-encoded m law d k c (Actions.AskThread t) shape h = absurd cc
does-encoded m law d k c Actions.AllThreads shape h = absurd cc
does-encoded m law d k c Actions.Ask shape h = absurd cc

by-time : {S : Type 0} (m : Meaning S) → IsLawful m → (d : Debuggee S) → IsKept m d → (c : Command) (a : Action) → HasShape c a → is_question a ≡ false → (b : Bool)
    → EncodesAnswer (m.sizes d.moment.machine) c.set c.number (carried_by m d.settings d.moment c a b).answer
by-time m law d k c a shape h true = omega arith
by-time m law d k c a shape h false = does-encoded m law d k c a shape h

-- a command that asks no question
pub own-encoded : {S : Type 0} (m : Meaning S) → IsLawful m → (d : Debuggee S) → IsKept m d → (c : Command) → is_question (action_of c) ≡ false
    → EncodesAnswer (m.sizes d.moment.machine) c.set c.number (carried m d.settings d.moment c (action_of c)).answer
own-encoded m law d k c h = by-time m law d k c (action_of c) (has-shape c) h (is_early d.moment.state (action_of c))

-- ---- the list of threads

-- an answer is encoded in the layout of a row, whichever command has it
pub same-row : (w : Widths) (set number k n : ℕ) (a : Answer) → row_reply (row_at k n) ≡ row_reply (row_at set number) → EncodesAnswer w k n a → EncodesAnswer w set number a
same-row w set number k n (Data content) same h = subst (λ (o : Option (List ItemShape)). EncodesReply w o content) same h
same-row w set number k n (Error e) same h = h

pub threads-encoded : {S : Type 0} (m : Meaning S) (d : Debuggee S) (c : Command) → Actions.AllThreads ≡ action_of c
    → EncodesAnswer (m.sizes d.moment.machine) ALL_THREADS.set ALL_THREADS.number (bounded d.settings (m.sizes d.moment.machine) (all_threads d.moment.state))
    → EncodesAnswer (m.sizes d.moment.machine) c.set c.number (carried m d.settings d.moment c (action_of c)).answer
threads-encoded m d c is h =
    let w = m.sizes d.moment.machine in
    let shape : HasShape c Actions.AllThreads = subst (λ (a : Action). HasShape c a) (sym is) (has-shape c) in
    let told : EncodesAnswer w c.set c.number (carried m d.settings d.moment c Actions.AllThreads).answer =
    same-row w c.set c.number ALL_THREADS.set ALL_THREADS.number (bounded d.settings w (all_threads d.moment.state)) (sym shape) h in
    subst (λ (a : Action). EncodesAnswer w c.set c.number (carried m d.settings d.moment c a).answer) is told

-- the same where memory may have been refused
pub threads-told : {S X E : Type 0} (m : Meaning S) (d : Debuggee S) (q : Option Query) (r : Result X E)
    → IfOk r (λ _. EncodesAnswer (m.sizes d.moment.machine) ALL_THREADS.set ALL_THREADS.number (bounded d.settings (m.sizes d.moment.machine) (all_threads d.moment.state)))
    → IfOk r (λ _. (c : Command) → record { action = Actions.AllThreads; question = q } ≡ asking_of c → is_question (action_of c) ≡ true
    → EncodesAnswer (m.sizes d.moment.machine) c.set c.number (carried m d.settings d.moment c (action_of c)).answer)
threads-told m d q (Ok x) h = λ c e asks. threads-encoded m d c (ap (λ (y : Asking). y.action) e) h
threads-told m d q (Err e) h = tt
