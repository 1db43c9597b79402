-- An invocation whose data do not read, as what it is answered is sent.
use Rattle.std.proofs.Common.{◌≡◌, ℕ, ◌+◌, ◌≤◌, List, length, Result, Ok, Err, IfErr, IfOk, refl, arith}
use Rattle.jdwp_wire.specs.ErrorCodes.{ILLEGAL_ARGUMENT}
use Rattle.jdwp_wire.specs.Limits.{least_packet_limit}
use Rattle.jdwp_wire.specs.Widths.{Widths}
use Rattle.jdwp_wire.specs.declared.data_fault.DataFault.{DataFault}
use Rattle.jdwp_wire.specs.declared.data_fault.DataFault.TheVariants as fault
use Rattle.jdwp_wire.specs.declared.no_memory.NoMemory.{NoMemory}
use Rattle.jdwp_layout.specs.Grammar.{EncodesData}
use Rattle.jdwp_layout.specs.Meanings.{DatumMeaning}
use Rattle.jdwp_layout.specs.Reads.{data_at}
use Rattle.jdwp_layout.specs.Shapes.{ItemShape}
use Rattle.jdwp_layout.proofs.GrammarLaws.{data_again}
use Rattle.jdwp_machine.specs.declared.query.Query.{Query}
use Rattle.jdwp_machine.specs.Meanings.{Meaning}
use Rattle.jdwp_action.specs.AnswerPackets.{EncodesAnswer}
use Rattle.jdwp_debuggee.specs.Invoking.{DoesNotRead, invoked}
use Rattle.jdwp_debuggee.specs.Sending.{IsSent, sent_bytes, short_refused}
use Rattle.jdwp_debuggee.specs.Settings.{Settings}
use Rattle.jdwp_debuggee.specs.State.{Moment}
use Rattle.jdwp_debuggee.specs.declared.reply.Reply.TheVariants as reply
use Rattle.jdwp_debuggee.specs.declared.reply.Sent.{Sent}
use Rattle.jdwp_debuggee.proofs.Writable.{short-length}

refused-sent : {S : Type 0} (m : Meaning S) (settings : Settings) (now : Moment S) (w : Widths) (q : Query) (found : Result (List DatumMeaning) DataFault) → DoesNotRead found → IsSent w (invoked m settings now q found) (short_refused ILLEGAL_ARGUMENT)
refused-sent m settings now w q (Ok content) h = absurd h
refused-sent m settings now w q (Err fault) h = record { error = refl; bytes = refl }

pub unread-sent : {S : Type 0} (m : Meaning S) (settings : Settings) (now : Moment S) (w : Widths) (q : Query) (found : Result (List DatumMeaning) DataFault) (r : Result Sent NoMemory)
    → IfOk r (λ x. x ≡ short_refused ILLEGAL_ARGUMENT) → IfOk r (λ _. DoesNotRead found) → IfOk r (λ x. IsSent w (invoked m settings now q found) x)
unread-sent m settings now w q found (Ok x) is none = rw is (refused-sent m settings now w q found none)
unread-sent m settings now w q found (Err e) is none = tt

refused-encoded : {S : Type 0} (m : Meaning S) (settings : Settings) (now : Moment S) (w : Widths) (set number : ℕ) (q : Query) (found : Result (List DatumMeaning) DataFault) → DoesNotRead found → EncodesAnswer w set number (invoked m settings now q found)
refused-encoded m settings now w set number q (Ok content) h = absurd h
refused-encoded m settings now w set number q (Err fault) h = omega arith

pub unread-encoded : {S : Type 0} (m : Meaning S) (settings : Settings) (now : Moment S) (w : Widths) (set number : ℕ) (q : Query) (found : Result (List DatumMeaning) DataFault) (r : Result Sent NoMemory)
    → IfOk r (λ _. DoesNotRead found) → IfOk r (λ _. EncodesAnswer w set number (invoked m settings now q found))
unread-encoded m settings now w set number q found (Ok x) none = refused-encoded m settings now w set number q found none
unread-encoded m settings now w set number q found (Err e) none = tt

pub unread-fits : (w : Widths) (limit : ℕ) (r : Result Sent NoMemory) → IfOk r (λ x. x ≡ short_refused ILLEGAL_ARGUMENT) → IfOk r (λ x. least_packet_limit ≤ limit → 11 + length (sent_bytes w x) ≤ limit)
unread-fits w limit (Ok x) is = rw is (λ h. let l = short-length w (reply.Refused ILLEGAL_ARGUMENT) in omega (arith, h, l))
unread-fits w limit (Err e) is = tt

-- where memory is wanted the data read
pub unread-reads : (w : Widths) (shapes : List ItemShape) (bytes : List ℕ) (found : DataFault) (r : Result Sent NoMemory) → (found ≡ fault.NoMemory → (xs : List DatumMeaning) × EncodesData w shapes xs bytes) → IfErr r (λ _. found ≡ fault.NoMemory)
    → IfErr r (λ _. (content : List DatumMeaning) × (data_at w shapes bytes ≡ Ok content))
unread-reads w shapes bytes found (Ok x) hides is = tt
unread-reads w shapes bytes found (Err e) hides is = let encoded = hides is in (encoded.0, data_again w shapes bytes encoded.0 encoded.1)
