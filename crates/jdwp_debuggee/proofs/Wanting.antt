-- When memory may be wanted.
use Rattle.std.proofs.Common.{◌≡◌, ℕ, Bool, true, false, if◌then◌else◌, List, [], ◌∷◌, Some, None, Result, Ok, Err, refl}
use Rattle.std.specs.Prelude.{IfErr}
use Rattle.jdwp_wire.specs.declared.data_fault.DataFault.{DataFault}
use Rattle.jdwp_wire.specs.declared.data_fault.DataFault.TheVariants as fault
use Rattle.jdwp_wire.specs.declared.no_memory.NoMemory.{NoMemory}
use Rattle.jdwp_wire.specs.Widths.{Widths}
use Rattle.jdwp_layout.specs.Grammar.{EncodesData}
use Rattle.jdwp_layout.specs.Keeping.{DataAreKept}
use Rattle.jdwp_layout.specs.Meanings.{DatumMeaning, Raw}
use Rattle.jdwp_layout.specs.Reads.{data_at}
use Rattle.jdwp_layout.specs.Shapes.{ItemShape}
use Rattle.jdwp_layout.proofs.GrammarLaws.{data_again}
use Rattle.jdwp_machine.specs.declared.profile.Profile.{Profile}
use Rattle.jdwp_debuggee.specs.Answering.{read_as}
use Rattle.jdwp_debuggee.specs.ReadParts.{answered_request}
use Rattle.jdwp_debuggee.specs.Sending.{sent_short}
use Rattle.jdwp_debuggee.specs.Wants.{ReadsData}
use Rattle.jdwp_debuggee.specs.declared.command.ParsedCommand.{ParsedCommand}
use Rattle.jdwp_debuggee.specs.declared.reply.Reply.{Reply}
use Rattle.jdwp_layout.specs.Invocations.{is_invocation}
use Rattle.jdwp_machine.specs.Profiles.{adds_raw}
use Rattle.jdwp_debuggee.proofs.Read.{raw_reads, read_is}

-- ---- reading

-- a command whose data read, and are some
pub read-whole : (p : Profile) (w : Widths) (set number : ℕ) (bytes : List ℕ) (items : List ItemShape) (content : List DatumMeaning) → answered_request p set number ≡ Some items
    → data_at w items bytes ≡ Ok content → (content ≡ [] → ⊥) → ReadsData (read_as p w set number bytes)
read-whole p w set number bytes items content e found some = rw (read_is p w set number bytes items e, found) some

-- where something has to be kept, there are data
kept-some : (w : Widths) (items : List ItemShape) (xs : List DatumMeaning) (bytes : List ℕ) → EncodesData w items xs bytes → DataAreKept w items bytes → xs ≡ [] → ⊥
kept-some w [] xs bytes encoded kept none = kept
kept-some w (item ∷ items) [] bytes encoded kept none = encoded
kept-some w (item ∷ items) (x ∷ xs) bytes encoded kept none = absurd cc

-- memory is wanted only for data that are encoded
pub read-encoded : (p : Profile) (w : Widths) (set number : ℕ) (bytes : List ℕ) (items : List ItemShape) (found : DataFault) (answer : Result ParsedCommand NoMemory) → answered_request p set number ≡ Some items
    → (found ≡ fault.NoMemory → (xs : List DatumMeaning) × EncodesData w items xs bytes) → (found ≡ fault.NoMemory → DataAreKept w items bytes)
    → IfErr answer (λ _. found ≡ fault.NoMemory) → IfErr answer (λ _. ReadsData (read_as p w set number bytes))
read-encoded p w set number bytes items found (Ok asked) e hides keeps is = tt
read-encoded p w set number bytes items found (Err error) e hides keeps is =
    let encoded = hides is in
    read-whole p w set number bytes items encoded.0 e (data_again w items bytes encoded.0 encoded.1) (kept-some w items encoded.0 bytes encoded.1 (keeps is))

-- an invocation carries its bytes
bytes-kept : (p : Profile) (w : Widths) (set number : ℕ) (bytes : List ℕ) (b : Bool) → is_invocation set number ≡ b → b ≡ true → (if b then Raw bytes ∷ [] else []) ≡ [] → ⊥
bytes-kept p w set number bytes true is h e = absurd cc
bytes-kept p w set number bytes false is h e = absurd cc

pub invocation-kept : (p : Profile) (w : Widths) (set number : ℕ) (bytes : List ℕ) → answered_request p set number ≡ None → adds_raw p set number ≡ true → is_invocation set number ≡ true → ReadsData (read_as p w set number bytes)
invocation-kept p w set number bytes none raw is = rw (raw_reads p w set number bytes none raw) (bytes-kept p w set number bytes (is_invocation set number) refl is)

-- ---- what is answered

pub if-err : {X E : Type 0} (P : Type 0) (r : Result X E) → P → IfErr r (λ _. P)
if-err P (Ok x) p = tt
if-err P (Err e) p = p

-- both hold where memory is wanted
pub both-wanted : {X E : Type 0} (P Q : Type 0) (r : Result X E) → IfErr r (λ _. P) → IfErr r (λ _. Q) → IfErr r (λ _. P × Q)
both-wanted P Q (Ok x) p q = tt
both-wanted P Q (Err e) p q = (p, q)

-- a reply that takes no memory to send
pub short-wants : {E : Type 0} (P : Type 0) (r : Result Reply E) → IfErr r (λ _. P) → IfErr (sent_short r) (λ _. P)
short-wants P (Ok reply) h = tt
short-wants P (Err e) h = h
