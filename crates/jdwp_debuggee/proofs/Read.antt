-- Reading commands.
use Rattle.std.proofs.Common.{◌≡◌, ℕ, Bool, true, false, ◌||◌, ◌&&◌, ◌==◌, ◌⊎◌, inl, inr, List, [], Option, Some, None, Result, Ok, refl, ap, sym, subst, ◌∙◌, if◌then◌else◌}
use Rattle.std.specs.Prelude.{MatchOption}
use Rattle.std.specs.List.{filter_map}
use Rattle.std.proofs.lemmas.List.Elements.{filter_map-append}
use Rattle.std.proofs.Common.{◌++◌, ◌∷◌, ◌+◌, ◌<◌, length, take, get_or, IfOk}
use Rattle.std.proofs.lemmas.Bool.{eqb-true}
use Rattle.std.proofs.lemmas.Grind.{take_at_read}
use Rattle.std.proofs.lemmas.List.{map-append}
use Rattle.std.specs.Global.{Vec}
use Rattle.jdwp_layout.specs.declared.datum.Scalar.{Scalar}
use Rattle.jdwp_wire.specs.declared.data_fault.DataFault.{DataFault}
use Rattle.jdwp_wire.specs.declared.no_memory.NoMemory.{NoMemory}
use Rattle.jdwp_wire.specs.declared.error_code.ErrorCode.{ErrorCode}
use Rattle.jdwp_wire.specs.Widths.{Widths}
use Rattle.jdwp_layout.specs.CommandNumbers.{CommandNumber, is_command, SUSPEND, RESUME, HOLD_EVENTS, RELEASE_EVENTS, ID_SIZES, DISPOSE, CLEAR_ALL_BREAKPOINTS, SUSPEND_THREAD, RESUME_THREAD, THREAD_STATUS, SUSPEND_COUNT, CLEAR_REQUEST, CLASS_INVOKE, CLASS_PATHS, INTERFACE_INVOKE, OBJECT_INVOKE}
use Rattle.jdwp_layout.specs.CommandTable.{row_at}
use Rattle.jdwp_layout.specs.Meanings.{ScalarMeaning, DatumMeaning, Raw, entry_meaning, entry_meanings}
use Rattle.jdwp_layout.specs.Reads.{data_at}
use Rattle.jdwp_layout.specs.Shapes.{ItemShape}
use Rattle.jdwp_debuggee.specs.declared.command.ParsedCommand.{ParsedCommand}
use Rattle.jdwp_action.specs.Actions.{Ask, Command, slot_of, is_implemented}
use Rattle.jdwp_action.specs.CommandReads.{command_read, content_read, with_content}
use Rattle.jdwp_action.specs.RowLayouts.{row_request}
use Rattle.jdwp_debuggee.specs.Askings.{Asking, asked_meaning, asks, asking_of, carries_nothing, carries_thread, is_short}
use Rattle.jdwp_machine.specs.declared.profile.Profile.{Profile}
use Rattle.jdwp_machine.specs.declared.profile.Profile.TheVariants.{Standard, Jdi}
use Rattle.jdwp_layout.specs.Invocations.{is_invocation, is_there, of_object, of_type}
use Rattle.jdwp_machine.specs.Profiles.{adds_raw}
use Rattle.jdwp_debuggee.specs.Answering.{is_read, read_as, unread_as, with_bytes}
use Rattle.jdwp_debuggee.specs.ReadParts.{IsBare, answered_request, unread}

-- one entry more of a list of slots
pub slots_more : (xs ys : List (List ScalarMeaning)) → filter_map slot_of (xs ++ ys) ≡ filter_map slot_of xs ++ filter_map slot_of ys
slots_more xs ys = filter_map-append slot_of xs ys

pub slots_step : (xs : List (Vec Scalar)) (i : ℕ) (x : Vec Scalar) → i < length xs → x ≡ get_or xs i x
    → filter_map slot_of (entry_meanings (take (i + 1) xs)) ≡ filter_map slot_of (entry_meanings (take i xs)) ++ filter_map slot_of (entry_meaning x ∷ [])
slots_step xs i x lt is =
    rw ((take_at_read xs i x lt).1, ← is) (ap (filter_map slot_of) (map-append entry_meaning (take i xs) (x ∷ [])) ∙ slots_more (entry_meanings (take i xs)) (entry_meaning x ∷ []))

-- ---- a command that carries neither a thread nor what Clear does is read without memory only where it carries nothing

or_none : (b : Bool) → (b || (false || false)) ≡ b
or_none true = refl
or_none false = refl

pub short_as_bare : (set number : ℕ) (P : ParsedCommand → Type 0) (result : Option ParsedCommand) → carries_thread set number ≡ false → is_command CLEAR_REQUEST set number ≡ false
    → MatchOption result (carries_nothing set number ≡ false) (λ asked. (carries_nothing set number ≡ true) × P asked)
    → MatchOption result (is_short set number ≡ false) (λ asked. (is_short set number ≡ true) × P asked)
short_as_bare set number P result thread clear h =
    let same : is_short set number ≡ carries_nothing set number =
    ap (λ (x : Bool). carries_nothing set number || (x || is_command CLEAR_REQUEST set number)) thread
    ∙ (ap (λ (x : Bool). carries_nothing set number || (false || x)) clear ∙ or_none (carries_nothing set number)) in
    subst (λ (b : Bool). MatchOption result (b ≡ false) (λ asked. (b ≡ true) × P asked)) (sym same) h

both_true : (a b : Bool) → (a && b) ≡ true → (a ≡ true) × (b ≡ true)
both_true true b h = (refl, h)
both_true false b h = absurd cc

-- ---- a command that is implemented is read by its layout, and another is not read

some_is : (x y : List ItemShape) → Some x ≡ Some y → x ≡ y
some_is x y e = cc

-- a command whose data are read or not, and which is raw and answered or not
abbrev read_where : Widths → ℕ → ℕ → List ℕ → Bool → Bool → Result Command ErrorCode
read_where w set number bytes b r = if b then content_read set number (data_at w (row_request (row_at set number)) bytes) else unread_as set number bytes r

read_by_is : (w : Widths) (set number : ℕ) (bytes : List ℕ) (b r : Bool) (items : List ItemShape) → (if b then Some (row_request (row_at set number)) else None) ≡ Some items
    → read_where w set number bytes b r ≡ content_read set number (data_at w items bytes)
read_by_is w set number bytes true r items e = ap (λ (shapes : List ItemShape). content_read set number (data_at w shapes bytes)) (some_is _ _ e)
read_by_is w set number bytes false r items e = absurd cc

pub read_is : (p : Profile) (w : Widths) (set number : ℕ) (bytes : List ℕ) (items : List ItemShape) → answered_request p set number ≡ Some items
    → read_as p w set number bytes ≡ content_read set number (data_at w items bytes)
read_is p w set number bytes items e = read_by_is w set number bytes (is_read p (unread set number)) (adds_raw p set number) items e

unread_by : (w : Widths) (set number : ℕ) (bytes : List ℕ) (b r : Bool) → (if b then Some (row_request (row_at set number)) else None) ≡ None
    → read_where w set number bytes b r ≡ unread_as set number bytes r
unread_by w set number bytes true r e = absurd cc
unread_by w set number bytes false r e = refl

pub unread_is : (p : Profile) (w : Widths) (set number : ℕ) (bytes : List ℕ) → answered_request p set number ≡ None → read_as p w set number bytes ≡ unread_as set number bytes (adds_raw p set number)
unread_is p w set number bytes e = unread_by w set number bytes (is_read p (unread set number)) (adds_raw p set number) e

-- a raw command that is answered is ClassPaths or an invocation
at_place : (k : CommandNumber) (set number : ℕ) (P : ℕ → ℕ → Type 0) → P k.set k.number → is_command k set number ≡ true → P set number
at_place k set number P here h =
    let is = both_true (set == k.set) (number == k.number) h in
    rw (eqb-true set k.set is.0, eqb-true number k.number is.1) here

-- where a test holds of a list that is chosen by two others
chosen : (a b c : Bool) (xs ys : List ItemShape) → is_there (if a || b then Some xs else (if c then Some ys else None)) ≡ true → (a ≡ true) ⊎ ((b ≡ true) ⊎ (c ≡ true))
chosen true b c xs ys h = inl refl
chosen false true c xs ys h = inr (inl refl)
chosen false false true xs ys h = inr (inr refl)
chosen false false false xs ys h = absurd cc

one_of : (a b : Bool) → (a || b) ≡ true → (a ≡ true) ⊎ (b ≡ true)
one_of true b h = inl refl
one_of false b h = inr h

pub invocation_cases : (set number : ℕ) (P : ℕ → ℕ → Type 0) → P CLASS_INVOKE.set CLASS_INVOKE.number → P INTERFACE_INVOKE.set INTERFACE_INVOKE.number → P OBJECT_INVOKE.set OBJECT_INVOKE.number → is_invocation set number ≡ true → P set number
invocation_cases set number P class interface object h = elim (chosen (is_command CLASS_INVOKE set number) (is_command INTERFACE_INVOKE set number) (is_command OBJECT_INVOKE set number) of_type of_object h) [
  | inl a ↦ at_place CLASS_INVOKE set number P class a
  | inr (inl b) ↦ at_place INTERFACE_INVOKE set number P interface b
  | inr (inr c) ↦ at_place OBJECT_INVOKE set number P object c
]

pub raw_cases : (p : Profile) (set number : ℕ) (P : ℕ → ℕ → Type 0) → P CLASS_PATHS.set CLASS_PATHS.number → P CLASS_INVOKE.set CLASS_INVOKE.number → P INTERFACE_INVOKE.set INTERFACE_INVOKE.number → P OBJECT_INVOKE.set OBJECT_INVOKE.number
    → adds_raw p set number ≡ true → P set number
raw_cases Standard set number P paths class interface object h = absurd cc
raw_cases Jdi set number P paths class interface object h = elim (one_of (is_command CLASS_PATHS set number) (is_invocation set number) h) [
  | inl k ↦ at_place CLASS_PATHS set number P paths k
  | inr k ↦ invocation_cases set number P class interface object k
]

abbrev AsksRaw : List ℕ → ℕ → ℕ → Type 0
AsksRaw bytes set number =
    asking_of (with_bytes set number bytes) ≡ record { action = Ask; question = Some (record { set = set; number = number; content = if is_invocation set number then Raw bytes ∷ [] else [] }) }

-- it asks the machine
pub raw_asks : (p : Profile) (set number : ℕ) (bytes : List ℕ) → adds_raw p set number ≡ true
    → asking_of (with_bytes set number bytes) ≡ record { action = Ask; question = Some (record { set = set; number = number; content = if is_invocation set number then Raw bytes ∷ [] else [] }) }
raw_asks p set number bytes h = raw_cases p set number (AsksRaw bytes) refl refl refl refl h

-- as it is read
pub raw_reads : (p : Profile) (w : Widths) (set number : ℕ) (bytes : List ℕ) → answered_request p set number ≡ None → adds_raw p set number ≡ true → read_as p w set number bytes ≡ Ok (with_bytes set number bytes)
raw_reads p w set number bytes none raw = unread_is p w set number bytes none ∙ ap (λ (r : Bool). unread_as set number bytes r) raw

pub asks_raw : (p : Profile) (w : Widths) (set number : ℕ) (bytes : List ℕ) (content : List DatumMeaning) → answered_request p set number ≡ None → adds_raw p set number ≡ true → content ≡ (if is_invocation set number then Raw bytes ∷ [] else [])
    → Ok (record { action = Ask; question = Some (record { set = set; number = number; content = content }) }) ≡ asks (read_as p w set number bytes)
asks_raw p w set number bytes content none raw is =
    rw is (sym (ap (λ (r : Result Command ErrorCode). asks r) (raw_reads p w set number bytes none raw) ∙ ap (λ (a : Asking). Ok a) (raw_asks p set number bytes raw)))

asks_is : (p : Profile) (w : Widths) (set number : ℕ) (bytes : List ℕ) (items : List ItemShape) → answered_request p set number ≡ Some items
    → asks (read_as p w set number bytes) ≡ asks (content_read set number (data_at w items bytes))
asks_is p w set number bytes items e = ap (λ (r : Result Command ErrorCode). asks r) (read_is p w set number bytes items e)

pub asks_content : (p : Profile) (w : Widths) (set number : ℕ) (bytes : List ℕ) (items : List ItemShape) (content : List DatumMeaning) (a : Asking) → answered_request p set number ≡ Some items
    → data_at w items bytes ≡ Ok content → a ≡ asking_of (with_content set number content) → Ok a ≡ asks (read_as p w set number bytes)
asks_content p w set number bytes items content a e found law =
    ap (λ (x : Asking). Ok x) law ∙ ap (λ (d : Result (List DatumMeaning) DataFault). asks (content_read set number d)) (sym found)
    ∙ sym (asks_is p w set number bytes items e)

pub asks_refused : (p : Profile) (w : Widths) (set number : ℕ) (bytes : List ℕ) (items : List ItemShape) (answer : Result ParsedCommand NoMemory) → answered_request p set number ≡ Some items
    → IfOk answer (λ asked. asked_meaning asked ≡ asks (content_read set number (data_at w items bytes))) → IfOk answer (λ asked. asked_meaning asked ≡ asks (read_as p w set number bytes))
asks_refused p w set number bytes items answer e law = rw (asks_is p w set number bytes items e) law

-- ---- a command that carries nothing

nothing_at : (w : Widths) (bytes : List ℕ) → length bytes ≡ 0 → data_at w [] bytes ≡ Ok []
nothing_at w bytes none = rw none refl

bare_reads : (w : Widths) (set number : ℕ) (a : Asking) (bytes : List ℕ) → IsBare a set number → data_at w [] bytes ≡ Ok [] → asks (command_read w set number bytes) ≡ Ok a
bare_reads w set number a bytes (impl, shape, law) e = rw (impl, shape, e) (ap (λ (x : Asking). Ok x) (law []))

pub asks_nothing : (w : Widths) (set number : ℕ) (a : Asking) (bytes : List ℕ) → IsBare a set number → length bytes ≡ 0 → Ok a ≡ asks (command_read w set number bytes)
asks_nothing w set number a bytes law none = sym (bare_reads w set number a bytes law (nothing_at w bytes none))

-- ---- a command that is read without memory is answered in each profile

implemented_at : (k : CommandNumber) (set number : ℕ) → is_implemented (unread k.set k.number) ≡ true → is_command k set number ≡ true → is_implemented (unread set number) ≡ true
implemented_at k set number impl h =
    let is = both_true (set == k.set) (number == k.number) h in
    rw (eqb-true set k.set is.0, eqb-true number k.number is.1) impl

either_true : (a b : Bool) (P : Type 0) → (a ≡ true → P) → (b ≡ true → P) → (a || b) ≡ true → P
either_true true b P f g h = f refl
either_true false b P f g h = g h

short_implemented : (set number : ℕ) → is_short set number ≡ true → is_implemented (unread set number) ≡ true
short_implemented set number h =
    let P = is_implemented (unread set number) ≡ true in
    either_true (carries_nothing set number) (carries_thread set number || is_command CLEAR_REQUEST set number) P
    (either_true (is_command SUSPEND set number) _ P (implemented_at SUSPEND set number refl) (
    either_true (is_command RESUME set number) _ P (implemented_at RESUME set number refl) (
    either_true (is_command HOLD_EVENTS set number) _ P (implemented_at HOLD_EVENTS set number refl) (
    either_true (is_command RELEASE_EVENTS set number) _ P (implemented_at RELEASE_EVENTS set number refl) (
    either_true (is_command ID_SIZES set number) _ P (implemented_at ID_SIZES set number refl) (
    either_true (is_command DISPOSE set number) _ P (implemented_at DISPOSE set number refl) (implemented_at CLEAR_ALL_BREAKPOINTS set number refl)))))))
    (either_true (carries_thread set number) _ P
    (either_true (is_command SUSPEND_THREAD set number) _ P (implemented_at SUSPEND_THREAD set number refl) (
    either_true (is_command RESUME_THREAD set number) _ P (implemented_at RESUME_THREAD set number refl) (
    either_true (is_command THREAD_STATUS set number) _ P (implemented_at THREAD_STATUS set number refl) (implemented_at SUSPEND_COUNT set number refl))))
    (implemented_at CLEAR_REQUEST set number refl)) h

-- and it is read alike in each
pub short_reads : (p : Profile) (w : Widths) (set number : ℕ) (bytes : List ℕ) → is_short set number ≡ true → read_as p w set number bytes ≡ command_read w set number bytes
short_reads p w set number bytes h = let i = short_implemented set number h in rw i refl
