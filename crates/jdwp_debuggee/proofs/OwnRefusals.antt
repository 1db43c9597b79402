-- What the debuggee refuses by itself, told from the beginning of a command's data.
use Rattle.std.proofs.Common.{◌≡◌, ℕ, ◌==◌, nat_le, Bool, true, false, ◌||◌, ◌&&◌, not, if◌then◌else◌, List, [], ◌∷◌, length, Option, Some, None, Result, Ok, Err, refl, sym, ◌∙◌, ap, subst}
use Rattle.std.proofs.lemmas.Bool.{eqb-true}
use Rattle.std.specs.Prelude.{ℤ, IfSome, slice_index_or}
use Rattle.jdwp_wire.specs.declared.data_fault.DataFault.{DataFault}
use Rattle.jdwp_wire.specs.declared.error_code.ErrorCode.{ErrorCode}
use Rattle.jdwp_wire.specs.ErrorCodes.{INVALID_THREAD, THREAD_NOT_SUSPENDED, ILLEGAL_ARGUMENT}
use Rattle.jdwp_wire.specs.Listed.{list_at}
use Rattle.jdwp_wire.specs.Reading.{◌>>=◌}
use Rattle.jdwp_wire.specs.Widths.{Widths}
use Rattle.jdwp_layout.specs.declared.item.Field.TheVariants as field
use Rattle.jdwp_layout.specs.CommandNumbers.{is_command, FRAMES, FRAME_COUNT, STACK_FRAME, THREAD_REFERENCE, SUSPEND, RESUME, DISPOSE, EXIT, HOLD_EVENTS, RELEASE_EVENTS, ALL_THREADS, ID_SIZES, SET_SLOTS, SET_REQUEST, CLEAR_REQUEST, CLEAR_ALL_BREAKPOINTS}
use Rattle.jdwp_layout.specs.CommandTable.{row_at}
use Rattle.jdwp_layout.specs.declared.answer.Answer.TheVariants.{Error}
use Rattle.jdwp_value.specs.declared.value.Value.{Value}
use Rattle.jdwp_layout.specs.Meanings.{ScalarMeaning, DatumMeaning, One, Many, Object, Frame, Byte, Int}
use Rattle.jdwp_layout.specs.Reads.{data_at, entry_at, item_at, items_at}
use Rattle.jdwp_layout.specs.Shapes.{ItemShape, OneOf, ListOf, Modifiers}
use Rattle.jdwp_event.specs.Composites.{POLICY_ALL}
use Rattle.jdwp_event.specs.Modifiers.{ModifierMeaning, modifiers_of}
use Rattle.jdwp_machine.specs.declared.query.Query.{Query}
use Rattle.jdwp_machine.specs.Meanings.{Meaning}
use Rattle.jdwp_action.specs.Actions
use Rattle.jdwp_action.specs.Actions.{Action, Carried, Command, Content, action_by, action_of, clear_action, first_object, other_action, slots_of, thread_action, thread_of}
use Rattle.jdwp_action.specs.CommandReads.{command_read, content_read, with_content}
use Rattle.jdwp_action.specs.RowLayouts.{row_request}
use Rattle.jdwp_debuggee.specs.Answers.{bounded, query_of}
use Rattle.jdwp_debuggee.specs.Askings.{carries_nothing, carries_thread, is_short}
use Rattle.jdwp_debuggee.specs.Effects.{answer_frames, answer_thread, answered, does, effect, effect_by, refused, set_by, slots_at, slots_by}
use Rattle.jdwp_machine.specs.declared.profile.Profile.{Profile}
use Rattle.jdwp_machine.specs.Profiles.{adds_raw}
use Rattle.jdwp_debuggee.specs.Answering.{is_answered, is_read, read_as, unread_as, with_bytes}
use Rattle.jdwp_debuggee.specs.ReadParts.{AsksFor, begins_with_thread, answered_request, unread}
use Rattle.jdwp_debuggee.specs.Refusals.{is_some_count, kind_refusal, modifiers_refusal, or_else, room_refusal, set_refusal, shape_refusal, unless}
use Rattle.jdwp_debuggee.specs.Settings.{Settings}
use Rattle.jdwp_debuggee.specs.State.{State, Moment, count_of}
use Rattle.jdwp_debuggee.specs.Wants.{MayWant, asks_of_frames, early_refusal, is_positive, own_refusal, refusal_by_count}
use Rattle.jdwp_debuggee.proofs.Read.{raw_cases, read_is, unread_is}

-- ---- what was read, part by part

pub bound : {A B : Type 0} (found : Result A DataFault) (next : A → Result B DataFault) (b : B) → (found >>= next) ≡ Ok b → (a : A) × (found ≡ Ok a) × (next a ≡ Ok b)
bound (Ok a) next b h = (a, refl, h)
bound (Err e) next b h = absurd cc

abbrev pub ok : {X : Type 0} → X → Result X DataFault
ok x = Ok x

pub same : {X : Type 0} (x y : X) → ok x ≡ ok y → x ≡ y
same x y e = cc

finished : {X : Type 0} (b : Bool) (x y : X) (e : DataFault) → (if b then Ok x else Err e) ≡ ok y → x ≡ y
finished true x y e h = cc
finished false x y e h = absurd cc

-- of several items the first, and the others behind it
pub record Split (w : Widths) (n : ℕ) (item : ItemShape) (items : List ItemShape) (bytes : List ℕ) (content : List DatumMeaning) : Type 0 where
  pub first : DatumMeaning × List ℕ
  pub others : List DatumMeaning × List ℕ
  pub found : item_at w n item bytes ≡ Ok first
  pub behind : items_at w n items first.1 ≡ Ok others
  pub all : content ≡ first.0 ∷ others.0

pub split : (w : Widths) (n : ℕ) (item : ItemShape) (items : List ItemShape) (bytes : List ℕ) (x : List DatumMeaning × List ℕ) → items_at w n (item ∷ items) bytes ≡ Ok x → Split w n item items bytes x.0
split w n item items bytes x e =
    let one = bound (item_at w n item bytes) _ x e in
    let more = bound (items_at w n items one.0.1) _ x one.2 in
    record { first = one.0; others = more.0; found = one.1; behind = more.1; all = sym (ap (λ (y : List DatumMeaning × List ℕ). y.0) (same _ _ more.2)) }

pub whole : (w : Widths) (items : List ItemShape) (bytes : List ℕ) (content : List DatumMeaning) → data_at w items bytes ≡ Ok content
    → (x : List DatumMeaning × List ℕ) × (items_at w (length bytes) items bytes ≡ Ok x) × (x.0 ≡ content)
whole w items bytes content e =
    let found = bound (items_at w (length bytes) items bytes) _ content e in
    (found.0, found.1, finished (length found.0.1 == 0) found.0.0 content _ found.2)

-- ---- a kind and a policy in front

abbrev set_items : List ItemShape
set_items = OneOf field.Byte ∷ OneOf field.Byte ∷ ListOf Modifiers ∷ []

list-alone : (w : Widths) (n : ℕ) (bytes : List ℕ) (x : List DatumMeaning × List ℕ) → items_at w n (ListOf Modifiers ∷ []) bytes ≡ Ok x → (entries : List (List ScalarMeaning)) × (x.0 ≡ Many entries ∷ [])
list-alone w n bytes x e =
    let parts = split w n (ListOf Modifiers) [] bytes x e in
    let list = bound (list_at (entry_at w n Modifiers) n bytes) _ parts.first parts.found in
    let first : Many list.0.0 ≡ parts.first.0 = ap (λ (y : DatumMeaning × List ℕ). y.0) (same _ _ list.2) in
    let none : [] ≡ parts.others.0 = ap (λ (y : List DatumMeaning × List ℕ). y.0) (same _ _ parts.behind) in
    (list.0.0, parts.all ∙ (ap (λ (d : DatumMeaning). d ∷ parts.others.0) (sym first) ∙ ap (λ (ds : List DatumMeaning). Many list.0.0 ∷ ds) (sym none)))

byte-first : (w : Widths) (n : ℕ) (items : List ItemShape) (byte : ℕ) (rest : List ℕ) (x : List DatumMeaning × List ℕ) → items_at w n (OneOf field.Byte ∷ items) (byte ∷ rest) ≡ Ok x
    → (others : List DatumMeaning × List ℕ) × (items_at w n items rest ≡ Ok others) × (x.0 ≡ One (Byte byte) ∷ others.0)
byte-first w n items byte rest x e =
    let parts = split w n (OneOf field.Byte) items (byte ∷ rest) x e in
    let first : (One (Byte byte), rest) ≡ parts.first = same _ _ parts.found in (
      parts.others,
      subst (λ (y : DatumMeaning × List ℕ). items_at w n items y.1 ≡ Ok parts.others) (sym first) parts.behind,
      subst (λ (y : DatumMeaning × List ℕ). x.0 ≡ y.0 ∷ parts.others.0) (sym first) parts.all,
    )

set-content : (w : Widths) (kind policy : ℕ) (rest : List ℕ) (content : List DatumMeaning) → data_at w set_items (kind ∷ policy ∷ rest) ≡ Ok content
    → (entries : List (List ScalarMeaning)) × (content ≡ One (Byte kind) ∷ One (Byte policy) ∷ Many entries ∷ [])
set-content w kind policy rest content e =
    let n = length (kind ∷ policy ∷ rest) in
    let all = whole w set_items (kind ∷ policy ∷ rest) content e in
    let one = byte-first w n (OneOf field.Byte ∷ ListOf Modifiers ∷ []) kind (policy ∷ rest) all.0 all.1 in
    let two = byte-first w n (ListOf Modifiers ∷ []) policy rest one.0 one.1 in
    let three = list-alone w n rest two.0 two.1 in
    (three.0, sym all.2 ∙ (one.2 ∙ ap (λ (xs : List DatumMeaning). One (Byte kind) ∷ xs) (two.2 ∙ ap (λ (xs : List DatumMeaning). One (Byte policy) ∷ xs) three.1)))

-- ---- a command that was read

abbrev ok-command : Command → Result Command ErrorCode
ok-command c = Ok c

same-command : (x y : Command) → ok-command x ≡ ok-command y → x ≡ y
same-command x y e = cc

-- its data, and that it is the command of these
pub content-of : (set number : ℕ) (found : Result (List DatumMeaning) DataFault) (c : Command) → content_read set number found ≡ Ok c
    → (content : List DatumMeaning) × (found ≡ Ok content) × (with_content set number content ≡ c)
content-of set number (Ok content) c e = (content, refl, same-command _ _ e)
content-of set number (Err fault) c e = absurd cc

-- a Set
pub set-asks : (w : Widths) (kind policy : ℕ) (rest : List ℕ) (c : Command) → command_read w SET_REQUEST.set SET_REQUEST.number (kind ∷ policy ∷ rest) ≡ Ok c → AsksFor (Some (kind, policy)) (action_of c)
set-asks w kind policy rest c e =
    let read = content-of SET_REQUEST.set SET_REQUEST.number (data_at w set_items (kind ∷ policy ∷ rest)) c e in
    let is = set-content w kind policy rest read.0 read.1 in (
      is.0,
      subst (λ (x : Command). action_of x ≡ Actions.SetRequest kind policy is.0) read.2
          (subst (λ (xs : List DatumMeaning). action_of (with_content SET_REQUEST.set SET_REQUEST.number xs) ≡ Actions.SetRequest kind policy is.0) (sym is.1) refl),
    )

pub set-begins : (w : Widths) (bytes : List ℕ) (c : Command) → command_read w SET_REQUEST.set SET_REQUEST.number bytes ≡ Ok c → AsksFor (Some (slice_index_or bytes 0 0, slice_index_or bytes 1 0)) (action_of c)
set-begins w [] c e = absurd cc
set-begins w (kind ∷ []) c e = absurd cc
set-begins w (kind ∷ policy ∷ rest) c e = set-asks w kind policy rest c e

-- where none are told it asks for nothing
pub none-asked : (r : Option (ℕ × ℕ)) (a : Action) (P : Type 0) → r ≡ None → AsksFor r a → P
none-asked None a P e h = absurd h
none-asked (Some x) a P e h = absurd cc

pub set-refusal : (settings : Settings) (state : State) (kind policy : ℕ) (a : Action) (r : Option (ℕ × ℕ)) → r ≡ Some (kind, policy) → AsksFor r a → early_refusal settings state kind policy ≡ own_refusal settings state a
set-refusal settings state kind policy a r e h =
    let asks : AsksFor (Some (kind, policy)) a = subst (λ (x : Option (ℕ × ℕ)). AsksFor x a) e h in
    sym (ap (λ (x : Action). own_refusal settings state x) asks.1)

-- ---- what is refused

own-if : (settings : Settings) (state : State) (b : Bool) (x y : Action) → own_refusal settings state x ≡ None → own_refusal settings state y ≡ None → own_refusal settings state (if b then x else y) ≡ None
own-if settings state true x y h k = h
own-if settings state false x y h k = k

own-else : (settings : Settings) (state : State) (b : Bool) (x y : Action) → b ≡ false → own_refusal settings state y ≡ None → own_refusal settings state (if b then x else y) ≡ None
own-else settings state true x y off k = absurd cc
own-else settings state false x y off k = k

own-clear : (settings : Settings) (state : State) (carried : Carried) → own_refusal settings state (clear_action carried) ≡ None
own-clear settings state (Content (One (Byte kind) ∷ One (Int id) ∷ [])) = refl
own-clear settings state carried = refl

-- a command that is about no thread, and no Set
own-other : (settings : Settings) (state : State) (c : Command) → is_command SET_REQUEST c.set c.number ≡ false → own_refusal settings state (other_action c) ≡ None
own-other settings state c off =
    own-if settings state (is_command SUSPEND c.set c.number) _ _ refl
    (own-if settings state (is_command RESUME c.set c.number) _ _ refl
    (own-if settings state (is_command DISPOSE c.set c.number) _ _ refl
    (own-if settings state (is_command EXIT c.set c.number) _ _ refl
    (own-if settings state (is_command HOLD_EVENTS c.set c.number) _ _ refl
    (own-if settings state (is_command RELEASE_EVENTS c.set c.number) _ _ refl
    (own-if settings state (is_command ALL_THREADS c.set c.number) _ _ refl
    (own-if settings state (is_command ID_SIZES c.set c.number) _ _ refl
    (own-else settings state (is_command SET_REQUEST c.set c.number) _ _ off
    (own-if settings state (is_command CLEAR_REQUEST c.set c.number) _ _ (own-clear settings state c.carried)
    (own-if settings state (is_command CLEAR_ALL_BREAKPOINTS c.set c.number) _ _ refl refl))))))))))

own-slots : (settings : Settings) (state : State) (t : ℕ) (carried : Carried) → own_refusal settings state (slots_of t carried) ≡ refusal_by_count true (count_of state t)
own-slots settings state t (Content (One (Object o) ∷ One (Frame f) ∷ Many entries ∷ [])) = refl
own-slots settings state t carried = refl

-- a command about a thread, that is none of the four that are read without memory
own-by : (settings : Settings) (state : State) (t : ℕ) (carried : Carried) (suspend resume count status slots frames : Bool) → (suspend || (resume || (status || count))) ≡ false → (slots ≡ true → frames ≡ true)
    → own_refusal settings state (if suspend then Actions.SuspendThread t else (if resume then Actions.ResumeThread t else (if count then Actions.SuspendCount t else (if status then Actions.ThreadStatus t else (if slots then slots_of t carried else (if frames then Actions.AskFrames t else Actions.AskThread t))))))
    ≡ refusal_by_count frames (count_of state t)
own-by settings state t carried true resume count status slots frames long about = absurd cc
own-by settings state t carried false true count status slots frames long about = absurd cc
own-by settings state t carried false false count true slots frames long about = absurd cc
own-by settings state t carried false false true false slots frames long about = absurd cc
own-by settings state t carried false false false false true frames long about = rw (about refl) (own-slots settings state t carried)
own-by settings state t carried false false false false false true long about = refl
own-by settings state t carried false false false false false false long about = refl

middle : (a b c : Bool) → (a || (b || c)) ≡ false → b ≡ false
middle true b c e = absurd cc
middle false true c e = absurd cc
middle false false c e = refl

slots-about : (set number : ℕ) → is_command SET_SLOTS set number ≡ true → asks_of_frames set number ≡ true
slots-about set number e =
    elim (set == STACK_FRAME) as (λ (b : Bool). (b && (number == SET_SLOTS.number)) ≡ true → (b || (is_command FRAMES set number || is_command FRAME_COUNT set number)) ≡ true) [
      | true ↦ λ _. refl
      | false ↦ λ k. absurd (let no = k in cc)
    ] e

own-thread : (settings : Settings) (state : State) (t : ℕ) (c : Command) → is_short c.set c.number ≡ false → own_refusal settings state (thread_action t c) ≡ refusal_by_count (asks_of_frames c.set c.number) (count_of state t)
own-thread settings state t c long =
    own-by settings state t c.carried _ _ _ _ (is_command SET_SLOTS c.set c.number) (asks_of_frames c.set c.number)
    (middle (carries_nothing c.set c.number) (carries_thread c.set c.number) (is_command CLEAR_REQUEST c.set c.number) long) (slots-about c.set c.number)

-- ---- a command of these sets begins with a thread

no-set : (set number : ℕ) → begins_with_thread set ≡ true → is_command SET_REQUEST set number ≡ false
no-set set number e =
    elim (set == THREAD_REFERENCE) as (λ (b : Bool). (set == THREAD_REFERENCE) ≡ b → (b || (set == STACK_FRAME)) ≡ true → is_command SET_REQUEST set number ≡ false) [
      | true ↦ λ is _. rw (eqb-true set THREAD_REFERENCE is) refl
      | false ↦ λ _ is. rw (eqb-true set STACK_FRAME is) refl
    ] refl e

content-thread : (set number : ℕ) (content : List DatumMeaning) → begins_with_thread set ≡ true → thread_of (with_content set number content) ≡ first_object content
content-thread set number content e = rw e refl

no-thread : (set number : ℕ) (content : List DatumMeaning) → begins_with_thread set ≡ false → thread_of (with_content set number content) ≡ None
no-thread set number content e = rw e refl

-- ---- why a command that was read is refused

read-content : (p : Profile) (w : Widths) (set number : ℕ) (bytes : List ℕ) (items : List ItemShape) (c : Command) → answered_request p set number ≡ Some items → read_as p w set number bytes ≡ Ok c
    → (content : List DatumMeaning) × (data_at w items bytes ≡ Ok content) × (with_content set number content ≡ c)
read-content p w set number bytes items c e read = content-of set number (data_at w items bytes) c (sym (read_is p w set number bytes items e) ∙ read)

pub refuses-thread : (p : Profile) (settings : Settings) (state : State) (w : Widths) (set number : ℕ) (bytes : List ℕ) (items : List ItemShape) (t : ℕ) (c : Command) → begins_with_thread set ≡ true → is_short set number ≡ false
    → answered_request p set number ≡ Some items → ((content : List DatumMeaning) → data_at w items bytes ≡ Ok content → Some t ≡ first_object content) → read_as p w set number bytes ≡ Ok c
    → refusal_by_count (asks_of_frames set number) (count_of state t) ≡ own_refusal settings state (action_of c)
refuses-thread p settings state w set number bytes items t c begins long e found read =
    let parts = read-content p w set number bytes items c e read in
    let content = parts.0 in
    let reads = parts.1 in
    let is = parts.2 in
    let thread : thread_of (with_content set number content) ≡ Some t = content-thread set number content begins ∙ sym (found content reads) in
    subst (λ (x : Command). refusal_by_count (asks_of_frames set number) (count_of state t) ≡ own_refusal settings state (action_of x)) is
    (sym (ap (λ (o : Option ℕ). own_refusal settings state (action_by o (with_content set number content))) thread ∙ own-thread settings state t (with_content set number content) long))

pub refuses-none : (p : Profile) (settings : Settings) (state : State) (w : Widths) (set number : ℕ) (bytes : List ℕ) (items : List ItemShape) (c : Command) → begins_with_thread set ≡ true
    → answered_request p set number ≡ Some items → ((content : List DatumMeaning) → data_at w items bytes ≡ Ok content → None ≡ first_object content) → read_as p w set number bytes ≡ Ok c
    → None ≡ own_refusal settings state (action_of c)
refuses-none p settings state w set number bytes items c begins e found read =
    let parts = read-content p w set number bytes items c e read in
    let content = parts.0 in
    let reads = parts.1 in
    let is = parts.2 in
    let thread : thread_of (with_content set number content) ≡ None = content-thread set number content begins ∙ sym (found content reads) in
    subst (λ (x : Command). None ≡ own_refusal settings state (action_of x)) is
    (sym (ap (λ (o : Option ℕ). own_refusal settings state (action_by o (with_content set number content))) thread ∙ own-other settings state (with_content set number content) (no-set set number begins)))

-- a raw command that is answered is of none of these sets
pub unread-raw : (set number : ℕ) (bytes : List ℕ) (c : Command) (r : Bool) → unread_as set number bytes r ≡ Ok c → (r ≡ true) × (with_bytes set number bytes ≡ c)
unread-raw set number bytes c true e = (refl, cc)
unread-raw set number bytes c false e = absurd cc

read-raw : (p : Profile) (w : Widths) (set number : ℕ) (bytes : List ℕ) (c : Command) → answered_request p set number ≡ None → read_as p w set number bytes ≡ Ok c → (adds_raw p set number ≡ true) × (with_bytes set number bytes ≡ c)
read-raw p w set number bytes c e read = unread-raw set number bytes c (adds_raw p set number) (sym (unread_is p w set number bytes e) ∙ read)

pub refuses-unread : (p : Profile) (w : Widths) (set number : ℕ) (bytes : List ℕ) (c : Command) (P : Type 0) → begins_with_thread set ≡ true → answered_request p set number ≡ None → read_as p w set number bytes ≡ Ok c → P
refuses-unread p w set number bytes c P begins e read =
    raw_cases p set number (λ (s n : ℕ). begins_with_thread s ≡ true → P) (λ h. absurd cc) (λ h. absurd cc) (λ h. absurd cc) (λ h. absurd cc) (read-raw p w set number bytes c e read).0 begins

refuses-raw : (p : Profile) (settings : Settings) (state : State) (set number : ℕ) (bytes : List ℕ) → adds_raw p set number ≡ true → None ≡ own_refusal settings state (action_of (with_bytes set number bytes))
refuses-raw p settings state set number bytes h =
    raw_cases p set number (λ (s n : ℕ). None ≡ own_refusal settings state (action_of (with_bytes s n bytes))) refl refl refl refl h

refuses-by : (p : Profile) (settings : Settings) (state : State) (w : Widths) (set number : ℕ) (bytes : List ℕ) (o : Option (List ItemShape)) (c : Command) → begins_with_thread set ≡ false → is_command SET_REQUEST set number ≡ false
    → answered_request p set number ≡ o → read_as p w set number bytes ≡ Ok c → None ≡ own_refusal settings state (action_of c)
refuses-by p settings state w set number bytes None c begins off e read =
    let raw = read-raw p w set number bytes c e read in
    subst (λ (x : Command). None ≡ own_refusal settings state (action_of x)) raw.1 (refuses-raw p settings state set number bytes raw.0)
refuses-by p settings state w set number bytes (Some items) c begins off e read =
    let parts = read-content p w set number bytes items c e read in
    let content = parts.0 in
    let reads = parts.1 in
    let is = parts.2 in
    subst (λ (x : Command). None ≡ own_refusal settings state (action_of x)) is
    (sym (ap (λ (o : Option ℕ). own_refusal settings state (action_by o (with_content set number content))) (no-thread set number content begins) ∙ own-other settings state (with_content set number content) off))

pub refuses-no-other : (p : Profile) (settings : Settings) (state : State) (w : Widths) (set number : ℕ) (bytes : List ℕ) (c : Command) → begins_with_thread set ≡ false → is_command SET_REQUEST set number ≡ false
    → read_as p w set number bytes ≡ Ok c → None ≡ own_refusal settings state (action_of c)
refuses-no-other p settings state w set number bytes c begins off read = refuses-by p settings state w set number bytes (answered_request p set number) c begins off refl read

-- ---- what a command does that is refused so

some-error : (x y : ErrorCode) → Some x ≡ Some y → x ≡ y
some-error x y e = cc

three-first : (a b c next : Option ErrorCode) (e : ErrorCode) → or_else a (or_else b c) ≡ Some e → or_else a (or_else b (or_else c next)) ≡ Some e
three-first (Some x) b c next e h = h
three-first None (Some x) c next e h = h
three-first None None (Some x) next e h = h
three-first None None None next e h = absurd cc

set-refused : {S : Type 0} (m : Meaning S) (settings : Settings) (now : Moment S) (byte policy : ℕ) (modifiers : List ModifierMeaning) (e : ErrorCode) → early_refusal settings now.state byte policy ≡ Some e
    → set_by m now byte policy modifiers (set_refusal m settings now byte policy modifiers) ≡ refused now e
set-refused m settings now byte policy modifiers e h =
    ap (λ (o : Option ErrorCode). set_by m now byte policy modifiers o)
    (three-first (kind_refusal settings.profile byte) (unless (nat_le policy POLICY_ALL) ILLEGAL_ARGUMENT) (room_refusal settings now.state) (or_else (modifiers_refusal m now byte modifiers) (shape_refusal byte modifiers)) e h)

slots-refused : {S : Type 0} (m : Meaning S) (now : Moment S) (t f : ℕ) (values : List (ℤ × Value)) (count : Option ℕ) (e : ErrorCode) → refusal_by_count true count ≡ Some e → slots_by m now t f values count ≡ refused now e
slots-refused m now t f values None e h = ap (λ (x : ErrorCode). refused now x) (some-error INVALID_THREAD e h)
slots-refused m now t f values (Some n) e h =
    elim (n == 0) as (λ (b : Bool). unless (not b) THREAD_NOT_SUSPENDED ≡ Some e → slots_at m now t f values b ≡ refused now e) [
      | true ↦ λ k. ap (λ (x : ErrorCode). refused now x) (some-error THREAD_NOT_SUSPENDED e k)
      | false ↦ λ k. absurd cc
    ] h

frames-refused : {S : Type 0} (m : Meaning S) (settings : Settings) (now : Moment S) (c : Command) (count : Option ℕ) (e : ErrorCode) → refusal_by_count true count ≡ Some e
    → answered now (answer_frames m settings now c count) ≡ refused now e
frames-refused m settings now c None e h = ap (λ (x : ErrorCode). refused now x) (some-error INVALID_THREAD e h)
frames-refused m settings now c (Some n) e h =
    elim (n == 0) as (λ (b : Bool). unless (not b) THREAD_NOT_SUSPENDED ≡ Some e
    → answered now (bounded settings (m.sizes now.machine) (if b then Error THREAD_NOT_SUSPENDED else m.query now.machine (query_of c))) ≡ refused now e) [
      | true ↦ λ k. ap (λ (x : ErrorCode). refused now x) (some-error THREAD_NOT_SUSPENDED e k)
      | false ↦ λ k. absurd cc
    ] h

thread-refused : {S : Type 0} (m : Meaning S) (settings : Settings) (now : Moment S) (c : Command) (count : Option ℕ) (e : ErrorCode) → refusal_by_count false count ≡ Some e
    → answered now (answer_thread m settings now c count) ≡ refused now e
thread-refused m settings now c None e h = ap (λ (x : ErrorCode). refused now x) (some-error INVALID_THREAD e h)
thread-refused m settings now c (Some n) e h = absurd cc

does-refused : {S : Type 0} (m : Meaning S) (settings : Settings) (now : Moment S) (c : Command) (a : Action) (e : ErrorCode) → own_refusal settings now.state a ≡ Some e → does m settings now c a ≡ refused now e
does-refused m settings now c (Actions.SetRequest byte policy entries) e h = set-refused m settings now byte policy (modifiers_of entries) e h
does-refused m settings now c (Actions.SetSlots t f values) e h = slots-refused m now t f values (count_of now.state t) e h
does-refused m settings now c (Actions.AskFrames t) e h = frames-refused m settings now c (count_of now.state t) e h
does-refused m settings now c (Actions.AskThread t) e h = thread-refused m settings now c (count_of now.state t) e h
does-refused m settings now c a e h = absurd cc

-- a command that reads is answered
pub or-left : (a b : Bool) → a ≡ true → (a || b) ≡ true
or-left a b h = rw h refl

pub or-right : (a b : Bool) → b ≡ true → (a || b) ≡ true
or-right true b h = refl
or-right false b h = h

answered-by : (p : Profile) (set number : ℕ) (bytes : List ℕ) (found : Result (List DatumMeaning) DataFault) (b : Bool) (c : Command) → is_read p (unread set number) ≡ b
    → (if b then content_read set number found else unread_as set number bytes (adds_raw p set number)) ≡ Ok c → is_answered p c ≡ true
answered-by p set number bytes found true c is read =
    subst (λ (x : Command). is_answered p x ≡ true) (content-of set number found c read).2 (or-left (is_read p (unread set number)) (adds_raw p set number) is)
answered-by p set number bytes found false c is read =
    let raw = unread-raw set number bytes c (adds_raw p set number) read in
    subst (λ (x : Command). is_answered p x ≡ true) raw.1 (or-right (is_read p (unread set number)) (adds_raw p set number) raw.0)

pub effect-refused : {S : Type 0} (m : Meaning S) (settings : Settings) (now : Moment S) (w : Widths) (set number : ℕ) (bytes : List ℕ) (c : Command) (r : Option ErrorCode) → read_as settings.profile w set number bytes ≡ Ok c
    → r ≡ own_refusal settings now.state (action_of c) → IfSome r (λ e. effect m settings now c ≡ refused now e)
effect-refused m settings now w set number bytes c None read is = tt
effect-refused m settings now w set number bytes c (Some e) read is =
    let on = answered-by settings.profile set number bytes (data_at w (row_request (row_at set number)) bytes) (is_read settings.profile (unread set number)) c refl read in
    ap (λ (b : Bool). effect_by m settings now c b) on ∙ does-refused m settings now c (action_of c) e (sym is)

-- ---- what is refused so wants no memory

suspended-admitted : (count : Option ℕ) → is_positive count ≡ true → refusal_by_count true count ≡ None
suspended-admitted None h = absurd cc
suspended-admitted (Some n) h =
    elim (n == 0) as (λ (b : Bool). not b ≡ true → unless (not b) THREAD_NOT_SUSPENDED ≡ None) [ true ↦ λ k. absurd cc | false ↦ λ k. refl ] h

live-admitted : (count : Option ℕ) → is_some_count count ≡ true → refusal_by_count false count ≡ None
live-admitted None h = absurd cc
live-admitted (Some n) h = refl

pub wanting-admitted : {S : Type 0} (m : Meaning S) (settings : Settings) (now : Moment S) (question : Option Query) (a : Action) → MayWant m settings now question a → own_refusal settings now.state a ≡ None
wanting-admitted m settings now question (Actions.SetRequest byte policy entries) h = h
wanting-admitted m settings now question (Actions.SetSlots t f values) h = suspended-admitted (count_of now.state t) h.0
wanting-admitted m settings now question (Actions.AskFrames t) h = suspended-admitted (count_of now.state t) h.0
wanting-admitted m settings now question (Actions.AskThread t) h = live-admitted (count_of now.state t) h.0
wanting-admitted m settings now question a h = refl

pub effects-refused : {S : Type 0} (m : Meaning S) (settings : Settings) (now : Moment S) (w : Widths) (set number : ℕ) (bytes : List ℕ) (r : Option ErrorCode)
    → ((c : Command) → read_as settings.profile w set number bytes ≡ Ok c → is_short set number ≡ false → r ≡ own_refusal settings now.state (action_of c))
    → IfSome r (λ e. (c : Command) → read_as settings.profile w set number bytes ≡ Ok c → is_short set number ≡ false → effect m settings now c ≡ refused now e)
effects-refused m settings now w set number bytes None h = tt
effects-refused m settings now w set number bytes (Some e) h = λ (c : Command). λ read long. effect-refused m settings now w set number bytes c (Some e) read (h c read long)
