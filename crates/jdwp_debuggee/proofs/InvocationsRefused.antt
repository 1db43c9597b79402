-- When an invocation of a method is refused, and with which error.
use Rattle.std.proofs.Common.{◌≡◌, ◌≢◌, inl, inr, ◌∷◌, ℕ, Bool, true, false, if◌then◌else◌, List, [], Option, Some, None, is_some, Result, Ok, Err, IfOk, unwrap_or, refl, sym, ap, subst, ◌∙◌, arith}
use Rattle.jdwp_wire.specs.declared.error_code.ErrorCode.{ErrorCode}
use Rattle.jdwp_wire.specs.ErrorCodes.{INVALID_THREAD, THREAD_NOT_SUSPENDED, ILLEGAL_ARGUMENT, INTERNAL, NONE}
use Rattle.jdwp_wire.specs.Numbers.{number_at}
use Rattle.jdwp_wire.specs.Widths.{Widths}
use Rattle.jdwp_wire.specs.declared.data_fault.DataFault.{DataFault}
use Rattle.jdwp_layout.specs.declared.answer.Answer.{Answer}
use Rattle.jdwp_layout.specs.declared.answer.Answer.TheVariants.{Data, Error}
use Rattle.jdwp_layout.specs.declared.item.Field.TheVariants as field
use Rattle.jdwp_layout.specs.CommandNumbers.{CommandNumber, CLASS_INVOKE, INTERFACE_INVOKE, OBJECT_INVOKE}
use Rattle.jdwp_layout.specs.Meanings.{DatumMeaning, ScalarMeaning, Object, One, raw_bytes}
use Rattle.jdwp_layout.specs.Reads.{data_at, field_at, item_at, items_at}
use Rattle.jdwp_layout.specs.Shapes.{Fields, ItemShape, ListOf, OneOf}
use Rattle.jdwp_machine.specs.declared.query.Query.{Query}
use Rattle.jdwp_layout.specs.Invocations.{invocation_request, is_there, of_object, of_type}
use Rattle.jdwp_machine.specs.Laws.{IsLawful, MayAnswer}
use Rattle.jdwp_machine.specs.Meanings.{Meaning, has}
use Rattle.jdwp_action.specs.Actions.{action_of}
use Rattle.jdwp_action.specs.AnswerPackets.{error_of}
use Rattle.jdwp_debuggee.specs.Answering.{is_answered, with_bytes}
use Rattle.jdwp_debuggee.specs.Answers.{bounded, fits_packet, query_of}
use Rattle.jdwp_debuggee.specs.Effects.{answered, does, effect}
use Rattle.jdwp_debuggee.specs.Facts.{IsSound}
use Rattle.jdwp_debuggee.specs.InvocationLaws.{Invokes, IsBy, IsGone, IsRefused, IsStopped, IsUnstopped}
use Rattle.jdwp_debuggee.specs.Invoking.{data_in, invoked, invoked_at, invoked_by, invoking_thread, with_data}
use Rattle.jdwp_debuggee.specs.Settings.{Settings}
use Rattle.jdwp_debuggee.specs.Sending.{IsSent, sent_error}
use Rattle.jdwp_debuggee.specs.declared.reply.Sent.{Sent}
use Rattle.jdwp_debuggee.specs.State.{Moment, count_of}
use Rattle.jdwp_debuggee.proofs.OwnRefusals.{bound, same, split, whole}
use Rattle.jdwp_debuggee.proofs.Read.{invocation_cases}

-- ---- the thread stands second in the data

abbrev HasInvoker : List DatumMeaning → Type 0
HasInvoker content = (t : ℕ) × (invoking_thread content ≡ Some t)

-- an object that was read
object-read : (w : Widths) (n : ℕ) (bytes : List ℕ) (x : DatumMeaning × List ℕ) → item_at w n (OneOf field.ObjectId) bytes ≡ Ok x → (t : ℕ) × (x.0 ≡ One (Object t))
object-read w n bytes x e =
    let scalar = bound (field_at w n field.ObjectId bytes) _ x e in
    let number = bound (number_at w.object n bytes) _ scalar.0 scalar.1 in
    let outer : (One scalar.0.0, scalar.0.1) ≡ x = same _ _ scalar.2 in
    let inner : (Object number.0.0, number.0.1) ≡ scalar.0 = same _ _ number.2 in
    (number.0.0, sym (ap (λ (y : DatumMeaning × List ℕ). y.0) outer) ∙ ap (λ (y : ScalarMeaning × List ℕ). One y.0) (sym inner))

second : (w : Widths) (n : ℕ) (item : ItemShape) (items : List ItemShape) (bytes : List ℕ) (x : List DatumMeaning × List ℕ) → items_at w n (item ∷ OneOf field.ObjectId ∷ items) bytes ≡ Ok x → HasInvoker x.0
second w n item items bytes x e =
    let one = split w n item (OneOf field.ObjectId ∷ items) bytes x e in
    let two = split w n (OneOf field.ObjectId) items one.first.1 one.others one.behind in
    let is = object-read w n one.first.1 two.first two.found in
    let all : x.0 ≡ one.first.0 ∷ One (Object is.0) ∷ two.others.0 =
    one.all ∙ ap (λ (xs : List DatumMeaning). one.first.0 ∷ xs) (two.all ∙ ap (λ (d : DatumMeaning). d ∷ two.others.0) is.1) in
    (is.0, ap (λ (xs : List DatumMeaning). invoking_thread xs) all)

data-second : (w : Widths) (item : ItemShape) (items : List ItemShape) (bytes : List ℕ) (content : List DatumMeaning) → data_at w (item ∷ OneOf field.ObjectId ∷ items) bytes ≡ Ok content → HasInvoker content
data-second w item items bytes content e =
    let all = whole w (item ∷ OneOf field.ObjectId ∷ items) bytes content e in
    subst HasInvoker all.2 (second w _ item items bytes all.0 all.1)

abbrev ReadsInvoker : Widths → List ℕ → List ItemShape → Type 0
ReadsInvoker w bytes shapes = (content : List DatumMeaning) → data_at w shapes bytes ≡ Ok content → HasInvoker content

type-second : (w : Widths) (bytes : List ℕ) → ReadsInvoker w bytes of_type
type-second w bytes = data-second w (OneOf field.ReferenceTypeId) (OneOf field.MethodId ∷ ListOf (Fields (field.Value ∷ [])) ∷ OneOf field.Int ∷ []) bytes

object-second : (w : Widths) (bytes : List ℕ) → ReadsInvoker w bytes of_object
object-second w bytes = data-second w (OneOf field.ObjectId) (OneOf field.ReferenceTypeId ∷ OneOf field.MethodId ∷ ListOf (Fields (field.Value ∷ [])) ∷ OneOf field.Int ∷ []) bytes

-- the two layouts of an invocation's data
which-shapes : (a b : Bool) (shapes : List ItemShape) (P : List ItemShape → Type 0) → (if a then Some of_type else (if b then Some of_object else None)) ≡ Some shapes → P of_type → P of_object → P shapes
which-shapes true b shapes P e type object = subst P (let is : of_type ≡ shapes = cc in is) type
which-shapes false true shapes P e type object = subst P (let is : of_object ≡ shapes = cc in is) object
which-shapes false false shapes P e type object = absurd cc

pub invoker-reads : (w : Widths) (set number : ℕ) (bytes : List ℕ) (shapes : List ItemShape) → invocation_request set number ≡ Some shapes → ReadsInvoker w bytes shapes
invoker-reads w set number bytes shapes e = which-shapes _ _ shapes (ReadsInvoker w bytes) e (type-second w bytes) (object-second w bytes)

-- ---- errors

differs : (a b : ErrorCode) (P : Type 0) → a.0 ≢ b.0 → a ≡ b → P
differs a b P apart e = absurd (apart (ap (λ (x : ErrorCode). x.0) e))

-- what the machine says, bounded, is no error of the debuggee's own, and ILLEGAL_ARGUMENT only where the machine says so
never : {S : Type 0} (m : Meaning S) (s : S) (settings : Settings) (w : Widths) (set number : ℕ) (x : Answer) (P : Type 0) → MayAnswer m s set number x → error_of (bounded settings w x) ≡ INVALID_THREAD → P
never m s settings w set number (Error e) P may h = differs e INVALID_THREAD P may.1 h
never m s settings w set number (Data content) P may h = elim (fits_packet settings w content) as (λ (b : Bool). error_of (if b then Data content else Error INTERNAL) ≡ INVALID_THREAD → P) [
  | true ↦ λ k. differs NONE INVALID_THREAD P (λ n. omega (arith, n)) k
  | false ↦ λ k. differs INTERNAL INVALID_THREAD P (λ n. omega (arith, n)) k
] h

never-suspended : {S : Type 0} (m : Meaning S) (s : S) (settings : Settings) (w : Widths) (set number : ℕ) (x : Answer) (P : Type 0) → MayAnswer m s set number x → error_of (bounded settings w x) ≡ THREAD_NOT_SUSPENDED → P
never-suspended m s settings w set number (Error e) P may h = differs e THREAD_NOT_SUSPENDED P may.2 h
never-suspended m s settings w set number (Data content) P may h = elim (fits_packet settings w content) as (λ (b : Bool). error_of (if b then Data content else Error INTERNAL) ≡ THREAD_NOT_SUSPENDED → P) [
  | true ↦ λ k. differs NONE THREAD_NOT_SUSPENDED P (λ n. omega (arith, n)) k
  | false ↦ λ k. differs INTERNAL THREAD_NOT_SUSPENDED P (λ n. omega (arith, n)) k
] h

says-so : (settings : Settings) (w : Widths) (x : Answer) → error_of (bounded settings w x) ≡ ILLEGAL_ARGUMENT → x ≡ Error ILLEGAL_ARGUMENT
says-so settings w (Error e) h = ap (λ (y : ErrorCode). Error y) h
says-so settings w (Data content) h = elim (fits_packet settings w content) as (λ (b : Bool). error_of (if b then Data content else Error INTERNAL) ≡ ILLEGAL_ARGUMENT → Data content ≡ Error ILLEGAL_ARGUMENT) [
  | true ↦ λ k. differs NONE ILLEGAL_ARGUMENT _ (λ n. omega (arith, n)) k
  | false ↦ λ k. differs INTERNAL ILLEGAL_ARGUMENT _ (λ n. omega (arith, n)) k
] h

-- ---- by the thread that is named

-- what holds of the thread that is to invoke holds of the one that the data name
by-one : (content : List DatumMeaning) (t : ℕ) (P : ℕ → Type 0) → invoking_thread content ≡ Some t → IsBy (Ok content) P → P t
by-one content t P e (u, f, p) = subst P (let is : u ≡ t = cc (e, f) in is) p

by-none : (fault : DataFault) (P : ℕ → Type 0) (Q : Type 0) → IsBy (Err fault) P → Q
by-none fault P Q (u, f, p) = absurd cc

lives-not : (o : Option ℕ) (Q : Type 0) → o ≡ None → is_some o ≡ true → Q
lives-not o Q e h = let l = rw e at h in absurd cc

gone-refused : {S : Type 0} (m : Meaning S) (now : Moment S) (q : Query) (content : List DatumMeaning) (t : ℕ) → invoking_thread content ≡ Some t → count_of now.state t ≡ None → IsRefused m now q (Ok content) INVALID_THREAD
gone-refused m now q content t e none = record {
  unread = (
    λ h. differs INVALID_THREAD ILLEGAL_ARGUMENT _ (λ n. omega (arith, n)) h,
    λ h. elim h [
      | inl a ↦ absurd a
      | inr a ↦ lives-not (count_of now.state t) _ none (by-one content t (IsStopped now.state) e a.0).0
    ],
  );
  gone = (λ h. (t, e, none), λ h. refl);
  unstopped = (
    λ h. differs INVALID_THREAD THREAD_NOT_SUSPENDED _ (λ n. omega (arith, n)) h,
    λ h. lives-not (count_of now.state t) _ none (by-one content t (IsUnstopped now.state) e h).0,
  );
}

runs-refused : {S : Type 0} (m : Meaning S) (now : Moment S) (q : Query) (content : List DatumMeaning) (t count : ℕ) → invoking_thread content ≡ Some t → count_of now.state t ≡ Some count → has now.state.stopped t ≡ false
    → IsRefused m now q (Ok content) THREAD_NOT_SUSPENDED
runs-refused m now q content t count e lives off = record {
  unread = (
    λ h. differs THREAD_NOT_SUSPENDED ILLEGAL_ARGUMENT _ (λ n. omega (arith, n)) h,
    λ h. elim h [
      | inl a ↦ absurd a
      | inr a ↦ let on = (by-one content t (IsStopped now.state) e a.0).1 in absurd (cc (on, off))
    ],
  );
  gone = (
    λ h. differs THREAD_NOT_SUSPENDED INVALID_THREAD _ (λ n. omega (arith, n)) h,
    λ h. let none = by-one content t (IsGone now.state) e h in absurd (cc (none, lives)),
  );
  unstopped = (λ h. (t, e, (ap (λ (o : Option ℕ). is_some o) lives, off)), λ h. refl);
}

asked-refused : {S : Type 0} (m : Meaning S) (settings : Settings) (now : Moment S) (q : Query) (content : List DatumMeaning) (t count : ℕ) → invoking_thread content ≡ Some t → count_of now.state t ≡ Some count → has now.state.stopped t ≡ true
    → MayAnswer m now.machine q.set q.number (m.query now.machine (with_data q content))
    → IsRefused m now q (Ok content) (error_of (bounded settings (m.sizes now.machine) (m.query now.machine (with_data q content))))
asked-refused m settings now q content t count e lives on may =
    let w = m.sizes now.machine in
    let x = m.query now.machine (with_data q content) in
    record {
      unread = (
        λ h. inr ((t, e, (ap (λ (o : Option ℕ). is_some o) lives, on)), says-so settings w x h),
        λ h. elim h [
          | inl a ↦ absurd a
          | inr a ↦ ap (λ (y : Answer). error_of (bounded settings w y)) a.1
        ],
      );
      gone = (λ h. never m now.machine settings w q.set q.number x _ may h, λ h. let none = by-one content t (IsGone now.state) e h in absurd (cc (none, lives)));
      unstopped = (λ h. never-suspended m now.machine settings w q.set q.number x _ may h, λ h. let off = (by-one content t (IsUnstopped now.state) e h).1 in absurd (cc (on, off)));
    }

-- ---- all of it

abbrev Answers : {S : Type 0} → Meaning S → S → Query → Type 0
Answers m s q = (content : List DatumMeaning) → MayAnswer m s q.set q.number (m.query s (with_data q content))

at-refused : {S : Type 0} (m : Meaning S) (settings : Settings) (now : Moment S) (q : Query) (content : List DatumMeaning) (t : ℕ) (o : Option ℕ) → invoking_thread content ≡ Some t → count_of now.state t ≡ o → Answers m now.machine q
    → IsRefused m now q (Ok content) (error_of (invoked_at m settings now (with_data q content) t o))
at-refused m settings now q content t None e is may = gone-refused m now q content t e is
at-refused m settings now q content t (Some count) e is may =
    elim (has now.state.stopped t) as (λ (b : Bool). has now.state.stopped t ≡ b
    → IsRefused m now q (Ok content) (error_of (if b then bounded settings (m.sizes now.machine) (m.query now.machine (with_data q content)) else Error THREAD_NOT_SUSPENDED))) [
      | true ↦ λ on. asked-refused m settings now q content t count e is on (may content)
      | false ↦ λ off. runs-refused m now q content t count e is off
    ] refl

pub found-refused : {S : Type 0} (m : Meaning S) (settings : Settings) (now : Moment S) (q : Query) (found : Result (List DatumMeaning) DataFault) → ((content : List DatumMeaning) → found ≡ Ok content → HasInvoker content) → Answers m now.machine q
    → IsRefused m now q found (error_of (invoked m settings now q found))
found-refused m settings now q (Ok content) reads may =
    let by = reads content refl in
    subst (λ (o : Option ℕ). IsRefused m now q (Ok content) (error_of (invoked_by m settings now (with_data q content) o))) (sym by.1) (at-refused m settings now q content by.0 _ by.1 refl may)
found-refused m settings now q (Err fault) reads may = record {
  unread = (λ h. inl tt, λ h. refl);
  gone = (λ h. differs ILLEGAL_ARGUMENT INVALID_THREAD _ (λ n. omega (arith, n)) h, λ h. by-none fault _ _ h);
  unstopped = (λ h. differs ILLEGAL_ARGUMENT THREAD_NOT_SUSPENDED _ (λ n. omega (arith, n)) h, λ h. by-none fault _ _ h);
}

-- what is sent for it
pub sent-refused : {S E : Type 0} (m : Meaning S) → IsLawful m → (settings : Settings) (now : Moment S) (q : Query) (items : List ItemShape) (r : Result Sent E) → m.is_state now.machine → invocation_request q.set q.number ≡ Some items
    → IfOk r (λ x. IsSent (m.sizes now.machine) (invoked m settings now q (data_in (m.sizes now.machine) items q.content)) x)
    → IfOk r (λ x. (shapes : List ItemShape) → invocation_request q.set q.number ≡ Some shapes → IsRefused m now q (data_in (m.sizes now.machine) shapes q.content) (sent_error x))
sent-refused m law settings now q items (Err e) state of v = tt
sent-refused m law settings now q items (Ok x) state of v = λ shapes e.
    let same : items ≡ shapes = cc in
    let w = m.sizes now.machine in
    let found = data_in w items q.content in
    let reads = invoker-reads w q.set q.number (unwrap_or (raw_bytes q.content) []) items of in
    subst (λ (y : List ItemShape). IsRefused m now q (data_in w y q.content) (sent_error x)) same
    (subst (λ (y : ErrorCode). IsRefused m now q found y) (sym v.error) (found-refused m settings now q found reads (λ content. law.answers now.machine (with_data q content) state)))

-- ---- the effect

found-asked : {S : Type 0} (m : Meaning S) (settings : Settings) (now : Moment S) (q : Query) (content : List DatumMeaning) (t : ℕ) (o : Option ℕ) → count_of now.state t ≡ o → IsStopped now.state t
    → invoked_at m settings now (with_data q content) t o ≡ bounded settings (m.sizes now.machine) (m.query now.machine (with_data q content))
found-asked m settings now q content t None is stopped = lives-not (count_of now.state t) _ is stopped.0
found-asked m settings now q content t (Some count) is stopped =
    ap (λ (b : Bool). if b then bounded settings (m.sizes now.machine) (m.query now.machine (with_data q content)) else Error THREAD_NOT_SUSPENDED) stopped.1

by-asked : {S : Type 0} (m : Meaning S) (settings : Settings) (now : Moment S) (q : Query) (found : Result (List DatumMeaning) DataFault) (content : List DatumMeaning) → found ≡ Ok content → IsBy found (IsStopped now.state)
    → invoked m settings now q found ≡ bounded settings (m.sizes now.machine) (m.query now.machine (with_data q content))
by-asked m settings now q (Ok x) content is (t, e, stopped) =
    let same : x ≡ content = cc in
    ap (λ (o : Option ℕ). invoked_by m settings now (with_data q x) o) e
    ∙ (found-asked m settings now q x t _ refl stopped ∙ ap (λ (y : List DatumMeaning). bounded settings (m.sizes now.machine) (m.query now.machine (with_data q y))) same)
by-asked m settings now q (Err fault) content is by = absurd cc

found-invokes : {S : Type 0} (m : Meaning S) (settings : Settings) (now : Moment S) (q : Query) (found : Result (List DatumMeaning) DataFault) → ((content : List DatumMeaning) → found ≡ Ok content → HasInvoker content) → Answers m now.machine q
    → Invokes m settings now q found (answered now (invoked m settings now q found))
found-invokes m settings now q found reads may = record {
  stays = refl;
  lives = refl;
  goes_on = refl;
  refused = found-refused m settings now q found reads may;
  answered = λ content is by. by-asked m settings now q found content is by;
}

abbrev InvokesAt : {S : Type 0} → Meaning S → Settings → Moment S → List ℕ → List ItemShape → ℕ → ℕ → Type 0
InvokesAt m settings now bytes shapes set number =
    invocation_request set number ≡ Some shapes
    → Invokes m settings now (query_of (with_bytes set number bytes)) (data_at (m.sizes now.machine) shapes bytes) (does m settings now (with_bytes set number bytes) (action_of (with_bytes set number bytes)))

at-shapes : {S : Type 0} (m : Meaning S) (settings : Settings) (now : Moment S) (bytes : List ℕ) (items shapes : List ItemShape) (q : Query) → Answers m now.machine q → ReadsInvoker (m.sizes now.machine) bytes items → Some items ≡ Some shapes
    → Invokes m settings now q (data_at (m.sizes now.machine) shapes bytes) (answered now (invoked m settings now q (data_at (m.sizes now.machine) items bytes)))
at-shapes m settings now bytes items shapes q may reads e =
    let same : items ≡ shapes = cc in
    subst (λ (x : List ItemShape). Invokes m settings now q (data_at (m.sizes now.machine) x bytes) (answered now (invoked m settings now q (data_at (m.sizes now.machine) items bytes)))) same
    (found-invokes m settings now q (data_at (m.sizes now.machine) items bytes) reads may)

pub invokes_effect : {S : Type 0} (m : Meaning S) → IsLawful m → (settings : Settings) (now : Moment S) (set number : ℕ) (bytes : List ℕ) (shapes : List ItemShape) → IsSound m settings now → is_answered settings.profile (with_bytes set number bytes) ≡ true → invocation_request set number ≡ Some shapes
    → Invokes m settings now (query_of (with_bytes set number bytes)) (data_at (m.sizes now.machine) shapes bytes) (effect m settings now (with_bytes set number bytes))
invokes_effect m law settings now set number bytes shapes sound given e =
    let may : (q : Query) → Answers m now.machine q = λ q content. law.answers now.machine (with_data q content) sound.state in
    let asked : CommandNumber → Query = λ k. query_of (with_bytes k.set k.number bytes) in
    let w = m.sizes now.machine in
    rw given
    (invocation_cases set number (InvokesAt m settings now bytes shapes)
    (λ k. at-shapes m settings now bytes of_type shapes (asked CLASS_INVOKE) (may (asked CLASS_INVOKE)) (type-second w bytes) k)
    (λ k. at-shapes m settings now bytes of_type shapes (asked INTERFACE_INVOKE) (may (asked INTERFACE_INVOKE)) (type-second w bytes) k)
    (λ k. at-shapes m settings now bytes of_object shapes (asked OBJECT_INVOKE) (may (asked OBJECT_INVOKE)) (object-second w bytes) k)
    (ap (λ (o : Option (List ItemShape)). is_there o) e) e)
