-- In which order threads stand after what was changed, left out and added.
use Rattle.std.proofs.Common.{◌≡◌, ℕ, Bool, true, false, not, List, [], ◌∷◌, ◌++◌, refl, ◌∙◌, ap, sym, Option, Some, None, is_some, if◌then◌else◌}
use Rattle.std.specs.Prelude.{◌==◌}
use Rattle.std.specs.List.{filter}
use Rattle.std.specs.Option.{option_map, option_to_list}
use Rattle.std.proofs.lemmas.List.{append-nil, map-append}
use Rattle.std.proofs.lemmas.List.Elements.{filter_agree}
use Rattle.jdwp_wire.specs.declared.error_code.ErrorCode.{ErrorCode}
use Rattle.jdwp_value.specs.declared.id.ObjectId.{ObjectId}
use Rattle.jdwp_layout.specs.Meanings.{DatumMeaning}
use Rattle.jdwp_event.specs.Composites.{CompositeMeaning}
use Rattle.jdwp_mirror.specs.declared.command.CommandKind.{CommandKind}
use Rattle.jdwp_mirror.specs.declared.command.CommandKind.TheVariants as kinds
use Rattle.jdwp_mirror.specs.declared.threads.Known.{Known}
use Rattle.jdwp_mirror.specs.declared.threads.Lesson.{Lesson}
use Rattle.jdwp_mirror.specs.CommandKinds.{lesson_of, lesson_of_event, ready_for, threads_after_data, threads_after_error, threads_after_event, with_counted, with_found, without_found}
use Rattle.jdwp_mirror.specs.Mirror.{counted, is_invalid_thread, is_last_of_thread, lists}
use Rattle.jdwp_mirror.specs.KnownThreads.{KeepsOrder, all_taught, count_by, count_in, ids_of, is_known_in, only, unseen_thread, with_thread, without}
use Rattle.jdwp_mirror.proofs.KnownLemmas.{count-only, count-pushed, count-taught, eq-self}

-- ---- tests of the ids of known threads

known-more : (k : Known) (ks : List Known) (t : ℕ) → is_known_in ks t ≡ true → is_known_in (k ∷ ks) t ≡ true
known-more k ks t e = elim (k.id.0 == t) as (λ b. is_some (if b then Some k.count else count_in ks t) ≡ true) [ true ↦ refl | false ↦ e ]

-- tests that agree at what is known leave the same ids
filter-known : (ks : List Known) (p q : ℕ → Bool) → ((t : ℕ) → is_known_in ks t ≡ true → p t ≡ q t) → filter p (ids_of ks) ≡ filter q (ids_of ks)
filter-known [] p q h = refl
filter-known (k ∷ ks) p q h =
    let t = k.id.0 in
    let first : p t ≡ q t = h t (rw (eq-self t) refl) in
    let rest : filter p (ids_of ks) ≡ filter q (ids_of ks) = filter-known ks p q (λ u e. h u (known-more k ks u e)) in
    ap (λ (b : Bool). if b then t ∷ filter p (ids_of ks) else filter p (ids_of ks)) first ∙ ap (λ (ts : List ℕ). if q t then t ∷ ts else ts) rest

filter-all : (ts : List ℕ) → filter (λ t. true) ts ≡ ts
filter-all [] = refl
filter-all (t ∷ ts) = ap (λ (us : List ℕ). t ∷ us) (filter-all ts)

-- a test that all that is known passes leaves out none
filter-passed : (ks : List Known) (p : ℕ → Bool) → ((t : ℕ) → is_known_in ks t ≡ true → p t ≡ true) → filter p (ids_of ks) ≡ ids_of ks
filter-passed ks p h = filter-known ks p (λ t. true) h ∙ filter-all (ids_of ks)

filter-none : (ts : List ℕ) → filter (is_known_in []) ts ≡ []
filter-none [] = refl
filter-none (t ∷ ts) = filter-none ts

-- ---- nothing, all and some of them

-- where no thread became known
nobody-met : (old new : List Known) → ids_of new ≡ filter (is_known_in new) (ids_of old) → KeepsOrder old new
nobody-met old new e = record { met = None; ids = e ∙ sym (append-nil (filter (is_known_in new) (ids_of old))); unknown = tt }

pub order-none : (ks : List Known) → KeepsOrder ks []
order-none ks = nobody-met ks [] (sym (filter-none (ids_of ks)))

order-same : (ks : List Known) → KeepsOrder ks ks
order-same ks = nobody-met ks ks (sym (filter-passed ks (is_known_in ks) (λ t e. e)))

ids-only : (test : ℕ → Bool) (ks : List Known) → ids_of (only test ks) ≡ filter test (ids_of ks)
ids-only test [] = refl
ids-only test (k ∷ ks) =
    let t = k.id.0 in
    elim (test t) as (λ b. ids_of (if b then k ∷ only test ks else only test ks) ≡ (if b then t ∷ filter test (ids_of ks) else filter test (ids_of ks))) [
      | true ↦ ap (λ (ts : List ℕ). t ∷ ts) (ids-only test ks)
      | false ↦ ids-only test ks
    ]

some-if : (b : Bool) (n : Option ℕ) → is_some n ≡ true → b ≡ is_some (if b then n else None)
some-if true n e = sym e
some-if false n e = refl

only-known : (test : ℕ → Bool) (ks : List Known) (t : ℕ) → is_known_in ks t ≡ true → test t ≡ is_known_in (only test ks) t
only-known test ks t e = some-if (test t) (count_in ks t) e ∙ ap (λ (n : Option ℕ). is_some n) (sym (count-only test ks t))

order-only : (test : ℕ → Bool) (ks : List Known) → KeepsOrder ks (only test ks)
order-only test ks = nobody-met ks (only test ks) (ids-only test ks ∙ filter-known ks test (is_known_in (only test ks)) (only-known test ks))

order-without : (t : ℕ) (ks : List Known) → KeepsOrder ks (without t ks)
order-without t ks = order-only (λ u. not (u == t)) ks

-- ---- one more

some-first : (n m : Option ℕ) → is_some n ≡ true → is_some (if is_some n then n else m) ≡ true
some-first (Some k) m e = refl
some-first None m e = cc

pushed-known : (id : ObjectId) (ks : List Known) (t : ℕ) → is_known_in ks t ≡ true → is_known_in (ks ++ unseen_thread id ∷ []) t ≡ true
pushed-known id ks t e = ap (λ (n : Option ℕ). is_some n) (count-pushed id ks t) ∙ some-first (count_in ks t) (if id.0 == t then Some 0 else None) e

none-of : (n : Option ℕ) → is_some n ≡ false → n ≡ None
none-of None e = refl
none-of (Some k) e = cc

order-with : (id : ObjectId) (ks : List Known) → KeepsOrder ks (with_thread id ks)
order-with id ks =
    elim (is_some (count_in ks id.0)) as (λ b. is_some (count_in ks id.0) ≡ b → KeepsOrder ks (if b then ks else ks ++ unseen_thread id ∷ [])) [
      | true ↦ λ e. order-same ks
      | false ↦ λ e. record {
        met = Some id.0;
        ids = map-append (λ (k : Known). k.id.0) ks (unseen_thread id ∷ []) ∙ ap (λ (ts : List ℕ). ts ++ id.0 ∷ []) (sym (filter-passed ks (is_known_in (ks ++ unseen_thread id ∷ [])) (pushed-known id ks)));
        unknown = none-of (count_in ks id.0) e;
      }
    ] refl

-- ---- changed

ids-taught : (l : Lesson) (ks : List Known) → ids_of (all_taught l ks) ≡ ids_of ks
ids-taught l [] = refl
ids-taught l (k ∷ ks) = ap (λ (ts : List ℕ). k.id.0 ∷ ts) (ids-taught l ks)

some-map : (f : ℕ → ℕ) (n : Option ℕ) → is_some n ≡ is_some (option_map f n)
some-map f None = refl
some-map f (Some k) = refl

known-taught : (l : Lesson) (ks : List Known) (t : ℕ) → is_known_in ks t ≡ is_known_in (all_taught l ks) t
known-taught l ks t = some-map (count_by l t) (count_in ks t) ∙ ap (λ (n : Option ℕ). is_some n) (sym (count-taught l ks t))

order-taught : (l : Lesson) (old new : List Known) → KeepsOrder old new → KeepsOrder old (all_taught l new)
order-taught l old new o = record {
  met = o.met;
  ids = ids-taught l new ∙ (o.ids ∙ ap (λ (ts : List ℕ). ts ++ option_to_list o.met) (filter_agree (is_known_in new) (is_known_in (all_taught l new)) (known-taught l new) (ids_of old)));
  unknown = o.unknown;
}

-- ---- after a reply

pub order-error : (thread : Option ObjectId) (e : ErrorCode) (ks : List Known) → KeepsOrder ks (threads_after_error thread e ks)
order-error None e ks = order-same ks
order-error (Some t) e ks = elim (is_invalid_thread e) as (λ b. KeepsOrder ks (if b then without t.0 ks else ks)) [ true ↦ order-without t.0 ks | false ↦ order-same ks ]

order-counted : (thread : Option ObjectId) (count : Option ℕ) (ks : List Known) → KeepsOrder ks (with_counted thread count ks)
order-counted None count ks = order-same ks
order-counted (Some t) None ks = order-same ks
order-counted (Some t) (Some n) ks = order-with t ks

order-ready : (a : CommandKind) (thread : Option ObjectId) (content : List DatumMeaning) (ks : List Known) → KeepsOrder ks (ready_for a thread content ks)
order-ready kinds.SuspendCount thread content ks = order-counted thread (counted content) ks
order-ready kinds.AllThreads thread content ks = order-only (lists content) ks
order-ready kinds.Exit thread content ks = order-none ks
order-ready kinds.Dispose thread content ks = order-none ks
order-ready a thread content ks = order-same ks

pub order-data : (a : CommandKind) (thread : Option ObjectId) (content : List DatumMeaning) (ks : List Known) → KeepsOrder ks (threads_after_data a thread content ks)
order-data kinds.Request thread content ks = order-same ks
order-data a thread content ks = order-taught (lesson_of a thread content) ks (ready_for a thread content ks) (order-ready a thread content ks)

-- ---- after a composite

order-found : (thread : Option ObjectId) (ks : List Known) → KeepsOrder ks (with_found thread ks)
order-found None ks = order-same ks
order-found (Some t) ks = order-with t ks

order-left : (thread : Option ObjectId) (ks : List Known) → KeepsOrder ks (without_found thread ks)
order-left None ks = order-same ks
order-left (Some t) ks = order-without t.0 ks

pub order-event : (thread : Option ObjectId) (c : CompositeMeaning) (ks : List Known) → KeepsOrder ks (threads_after_event thread c ks)
order-event thread c ks =
    elim (is_last_of_thread c) as (λ b. KeepsOrder ks (if b then without_found thread ks else all_taught (lesson_of_event thread c.policy) (with_found thread ks))) [
      | true ↦ order-left thread ks
      | false ↦ order-taught (lesson_of_event thread c.policy) ks (with_found thread ks) (order-found thread ks)
    ]
