-- Nothing is surely known of a thread that was never named, and all that were named stand among the threads.
use Rattle.std.proofs.Common.{◌≡◌, ℕ, ◌+◌, ◌-◌, ◌<◌, ◌⊎◌, inl, inr, Bool, true, false, ◌||◌, ◌&&◌, List, length, map, Option, Some, None, refl, sym, ap, ◌∙◌, if◌then◌else◌, arith}
use Rattle.std.specs.Prelude.{nat_le, nat_lt, unwrap_or, IsSome, Contains}
use Rattle.std.specs.BTreeMap.{is_at}
use Rattle.std.specs.Cmp.{unsigned_tied}
use Rattle.std.specs.Map.{keys_of, lookup}
use Rattle.std.specs.Ordering.{nat_cmp}
use Rattle.std.proofs.lemmas.List.{get_or-map, length-map}
use Rattle.std.proofs.lemmas.Map.Views.{Contains-keys_from_lookup, exact_unsigned_eq}
use Rattle.jdwp_layout.specs.declared.answer.Answer.{Answer}
use Rattle.jdwp_layout.specs.declared.answer.Answer.TheVariants.{Data, Error}
use Rattle.jdwp_action.specs.Actions as actions
use Rattle.jdwp_action.specs.Actions.{Action}
use Rattle.jdwp_event.specs.Told.{object_id}
use Rattle.jdwp_apart.specs.Watch.{all_lower, later, lived_after, lived_at, sure}
use Rattle.jdwp_watch.specs.declared.bound.Bound.{Bound}
use Rattle.jdwp_watch.specs.declared.standing.Knows.{Knows}
use Rattle.jdwp_watch.specs.declared.standing.Knows.TheVariants.{Unseen}
use Rattle.jdwp_watch.specs.declared.standing.Standing.{Standing}
use Rattle.jdwp_watch.specs.declared.standing.Telling.{Telling}
use Rattle.jdwp_watch.specs.Standings.{IsUnseen, changed, counted_at, is_raised, is_stopped, knows_of, lowered, lowered_one, raised, raised_after, recounted, replied, reported}
use Rattle.jdwp_watch.specs.Tables.{Table, at, named}
use Rattle.jdwp_watch.specs.Tellings as tellings
use Rattle.jdwp_watch.specs.Tellings.{told_in}
use Rattle.jdwp_watch.specs.Watching.{Watching, others_by, others_of, threads_of, watch_of}

-- ---- what becomes of a thread that was never named

never : (b : Bool) → (b && false) ≡ false
never true = refl
never false = refl

-- it is not known to have lived, so nothing raised its count that surely did
not-raised : (ticket : ℕ) (d : Telling) (k : Knows) → d.shows ≡ false → k ≡ Unseen → is_raised ticket d k ≡ false
not-raised ticket d k shown e =
    ap (λ (b : Bool). d.raises && (b || lived_at (knows_of k) ticket)) shown ∙ (ap (λ (x : Knows). d.raises && (false || lived_at (knows_of x) ticket)) e ∙ never d.raises)

not-stopped : (after : ℕ) (stops : Bool) (k : Knows) → k ≡ Unseen → is_stopped after stops None k ≡ false
not-stopped after stops k e = ap (λ (x : Knows). stops && (false || lived_after (knows_of x) after)) e ∙ never stops

one-lowered : (ticket : ℕ) (b : Bound) → b.value ≡ 0 → (lowered_one ticket b).value ≡ 0
one-lowered ticket b e =
    let less : Bound = record { value = b.value - 1; base = b.base } in
    let none : Bound = record { value = 0; base = ticket } in
    let nothing : b.value - 1 ≡ 0 = omega arith in
    elim (nat_le 1 b.value) as (λ (w : Bool). (if w then less else none).value ≡ 0) [ true ↦ nothing | false ↦ refl ]

none-lowered : (ticket : ℕ) (is : Bool) (b : Bound) → b.value ≡ 0 → (lowered ticket is b).value ≡ 0
none-lowered ticket true b e = one-lowered ticket b e
none-lowered ticket false b e = e

none-recounted : (ticket n : ℕ) (b : Bound) → b.value ≡ 0 → n ≡ 0 → (recounted ticket n b).value ≡ 0
none-recounted ticket n b e few =
    let more : Bound = record { value = n; base = ticket } in
    elim (nat_lt b.value n) as (λ (w : Bool). (if w then more else b).value ≡ 0) [ true ↦ few | false ↦ e ]

none-after : (after : ℕ) (b : Bound) → b.value ≡ 0 → (raised_after after false b).value ≡ 0
none-after after b e = elim (nat_le b.base after) as (λ (w : Bool). (if w then raised false b else b).value ≡ 0) [ true ↦ e | false ↦ e ]

unseen-replied : (ticket : ℕ) (d : Telling) (s : Standing) → d.shows ≡ false → d.count ≡ 0 → IsUnseen s → IsUnseen (replied ticket d s)
unseen-replied ticket d s shown few h =
    let is = not-raised ticket d s.knows shown h.knows in record {
      told = ap (λ (b : Bool). (lowered ticket d.lowers (raised b s.told)).value) is ∙ none-lowered ticket d.lowers s.told h.told;
      recounted =
          ap (λ (b : Bool). (recounted ticket d.count (lowered ticket d.lowers (raised b s.recounted))).value) is
          ∙ none-recounted ticket d.count (lowered ticket d.lowers s.recounted) (none-lowered ticket d.lowers s.recounted h.recounted) few;
      knows = ap (λ (b : Bool). if b then counted_at ticket s.knows else s.knows) shown ∙ h.knows;
    }

unseen-reported : (after : ℕ) (stops : Bool) (s : Standing) → IsUnseen s → IsUnseen (reported after stops None s)
unseen-reported after stops s h =
    let is = not-stopped after stops s.knows h.knows in record {
      told = ap (λ (b : Bool). (raised_after after b s.told).value) is ∙ none-after after s.told h.told;
      recounted = ap (λ (b : Bool). (raised_after after b s.recounted).value) is ∙ none-after after s.recounted h.recounted;
      knows = h.knows;
    }

-- by a reply that is not about it, and by a composite that is not of it
pub unseen-told : (ticket : ℕ) (a : Action) (answer : Answer) (s : Standing) → IsUnseen s → IsUnseen (changed (others_of ticket (told_in a answer).others) s)
unseen-told ticket a (Error e) s h = h
unseen-told ticket actions.Suspend (Data content) s h = unseen-replied ticket tellings.raised s refl refl h
unseen-told ticket actions.Resume (Data content) s h = unseen-replied ticket tellings.lowered s refl refl h
unseen-told ticket a (Data content) s h = h

pub unseen-stopped : (after : ℕ) (stops : Bool) (s : Standing) → IsUnseen s → IsUnseen (changed (others_by after stops) s)
unseen-stopped after true s h = unseen-reported after true s h
unseen-stopped after false s h = h

-- ---- who was named

same-id : (x y : ℕ) → is_at (nat_cmp x) y ≡ true → x ≡ y
same-id x y e = exact_unsigned_eq x y (sym (unsigned_tied x y) ∙ e)

named-id : (t : ℕ) (ids : List ℕ) → Contains ids t → Contains (map object_id ids) (object_id t)
named-id t ids h =
    let size = length-map ids object_id in
    let lt : h.0 < length ids = h.1 in
    let later_lt : h.0 < length (map object_id ids) = omega arith in
    (h.0, later_lt, get_or-map object_id ids h.0 t (object_id t) lt ∙ ap object_id h.2)

-- whom a look-up finds was named; of whom it doesn't find is known what is known of all others
named-or-other : (table : Table) (t : ℕ) (found : Option Standing) → (IsSome found → Contains (named table) (object_id t)) → (unwrap_or found table.others ≡ table.others) ⊎ Contains (named table) (object_id t)
named-or-other table t None h = inl refl
named-or-other table t (Some s) h = inr (h refl)

is-named : (table : Table) (t : ℕ) → (at table t ≡ table.others) ⊎ Contains (named table) (object_id t)
is-named table t =
    named-or-other table t (lookup (is_at (nat_cmp t)) table.threads)
    (λ some. named-id t (keys_of table.threads) (Contains-keys_from_lookup {eq = λ (x y : ℕ). is_at (nat_cmp x) y} same-id t table.threads some))

none-sure : (told recounted n : ℕ) → told ≡ 0 → recounted ≡ 0 → later told recounted - n ≡ 0
none-sure told recounted n e f =
    let none : 0 - n ≡ 0 = omega arith in
    ap (λ (x : ℕ). later x recounted - n) e ∙ (ap (λ (x : ℕ). later 0 x - n) f ∙ none)

unseen-sure : (w : Watching) (t : ℕ) → IsUnseen w.table.others → at w.table t ≡ w.table.others → sure (watch_of w) t ≡ 0
unseen-sure w t h e =
    none-sure (at w.table t).told.value (at w.table t).recounted.value (all_lower w.pending t + (at w.table t).invoked) (ap (λ (s : Standing). s.told.value) e ∙ h.told) (ap (λ (s : Standing). s.recounted.value) e ∙ h.recounted)

-- of whose count something is told was named
pub told-named : (table : Table) → IsUnseen table.others → (t : ℕ) → 0 < later (at table t).told.value (at table t).recounted.value → Contains (named table) (object_id t)
told-named table h t lt =
    elim (is-named table t) [
      | inl e ↦
          let none = none-sure (at table t).told.value (at table t).recounted.value 0 (ap (λ (s : Standing). s.told.value) e ∙ h.told) (ap (λ (s : Standing). s.recounted.value) e ∙ h.recounted) in
          absurd (let no : ⊥ = omega (arith, lt, none) in no)
      | inr is ↦ is
    ]

-- who is surely suspended was named
pub sure-named : (w : Watching) → IsUnseen w.table.others → (t : ℕ) → 0 < sure (watch_of w) t → Contains (threads_of w) (object_id t)
sure-named w h t lt =
    elim (is-named w.table t) [
      | inl e ↦ let none = unseen-sure w t h e in absurd (let no : ⊥ = omega arith in no)
      | inr is ↦ is
    ]
