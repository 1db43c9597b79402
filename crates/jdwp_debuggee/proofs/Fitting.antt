-- what is reported can be written, and fits a packet
use Rattle.std.proofs.Common.{◌≡◌, ℕ, pos, ◌+◌, ◌*◌, ◌≤◌, ◌^◌, ◌==◌, ◌⊎◌, inl, inr, true, false, ◌||◌, cond, nat_lt, Option, Some, None, List, [], ◌∷◌, length, map, refl, sym, ap, subst, arith}
use Rattle.std.specs.Prelude.{IfOk, IfSome, Result, Ok, Err}
use Rattle.std.specs.List.{filter, flat_map}
use Rattle.std.proofs.lemmas.Bool.{eqb-true, lt-ltb}
use Rattle.std.proofs.lemmas.List.{append-nil, length-append}
use Rattle.byteorder.specs.Numbers.{length-bytes_high_first}
use Rattle.jdwp_wire.specs.Limits.{Limits, least_packet_limit}
use Rattle.jdwp_wire.specs.Listed.{first_refusal, list_canonical, list_refusal}
use Rattle.jdwp_wire.specs.Numbers.{id_refusal}
use Rattle.jdwp_wire.specs.Reading.{first_of_two}
use Rattle.jdwp_wire.specs.Widths.{AreWidths, Widths}
use Rattle.jdwp_value.specs.LocationLaws.{length-location}
use Rattle.jdwp_value.specs.ValueLaws.{length-untagged}
use Rattle.jdwp_value.specs.Values.{tag_of, width_of}
use Rattle.jdwp_value.specs.declared.tag.Tag.{Tag}
use Rattle.jdwp_value.specs.declared.tag.Tag.TheVariants as tag
use Rattle.jdwp_layout.specs.Meanings.{ScalarMeaning, Byte, Boolean, Int, Long, Text, Object, ReferenceType, Method, OfField, Frame, Located, Valued, Tagged}
use Rattle.jdwp_layout.specs.Shapes.{Events}
use Rattle.jdwp_layout.specs.Writes.{entry_canonical, entry_refusal, scalar_canonical}
use Rattle.jdwp_layout.specs.EventKindNumbers.{VM_START}
use Rattle.jdwp_event.specs.CompositeBytes.{with_policy}
use Rattle.jdwp_event.specs.Composites.{CompositeMeaning, composite_by, details, event_for, greatest_policy, vm_death}
use Rattle.jdwp_event.specs.Filters.{is_of_kind, passes, passing}
use Rattle.jdwp_event.specs.Occurrences.{HappeningMeaning, OccurrenceMeaning, Moved, Entered, Left, Threw, Prepared, Started, RanOut}
use Rattle.jdwp_event.specs.Requests.{Request}
use Rattle.jdwp_machine.specs.Laws.{HasShortSignature, IsLawful, MayEnds, OccurrenceFits}
use Rattle.jdwp_machine.specs.Meanings.{Meaning}
use Rattle.jdwp_debuggee.specs.Answers.{least_thread}
use Rattle.jdwp_debuggee.specs.Debuggees.{AreRoomy, Debuggee, IsKept, visiting}
use Rattle.jdwp_debuggee.specs.Sending.{FitsPacket}
use Rattle.jdwp_debuggee.specs.StepParts.{SendFits, Steps, StepsOrNot}
use Rattle.jdwp_debuggee.specs.Steps.{may_step, occurs, start_event, start_policy}
use Rattle.jdwp_debuggee.specs.declared.steps.StepDone.{StepDone}
use Rattle.jdwp_debuggee.proofs.KeptSteps.{live-may}
use Rattle.jdwp_debuggee.proofs.Reported.{step_sends}
use Rattle.jdwp_debuggee.proofs.Small.{and-left}
use Rattle.jdwp_debuggee.proofs.ThreadsListed.{least-fits}

-- the widths of ids are 1 to 8
abbrev Wide : Widths → Type 0
Wide w = AreWidths w.field w.method w.object w.reference w.frame

-- ---- how many bytes at most

abbrev most : ScalarMeaning → ℕ
most (Byte n) = 1
most (Boolean b) = 1
most (Int z) = 4
most (Long z) = 8
most (Text s) = 4 + length s
most (Object n) = 8
most (ReferenceType n) = 8
most (Method n) = 8
most (OfField n) = 8
most (Frame n) = 8
most (Located p) = 25
most (Valued v) = 9
most (Tagged t) = 9

width-most : (w : Widths) → Wide w → (t : Tag) → width_of w t ≤ 8
width-most w a tag.Byte = omega arith
width-most w a tag.Char = omega arith
width-most w a tag.Double = omega arith
width-most w a tag.Float = omega arith
width-most w a tag.Int = omega arith
width-most w a tag.Long = omega arith
width-most w a tag.Short = omega arith
width-most w a tag.Void = omega arith
width-most w a tag.Boolean = omega arith
width-most w a (tag.Object kind) = a.object_is.1

scalar-most : (w : Widths) → Wide w → (x : ScalarMeaning) → length (scalar_canonical w x) ≤ most x
scalar-most w a (Byte n) = omega arith
scalar-most w a (Boolean b) = omega arith
scalar-most w a (Int z) = omega arith
scalar-most w a (Long z) = omega arith
scalar-most w a (Text s) = omega arith
scalar-most w a (Object n) = let e = length-bytes_high_first w.object n in let l = a.object_is.1 in omega (arith, e, l)
scalar-most w a (ReferenceType n) = let e = length-bytes_high_first w.reference n in let l = a.reference_is.1 in omega (arith, e, l)
scalar-most w a (Method n) = let e = length-bytes_high_first w.method n in let l = a.method_is.1 in omega (arith, e, l)
scalar-most w a (OfField n) = let e = length-bytes_high_first w.field n in let l = a.field_is.1 in omega (arith, e, l)
scalar-most w a (Frame n) = let e = length-bytes_high_first w.frame n in let l = a.frame_is.1 in omega (arith, e, l)
scalar-most w a (Located p) = let e = length-location w p in let r = a.reference_is.1 in let l = a.method_is.1 in omega (arith, e, r, l)
scalar-most w a (Valued v) = let e = length-untagged w v in let l = width-most w a (tag_of v) in omega (arith, e, l)
scalar-most w a (Tagged t) = let e = length-bytes_high_first w.object t.id.0 in let l = a.object_is.1 in omega (arith, e, l)

abbrev entry_most : List ScalarMeaning → ℕ
entry_most [] = 0
entry_most (x ∷ xs) = most x + entry_most xs

entry-most : (w : Widths) → Wide w → (xs : List ScalarMeaning) → length (entry_canonical w xs) ≤ entry_most xs
entry-most w a [] = omega arith
entry-most w a (x ∷ xs) =
    let one = scalar-most w a x in
    let rest = entry-most w a xs in
    let e = length-append (scalar_canonical w x) (entry_canonical w xs) in
    omega (arith, one, rest, e)

-- ---- one event

record EventFits (w : Widths) (event : List ScalarMeaning) : Type 0 where
  unrefused : entry_refusal w Events event ≡ None
  short : length (entry_canonical w event) ≤ 542

fits-by : (w : Widths) → Wide w → (event : List ScalarMeaning) → entry_refusal w Events event ≡ None → entry_most event ≤ 542 → EventFits w event
fits-by w a event r l = record { unrefused = r; short = let e = entry-most w a event in omega (arith, e, l) }

one-of : (a kind : ℕ) → ((a == kind) || false) ≡ true → a ≡ kind
one-of a kind h = elim (a == kind) as (λ b. (a == kind) ≡ b → (b || false) ≡ true → a ≡ kind) [
  | true ↦ λ e _. eqb-true a kind e
  | false ↦ λ _ x. absurd (cc)
] refl h

two-of : (a b kind : ℕ) → ((a == kind) || ((b == kind) || false)) ≡ true → (a ≡ kind) ⊎ (b ≡ kind)
two-of a b kind h = elim (a == kind) as (λ v. (a == kind) ≡ v → (v || ((b == kind) || false)) ≡ true → (a ≡ kind) ⊎ (b ≡ kind)) [
  | true ↦ λ e _. inl (eqb-true a kind e)
  | false ↦ λ _ x. inr (one-of b kind x)
] refl h

abbrev event : ℕ → ℕ → OccurrenceMeaning → ℕ → List ScalarMeaning
event id t o kind = Byte kind ∷ Int (pos id) ∷ Object t ∷ details kind o

-- an event of a kind of its occurrence
event-fits : (w : Widths) → Wide w → (id t kind : ℕ) (o : OccurrenceMeaning) → id_refusal w.object t ≡ None → OccurrenceFits w o → HasShortSignature o → is_of_kind o kind ≡ true → EventFits w (event id t o kind)
event-fits w a id t kind (Moved p) ht ho hs k =
    let at : (n : ℕ) → entry_refusal w Events (event id t (Moved p) n) ≡ None → EventFits w (event id t (Moved p) n) = λ n r. fits-by w a (event id t (Moved p) n) r (omega arith) in
    elim (two-of 1 2 kind k) [
      | inl e ↦ subst (λ n. EventFits w (event id t (Moved p) n)) e (at 1 (rw (ht, ho) refl))
      | inr e ↦ subst (λ n. EventFits w (event id t (Moved p) n)) e (at 2 (rw (ht, ho) refl))
    ]
event-fits w a id t kind (Entered p) ht ho hs k =
    subst (λ n. EventFits w (event id t (Entered p) n)) (one-of 40 kind k) (fits-by w a (event id t (Entered p) 40) (rw (ht, ho) refl) (omega arith))
event-fits w a id t kind (Left p v) ht ho hs k =
    elim (two-of 41 42 kind k) [
      | inl e ↦ subst (λ n. EventFits w (event id t (Left p v) n)) e (fits-by w a (event id t (Left p v) 41) (rw (ht, ho.0) refl) (omega arith))
      | inr e ↦ subst (λ n. EventFits w (event id t (Left p v) n)) e (fits-by w a (event id t (Left p v) 42) (rw (ht, ho.0, ho.1) refl) (omega arith))
    ]
event-fits w a id t kind (Threw p x) ht ho hs k =
    subst (λ n. EventFits w (event id t (Threw p x) n)) (one-of 4 kind k) (fits-by w a (event id t (Threw p x) 4) (rw (ht, ho.0, ho.1, ho.2) refl) (omega arith))
event-fits w a id t kind (Prepared p) ht ho hs k =
    let few : nat_lt (length p.class.signature) (2 ^ 31) ≡ true = lt-ltb (length p.class.signature) (2 ^ 31) (omega (arith, hs)) in
    subst (λ n. EventFits w (event id t (Prepared p) n)) (one-of 8 kind k) (fits-by w a (event id t (Prepared p) 8) (rw (ht, ho, few) refl) (omega (arith, hs)))
event-fits w a id t kind Started ht ho hs k =
    subst (λ n. EventFits w (event id t Started n)) (one-of 6 kind k) (fits-by w a (event id t Started 6) (rw ht refl) (omega arith))
event-fits w a id t kind RanOut ht ho hs k =
    subst (λ n. EventFits w (event id t RanOut n)) (one-of 7 kind k) (fits-by w a (event id t RanOut 7) (rw ht refl) (omega arith))

-- ---- events of so many requests

record EventsFit (w : Widths) (n : ℕ) (events : List (List ScalarMeaning)) : Type 0 where
  unrefused : first_refusal (entry_refusal w Events) events ≡ None
  few : length events ≤ n
  short : length (flat_map (entry_canonical w) events) ≤ 542 * n

module _ (w : Widths) (a : Wide w) (h : HappeningMeaning) (ht : id_refusal w.object h.thread ≡ None) (ho : OccurrenceFits w h.occurrence) (hs : HasShortSignature h.occurrence) where
  events-fit : (rs : List Request) → EventsFit w (length rs) (map (event_for h) (filter (passes h) rs))
  events-fit [] = record { unrefused = refl; few = omega arith; short = omega arith }
  events-fit (r ∷ rs) =
      let rest = events-fit rs in
      elim (passes h r) as (λ b. passes h r ≡ b → EventsFit w (length (r ∷ rs)) (map (event_for h) (cond b (r ∷ filter (passes h) rs) (filter (passes h) rs)))) [
        | true ↦ λ e.
            let one : EventFits w (event_for h r) = event-fits w a r.asked.id h.thread r.asked.kind h.occurrence ht ho hs (and-left (is_of_kind h.occurrence r.asked.kind) _ e) in
            let len = length-append (entry_canonical w (event_for h r)) (flat_map (entry_canonical w) (map (event_for h) (filter (passes h) rs))) in
            record { unrefused = rw (one.unrefused) rest.unrefused; few = omega (arith, rest.few); short = omega (arith, one.short, rest.short, len) }
        | false ↦ λ _. record { unrefused = rest.unrefused; few = omega (arith, rest.few); short = omega (arith, rest.short) }
      ] refl

-- ---- composites

composite-fits : (w : Widths) (limits : Limits) (policy n : ℕ) (events : List (List ScalarMeaning)) → AreRoomy limits → n ≤ limits.requests → EventsFit w n events → FitsPacket w limits.packet (with_policy policy events)
composite-fits w limits policy n events roomy l f =
    let items = flat_map (entry_canonical w) events in
    let bytes = list_canonical (entry_canonical w) events in
    let few : nat_lt (length events) (2 ^ 31) ≡ true = lt-ltb (length events) (2 ^ 31) (let k = roomy.requests.1 in omega (arith, k, l, f.few)) in
    let fits : list_refusal (entry_refusal w Events) events ≡ None = rw few f.unrefused in
    let len = length-append bytes [] in
    let room = roomy.composite in
    record {
      unrefused = fits;
      in_layout = ap (λ x. first_of_two x None) fits;
      same_bytes = ap (λ (x : List ℕ). policy ∷ x) (sym (append-nil bytes));
      within = omega (arith, len, room, l, f.short);
    }

report-fits : (w : Widths) (limits : Limits) (n : ℕ) (h : HappeningMeaning) (rs : List Request) → AreRoomy limits → n ≤ limits.requests → EventsFit w n (map (event_for h) rs) → IfSome (composite_by h rs) (FitsPacket w limits.packet)
report-fits w limits n h [] roomy l f = tt
report-fits w limits n h (r ∷ rs) roomy l f = composite-fits w limits (greatest_policy (r ∷ rs)) n (map (event_for h) (r ∷ rs)) roomy l f

-- what a step sends fits a packet
pub step-fits : {S : Type 0} (m : Meaning S) → IsLawful m → (d : Debuggee S) (t : ℕ) → IsKept m d → may_step m d.settings d.moment t ≡ true → IfSome (occurs m d.moment t).sends (FitsPacket (m.sizes d.moment.machine) d.settings.limits.packet)
step-fits m law d t k may =
    let s = d.moment.machine in
    let ends : MayEnds m s t = (k.sound.state, live-may m d t k may) in
    let a = law.sizes_are_widths s k.sound.state in
    let f = events-fit (m.sizes s) a (m.next s t) (law.thread_fits s t ends) (law.occurrence_fits s t ends) (law.short_signature s t ends) d.moment.state.requests in
    step_sends (FitsPacket (m.sizes s) d.settings.limits.packet) m d.moment t
    (report-fits (m.sizes s) d.settings.limits (length d.moment.state.requests) (m.next s t) (passing (m.next s t) d.moment.state.requests) k.limits k.room f)

-- what a step that was made sends
pub steps-fit : {S : Type 0} (m : Meaning S) → IsLawful m → (d new : Debuggee S) (t : ℕ) (done : StepDone) → IsKept m (visiting 0 d) → Steps m t d new done → SendFits (m.sizes d.moment.machine) d.settings.limits.packet (Some done)
steps-fit m law d new t done k s = subst (λ (o : Option CompositeMeaning). IfSome o (FitsPacket (m.sizes d.moment.machine) d.settings.limits.packet)) (sym s.sends) (step-fits m law (visiting 0 d) t k s.may)

-- what a step sends that was made, if one was, fits a packet
pub sends-fit : {S E : Type 0} (m : Meaning S) → IsLawful m → (d new : Debuggee S) (t : ℕ) (r : Result (Option StepDone) E) → IsKept m (visiting 0 d) → IfOk r (λ done. StepsOrNot m t d new done) → IfOk r (λ done. SendFits (m.sizes d.moment.machine) d.settings.limits.packet done)
sends-fit m law d new t (Err e) k s = tt
sends-fit m law d new t (Ok None) k s = tt
sends-fit m law d new t (Ok (Some done)) k s = steps-fit m law d new t done k s

-- ---- what the target reports by itself

alone-fits : (w : Widths) (limits : Limits) (policy : ℕ) (event : List ScalarMeaning) → AreRoomy limits → EventFits w event → FitsPacket w limits.packet (with_policy policy (event ∷ []))
alone-fits w limits policy event roomy f =
    let len = length-append (entry_canonical w event) [] in
    composite-fits w limits policy 1 (event ∷ []) roomy roomy.requests.0
    (record { unrefused = rw (f.unrefused) refl; few = omega arith; short = omega (arith, len, f.short) })

-- VM_START
pub start-fits : {S : Type 0} (m : Meaning S) → IsLawful m → (d : Debuggee S) → IsKept m d → FitsPacket (m.sizes d.moment.machine) d.settings.limits.packet (start_event d.settings d.moment.state)
start-fits m law d k =
    let w = m.sizes d.moment.machine in
    let a = law.sizes_are_widths d.moment.machine k.sound.state in
    let t = least_thread d.moment.state in
    alone-fits w d.settings.limits (start_policy d.settings.start_all) _ k.limits
    (fits-by w a (Byte VM_START ∷ Int (pos 0) ∷ Object t ∷ []) (rw (least-fits m law d.settings d.moment k.sound) refl) (omega arith))

-- VM_DEATH
pub death-fits : (w : Widths) (limit : ℕ) → least_packet_limit ≤ limit → FitsPacket w limit vm_death
death-fits w limit l = record { unrefused = refl; in_layout = refl; same_bytes = refl; within = omega (arith, l) }
