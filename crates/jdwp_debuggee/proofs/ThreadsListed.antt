-- the live threads as a list
use Rattle.std.proofs.Common.{◌≡◌, ℕ, zero, suc, ◌+◌, ◌^◌, ◌<◌, ◌≤◌, ◌==◌, ◌⊎◌, inl, inr, Bool, true, false, ◌||◌, cond, nat_le, nat_lt, None, List, [], ◌∷◌, ◌++◌, length, map, take, drop, get_or, ◌-◌, refl, sym, ap, ◌∙◌, arith}
use Rattle.std.proofs.lemmas.Bool.{eq-eqb, lt-ltb, lt-leb}
use Rattle.std.proofs.lemmas.List.{length-append, length-map, take_all}
use Rattle.std.specs.List.{flat_map, insert}
use Rattle.byteorder.specs.Endian.{big_bytes}
use Rattle.byteorder.specs.Numbers.{length-bytes_high_first}
use Rattle.jdwp_wire.specs.ErrorCodes.{INTERNAL}
use Rattle.jdwp_wire.specs.Listed.{first_refusal, list_refusal}
use Rattle.jdwp_wire.specs.Numbers.{id_refusal}
use Rattle.jdwp_wire.specs.Reading.{first_of_two}
use Rattle.jdwp_wire.specs.Widths.{Widths}
use Rattle.jdwp_layout.specs.Meanings.{ScalarMeaning, DatumMeaning, Object, Many}
use Rattle.jdwp_layout.specs.Shapes.{Fields}
use Rattle.jdwp_layout.specs.Writes.{data_canonical, entry_canonical, entry_refusal}
use Rattle.jdwp_layout.specs.declared.item.Field.TheVariants as field
use Rattle.jdwp_layout.specs.declared.answer.Answer.TheVariants.{Data, Error}
use Rattle.jdwp_machine.specs.Meanings.{Meaning, has}
use Rattle.jdwp_machine.specs.Laws.{IsLawful}
use Rattle.jdwp_debuggee.specs.Answers.{bounded, first_of, inserted, least_thread, rising}
use Rattle.jdwp_debuggee.specs.Entries.{ids_of}
use Rattle.jdwp_debuggee.specs.Facts.{IsSound}
use Rattle.jdwp_action.specs.AnswerPackets.{IsWritable}
use Rattle.jdwp_debuggee.specs.Sending.{IsSent, place_in}
use Rattle.jdwp_debuggee.specs.State.{Moment, ids}
use Rattle.jdwp_debuggee.specs.declared.reply.Reply.TheVariants as reply
use Rattle.jdwp_debuggee.specs.declared.reply.Sent.TheVariants as sent
use Rattle.jdwp_debuggee.specs.declared.threads.ThreadEntry.{ThreadEntry}
use Rattle.jdwp_debuggee.specs.ThreadLaws.{has-count, has-rising}
use Rattle.jdwp_debuggee.specs.Settings.{Settings}

either : (b : Bool) → (b ≡ true) ⊎ (b ≡ false)
either true = inl refl
either false = inr refl

-- an id that is put at its place
pub inserted-at : (n : ℕ) (xs : List ℕ) → insert xs (place_in n xs) n ≡ inserted n xs
inserted-at n [] = refl
inserted-at n (x ∷ xs) = elim (either (nat_le n x)) [
  | inl h ↦ rw h refl
  | inr h ↦ rw h (ap (λ zs. x ∷ zs) (inserted-at n xs))
]

-- ---- by rising id there are as many

length-inserted : (n : ℕ) (xs : List ℕ) → length (inserted n xs) ≡ suc (length xs)
length-inserted n [] = refl
length-inserted n (x ∷ xs) =
    elim (nat_le n x) as (λ b. length (cond b (n ∷ x ∷ xs) (x ∷ inserted n xs)) ≡ suc (suc (length xs))) [
      | true ↦ refl
      | false ↦ ap (λ k. suc k) (length-inserted n xs)
    ]

pub length-rising : (xs : List ℕ) → length (rising xs) ≡ length xs
length-rising [] = refl
length-rising (x ∷ xs) = length-inserted x (rising xs) ∙ ap (λ k. suc k) (length-rising xs)

-- ---- they can be written

abbrev entries : List ℕ → List (List ScalarMeaning)
entries ns = map (λ (t : ℕ). Object t ∷ []) ns

has-here : (n : ℕ) (ns : List ℕ) → has (n ∷ ns) n ≡ true
has-here n ns = ap (λ b. b || has ns n) (eq-eqb n n refl)

has-there : (n : ℕ) (ns : List ℕ) (t : ℕ) → has ns t ≡ true → has (n ∷ ns) t ≡ true
has-there n ns t k = elim (n == t) as (λ b. (b || has ns t) ≡ true) [ true ↦ refl | false ↦ k ]

fit-all : (w : Widths) (ns : List ℕ) → ((t : ℕ) → has ns t ≡ true → id_refusal w.object t ≡ None) → first_refusal (entry_refusal w (Fields (field.ObjectId ∷ []))) (entries ns) ≡ None
fit-all w [] h = refl
fit-all w (n ∷ ns) h = rw (h n (has-here n ns)) (fit-all w ns (λ t k. h t (has-there n ns t k)))

pub threads-writable : (w : Widths) (ns : List ℕ) → length ns < 2 ^ 31 → ((t : ℕ) → has ns t ≡ true → id_refusal w.object t ≡ None) → IsWritable w 1 4 (Data (Many (entries ns) ∷ []))
threads-writable w ns lt h =
    let few : nat_lt (length (entries ns)) (2 ^ 31) ≡ true = lt-ltb (length (entries ns)) (2 ^ 31) (let k = length-map ns (λ (t : ℕ). Object t ∷ []) in omega (arith, k, lt)) in
    let fit : list_refusal (entry_refusal w (Fields (field.ObjectId ∷ []))) (entries ns) ≡ None = rw few (fit-all w ns h) in
    ap (λ x. first_of_two x None) fit

-- ---- or they are longer than a packet

entries-long : (w : Widths) (ns : List ℕ) → 1 ≤ w.object → length ns ≤ length (flat_map (entry_canonical w) (entries ns))
entries-long w [] one = omega arith
entries-long w (n ∷ ns) one =
    let len : length (big_bytes w.object n) ≡ w.object = length-bytes_high_first w.object n in
    let rest = entries-long w ns one in
    let first = length-append (big_bytes w.object n) [] in
    let all = length-append (big_bytes w.object n ++ []) (flat_map (entry_canonical w) (entries ns)) in
    omega (arith, len, rest, first, all, one)

pub threads-too-long : (settings : Settings) (w : Widths) (ns : List ℕ) → 1 ≤ w.object → settings.limits.packet < length ns → bounded settings w (Data (Many (entries ns) ∷ [])) ≡ Error INTERNAL
threads-too-long settings w ns one long =
    let items = flat_map (entry_canonical w) (entries ns) in
    let rest = entries-long w ns one in
    let inner = length-append (big_bytes 4 (length (entries ns))) items in
    let outer = length-append (big_bytes 4 (length (entries ns)) ++ items) [] in
    let size = 11 + length (data_canonical w (Many (entries ns) ∷ [])) in
    let no : nat_le size settings.limits.packet ≡ false = lt-leb size settings.limits.packet (omega (arith, rest, inner, outer, long)) in
    rw no refl

-- what is sent then
pub too-long-sent : (settings : Settings) (w : Widths) (content : List DatumMeaning) → bounded settings w (Data content) ≡ Error INTERNAL → IsSent w (bounded settings w (Data content)) (sent.Short (reply.Refused INTERNAL))
too-long-sent settings w content h = rw h (record { error = refl; bytes = refl })

-- the first of some entries stands among the others
pub rising-split : (es : List ThreadEntry) (d : ThreadEntry) → 1 ≤ length es → inserted (get_or es 0 d).id.0 (rising (ids_of (take (length es - 1) (drop 1 es)))) ≡ rising (ids_of es)
rising-split [] d h = absurd (omega arith)
rising-split (e ∷ es) d h = ap (λ (l : List ThreadEntry). inserted e.id.0 (rising (ids_of l))) (take_all (length (e ∷ es) - 1) es (omega arith))

-- the live threads fit the width of their ids
pub live-fit : {S : Type 0} (m : Meaning S) → IsLawful m → (settings : Settings) (now : Moment S) → IsSound m settings now → (t : ℕ) → has (rising (ids now.state.threads)) t ≡ true → id_refusal (m.sizes now.machine).object t ≡ None
live-fit m law settings now sound t h =
    law.live_fits now.machine t sound.state
    (sound.lives t ∙ (sym (has-count now.state.threads t) ∙ (sym (has-rising (ids now.state.threads) t) ∙ h)))

-- and so does the first of them, or 0 where none lives
positive-power : (n : ℕ) → 0 < 256 ^ n
positive-power zero = omega arith
positive-power (suc n) = omega (arith, positive-power n)

zero-fits : (width : ℕ) → id_refusal width 0 ≡ None
zero-fits width = rw (lt-ltb 0 (256 ^ width) (positive-power width)) refl

first-fits : (width : ℕ) (ns : List ℕ) → ((t : ℕ) → has ns t ≡ true → id_refusal width t ≡ None) → id_refusal width (first_of ns) ≡ None
first-fits width [] all = zero-fits width
first-fits width (n ∷ ns) all = all n (rw (eq-eqb n n refl) refl)

pub least-fits : {S : Type 0} (m : Meaning S) → IsLawful m → (settings : Settings) (now : Moment S) → IsSound m settings now → id_refusal (m.sizes now.machine).object (least_thread now.state) ≡ None
least-fits m law settings now sound = first-fits (m.sizes now.machine).object (rising (ids now.state.threads)) (live-fit m law settings now sound)

-- the first of some entries is put at its place among the others
pub risen : (es : List ThreadEntry) (d : ThreadEntry) (others : List ℕ) → 1 ≤ length es → others ≡ rising (ids_of (take (length es - 1) (drop 1 es)))
    → insert others (place_in (get_or es 0 d).id.0 others) (get_or es 0 d).id.0 ≡ rising (ids_of es)
risen es d others h is =
    inserted-at (get_or es 0 d).id.0 others ∙ (ap (λ (l : List ℕ). inserted (get_or es 0 d).id.0 l) is ∙ rising-split es d h)
