-- No number that is kept grows by more than one a packet, but to what a count may be.
use Rattle.std.proofs.Common.{◌≡◌, ℕ, ◌+◌, ◌-◌, ◌<◌, ◌≤◌, ◌^◌, Bool, true, false, Option, sym, subst, if◌then◌else◌, arith}
use Rattle.std.specs.Prelude.{nat_le, nat_lt}
use Rattle.std.proofs.lemmas.Bool.Decides.{nat_tests}
use Rattle.jdwp_layout.specs.declared.answer.Answer.{Answer}
use Rattle.jdwp_layout.specs.declared.answer.Answer.TheVariants.{Data, Error}
use Rattle.jdwp_action.specs.Actions as actions
use Rattle.jdwp_action.specs.Actions.{Action}
use Rattle.jdwp_value.specs.declared.id.ObjectId.{ObjectId}
use Rattle.jdwp_watch.specs.declared.bound.Bound.{Bound}
use Rattle.jdwp_watch.specs.declared.standing.Standing.{Standing}
use Rattle.jdwp_watch.specs.declared.standing.Change.{Change}
use Rattle.jdwp_watch.specs.declared.standing.Change.TheVariants.{Keep, Replied, Reported, Invoked, Returned}
use Rattle.jdwp_watch.specs.Standings.{IsUnseen, IsWithin, changed, is_raised, is_stopped, lowered, lowered_one, one_more, raised, raised_after, recounted}
use Rattle.jdwp_watch.specs.Tables.{Table, at, change_for, is_of}
use Rattle.jdwp_watch.specs.Tellings.{told_in}
use Rattle.jdwp_watch.specs.Watching.{IsKept, others_by, others_of}

-- a change with no count above what one may be
abbrev pub IsSmall : Change → Type 0
IsSmall Keep = Unit {0}
IsSmall (Replied ticket d) = d.count < 2 ^ 32
IsSmall (Reported after stops named) = Unit {0}
IsSmall Invoked = Unit {0}
IsSmall Returned = Unit {0}

more-within : (n most : ℕ) → n ≤ most → one_more n ≤ most + 1
more-within n most le = grind (arith, nat_tests)

raised-within : (is : Bool) (b : Bound) (most : ℕ) → b.value ≤ most → (raised is b).value ≤ most + 1
raised-within true b most le = more-within b.value most le
raised-within false b most le = omega arith

after-within : (after : ℕ) (is : Bool) (b : Bound) (most : ℕ) → b.value ≤ most → (raised_after after is b).value ≤ most + 1
after-within after is b most le =
    let same : b.value ≤ most + 1 = omega arith in
    elim (nat_le b.base after) as (λ (w : Bool). (if w then raised is b else b).value ≤ most + 1) [ true ↦ raised-within is b most le | false ↦ same ]

one-within : (ticket : ℕ) (b : Bound) (most : ℕ) → b.value ≤ most → (lowered_one ticket b).value ≤ most
one-within ticket b most le =
    let less : Bound = record { value = b.value - 1; base = b.base } in
    let none : Bound = record { value = 0; base = ticket } in
    let low : b.value - 1 ≤ most = omega arith in
    let nil : 0 ≤ most = omega arith in
    elim (nat_le 1 b.value) as (λ (w : Bool). (if w then less else none).value ≤ most) [ true ↦ low | false ↦ nil ]

lowered-within : (ticket : ℕ) (is : Bool) (b : Bound) (most : ℕ) → b.value ≤ most → (lowered ticket is b).value ≤ most
lowered-within ticket true b most le = one-within ticket b most le
lowered-within ticket false b most le = le

recounted-within : (ticket n : ℕ) (b : Bound) (most : ℕ) → b.value ≤ most → n ≤ most → (recounted ticket n b).value ≤ most
recounted-within ticket n b most le small =
    let more : Bound = record { value = n; base = ticket } in
    elim (nat_lt b.value n) as (λ (w : Bool). (if w then more else b).value ≤ most) [ true ↦ small | false ↦ le ]

pub changed-within : (c : Change) (s : Standing) (most : ℕ) → IsSmall c → 2 ^ 32 ≤ most → IsWithin most s → IsWithin (most + 1) (changed c s)
changed-within Keep s most small large h = record { told = omega (arith, h.told); recounted = omega (arith, h.recounted); invoked = omega (arith, h.invoked) }
changed-within (Replied ticket d) s most small large h =
    let is = is_raised ticket d s.knows in
    let some : d.count < 2 ^ 32 = small in record {
      told = lowered-within ticket d.lowers (raised is s.told) (most + 1) (raised-within is s.told most h.told);
      recounted = recounted-within ticket d.count (lowered ticket d.lowers (raised is s.recounted)) (most + 1) (lowered-within ticket d.lowers (raised is s.recounted) (most + 1) (raised-within is s.recounted most h.recounted)) (omega arith);
      invoked = omega (arith, h.invoked);
    }
changed-within (Reported after stops named) s most small large h =
    let is = is_stopped after stops named s.knows in record {
      told = after-within after is s.told most h.told;
      recounted = after-within after is s.recounted most h.recounted;
      invoked = omega (arith, h.invoked);
    }
changed-within Invoked s most small large h = record { told = omega (arith, h.told); recounted = omega (arith, h.recounted); invoked = more-within s.invoked most h.invoked }
changed-within Returned s most small large h = record { told = omega (arith, h.told); recounted = omega (arith, h.recounted); invoked = omega (arith, h.invoked) }

small-for : (is : Bool) (own others : Change) → IsSmall own → IsSmall others → IsSmall (if is then own else others)
small-for true own others a b = a
small-for false own others a b = b

-- one packet more
pub kept-on : (packets more answered later : ℕ) (old new : Table) (thread : Option ObjectId) (own others : Change) → IsKept packets answered old → packets < 2 ^ 62 → more ≡ packets + 1 → later ≤ packets + 1 → IsSmall own → IsSmall others
    → ((t : ℕ) → at new t ≡ changed (change_for thread own others t) (at old t)) → new.others ≡ changed others old.others → IsUnseen (changed others old.others) → IsKept more later new
kept-on packets more answered later old new thread own others kept few is le a b table rest unseen =
    subst (λ (n : ℕ). IsKept n later new) (sym is) (record {
      few = omega arith;
      answers = le;
      within = λ t.
          let within = changed-within (change_for thread own others t) (at old t) (packets + 2 ^ 32) (small-for (is_of thread t) own others a b) (omega arith) (kept.within t) in
          let same : packets + 2 ^ 32 + 1 ≡ packets + 1 + 2 ^ 32 = omega arith in
          subst (IsWithin (packets + 1 + 2 ^ 32)) (sym (table t)) (subst (λ (n : ℕ). IsWithin n (changed (change_for thread own others t) (at old t))) same within);
      others = subst IsUnseen (sym rest) unseen;
    })

-- what is told of others has no count
pub small-told : (ticket : ℕ) (a : Action) (answer : Answer) → IsSmall (others_of ticket (told_in a answer).others)
small-told ticket a (Error e) = tt
small-told ticket actions.Suspend (Data content) = let few : 0 < 2 ^ 32 = omega arith in few
small-told ticket actions.Resume (Data content) = let few : 0 < 2 ^ 32 = omega arith in few
small-told ticket a (Data content) = tt

pub small-stopped : (after : ℕ) (stops : Bool) → IsSmall (others_by after stops)
small-stopped after true = tt
small-stopped after false = tt
