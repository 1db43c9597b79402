-- How a recorder counts its sessions.
use Rattle.std.specs.Prelude.{◌≡◌, ◌+◌, ◌-◌, ◌^◌, ℕ, List, min}
use Rattle.std.specs.Borrow.{Bor}
use Rattle.jdwp_record.specs.declared.notices.RecordNotice.{RecordNotice}
use Rattle.jdwp_record.specs.declared.notices.RecordNotice.TheVariants.{Again, Unreached, Begun}
use Rattle.jdwp_record.specs.declared.sessions.Recorder.{Recorder}

-- no session was recorded, and no call was made in vain
abbrev pub new_recorder : ℕ → Bor (List ℕ) → Recorder
new_recorder target to = record { target = target; to = to; number = 1; in_a_row = 0 }

-- one more, as far as 32 bits go
abbrev pub one_more : ℕ → ℕ
one_more number = min (number + 1) (2 ^ 32 - 1)

-- A call came to this: a session begins, as that of the number that was the next one, and the next one has the number behind that; or
-- none does, and the numbers stay. How many calls in a row took no connection is counted anew behind each that took one.
abbrev pub Records : {S W : Type 0} → Recorder → RecordNotice S W → Recorder → Type 0
Records old (Again cause) new = new ≡ record old { in_a_row = one_more old.in_a_row }
Records old (Unreached port cause) new = (port ≡ old.target) × (new ≡ record old { in_a_row = 0 })
Records old (Begun number session) new = (number ≡ old.number) × (new ≡ record old { number = one_more old.number; in_a_row = 0 })
