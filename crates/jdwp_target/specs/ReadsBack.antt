-- What a target sends reads back: its bytes encode what is to be said, in packets within the limit.
use Rattle.std.specs.Prelude.{ℕ}
use Rattle.jdwp_end.specs.Ends.{front_of}
use Rattle.jdwp_machine.specs.Meanings.{Meaning}
use Rattle.jdwp_target.specs.Targets.{Target}
use Rattle.jdwp_target.specs.Turns.{EncodesNext, EncodesReleased, EncodesWhere, SendsAt, SendsReleased, SendsWhere, deferred_at, is_frozen}

-- what the next turn sends
abbrev pub TurnReadsBack : {S : Type 0} → Meaning S → Target S → Type 0
TurnReadsBack m old = EncodesNext m (front_of old.end) old × SendsAt m (front_of old.end) old

-- what a release at this place sends
abbrev pub ReleaseReadsBack : {S : Type 0} → Meaning S → ℕ → Target S → Type 0
ReleaseReadsBack m place old = EncodesReleased m (deferred_at place old) old × SendsReleased m place (deferred_at place old) old

-- what a step of this thread sends
abbrev pub StepReadsBack : {S : Type 0} → Meaning S → ℕ → Target S → Type 0
StepReadsBack m t old = EncodesWhere m t old (is_frozen m t old) × SendsWhere m t old (is_frozen m t old)
