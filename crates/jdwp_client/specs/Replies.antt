-- Why no reply was read of what a client asked (JDWP specification, "Protocol Details").
use Rattle.std.specs.Prelude.{◌≡◌, ◌⊎◌, List}
use Rattle.jdwp_action.specs.Actions.{Command}
use Rattle.jdwp_end.specs.Story.{Story}
use Rattle.jdwp_layout.specs.Meanings.{DatumMeaning}
use Rattle.jdwp_layout.specs.declared.answer.Answer.TheVariants as answer
use Rattle.jdwp_client.specs.declared.errors.ClientError.TheVariants as error
use Rattle.jdwp_client.specs.declared.errors.ReplyError.{ReplyError}
use Rattle.jdwp_client.specs.declared.errors.ReplyError.TheVariants as reply
use Rattle.jdwp_client.specs.Clients.{AsksFor, Client, FailsToAsk}

-- The command was answered with data.
abbrev pub AsksForData : {P : Type 0} → (P → Story) → (List DatumMeaning → Type 0) → Command → Client P → Client P → Type 0
AsksForData {P} story Are command old new = (xs : List DatumMeaning) × AsksFor story command old (answer.Data xs) new × Are xs

-- It was answered with an error code, or with data that are not in this layout; or it was not asked, or the wait ended without its answer; or the
-- answer was data, and there was no memory to read them.
abbrev pub FailsToAskFor : {P : Type 0} → (P → Story) → (List DatumMeaning → Type 0) → Command → Client P → ReplyError → Client P → Type 0
FailsToAskFor {P} story Fits command old (reply.Target code) new = AsksFor story command old (answer.Error code) new
FailsToAskFor {P} story Fits command old reply.Layout new = AsksForData story (λ xs. Fits xs → ⊥) command old new
FailsToAskFor {P} story Fits command old (reply.Client e) new =
    FailsToAsk story command old e new ⊎ ((e ≡ error.NoMemory) × AsksForData story (λ xs. Unit {0}) command old new)
