-- What holds of an end over a whole session, from bytes to bytes.
use Rattle.std.specs.Prelude.{◌≡◌, ◌≢◌, ℕ, true, false, List, [], ◌++◌, length}
use Rattle.jdwp_wire.specs.Streams.{Message, stream, IsConversation, IsFront}
use Rattle.jdwp_end.specs.declared.phase.Phase.TheVariants.{AwaitingHandshake, Established}
use Rattle.jdwp_end.specs.Ends.{End, is_open}

-- These messages were handled in the session: the bytes fed are theirs, which are the first whole ones, and then a rest, which at an
-- open end is what came and was not handled; the bytes taken are a beginning of those enqueued to leave; and where no loss was noticed,
-- those taken and then those that wait are all of them.
pub record Carries (end : End) (messages : List Message) : Type 0 where
  pub rest : List ℕ
  pub conversation : IsConversation end.limits.packet messages
  pub turns : end.session.turns ≡ length messages
  pub handled : end.session.handled ≡ stream messages
  pub fed : end.session.fed ≡ stream messages ++ rest
  pub incoming : is_open end ≡ true → rest ≡ end.incoming
  pub awaiting : end.phase ≡ AwaitingHandshake → messages ≡ []
  pub established : end.phase ≡ Established → messages ≢ []
  pub taken : IsFront end.session.taken end.session.enqueued
  pub waiting : end.session.lost ≡ false → end.session.enqueued ≡ end.session.taken ++ end.outgoing
  pub after_loss : end.session.lost ≡ true → (is_open end ≡ false) × (end.outgoing ≡ [])
