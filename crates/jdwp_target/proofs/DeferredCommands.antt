-- Deferred commands as they came, and as the code keeps them.
use Rattle.std.proofs.Common.{◌≡◌, ◌∙◌, ℕ, zero, suc, ◌<◌, List, [], ◌∷◌, ◌++◌, length, Option, Some, sym, ap, refl, arith, get_or}
use Rattle.std.specs.Prelude.{remove}
use Rattle.jdwp_wire.specs.Streams.{Message}
use Rattle.jdwp_target.specs.declared.deferral.DeferredCommand.{DeferredCommand}
use Rattle.jdwp_debuggee.specs.Deferring.{beside, released_at}
use Rattle.jdwp_target.specs.Insides.{message_of, messages_of}

pub messages-length : (cs : List DeferredCommand) → length (messages_of cs) ≡ length cs
messages-length [] = refl
messages-length (c ∷ cs) = let e : length (messages_of cs) ≡ length cs = messages-length cs in omega arith

pub messages-more : (cs : List DeferredCommand) (c : DeferredCommand) → messages_of (cs ++ c ∷ []) ≡ messages_of cs ++ message_of c ∷ []
messages-more [] c = refl
messages-more (d ∷ ds) c = ap (λ (x : List Message). message_of d ∷ x) (messages-more ds c)

-- the command at a place, and those that are left without it
pub released-message : (n : ℕ) (cs : List DeferredCommand) (c : DeferredCommand) → n < length cs → released_at n (messages_of cs) ≡ Some (message_of (get_or cs n c), messages_of (remove cs n))
released-message zero [] c less = absurd (omega arith)
released-message (suc n) [] c less = absurd (omega arith)
released-message zero (d ∷ ds) c less = refl
released-message (suc n) (d ∷ ds) c less = ap (beside (message_of d)) (released-message n ds c (omega arith))

abbrev both : Message → List Message → Option (Message × List Message)
both x xs = Some (x, xs)

same-others : (x y : Message) (xs ys : List Message) → both x xs ≡ both y ys → xs ≡ ys
same-others x y xs ys e = let pair : (x, xs) ≡ (y, ys) = cc in ap (λ (o : Message × List Message). o.1) pair

pub others-left : (n : ℕ) (cs : List DeferredCommand) (c : DeferredCommand) (x : Message) (others : List Message) → n < length cs → released_at n (messages_of cs) ≡ Some (x, others) → messages_of (remove cs n) ≡ others
others-left n cs c x others less here = same-others _ _ _ _ (sym (released-message n cs c less) ∙ here)
