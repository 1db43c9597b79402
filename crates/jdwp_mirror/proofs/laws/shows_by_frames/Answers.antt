use Rattle.std.proofs.Common.{◌≡◌, ℕ, ◌+◌, true, false, cond, eqb, List, [], ◌∷◌, Option, None, refl, arith}
use Rattle.std.proofs.lemmas.Bool.{eq-eqb, ne_eqb}
use Rattle.jdwp_layout.specs.CommandNumbers.{SET_SLOTS, is_command}
use Rattle.jdwp_layout.specs.Meanings.{DatumMeaning, Object, Frame, One, Many}
use Rattle.jdwp_action.specs.Actions.{Command, Action, AskFrames, Carried, Content, action_of, slots_of, thread_of}
use Rattle.jdwp_mirror.specs.Mirror.{is_thread, learned_data, shows_data}
use Rattle.jdwp_mirror.specs.Laws.{of_thread}
use Rattle.jdwp_mirror.proofs.laws.shows_by_frames.Goals as goal

-- an action that shows the command's thread alive and changes no count
abbrev Quiet : Action → Type 0
Quiet a = (c : Command) (content : List DatumMeaning) (u : ℕ) (count : Option ℕ) → (learned_data a content u count ≡ count) × (shows_data c a content u ≡ is_thread (thread_of c) u)

quiet-slots : (t : ℕ) (x : Carried) → Quiet (slots_of t x)
quiet-slots t (Content (One (Object o) ∷ One (Frame f) ∷ Many entries ∷ [])) = λ c content u count. (refl, refl)
quiet-slots t x = λ c content u count. (refl, refl)

quiet-frames : (number t : ℕ) (asked : List DatumMeaning) → Quiet (action_of (of_thread 16 number t asked))
quiet-frames number t asked =
    let x : Carried = Content (One (Object t) ∷ asked) in
    elim (is_command SET_SLOTS 16 number) as (λ b. Quiet (cond b (slots_of t x) (AskFrames t))) [ true ↦ quiet-slots t x | false ↦ λ c content u count. (refl, refl) ]

positive : (n : ℕ) → eqb (n + 1) 0 ≡ false
positive n = ne_eqb (n + 1) 0 (λ e. omega arith)

pub returns : goal.returns
returns c =
    record {
      held = λ k number t n asked content before. rw ((quiet-frames number t asked (of_thread 16 number t asked) content t None).1, positive n, eq-eqb t t refl) refl;
      not_at_zero = λ k number t asked content before. refl;
      another = λ k number t u n asked content before apart. rw ((quiet-frames number t asked (of_thread 16 number t asked) content u None).1, positive n, ne_eqb t u apart) refl;
      counts = λ k number t u asked content count. (quiet-frames number t asked (of_thread 16 number t asked) content u count).0;
    }
