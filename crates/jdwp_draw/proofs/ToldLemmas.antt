-- The widths of ids that messages tell, message by message.
use Rattle.std.proofs.Common.{◌≡◌, ℕ, ◌+◌, ◌<◌, ◌≤◌, true, false, List, ◌∷◌, length, drop, get_or, Option, Some, None, is_some, refl, sym, ap, ◌∙◌}
use Rattle.std.proofs.Math.Path.{fun_ext}
use Rattle.std.proofs.lemmas.List.{drop_more, drop_all}
use Rattle.jdwp_wire.specs.Widths.{Widths}
use Rattle.jdwp_show.specs.declared.command_number.CommandNumber.{CommandNumber}
use Rattle.jdwp_draw.specs.Messages.{ShownMeaning}
use Rattle.jdwp_draw.specs.Told.{numbers_after, told_from, told_in}

next_is : (ms : List ShownMeaning) (k : ℕ) (m : ShownMeaning) → k < length ms → m ≡ get_or ms k m → drop k ms ≡ m ∷ drop (k + 1) ms
next_is ms k m inside here = drop_more ms k m inside ∙ ap (λ (x : ShownMeaning). x ∷ drop (k + 1) ms) (sym here)

found_by : (waits : ℕ → Option CommandNumber) (m : ShownMeaning) (ms : List ShownMeaning) (o : Option Widths) → is_some o ≡ true → told_in waits m.sender m.message ≡ o → told_from waits (m ∷ ms) ≡ o
unfolding told_from
found_by waits m ms None some e = absurd cc
found_by waits m ms (Some w) some e = rw e refl

-- this message tells them
pub told_here : (waits : ℕ → Option CommandNumber) (ms : List ShownMeaning) (k : ℕ) (m : ShownMeaning) (o all : Option Widths) → k < length ms → m ≡ get_or ms k m → is_some o ≡ true → o ≡ told_in waits m.sender m.message
    → told_from waits (drop k ms) ≡ all → o ≡ all
told_here waits ms k m o all inside here some is so_far =
    sym (found_by waits m (drop (k + 1) ms) o some (sym is)) ∙ ap (λ (x : List ShownMeaning). told_from waits x) (sym (next_is ms k m inside here)) ∙ so_far

pub none_there : (o : Option Widths) → is_some o ≡ false → o ≡ None
none_there None none = refl
none_there (Some w) none = absurd cc

none_by : (waits : ℕ → Option CommandNumber) (m : ShownMeaning) (ms : List ShownMeaning) → told_in waits m.sender m.message ≡ None → told_from waits (m ∷ ms) ≡ told_from (λ (id : ℕ). numbers_after m.sender m.message (waits id) id) ms
unfolding told_from
none_by waits m ms e = rw e refl

-- it does not, and is one more for the commands that wait
pub told_behind : (waits new : ℕ → Option CommandNumber) (ms : List ShownMeaning) (k : ℕ) (m : ShownMeaning) (all : Option Widths) → k < length ms → m ≡ get_or ms k m → told_in waits m.sender m.message ≡ None
    → ((id : ℕ) → new id ≡ numbers_after m.sender m.message (waits id) id) → told_from waits (drop k ms) ≡ all → told_from new (drop (k + 1) ms) ≡ all
told_behind waits new ms k m all inside here none after so_far =
    ap (λ (w : ℕ → Option CommandNumber). told_from w (drop (k + 1) ms)) (fun_ext after) ∙ sym (none_by waits m (drop (k + 1) ms) none)
    ∙ ap (λ (x : List ShownMeaning). told_from waits x) (sym (next_is ms k m inside here)) ∙ so_far

pub told_nowhere : (waits : ℕ → Option CommandNumber) (ms : List ShownMeaning) (k : ℕ) (all : Option Widths) → length ms ≤ k → told_from waits (drop k ms) ≡ all → None ≡ all
unfolding told_from
told_nowhere waits ms k all past so_far = ap (λ (x : List ShownMeaning). told_from waits x) (sym (drop_all k ms past)) ∙ so_far
