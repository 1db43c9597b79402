-- The fold and the search find what the relations say.
use Rattle.std.proofs.Common.{◌≡◌, ℕ, ◌⊎◌, inl, inr, true, false, eqb, List, [], ◌∷◌, Option, Some, None, fold, refl, sym, ap, subst, ◌∙◌}
use Rattle.std.specs.List.{AllByRecursion}
use Rattle.std.proofs.lemmas.Bool.{cases_Bool, eqb-true, eq-eqb}
use Rattle.std.proofs.lemmas.List.Sums.{fold-append}
use Rattle.std.proofs.lemmas.Option.{same_Some}
use Rattle.jdwp_wire.specs.declared.error_code.ErrorCode.{ErrorCode}
use Rattle.jdwp_wire.specs.declared.packet.Header.{Header}
use Rattle.jdwp_wire.specs.declared.packet.PacketKind.{PacketKind}
use Rattle.jdwp_wire.specs.declared.packet.PacketKind.TheVariants as kind
use Rattle.jdwp_wire.specs.Streams.{Handshake, Packet}
use Rattle.jdwp_show.specs.declared.capture_line.Sender.{Sender}
use Rattle.jdwp_show.specs.declared.capture_line.Sender.TheVariants.{Debugger, Target}
use Rattle.jdwp_show.specs.declared.command_number.CommandNumber.{CommandNumber}
use Rattle.jdwp_show.specs.Found.{Found, Sent, Faulty}
use Rattle.jdwp_show.specs.Items.{Item}
use Rattle.jdwp_show.specs.Rules.{waits_after_found, waiting}
use Rattle.jdwp_show.specs.Waiting.{IsCommand, speaks_of, IsSilent, Waits}

abbrev next : ℕ → Option CommandNumber → Item → Option CommandNumber
next id before item = waits_after_found id item.sender item.found before

-- what an item does to what waits: nothing, or a command waits now, or none does
data Step (id : ℕ) (item : Item) : Type 0 where
  silent : IsSilent id item → ((w : Option CommandNumber) → next id w item ≡ w) → Step id item
  commands : (command : CommandNumber) → IsCommand id command item → speaks_of id item.sender item.found ≡ true → ((w : Option CommandNumber) → next id w item ≡ Some command) → Step id item
  replies : speaks_of id item.sender item.found ≡ true → ((w : Option CommandNumber) → next id w item ≡ None) → Step id item

command_step : (id line : ℕ) (header : Header) (body : List ℕ) (set number : ℕ) (here : (eqb header.id id ≡ true) ⊎ (eqb header.id id ≡ false)) → header.kind ≡ kind.Command set number
    → Step id (record { line = line; sender = Debugger; found = Sent (Packet header body) })
command_step id line header body set number (inl same) is =
    commands (record { set = set; number = number }) (record { header = header; body = body; is_packet = refl; by_debugger = refl; under_id = eqb-true _ _ same; is_command = is }) (rw (is, same) refl) (λ w. rw (is, same) refl)
command_step id line header body set number (inr other) is = silent (rw (is, other) refl) (λ w. rw (is, other) refl)

reply_step : (id line : ℕ) (header : Header) (body : List ℕ) (error : ErrorCode) (here : (eqb header.id id ≡ true) ⊎ (eqb header.id id ≡ false)) → header.kind ≡ kind.Reply error
    → Step id (record { line = line; sender = Target; found = Sent (Packet header body) })
reply_step id line header body error (inl same) is = replies (rw (is, same) refl) (λ w. rw (is, same) refl)
reply_step id line header body error (inr other) is = silent (rw (is, other) refl) (λ w. rw (is, other) refl)

debugger_step : (id line : ℕ) (header : Header) (body : List ℕ) (k : PacketKind) → header.kind ≡ k → Step id (record { line = line; sender = Debugger; found = Sent (Packet header body) })
debugger_step id line header body (kind.Command set number) is = command_step id line header body set number (cases_Bool (eqb header.id id)) is
debugger_step id line header body (kind.Reply error) is = silent (rw is refl) (λ w. rw is refl)

target_step : (id line : ℕ) (header : Header) (body : List ℕ) (k : PacketKind) → header.kind ≡ k → Step id (record { line = line; sender = Target; found = Sent (Packet header body) })
target_step id line header body (kind.Command set number) is = silent (rw is refl) (λ w. rw is refl)
target_step id line header body (kind.Reply error) is = reply_step id line header body error (cases_Bool (eqb header.id id)) is

step_by : (id line : ℕ) (sender : Sender) (found : Found) → Step id (record { line = line; sender = sender; found = found })
step_by id line sender (Sent Handshake) = silent refl (λ w. refl)
step_by id line sender (Faulty fault) = silent refl (λ w. refl)
step_by id line Debugger (Sent (Packet header body)) = debugger_step id line header body header.kind refl
step_by id line Target (Sent (Packet header body)) = target_step id line header body header.kind refl

step : (id : ℕ) (item : Item) → Step id item
step id item = step_by id item.line item.sender item.found

-- ---- item by item

abbrev Silent : ℕ → List Item → Type 0
Silent id items = AllByRecursion (IsSilent id) items

-- a command waits since one of these items, or since before them
data Since (items : List Item) (id : ℕ) (command : CommandNumber) (w : Option CommandNumber) : Type 0 where
  among : Waits items id command → Since items id command w
  earlier : w ≡ Some command → Silent id items → Since items id command w

since_step : (id : ℕ) (item : Item) (items : List Item) (command : CommandNumber) (w : Option CommandNumber) → Step id item → Since items id command (next id w item) → Since (item ∷ items) id command w
since_step id item items command w s (among h) = among (record {
  before = item ∷ h.before;
  item = h.item;
  after = h.after;
  items_are = ap (λ (xs : List Item). item ∷ xs) h.items_are;
  is_command = h.is_command;
  none_behind = h.none_behind;
})
since_step id item items command w (silent quiet keeps) (earlier is rest) = earlier (sym (keeps w) ∙ is) (quiet, rest)
since_step id item items command w (commands other this speaks sets) (earlier is rest) =
    let same : other ≡ command = same_Some other command (sym (sets w) ∙ is) in
    among (record { before = []; item = item; after = items; items_are = refl; is_command = subst (λ (x : CommandNumber). IsCommand id x item) same this; none_behind = rest })
since_step id item items command w (replies speaks clears) (earlier is rest) = absurd (let none = sym (clears w) ∙ is in cc)

since : (id : ℕ) (items : List Item) (command : CommandNumber) (w : Option CommandNumber) → fold (λ before item. waits_after_found id item.sender item.found before) w items ≡ Some command → Since items id command w
since id [] command w e = earlier e tt
since id (item ∷ items) command w e = since_step id item items command w (step id item) (since id items command (next id w item) e)

from_since : (items : List Item) (id : ℕ) (command : CommandNumber) → Since items id command None → Waits items id command
from_since items id command (among h) = h
from_since items id command (earlier is rest) = cc

pub waits_from : (items : List Item) (id : ℕ) (command : CommandNumber) → waiting items id ≡ Some command → Waits items id command
waits_from items id command e = from_since items id command (since id items command None e)

-- ---- and back

keeps_silent : (id : ℕ) (item : Item) (w : Option CommandNumber) → Step id item → IsSilent id item → next id w item ≡ w
keeps_silent id item w (silent also keeps) quiet = keeps w
keeps_silent id item w (commands command this speaks sets) quiet = absurd cc
keeps_silent id item w (replies speaks clears) quiet = absurd cc

all_silent : (id : ℕ) (items : List Item) (w : Option CommandNumber) → Silent id items → fold (λ before item. waits_after_found id item.sender item.found before) w items ≡ w
all_silent id [] w quiet = refl
all_silent id (item ∷ items) w quiet = all_silent id items (next id w item) quiet.1 ∙ keeps_silent id item w (step id item) quiet.0

waits_now : (id : ℕ) (item : Item) (command : CommandNumber) (w : Option CommandNumber) → IsCommand id command item → next id w item ≡ Some command
waits_now id item command w h =
    let here : eqb h.header.id id ≡ true = eq-eqb _ _ h.under_id in
    rw (h.by_debugger, h.is_packet, h.is_command, here) refl

pub waits_to : (items : List Item) (id : ℕ) (command : CommandNumber) → Waits items id command → waiting items id ≡ Some command
waits_to items id command h =
    let f : Option CommandNumber → Item → Option CommandNumber = λ before item. waits_after_found id item.sender item.found before in
    ap (λ (xs : List Item). fold f None xs) h.items_are ∙ fold-append f None h.before (h.item ∷ h.after)
    ∙ ap (λ (w : Option CommandNumber). fold f w h.after) (waits_now id h.item command (fold f None h.before) h.is_command) ∙ all_silent id h.after (Some command) h.none_behind
