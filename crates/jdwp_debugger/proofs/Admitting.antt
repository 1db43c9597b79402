-- What holds of a command that may be asked.
use Rattle.std.proofs.Common.{◌≡◌, ℕ, ◌+◌, ◌<◌, ◌≤◌, ◌^◌, ◌||◌, nat_le, nat_lt, Bool, true, false, length, Some, None, ap, refl, sym, ◌∙◌, arith, if◌then◌else◌}
use Rattle.std.proofs.lemmas.Bool.{le-ltb, leb-false, or_parts}
use Rattle.jdwp_wire.specs.Reading.{in_usize}
use Rattle.jdwp_wire.specs.Widths.{Widths}
use Rattle.jdwp_end.specs.declared.phase.Phase.{Phase}
use Rattle.jdwp_end.specs.declared.phase.Phase.TheVariants as phase
use Rattle.jdwp_end.specs.Ends.{is_open, is_open_phase, is_paused}
use Rattle.jdwp_action.specs.Actions.{Command}
use Rattle.jdwp_debugger.specs.declared.asking.Body.{Body}
use Rattle.jdwp_debugger.specs.declared.asking.Refused.TheVariants.{Closed}
use Rattle.jdwp_debugger.specs.Debuggers.{Begins, Debugger}
use Rattle.jdwp_action.specs.CommandPackets.{carried_bytes, is_for_target, packet_length}
use Rattle.jdwp_mirror.specs.Messages.{LAST_TICKET}
use Rattle.jdwp_debugger.specs.Asking.{EncodesBody, EncodesCommand, IsAdmitted, body_bytes, is_busy, refusal_by, refusal_of_ask}

-- a size that is counted is itself
counted-by : (n m : ℕ) (b : Bool) → (if b then Some n else None) ≡ Some m → m ≡ n
counted-by n m true counted = cc
counted-by n m false counted = absurd cc

counted-is : (n m : ℕ) → in_usize n ≡ Some m → m ≡ n
counted-is n m counted = counted-by n m (nat_lt n (2 ^ 64)) counted

unrefused : (d : Debugger) (c : Command) (w : Widths) → is_open d.end ≡ true → d.sizes ≡ Some w → is_busy d ≡ false → is_for_target w c ≡ true
    → nat_lt d.end.limits.packet (packet_length w c) ≡ false → refusal_of_ask d c ≡ None
unrefused d c w opens known busy good fits = rw (opens, known, busy, good, fits) refl

pub admitted : (d : Debugger) (c : Command) (w : Widths) (b : Body) (n : ℕ) → is_open d.end ≡ true → d.sizes ≡ Some w → is_busy d ≡ false → is_for_target w c ≡ true
    → body_bytes w b ≡ carried_bytes w c.carried → (EncodesBody w b → EncodesCommand w c) → in_usize (length (body_bytes w b)) ≡ Some n → n + 11 ≤ d.end.limits.packet → d.end.limits.packet < 2 ^ 32
    → IsAdmitted d c w b (n + 11)
admitted d c w b n opens known busy good bytes encodes counted most small =
    let is : n ≡ length (body_bytes w b) = counted-is (length (body_bytes w b)) n counted in
    let same : length (body_bytes w b) ≡ length (carried_bytes w c.carried) = ap length bytes in
    let waits = or_parts (nat_le d.end.limits.pending (length d.pending)) (is_paused d.end || nat_le LAST_TICKET d.tickets) busy in
    let rest = or_parts (is_paused d.end) (nat_le LAST_TICKET d.tickets) waits.1 in
    let few : length d.pending < d.end.limits.pending = leb-false d.end.limits.pending (length d.pending) waits.0 in
    let room : length d.end.outgoing < d.end.limits.packet = leb-false d.end.limits.packet (length d.end.outgoing) rest.0 in
    let fits : nat_lt d.end.limits.packet (packet_length w c) ≡ false = le-ltb d.end.limits.packet (packet_length w c) (omega (arith, is, same, most)) in
    record {
      unrefused = unrefused d c w opens known busy good fits;
      known = known;
      bytes = bytes;
      encodes = encodes;
      size_is = omega (arith, is, same);
      size_most = most;
      size_fits = omega (arith, most, small);
      few = few;
      room = room;
      left = leb-false LAST_TICKET d.tickets rest.1;
    }

-- a command that is not refused is asked of an open end
open-so : (b : Bool) (d : Debugger) (c : Command) → is_open d.end ≡ b → refusal_of_ask d c ≡ None → b ≡ true
open-so true d c is unrefused = refl
open-so false d c is unrefused =
    let closed : refusal_of_ask d c ≡ Some Closed = ap (λ (x : Bool). if x then refusal_by d.sizes d c else Some Closed) is in
    absurd cc

open-phase : (p : Phase) → is_open_phase p ≡ true → (p ≡ phase.AwaitingHandshake → ⊥) → p ≡ phase.Established
open-phase phase.Closed opened begun = absurd cc
open-phase phase.AwaitingHandshake opened begun = absurd (begun refl)
open-phase phase.Established opened begun = refl

-- and after the target's handshake, before which the widths are not known
pub asked-established : (d : Debugger) (c : Command) (w : Widths) → refusal_of_ask d c ≡ None → d.sizes ≡ Some w → (d.end.phase ≡ phase.AwaitingHandshake → Begins d) → d.end.phase ≡ phase.Established
asked-established d c w unrefused known begins =
    open-phase d.end.phase (open-so (is_open d.end) d c refl unrefused) (λ e. let none = (begins e).2 in absurd (let never : None ≡ Some w = sym none ∙ known in cc))
