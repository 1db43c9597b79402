use Rattle.std.proofs.Common.{◌≡◌, ℕ, [], Bool, true, false, cond, refl}
use Rattle.jdwp_wire.specs.Streams.{NextMessage, Handshake, Packet, More, stream}
use Rattle.jdwp_wire.specs.StreamLaws.{found_of_cut, no_bytes}
use Rattle.jdwp_end.specs.declared.phase.Phase.{Phase}
use Rattle.jdwp_end.specs.declared.phase.Phase.TheVariants.{Closed, AwaitingHandshake, Established}
use Rattle.jdwp_end.specs.Ends.{is_paused, next_at}
use Rattle.jdwp_end.proofs.laws.finds_first_message.Goals as goal

pub returns-clause-handshake : goal.returns-clause-handshake
returns-clause-handshake c = λ end n messages phase flows small came. rw (flows, phase, came) (found_of_cut end.limits.packet n Handshake (stream messages) small tt)

pub returns-clause-packet : goal.returns-clause-packet
returns-clause-packet c = λ end n header body messages phase flows small fits came. rw (flows, phase, came) (found_of_cut end.limits.packet n (Packet header body) (stream messages) small fits)

none-there : (limit : ℕ) (phase : Phase) → next_at limit phase [] ≡ More
none-there limit Closed = refl
none-there limit AwaitingHandshake = no_bytes limit false
none-there limit Established = no_bytes limit true

either-way : (paused : Bool) (next : NextMessage) → next ≡ More → cond paused More next ≡ More
either-way true next e = refl
either-way false next e = e

pub returns-clause-nothing : goal.returns-clause-nothing
returns-clause-nothing c = λ end none. either-way (is_paused end) _ (rw none (none-there end.limits.packet end.phase))
