-- What closes a session (JDWP specification, "Protocol Details": VirtualMachine.Dispose, VirtualMachine.Exit and the event VM_DEATH).
use Rattle.std.specs.Prelude.{◌≡◌, ◌⊎◌, true, false, [], ⊤}
use Rattle.jdwp_wire.specs.Streams.{Message, Handshake, Packet}
use Rattle.jdwp_wire.specs.declared.packet.PacketKind.TheVariants as kind
use Rattle.jdwp_layout.specs.CommandNumbers.{VIRTUAL_MACHINE, DISPOSE}
use Rattle.jdwp_end.specs.Ends.{is_open_phase}
use Rattle.jdwp_machine.specs.Meanings.{Meaning}
use Rattle.jdwp_debuggee.specs.Settings.{Settings}
use Rattle.jdwp_target.specs.Standings.{Act, Handles, Steps, Loses, Standing, react}

-- VirtualMachine.Dispose, without data
abbrev pub IsDispose : Message → Type 0
IsDispose Handshake = ⊥
IsDispose (Packet header body) = (header.kind ≡ kind.Command VIRTUAL_MACHINE DISPOSE.number) × (body ≡ [])

-- Why an act closed the session behind which a target stands so: the message was Dispose, or the machine is dead, as after Exit and after
-- the last thread's end; or the connection was lost.
abbrev pub Closes : {S : Type 0} → Act → Standing S → Type 0
Closes (Handles message) after = IsDispose message ⊎ (after.moment.state.alive ≡ false)
Closes (Steps t) after = after.moment.state.alive ≡ false
Closes Loses after = ⊤

-- An act that closes an open session does so for one of these reasons.
abbrev pub ClosesForReason : {S : Type 0} → Meaning S → Type 0
ClosesForReason {S = S} m = (settings : Settings) (now : Standing S) (act : Act) → is_open_phase now.phase ≡ true → is_open_phase (react m settings now act).after.phase ≡ false
    → Closes act (react m settings now act).after
