-- How many threads the last move of all suspend counts visited: after a message that is handled, and after a step.
use Rattle.std.specs.Prelude.{ℕ, Bool, true, false, List, Option, Some, None, Result, Ok, Err}
use Rattle.jdwp_wire.specs.Streams.{Message, Handshake, Packet}
use Rattle.jdwp_wire.specs.declared.error_code.ErrorCode.{ErrorCode}
use Rattle.jdwp_wire.specs.declared.packet.PacketKind.{PacketKind}
use Rattle.jdwp_wire.specs.declared.packet.PacketKind.TheVariants as kind
use Rattle.jdwp_machine.specs.Meanings.{Meaning}
use Rattle.jdwp_action.specs.Actions.{Command, action_of}
use Rattle.jdwp_debuggee.specs.Answering.{read_as}
use Rattle.jdwp_debuggee.specs.Effects.{effect}
use Rattle.jdwp_debuggee.specs.Settings.{Settings}
use Rattle.jdwp_debuggee.specs.State.{Moment, State}
use Rattle.jdwp_debuggee.specs.Visits.{visits_carried, visits_greeted}

-- after a handshake: VM_START follows the first of the target's life
abbrev pub visits_hello : Settings → State → Bool → ℕ → ℕ
visits_hello settings state true visits = visits
visits_hello settings state false visits = visits_greeted settings state visits

-- after a command as it was read, or why it was refused
abbrev pub visits_read : {S : Type 0} → Meaning S → Settings → Moment S → Result Command ErrorCode → ℕ → ℕ
visits_read m settings now (Ok c) visits = visits_carried now (action_of c) (effect m settings now c) visits
visits_read m settings now (Err e) visits = visits

abbrev pub visits_packet : {S : Type 0} → Meaning S → Settings → Moment S → PacketKind → List ℕ → ℕ → ℕ
visits_packet m settings now (kind.Command set number) body visits = visits_read m settings now (read_as settings.profile (m.sizes now.machine) set number body) visits
visits_packet m settings now (kind.Reply error) body visits = visits

-- after a message
abbrev pub visits_handled : {S : Type 0} → Meaning S → Settings → Moment S → Message → ℕ → ℕ
visits_handled m settings now Handshake visits = visits_hello settings now.state now.state.handshaken visits
visits_handled m settings now (Packet header body) visits = visits_packet m settings now header.kind body visits

-- a message that is put off visits none
abbrev pub visits_where : {S : Type 0} → Meaning S → Settings → Moment S → Message → ℕ → Bool → ℕ
visits_where m settings now message visits true = visits
visits_where m settings now message visits false = visits_handled m settings now message visits

-- after a deferred command that is released, if there is one
abbrev pub visits_released : {S : Type 0} → Meaning S → Settings → Moment S → Option (Message × List Message) → ℕ → ℕ
visits_released m settings now None visits = visits
visits_released m settings now (Some (message, others)) visits = visits_handled m settings now message visits
