-- What a target over a machine keeps inside.
use Rattle.std.specs.Prelude.{◌≡◌, ℕ, ◌+◌, Bool, true, false, List, [], ◌∷◌, length}
use Rattle.jdwp_wire.specs.Streams.{Message, Packet}
use Rattle.jdwp_wire.specs.declared.packet.PacketKind.TheVariants as kind
use Rattle.jdwp_end.specs.declared.phase.Phase.{Phase}
use Rattle.jdwp_end.specs.declared.phase.Phase.TheVariants.{Closed, Established}
use Rattle.jdwp_end.specs.Ends.{End}
use Rattle.jdwp_machine.specs.Meanings.{Meaning}
use Rattle.jdwp_debuggee.specs.Debuggees.{Debuggee}
use Rattle.jdwp_debuggee.specs.State.{Moment}
use Rattle.jdwp_target.specs.declared.deferral.DeferredCommand.{DeferredCommand}
use Rattle.jdwp_target.specs.Standings.{stands}
use Rattle.jdwp_target.specs.Deeds.{with_none_deferred}
use Rattle.jdwp_target.specs.Targets.{Target, Ran}

-- ---- what is deferred

-- a deferred command as it came
abbrev pub message_of : DeferredCommand → Message
message_of c = Packet (record { length = 11 + length c.body.items; id = c.id; kind = kind.Command c.set c.number }) c.body.items

abbrev pub messages_of : List DeferredCommand → List Message
messages_of [] = []
messages_of (c ∷ cs) = message_of c ∷ messages_of cs

-- Whether replies are deferred; the commands whose replies are, the oldest first; whether replies were when the session began; and how
-- many deferred commands were released in it.
pub record Deferral : Type 0 where
  pub on : Bool
  pub commands : List Message
  pub began : Bool
  pub released : ℕ

-- the first of these
abbrev pub first_mark : List Bool → Bool
first_mark [] = false
first_mark (mark ∷ marks) = mark

-- ---- the target

-- the moment of the first of these, and the first phase
abbrev pub first_moment : {S : Type 0} → Moment S → List (Debuggee S) → Moment S
first_moment now [] = now
first_moment now (d ∷ ds) = d.moment

abbrev pub first_phase : List Phase → Phase
first_phase [] = Closed
first_phase (phase ∷ phases) = phase

abbrev pub target_of : {S : Type 0} → Debuggee S → Deferral → List (Debuggee S) → List Phase → ℕ → End → Target S
target_of d x began phases steps end = record {
  settings = d.settings;
  moment = d.moment;
  deferred = x.commands;
  deferring = x.on;
  began = with_none_deferred (stands (first_moment d.moment began) (first_phase phases)) x.began;
  steps = steps;
  releases = x.released;
  end = end;
  visits = d.visits;
}

-- A session that is established began with a handshake, the limits are those of the settings, and the run is as it should be.
pub record IsRightTarget {S : Type 0} (m : Meaning S) (d : Debuggee S) (x : Deferral) (began : List (Debuggee S)) (phases : List Phase) (steps : ℕ) (end : End) : Type 0 where
  pub some : (first : Debuggee S) × (rest : List (Debuggee S)) × (began ≡ first ∷ rest)
  pub handshaken : end.phase ≡ Established → d.moment.state.handshaken ≡ true
  pub limits : end.limits ≡ d.settings.limits
  pub ran : Ran m (target_of d x began phases steps end)
