-- a link before its first session
use Rattle.std.proofs.Common.{◌≡◌, ℕ, [], refl, arith}
use Rattle.jdwp_end.specs.Ends.{most_outgoing}
use Rattle.jdwp_machine.specs.Meanings.{Meaning}
use Rattle.jdwp_debuggee.specs.Settings.{Settings}
use Rattle.jdwp_debuggee.specs.State.{Moment, new_state}
use Rattle.jdwp_model.specs.Headline.{MayBegin}
use Rattle.jdwp_model.specs.World.{opening}
use Rattle.jdwp_link.specs.Insides.{IsRightLink}
use Rattle.jdwp_link.specs.Links.{new_link}
use Rattle.jdwp_link.specs.Stands.{Parts, StandsFor}

-- the debuggee of this machine
abbrev pub first-moment : {S : Type 0} → Meaning S → S → Moment S
first-moment m s = record { state = new_state (m.live s); machine = s }

opening-parts : {S : Type 0} (m : Meaning S) (settings : Settings) (s : S) → Parts m settings (m.sizes s) (new_link settings (first-moment m s)) (opening m s)
opening-parts m settings s = record {
  target = record { same_settings = refl; limits = refl; sizes = refl; now = refl; phase = refl; lost = refl; deferring = refl };
  debugger = record {
    order = refl;
    limits = refl;
    phase = refl;
    tickets = refl;
    mirror = record { counts = λ t. refl; held = λ t. refl; requests = refl };
    opened = λ o. absurd (cc);
    none_waits = λ c. refl;
  };
  to = record { wires = []; calls = refl; sent = tt; cut = record { number = omega arith; there = λ o. refl; left = refl }; kept = λ o. absurd (cc) };
  deferred = record { wires = []; commands = refl; messages = refl; sent = tt };
  from = record { wires = []; packets = refl; sent = tt; cut = record { number = omega arith; there = λ o. refl; left = refl }; kept = λ o. refl; awaits = λ o. absurd (cc) };
}

pub opening-stands : {S : Type 0} (m : Meaning S) (settings : Settings) (s : S) → MayBegin m settings s → StandsFor m (new_link settings (first-moment m s)) (opening m s)
opening-stands m settings s begins = record {
  reached = record { first = s; events = []; begins = begins; is = refl };
  parts = opening-parts m settings s;
}

pub opening-right : {S : Type 0} (m : Meaning S) (settings : Settings) (s : S) (to from : ℕ) → MayBegin m settings s → to ≡ most_outgoing settings.limits → from ≡ most_outgoing settings.limits → IsRightLink m (new_link settings (first-moment m s)) to from
opening-right m settings s to from begins a b = record {
  is_link = record { world = opening m s; stands = opening-stands m settings s begins };
  to_target_room = a;
  to_debugger_room = b;
  to_target_fits = omega arith;
  to_debugger_fits = omega arith;
}
