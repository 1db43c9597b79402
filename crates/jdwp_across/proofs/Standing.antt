-- two programs that stand for a world, and one act more
use Rattle.std.proofs.Common.{◌≡◌, ◌<◌, ◌^◌, ℕ, Bool, true, false, List, [], ◌∷◌, ◌++◌, refl, sym, ◌∙◌, ap, subst, arith}
use Rattle.std.specs.Prelude.{nat_le, nat_lt}
use Rattle.std.proofs.lemmas.Bool.{lt-leb, lt-ltb}
use Rattle.jdwp_wire.specs.Widths.{Widths}
use Rattle.jdwp_end.specs.Ends.{End}
use Rattle.jdwp_machine.specs.Meanings.{Meaning}
use Rattle.jdwp_debuggee.specs.Settings.{Settings}
use Rattle.jdwp_target.specs.Targets.{Target}
use Rattle.jdwp_debugger.specs.Debuggers.{Debugger}
use Rattle.jdwp_model.specs.Events.{LinkEvent}
use Rattle.jdwp_model.specs.Measures.{measured}
use Rattle.jdwp_model.specs.World as world
use Rattle.jdwp_model.specs.World.{World}
use Rattle.jdwp_link.specs.Insides.{DebuggerKeeps, TargetKeeps}
use Rattle.jdwp_link.specs.Laws.{FindsMessages}
use Rattle.jdwp_link.specs.Stands.{Parts}
use Rattle.jdwp_link.proofs.Delivering.{way-debugger, way-target}
use Rattle.jdwp_across.specs.Programs.{Act, Programs, events_of, told_by}
use Rattle.jdwp_across.specs.Merges.{Agrees}
use Rattle.jdwp_across.specs.Standing.{StandsAcross, buffered, debugger_at, joined}
use Rattle.jdwp_across.proofs.Cutting.{After}
use Rattle.jdwp_across.proofs.Keeping.{Keeps}
use Rattle.jdwp_across.proofs.Onward.{Onward}
use Rattle.jdwp_across.proofs.Reached.{GoesBy, goes-idle, reached-more, reached-same}

pub either : (b : Bool) (P : Type 0) → (b ≡ true → P) → (b ≡ false → P) → P
either true P f g = f refl
either false P f g = g refl

-- ---- before an act

-- they stand for a world after these acts, from one from which all goes well; the debugger keeps what every debugger does, and the connection
-- agrees
pub record Standing {S : Type 0} (m : Meaning S) (settings : Settings) (w : Widths) (first : World S) (acts : List Act) (programs : Programs S) : Type 0 where
  pub onward : Onward m settings first
  pub world : World S
  pub stands : StandsAcross m settings w first acts programs world
  pub keeps : Keeps programs.debugger
  pub agrees : Agrees programs

-- a packet may have some bytes, and not too many
pub record Sized (packet : ℕ) : Type 0 where
  pub some : 0 < packet
  pub small : packet < 2 ^ 32

pub sized : {S : Type 0} (m : Meaning S) (settings : Settings) (w : Widths) (first : World S) (acts : List Act) (old : Programs S) → Standing m settings w first acts old → Sized settings.limits.packet
sized m settings w first acts old b =
    let same = ap (λ n. n.packet) b.stands.parts.debugger.limits in
    let least = b.keeps.limits.packet_least in
    let most = b.keeps.limits.packet_most in
    record { some = omega arith; small = omega arith }

pub target-sized : {S : Type 0} (m : Meaning S) (settings : Settings) (w : Widths) (t : Target S) (d : Debugger) (x : World S) → Sized settings.limits.packet → Parts m settings w (joined t d) x → 0 < t.end.limits.packet
target-sized m settings w t d x size parts = subst (λ n. 0 < n.packet) (sym parts.target.limits) size.some

pub debugger-sized : {S : Type 0} (m : Meaning S) (settings : Settings) (w : Widths) (t : Target S) (d : Debugger) (x : World S) → Sized settings.limits.packet → Parts m settings w (joined t d) x → 0 < d.end.limits.packet
debugger-sized m settings w t d x size parts = subst (λ n. 0 < n.packet) (sym parts.debugger.limits) size.some

-- an end at which nothing waits to leave is not paused
pub unpaused : (packet : ℕ) → 0 < packet → nat_le packet 0 ≡ false
unpaused packet h = lt-leb packet 0 h

pub target-keeps : (come : List ℕ) (e : End) → 0 < e.limits.packet → TargetKeeps (buffered come [] e)
target-keeps come e h = record { most = omega arith; emptied = λ lost. refl; flows = λ none. unpaused e.limits.packet h }

pub debugger-keeps : (come : List ℕ) (d : Debugger) → Keeps d → DebuggerKeeps (debugger_at come [] d)
debugger-keeps come d k = record {
  most = omega arith;
  limits = k.limits;
  distinct = k.distinct;
  own = k.own;
  begins = λ e. k.begins e;
  alone = λ o e. k.alone o e;
  unlearned = k.unlearned;
  unparked = k.unparked;
  id = k.id;
}

-- where all has come nothing is under way to the debugger, nor to the target
pub way-none : {S : Type 0} (m : Meaning S) (settings : Settings) (w : Widths) (t : Target S) (d : Debugger) (x : World S) → FindsMessages → Sized settings.limits.packet → Parts m settings w (joined t d) x
    → nat_lt (world.way_to_debugger (measured w settings.limits) x) settings.limits.packet ≡ true
way-none m settings w t d x finds size s = ap (λ n. nat_lt n settings.limits.packet) (sym (way-debugger m settings w (joined t d) x finds s)) ∙ lt-ltb 0 settings.limits.packet size.some

pub way-none-target : {S : Type 0} (m : Meaning S) (settings : Settings) (w : Widths) (t : Target S) (d : Debugger) (x : World S) → FindsMessages → Sized settings.limits.packet → Parts m settings w (joined t d) x
    → nat_lt (world.way_to_target (measured w settings.limits) x) settings.limits.packet ≡ true
way-none-target m settings w t d x finds size s = ap (λ n. nat_lt n settings.limits.packet) (sym (way-target m settings w (joined t d) x finds s)) ∙ lt-ltb 0 settings.limits.packet size.some

-- ---- after it

pub record Stands {S : Type 0} (m : Meaning S) (settings : Settings) (w : Widths) (first : World S) (acts : List Act) (programs : Programs S) : Type 0 where
  pub world : World S
  pub stands : StandsAcross m settings w first acts programs world

-- the act is these events, and this is what it leaves of both
pub stands-by : {S : Type 0} (m : Meaning S) (settings : Settings) (w : Widths) (first : World S) (acts : List Act) (old new : Programs S) (act : Act) (es : List LinkEvent) (y : World S) (t : Target S) (d : Debugger) → (b : Standing m settings w first acts old)
    → GoesBy m settings w act es b.world y → After m settings w t d y → new.target ≡ t → new.debugger ≡ d → Stands m settings w first (acts ++ act ∷ []) new
stands-by m settings w first acts old new act es y t d b goes after same_t same_d = record {
  world = after.world;
  stands = record {
    reached = reached-same m settings w first (acts ++ act ∷ []) y after.world after.same (reached-more m settings w first acts act es b.world y b.stands.reached goes);
    parts = subst (λ u. Parts m settings w (joined u new.debugger) after.world) (sym same_t) (subst (λ u. Parts m settings w (joined t u) after.world) (sym same_d) after.parts);
  };
}

-- it does nothing
pub stands-still : {S : Type 0} (m : Meaning S) (settings : Settings) (w : Widths) (first : World S) (acts : List Act) (old new : Programs S) (act : Act) → Standing m settings w first acts old
    → events_of act ≡ [] → told_by act ≡ [] → new.target ≡ old.target → new.debugger ≡ old.debugger → Stands m settings w first (acts ++ act ∷ []) new
stands-still m settings w first acts old new act b none told same_t same_d = record {
  world = b.world;
  stands = record {
    reached = reached-more m settings w first acts act [] b.world b.world b.stands.reached (goes-idle m settings w act b.world none told);
    parts = subst (λ t. Parts m settings w (joined t new.debugger) b.world) (sym same_t) (subst (λ d. Parts m settings w (joined old.target d) b.world) (sym same_d) b.stands.parts);
  };
}
