-- A target in this process as the other end of a debugger's pipe.
use Rattle.std.specs.Prelude.{◌≡◌, ℕ, Bool, List, [], ◌∷◌}
use Rattle.jdwp_debuggee.specs.Settings.{Settings}
use Rattle.jdwp_end.specs.Story.{Story, empty_story}
use Rattle.jdwp_engine.specs.Serving.{fresh}
use Rattle.jdwp_machine.specs.Meanings.{Meaning}
use Rattle.jdwp_partner.specs.declared.standing.Standing.{Standing}
use Rattle.jdwp_partner.specs.declared.standing.Standing.TheVariants.{Goes}
use Rattle.jdwp_partner.specs.Keeping.{IsMoved, Stands}
use Rattle.jdwp_target.specs.Targets.{Ran, Target, opened_target}

-- The target; the one that it was as its session began, alone; how many rounds are left; how it stands; and what went through the pipe, as
-- the debugger sees it: read is what the target said, written what was said to it.
pub record Partner (S : Type 0) : Type 0 where
  pub target : Target S
  pub opened : List (Target S)
  pub rounds : ℕ
  pub standing : Standing
  pub story : Story

-- The target is in the session that this one began, with its settings; what was written was fed to it, and what was read was taken from it, in
-- order; and it stands as is told.
pub record IsPartnerOf {S : Type 0} (m : Meaning S) (first : Target S) (p : Partner S) : Type 0 where
  pub settings : p.target.settings ≡ first.settings
  pub began : p.target.began ≡ first.began
  pub moved : IsMoved p.target p.story
  pub stands : Stands m p.standing p.rounds p.target

-- the same of the target as its session began
abbrev pub IsServing : {S : Type 0} → Meaning S → Partner S → Type 0
IsServing {S = S} m p = (first : Target S) × (p.opened ≡ first ∷ []) × IsPartnerOf m first p

-- And it did what a target does in a session: what was taken from it is a beginning of what its deeds put, in order, of which `Ran` tells.
abbrev pub IsPartner : {S : Type 0} → Meaning S → Partner S → Type 0
IsPartner m p = Ran m p.target × IsServing m p

-- a target over this machine whose first session begins
abbrev pub first_target : {S : Type 0} → Meaning S → Settings → Bool → S → Target S
first_target m settings defer machine = opened_target (fresh m settings defer machine)

-- one of which nothing was read or written, for so many rounds
abbrev pub new_partner : {S : Type 0} → Meaning S → Settings → Bool → S → ℕ → Partner S
new_partner m settings defer machine rounds = record {
  target = first_target m settings defer machine;
  opened = first_target m settings defer machine ∷ [];
  rounds = rounds;
  standing = Goes;
  story = empty_story;
}
