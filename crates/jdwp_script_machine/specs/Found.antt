-- What look-ups found.
use Rattle.std.specs.Prelude.{Option, Some, None}
use Rattle.std.specs.Borrow.{Bor}
use Rattle.jdwp_script.specs.Meanings.{class_part, method_part}
use Rattle.jdwp_script_machine.specs.declared.sites.SiteRef.{SiteRef}
use Rattle.jdwp_script_machine.specs.Sites.{Site}

-- what a look-up found, behind its reference
abbrev pub found : {A : Type 0} → Option (Bor A) → Option A
found None = None
found (Some x) = Some x.now

-- a class and a method of it, behind their references
abbrev pub site_part : SiteRef → Site
site_part x = record { class = class_part x.class.now; method = method_part x.method.now }

abbrev pub site_found : Option SiteRef → Option Site
site_found None = None
site_found (Some x) = Some (site_part x)
