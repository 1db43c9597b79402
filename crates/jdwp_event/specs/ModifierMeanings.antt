-- What modifiers in memory say.
use Rattle.std.specs.Prelude.{Option, Some, None}
use Rattle.std.specs.Borrow.{Bor}
use Rattle.std.specs.String.{string_bytes}
use Rattle.jdwp_event.specs.declared.modifier.Modifier.{Modifier}
use Rattle.jdwp_event.specs.declared.modifier.Modifier.TheVariants as modifier
use Rattle.jdwp_event.specs.Modifiers.{ModifierMeaning, Count, Conditional, ThreadOnly, ClassOnly, ClassMatch, ClassExclude, LocationOnly, ExceptionOnly, FieldOnly, Step, InstanceOnly, SourceNameMatch}

abbrev pub modifier_meaning : Modifier → ModifierMeaning
modifier_meaning (modifier.Count n) = Count n
modifier_meaning (modifier.Conditional n) = Conditional n
modifier_meaning (modifier.ThreadOnly t) = ThreadOnly t.0
modifier_meaning (modifier.ClassOnly c) = ClassOnly c.0
modifier_meaning (modifier.ClassMatch p) = ClassMatch (string_bytes p)
modifier_meaning (modifier.ClassExclude p) = ClassExclude (string_bytes p)
modifier_meaning (modifier.LocationOnly l) = LocationOnly l
modifier_meaning (modifier.ExceptionOnly c caught uncaught) = ExceptionOnly c.0 caught uncaught
modifier_meaning (modifier.FieldOnly c f) = FieldOnly c.0 f.0
modifier_meaning (modifier.Step t size depth) = Step t.0 size depth
modifier_meaning (modifier.InstanceOnly o) = InstanceOnly o.0
modifier_meaning (modifier.SourceNameMatch p) = SourceNameMatch (string_bytes p)

abbrev pub found_modifier : Option Modifier → Option ModifierMeaning
found_modifier None = None
found_modifier (Some m) = Some (modifier_meaning m)

abbrev pub found_modifier_behind : Option (Bor Modifier) → Option ModifierMeaning
found_modifier_behind None = None
found_modifier_behind (Some m) = Some (modifier_meaning m.now)

abbrev pub IsNoCount : ModifierMeaning → Type 0
IsNoCount (Count n) = ⊥
IsNoCount (Conditional n) = Unit {0}
IsNoCount (ThreadOnly t) = Unit {0}
IsNoCount (ClassOnly c) = Unit {0}
IsNoCount (ClassMatch p) = Unit {0}
IsNoCount (ClassExclude p) = Unit {0}
IsNoCount (LocationOnly l) = Unit {0}
IsNoCount (ExceptionOnly c caught uncaught) = Unit {0}
IsNoCount (FieldOnly c f) = Unit {0}
IsNoCount (Step t size depth) = Unit {0}
IsNoCount (InstanceOnly o) = Unit {0}
IsNoCount (SourceNameMatch p) = Unit {0}
