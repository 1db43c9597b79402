-- Which requests a happening passes (JDWP specification, "Protocol Details": the modifiers of EventRequest.Set).
use Rattle.std.specs.Prelude.{ℕ, ℤ, pos, ◌+◌, ◌-◌, ◌==◌, nat_lt, nat_le, Bool, true, false, ◌&&◌, ◌||◌, not, List, [], ◌∷◌, map, length, take, drop, Option, Some, None, if◌then◌else◌}
use Rattle.std.specs.Ordering.{int_eq}
use Rattle.std.specs.List.{list_any, filter}
use Rattle.std.specs.Str.{bytes_eq}
use Rattle.jdwp_value.specs.declared.location.Location.{Location}
use Rattle.jdwp_value.specs.declared.location.Location.TheVariants as location
use Rattle.jdwp_event.specs.declared.kind.EventKind.{EventKind}
use Rattle.jdwp_event.specs.declared.kind.EventKind.TheVariants as kind
use Rattle.jdwp_event.specs.declared.policy.StepDepth.TheVariants as depths
use Rattle.jdwp_event.specs.declared.policy.StepSize.TheVariants as sizes
use Rattle.jdwp_event.specs.Constants.{size_number, depth_number}
use Rattle.jdwp_event.specs.EventKinds.{kind_byte}
use Rattle.jdwp_event.specs.Modifiers.{ModifierMeaning, Count, Conditional, ThreadOnly, ClassOnly, ClassMatch, ClassExclude, LocationOnly, ExceptionOnly, FieldOnly, Step, InstanceOnly, SourceNameMatch}
use Rattle.jdwp_event.specs.Occurrences.{ClassMeaning, PlaceMeaning, ThrownMeaning, OccurrenceMeaning, Moved, Entered, Left, Threw, Prepared, Started, RanOut, HappeningMeaning}
use Rattle.jdwp_event.specs.Requests.{Origin, Request}

-- ---- what a happening shows to filters

-- the kinds of its events
abbrev pub kinds_of : OccurrenceMeaning → List EventKind
kinds_of (Moved p) = kind.SingleStep ∷ kind.Breakpoint ∷ []
kinds_of (Entered p) = kind.MethodEntry ∷ []
kinds_of (Left p v) = kind.MethodExit ∷ kind.MethodExitWithReturnValue ∷ []
kinds_of (Threw p t) = kind.Exception ∷ []
kinds_of (Prepared p) = kind.ClassPrepare ∷ []
kinds_of Started = kind.ThreadStart ∷ []
kinds_of RanOut = kind.ThreadDeath ∷ []

abbrev pub is_of_kind : OccurrenceMeaning → ℕ → Bool
is_of_kind o byte = list_any (λ (k : EventKind). kind_byte k == byte) (kinds_of o)

abbrev pub place_of : OccurrenceMeaning → Option PlaceMeaning
place_of (Moved p) = Some p
place_of (Entered p) = Some p
place_of (Left p v) = Some p
place_of (Threw p t) = Some p
place_of (Prepared p) = None
place_of Started = None
place_of RanOut = None

abbrev pub class_of_place : Option PlaceMeaning → Option ClassMeaning
class_of_place None = None
class_of_place (Some p) = Some p.class

-- the class of the place, or the one that became prepared
abbrev pub class_of : OccurrenceMeaning → Option ClassMeaning
class_of (Prepared p) = Some p.class
class_of (Moved p) = Some p.class
class_of (Entered p) = Some p.class
class_of (Left p v) = Some p.class
class_of (Threw p t) = Some p.class
class_of Started = None
class_of RanOut = None

abbrev pub thrown_of : OccurrenceMeaning → Option ThrownMeaning
thrown_of (Threw p t) = Some t
thrown_of (Moved p) = None
thrown_of (Entered p) = None
thrown_of (Left p v) = None
thrown_of (Prepared p) = None
thrown_of Started = None
thrown_of RanOut = None

-- ---- class names and patterns

-- `/` is written as `.`
abbrev pub dotted : ℕ → ℕ
dotted byte = if byte == 47 then 46 else byte

abbrev pub begins_in : List ℕ → List ℕ → Bool
begins_in front name = bytes_eq (take (length front) name) front

abbrev pub ends_in : List ℕ → List ℕ → Bool
ends_in back name = nat_le (length back) (length name) && bytes_eq (drop (length name - length back) name) back

-- whether a list ends with `*`
abbrev pub ends_with_star : List ℕ → Bool
ends_with_star text = ends_in (42 ∷ []) text

abbrev pub ends_with_semicolon : List ℕ → Bool
ends_with_semicolon text = ends_in (59 ∷ []) text

-- the name in a signature: where it begins with `L`, without that and the `;` at its end
abbrev pub bare_name : List ℕ → List ℕ
bare_name [] = []
bare_name (first ∷ rest) = if first == 76 then (if ends_with_semicolon rest then take (length rest - 1) rest else rest) else (first ∷ rest)

abbrev pub class_name : List ℕ → List ℕ
class_name signature = map dotted (bare_name signature)

-- `*x` fits names that end in x; `x*` names that begin with x; another fits an equal name
abbrev pub fits_plain : List ℕ → List ℕ → Bool
fits_plain pattern name = if ends_with_star pattern then begins_in (take (length pattern - 1) pattern) name else bytes_eq pattern name

abbrev pub fits_pattern : List ℕ → List ℕ → Bool
fits_pattern [] name = fits_plain [] name
fits_pattern (first ∷ rest) name = if first == 42 then ends_in rest name else fits_plain (first ∷ rest) name

-- ---- the filters, each by what it reads

abbrev pub reaches_class : ℕ → List ℕ → Bool
reaches_class class reached = list_any (λ (c : ℕ). c == class) reached

abbrev pub passes_class_only : ℕ → Option ClassMeaning → Bool
passes_class_only class None = false
passes_class_only class (Some seen) = reaches_class class seen.reaches

abbrev pub passes_pattern : List ℕ → Option ClassMeaning → Bool
passes_pattern pattern None = false
passes_pattern pattern (Some seen) = fits_pattern pattern (class_name seen.signature)

abbrev pub passes_exclusion : List ℕ → Option ClassMeaning → Bool
passes_exclusion pattern None = false
passes_exclusion pattern (Some seen) = not (fits_pattern pattern (class_name seen.signature))

-- class, method and index are equal; what declares the method is not compared
abbrev pub same_location : Location → Location → Bool
same_location (location.At t c m i) (location.At u d n j) = (c.0 == d.0) && ((m.0 == n.0) && (i == j))
same_location a b = false

abbrev pub passes_location : Location → Option PlaceMeaning → Bool
passes_location location None = false
passes_location location (Some p) = same_location location p.location

abbrev pub is_caught : Location → Bool
is_caught (location.At t c m i) = true
is_caught location.Null = false

abbrev pub passes_exception : ℕ → Bool → Bool → Option ThrownMeaning → Bool
passes_exception class caught uncaught None = false
passes_exception class caught uncaught (Some t) =
    ((class == 0) || reaches_class class t.reaches) && (if is_caught t.caught_at then caught else uncaught)

abbrev pub same_line : Option ℕ → Option ℕ → Bool
same_line None None = true
same_line None (Some n) = false
same_line (Some m) None = false
same_line (Some m) (Some n) = m == n

abbrev pub passes_depth : ℤ → ℕ → ℕ → Bool
passes_depth depth before now =
    if int_eq depth (depth_number depths.Into) then true else
    (if int_eq depth (depth_number depths.Over) then nat_le now before else
    (if int_eq depth (depth_number depths.Out) then nat_lt now before else false))

abbrev pub passes_size : ℤ → Origin → PlaceMeaning → Bool
passes_size size origin p =
    if int_eq size (size_number sizes.Min) then true else
    (if int_eq size (size_number sizes.Line) then not (same_line p.line origin.line) || not (p.frames == origin.frames) else false)

abbrev pub passes_step : Origin → ℕ → ℤ → ℤ → ℕ → Option PlaceMeaning → Bool
passes_step origin thread size depth of None = false
passes_step origin thread size depth of (Some p) = (of == thread) && (passes_depth depth origin.frames p.frames && passes_size size origin p)

-- Whether a happening passes a modifier that it reaches, which was reached so often, this time with it.
abbrev pub passes_modifier : Origin → HappeningMeaning → ModifierMeaning → ℕ → Bool
passes_modifier origin h (Count n) times = int_eq n (pos times)
passes_modifier origin h (ThreadOnly thread) times = h.thread == thread
passes_modifier origin h (ClassOnly class) times = passes_class_only class (class_of h.occurrence)
passes_modifier origin h (ClassMatch pattern) times = passes_pattern pattern (class_of h.occurrence)
passes_modifier origin h (ClassExclude pattern) times = passes_exclusion pattern (class_of h.occurrence)
passes_modifier origin h (LocationOnly location) times = passes_location location (place_of h.occurrence)
passes_modifier origin h (ExceptionOnly class caught uncaught) times = passes_exception class caught uncaught (thrown_of h.occurrence)
passes_modifier origin h (Step thread size depth) times = passes_step origin thread size depth h.thread (place_of h.occurrence)
passes_modifier origin h (Conditional n) times = false
passes_modifier origin h (FieldOnly class field) times = false
passes_modifier origin h (InstanceOnly object) times = false
passes_modifier origin h (SourceNameMatch pattern) times = false

-- ---- requests

-- The modifiers are tried in the order sent, and the first that fails ends the trial. A modifier is reached where all
-- before it passed.
abbrev pub passes_all : Origin → HappeningMeaning → List ModifierMeaning → List ℕ → Bool
passes_all origin h [] reached = true
passes_all origin h (m ∷ ms) [] = false
passes_all origin h (m ∷ ms) (r ∷ rs) = passes_modifier origin h m (r + 1) && passes_all origin h ms rs

abbrev pub is_count : ModifierMeaning → Bool
is_count (Count n) = true
is_count (Conditional n) = false
is_count (ThreadOnly thread) = false
is_count (ClassOnly class) = false
is_count (ClassMatch pattern) = false
is_count (ClassExclude pattern) = false
is_count (LocationOnly location) = false
is_count (ExceptionOnly class caught uncaught) = false
is_count (FieldOnly class field) = false
is_count (Step thread size depth) = false
is_count (InstanceOnly object) = false
is_count (SourceNameMatch pattern) = false

-- of a modifier that is reached once more: only a Count keeps how often
abbrev pub once_more : ModifierMeaning → ℕ → ℕ
once_more m times = if is_count m then times + 1 else times

-- how often each Count was reached, this time with it
abbrev pub reached_after : Origin → HappeningMeaning → List ModifierMeaning → List ℕ → List ℕ
reached_after origin h [] reached = reached
reached_after origin h (m ∷ ms) [] = []
reached_after origin h (m ∷ ms) (r ∷ rs) = once_more m r ∷ (if passes_modifier origin h m (r + 1) then reached_after origin h ms rs else rs)

-- A request passes a happening of its kind where all its modifiers do.
abbrev pub passes : HappeningMeaning → Request → Bool
passes h r = is_of_kind h.occurrence r.asked.kind && passes_all r.origin h r.asked.modifiers r.reached

-- the requests that pass, in their order
abbrev pub passing : HappeningMeaning → List Request → List Request
passing h requests = filter (passes h) requests

-- ---- what a happening leaves of a request

abbrev pub origin_at : Option PlaceMeaning → Origin → Origin
origin_at None origin = origin
origin_at (Some p) origin = record { frames = p.frames; line = p.line }

-- Where the kinds agree, each Count that was reached is counted; a request that reports takes the new place as its origin.
abbrev pub counted : HappeningMeaning → Request → Request
counted h r =
    if is_of_kind h.occurrence r.asked.kind
    then (record {
      asked = r.asked;
      reached = reached_after r.origin h r.asked.modifiers r.reached;
      origin = if passes h r then origin_at (place_of h.occurrence) r.origin else r.origin;
    })
    else r

abbrev pub all_counted : HappeningMeaning → List Request → List Request
all_counted h requests = map (counted h) requests
