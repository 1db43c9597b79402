-- A debugger beside that of a link, of a target that sends replies and events by threads of its own: it is asked what that one is asked, and
-- reads what that one reads.
use Rattle.std.specs.Prelude.{◌≡◌, ◌⊎◌, ℕ, Bool, true, false, List, [], ◌∷◌, take, Option, Some, None, is_some, Result, Ok}
use Rattle.std.specs.Option.{option_map}
use Rattle.jdwp_wire.specs.Limits.{Limits}
use Rattle.jdwp_wire.specs.declared.packet.PacketKind.{PacketKind}
use Rattle.jdwp_end.specs.Ends.{front_of, is_open, room_of}
use Rattle.jdwp_machine.specs.Meanings.{Meaning}
use Rattle.jdwp_debuggee.specs.Settings.{Settings}
use Rattle.jdwp_debuggee.specs.State.{Moment}
use Rattle.jdwp_action.specs.Actions.{Command}
use Rattle.jdwp_debugger.specs.declared.asking.Refused.{Refused}
use Rattle.jdwp_debugger.specs.declared.faults.DebuggerFault.{DebuggerFault}
use Rattle.jdwp_debugger.specs.declared.order.Order.{Order}
use Rattle.jdwp_debugger.specs.declared.order.Order.TheVariants.{One, Apart}
use Rattle.jdwp_debugger.specs.declared.turning.Read.{Read}
use Rattle.jdwp_debugger.specs.Asking.{HasAsked, refusal_of_ask}
use Rattle.jdwp_debugger.specs.Debuggers.{Debugger, attached, lost_debugger, new_debugger_in, with_fed, with_taken}
use Rattle.jdwp_debugger.specs.DebuggerTurns.{TurnsAt, news_refusal}
use Rattle.jdwp_debugger.specs.News.{News, Reading, says}
use Rattle.jdwp_mirror.specs.Mirrors.{Mirror}
use Rattle.jdwp_model.specs.Events
use Rattle.jdwp_model.specs.Events.{LinkEvent}
use Rattle.jdwp_link.specs.declared.events.Outcome.{Outcome}
use Rattle.jdwp_link.specs.Clauses.{Ran}
use Rattle.jdwp_link.specs.Links.{Link, come_to_debugger, new_link}
use Rattle.jdwp_pair.specs.Events.{Happens, Stays, refusal_in}

-- ---- what it does at an event of the link

-- what it put is let go: the target gets it of the link's debugger
abbrev pub silent : Debugger → Debugger
silent f = with_taken f.end.outgoing f

-- the bytes that come to the link's debugger come to it, as many as it has room for
abbrev pub fed_too : {S : Type 0} → ℕ → Link S → Debugger → Debugger
fed_too n l f = with_fed (take (room_of f.end) (come_to_debugger n l)) f

-- it handles the message in front of it, where the link's debugger handled one
abbrev pub TurnsToo : Bool → Debugger → Debugger → Type 0
TurnsToo true f g = (result : Result Read DebuggerFault) × (turned : Debugger) × TurnsAt (front_of f.end) f result turned × (g ≡ silent turned)
TurnsToo false f g = g ≡ f

-- it is asked a command, or refuses it, which is passed over
abbrev pub MayAsk : Command → Debugger → Debugger → Type 0
MayAsk c f g = ((asked : Debugger) × HasAsked c f asked × (g ≡ silent asked)) ⊎ ((is_some (refusal_of_ask f c) ≡ true) × (g ≡ f))

-- it is asked what the link's debugger is asked and does not refuse
abbrev pub AsksToo : Option Refused → Command → Debugger → Debugger → Type 0
AsksToo None c f g = MayAsk c f g
AsksToo (Some refused) c f g = g ≡ f

-- a session begins, whatever it knew before
abbrev pub begun_anew : Debugger → Debugger
begun_anew f = attached (lost_debugger f)

-- it does where one begins at the link's debugger, which was open before or not, and is behind it or not
abbrev pub begun_too : Bool → Bool → Debugger → Debugger
begun_too true behind f = f
begun_too false true f = begun_anew f
begun_too false false f = f

-- an event in which the link's debugger has no part
abbrev pub IsOfTarget : LinkEvent → Type 0
IsOfTarget (Events.ToTarget count) = Unit {0}
IsOfTarget Events.TargetTurn = Unit {0}
IsOfTarget (Events.Step thread) = Unit {0}
IsOfTarget Events.TargetLoses = Unit {0}
IsOfTarget (Events.Defer deferring) = Unit {0}
IsOfTarget (Events.Release place) = Unit {0}
IsOfTarget (Events.ToDebugger count) = ⊥
IsOfTarget Events.DebuggerTurn = ⊥
IsOfTarget Events.Attach = ⊥
IsOfTarget (Events.Ask command) = ⊥
IsOfTarget Events.DebuggerLoses = ⊥

-- ---- its whole life

-- It began as a new debugger of such a target, beside a new link within the same limits; events of the link followed, one after the other, and
-- lead to this one; and at each it did what the link's debugger did.
pub data Follows {S : Type 0} (m : Meaning S) : Link S → Debugger → Type 0 where
  Begins : (settings : Settings) (moment : Moment S) → Follows m (new_link settings moment) (new_debugger_in Apart settings.limits 1)
  Rests : (e : LinkEvent) (old new : Link S) (told : List Outcome) (f : Debugger) → Follows m old f → IsOfTarget e → Ran m (e ∷ []) old new told → Follows m new f
  Feeds : (n : ℕ) (old new : Link S) (told : List Outcome) (f : Debugger) → Follows m old f → Ran m (Events.ToDebugger n ∷ []) old new told → Follows m new (fed_too n old f)
  Turns : (old new : Link S) (told : List Outcome) (f g : Debugger) → Follows m old f → Ran m (Events.DebuggerTurn ∷ []) old new told → TurnsToo new.did f g → Follows m new g
  Asks : (c : Command) (old new : Link S) (told : List Outcome) (f g : Debugger) → Follows m old f → Ran m (Events.Ask c ∷ []) old new told → AsksToo (refusal_in told) c f g → Follows m new g
  Loses : (old new : Link S) (told : List Outcome) (f : Debugger) → Follows m old f → Ran m (Events.DebuggerLoses ∷ []) old new told → Follows m new (lost_debugger f)
  Attaches : (old new : Link S) (told : List Outcome) (f : Debugger) → Follows m old f → Ran m (Events.Attach ∷ []) old new told → Follows m new (begun_too (is_open old.debugger.end) (is_open new.debugger.end) f)

-- By the order in which the target is taken to send: there is none, or it has followed the link's debugger.
abbrev pub Followed : {S : Type 0} → Meaning S → Order → Link S → Option Debugger → Type 0
Followed m One l None = Unit {0}
Followed m One l (Some f) = ⊥
Followed m Apart l None = ⊥
Followed m Apart l (Some f) = Follows m l f

-- before a run: there is none, or it is new
abbrev pub IsNewIn : Order → Limits → Option Debugger → Type 0
IsNewIn One limits None = Unit {0}
IsNewIn One limits (Some f) = ⊥
IsNewIn Apart limits None = ⊥
IsNewIn Apart limits (Some f) = f ≡ new_debugger_in Apart limits 1

-- ---- calls

-- where it followed the link's debugger before, it has behind the call
abbrev pub KeepsUp : {S : Type 0} → Meaning S → Link S → Option Debugger → Link S → Option Debugger → Type 0
KeepsUp m old f new g = (order : Order) → Followed m order old f → Followed m order new g

-- what calls do to it, where there is one
abbrev pub TurnsWhere : Option Debugger → Option Debugger → Type 0
TurnsWhere None new = new ≡ None
TurnsWhere (Some f) new = (g : Debugger) × (new ≡ Some g) × TurnsToo true f g

abbrev pub MayAskWhere : Command → Option Debugger → Option Debugger → Type 0
MayAskWhere c None new = new ≡ None
MayAskWhere c (Some f) new = (g : Debugger) × (new ≡ Some g) × MayAsk c f g

abbrev pub fed_where : {S : Type 0} → ℕ → Link S → Option Debugger → Option Debugger
fed_where n l f = option_map (fed_too n l) f

abbrev pub lost_where : Option Debugger → Option Debugger
lost_where f = option_map lost_debugger f

abbrev pub begun_where_followed : Option Debugger → Option Debugger
begun_where_followed f = option_map begun_anew f

-- a command was asked of both, or the link's debugger refused it
abbrev pub AsksBoth : {S : Type 0} → Meaning S → Command → Link S → Debugger → Link S → Debugger → Type 0
AsksBoth m c old f new g = (told : List Outcome) × Ran m (Events.Ask c ∷ []) old new told × AsksToo (refusal_in told) c f g

-- where there is a follower; and else nothing is asked
abbrev pub AsksBothWhere : {S : Type 0} → Meaning S → Command → Link S → Option Debugger → Link S → Option Debugger → Type 0
AsksBothWhere m c old None new g = (new ≡ old) × (g ≡ None)
AsksBothWhere m c old (Some f) new g = (h : Debugger) × (g ≡ Some h) × AsksBoth m c old f new h

-- memory was wanting, before it was asked of the link's debugger or behind that
abbrev pub MayAskAlone : {S : Type 0} → Meaning S → Command → Link S → Link S → Type 0
MayAskAlone m c old new = Stays m old new ⊎ Happens m (Events.Ask c) old new

abbrev pub MayAskAloneWhere : {S : Type 0} → Meaning S → Command → Option Debugger → Link S → Link S → Type 0
MayAskAloneWhere m c None old new = ⊥
MayAskAloneWhere m c (Some f) old new = MayAskAlone m c old new

abbrev pub AttachesWhere : Bool → Bool → Option Debugger → Option Debugger → Type 0
AttachesWhere before behind f new = new ≡ option_map (begun_too before behind) f

-- ---- what it takes

-- Where one debugger, of a target that sends each packet as it acts, reads a packet by this and does not refuse it, one of a target that sends
-- replies and events by threads of its own that reads it by the same takes it, too, and it says the same to both, whatever their mirrors know.
abbrev pub TakesNoLess : Type 0
TakesNoLess =
    (r : Reading) (m n : Mirror) (id : ℕ) (kind : PacketKind) (body : List ℕ) (news : News) →
    says (record r { order = One }) id kind body ≡ Ok news → news_refusal One m news ≡ None →
    (says (record r { order = Apart }) id kind body ≡ Ok news) × (news_refusal Apart n news ≡ None)
