-- How a debugger keeps what it follows of a session: a ledger, beside the commands that wait for replies.
use Rattle.std.specs.Prelude.{◌≡◌, ℕ, ◌+◌, ◌<◌, ◌^◌, fold, Bool, true, false, List, [], ◌∷◌, length, slice_get, Option, Some, None}
use Rattle.jdwp_wire.specs.Widths.{Widths}
use Rattle.jdwp_layout.specs.declared.answer.Answer.{Answer}
use Rattle.jdwp_event.specs.Composites.{CompositeMeaning}
use Rattle.jdwp_action.specs.Actions.{Command}
use Rattle.jdwp_apart.specs.Following.{Following, answered_to, invocation_in, put_to, reported_to}
use Rattle.jdwp_apart.specs.Messages.{Invocation, releases}
use Rattle.jdwp_watch.specs.declared.put.Put.{Put}
use Rattle.jdwp_watch.specs.declared.put.Put.TheVariants.{Invokes, Asks, Outside}
use Rattle.jdwp_watch.specs.Ledgers.{Account, HasAnswered, HasReported, following_from}
use Rattle.jdwp_watch.specs.Lowerings.{lowers_one}
use Rattle.jdwp_debugger.specs.declared.order.Order.{Order}
use Rattle.jdwp_debugger.specs.Debuggers.{Asked, Debugger, begun_in}
use Rattle.jdwp_debugger.specs.News.{widths_by}
use Rattle.jdwp_mirror.specs.Messages.{id_sizes}

-- ---- the commands that wait

-- those that invoke no method, in the order asked
abbrev pub and_command : Option Invocation → Command → List Command → List Command
and_command None c cs = c ∷ cs
and_command (Some i) c cs = cs

abbrev pub commands_in : Widths → List Asked → List Command
commands_in w [] = []
commands_in w (p ∷ ps) = and_command (invocation_in w p.command) p.command (commands_in w ps)

-- by how much the others lower the count of a thread
abbrev pub released : Option Invocation → ℕ → ℕ
released None t = 0
released (Some i) t = releases i t

abbrev pub invoked_in : Widths → List Asked → ℕ → ℕ
invoked_in w [] t = 0
invoked_in w (p ∷ ps) t = released (invocation_in w p.command) t + invoked_in w ps t

-- by how much all of them do
abbrev pub all_lowered : Widths → List Asked → ℕ → ℕ
all_lowered w [] t = 0
all_lowered w (p ∷ ps) t = lowers_one w p.command t + all_lowered w ps t

-- ---- what is followed by a ledger

abbrev pub following_by : Option Account → Widths → List Asked → Option Following
following_by None w pending = None
following_by (Some a) w pending = Some (following_from a (commands_in w pending) (invoked_in w pending))

abbrev pub following_of : Option Account → Option Widths → List Asked → Option Following
following_of ledger sizes pending = following_by ledger (widths_by sizes) pending

-- what a debugger follows of the session, as long as anybody can be told
abbrev pub following : Debugger → Option Following
following d = following_of d.ledger d.sizes d.pending

-- how many commands were asked and not answered
abbrev pub IsCounted : Option Account → Widths → List Asked → Type 0
IsCounted None w pending = Unit {0}
IsCounted (Some a) w pending = a.asked ≡ a.answered + length (commands_in w pending)

-- Before the widths of ids are known IDSizes alone was put, or nothing.
abbrev pub IsAtFirst : Order → Option Account → Widths → List Asked → Type 0
IsAtFirst o ledger w [] = following_by ledger w [] ≡ begun_in o
IsAtFirst o ledger w (p ∷ ps) = following_by ledger w (p ∷ ps) ≡ put_to w id_sizes (begun_in o)

-- the command at a place was put without a ticket
abbrev pub HasNoTicket : ℕ → List Asked → Type 0
HasNoTicket place pending = (asked : Asked) × (slice_get pending place ≡ Some asked) × (asked.ticket ≡ None)

-- ---- what calls do to a ledger

abbrev pub HasRoom : Option Account → Type 0
HasRoom None = Unit {0}
HasRoom (Some a) = a.asked < 2 ^ 62

abbrev pub ledger_asked : Option Account → Option Account
ledger_asked None = None
ledger_asked (Some a) = Some (record a { asked = a.asked + 1 })

abbrev pub ledger_put : Put → Option Account → Option Account
ledger_put Invokes ledger = ledger
ledger_put Asks ledger = ledger_asked ledger
ledger_put Outside ledger = None

-- as an answer comes to a command that invokes a method or not, and is next or not
abbrev pub IsDue : Bool → Bool → Option Account → Type 0
IsDue false true (Some a) = a.answered < a.asked
IsDue invokes is_next ledger = Unit {0}

-- the same account but for an answer, or a composite
pub record AnswersIn (c : Command) (answer : Answer) (old new : Account) : Type 0 where
  pub asked : new.asked ≡ old.asked
  pub answered : new.answered ≡ old.answered + 1
  pub is : HasAnswered c answer old new

pub record ReportsIn (c : CompositeMeaning) (old new : Account) : Type 0 where
  pub asked : new.asked ≡ old.asked
  pub answered : new.answered ≡ old.answered
  pub is : HasReported c old new

abbrev pub IsAnswered : Bool → Bool → Command → Answer → Option Account → Option Account → Type 0
IsAnswered true is_next c answer old new = new ≡ old
IsAnswered false false c answer old new = new ≡ None
IsAnswered false true c answer None new = new ≡ None
IsAnswered false true c answer (Some a) new = (b : Account) × (new ≡ Some b) × AnswersIn c answer a b

abbrev pub IsReported : CompositeMeaning → Option Account → Option Account → Type 0
IsReported c None new = new ≡ None
IsReported c (Some a) new = (b : Account) × (new ≡ Some b) × ReportsIn c a b

abbrev pub AreReported : List CompositeMeaning → Option Account → Option Account → Type 0
AreReported [] old new = new ≡ old
AreReported (c ∷ cs) old new = (middle : Option Account) × IsReported c old middle × AreReported cs middle new

-- As the widths of ids become known: IDSizes was put, these composites came, and then its answer. No command waits.
abbrev pub IsFirstOf : Order → Answer → List CompositeMeaning → Option Account → Type 0
IsFirstOf o answer cs ledger =
    ((w : Widths) → (following_by ledger w [] ≡ answered_to w true id_sizes answer (fold reported_to (put_to w id_sizes (begun_in o)) cs)) × IsCounted ledger w [])
