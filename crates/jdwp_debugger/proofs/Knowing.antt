-- What is known in a session, act by act: before the widths of ids are known nothing is heard, and from then on each command that waits has a
-- ticket.
use Rattle.std.proofs.Common.{◌≡◌, ◌∙◌, ℕ, zero, suc, ◌+◌, ◌++◌, List, [], ◌∷◌, map, Bool, true, false, Option, Some, None, is_some, slice_get, refl, sym, ap, subst}
use Rattle.std.specs.Prelude.{Result, fold, remove}
use Rattle.std.specs.List.{AllByRecursion}
use Rattle.std.proofs.lemmas.List.{append-nil}
use Rattle.std.proofs.lemmas.List.Sums.{fold-append}
use Rattle.std.proofs.lemmas.Grind.{flat_map-append}
use Rattle.jdwp_wire.specs.Widths.{Widths}
use Rattle.jdwp_wire.specs.declared.packet.Header.{Header}
use Rattle.jdwp_wire.specs.declared.packet.PacketKind.{PacketKind}
use Rattle.jdwp_layout.specs.declared.answer.Answer.{Answer}
use Rattle.jdwp_event.specs.Composites.{CompositeMeaning}
use Rattle.jdwp_end.specs.declared.phase.Phase.{Phase}
use Rattle.jdwp_end.specs.declared.phase.Phase.TheVariants.{Closed, AwaitingHandshake, Established}
use Rattle.jdwp_debugger.specs.declared.faults.DebuggerFault.{DebuggerFault}
use Rattle.jdwp_debugger.specs.declared.order.Order.{Order}
use Rattle.jdwp_debugger.specs.declared.order.Order.TheVariants.{One, Apart}
use Rattle.jdwp_debugger.specs.declared.pending.Ticket as code
use Rattle.jdwp_debugger.specs.Debuggers.{Asked, IsSizesAlone}
use Rattle.jdwp_debugger.specs.DebuggerTurns.{LearnedAll}
use Rattle.jdwp_debugger.specs.Histories.{Exchange, Hears, IsMirrorIn, IsMirrorOf, Puts, Knowledge, heard, heard_in, nothing, requests_by, standing_by, with_asked, with_news, with_put, with_said}
use Rattle.jdwp_debugger.specs.News.{News, Waits, Happens, Answers, Measures, Reading}
use Rattle.jdwp_debugger.specs.Runs.{Act, Attaches, Greets, Reads, Asks, Ends, InOrder, MayCome, MayDo, MayDoAll, known, known_after, outstanding_after, phase_after, phase_of}
use Rattle.jdwp_debugger.proofs.Ordering.{may-learn}
use Rattle.jdwp_debugger.proofs.Saying.{Backs, IsThere, backs, unanswerable}
use Rattle.jdwp_mirror.specs.Messages.{Message, Ticket, id_sizes}
use Rattle.jdwp_mirror.specs.KnownThreads.{count_in, is_held_in}
use Rattle.jdwp_mirror.specs.Mirror.{Kept, held_after}
use Rattle.jdwp_mirror.specs.Mirrors.{Mirror, Learned, empty_mirror}
use Rattle.jdwp_action.specs.Actions.{Command}

-- ---- what was heard

pub heard-append : (old new : List Exchange) → heard (old ++ new) ≡ heard old ++ heard new
heard-append old new = flat_map-append heard_in old new

heard-all : (messages : List Message) → heard (map Hears messages) ≡ messages
heard-all [] = refl
heard-all (message ∷ messages) = ap (λ (rest : List Message). message ∷ rest) (heard-all messages)

-- messages more
pub heard-more : (history : List Exchange) (messages : List Message) → heard (history ++ map Hears messages) ≡ heard history ++ messages
heard-more history messages = heard-append history (map Hears messages) ∙ ap (λ (rest : List Message). heard history ++ rest) (heard-all messages)

-- a command more
pub heard-put : (history : List Exchange) (ticket : Ticket) (c : Command) → heard (history ++ Puts ticket c ∷ []) ≡ heard history
heard-put history ticket c = heard-append history (Puts ticket c ∷ []) ∙ append-nil (heard history)

-- what is learned in two parts
pub learned-onto : (o : Order) (first then : List Message) (old middle new : Mirror) → LearnedAll o old first middle → LearnedAll o middle then new → LearnedAll o old (first ++ then) new
learned-onto o [] then old middle new e l = subst (λ (m : Mirror). LearnedAll o m then new) e l
learned-onto o (message ∷ messages) then old middle new (next, one, others) l = (next, one, learned-onto o messages then next middle new others l)

-- ---- an act more

pub known-more : (o : Order) (before : ℕ) (acts : List Act) (act : Act) → known o before (acts ++ act ∷ []) ≡ known_after (known o before acts) act
known-more o before acts act = fold-append known_after (nothing o before) acts (act ∷ [])

pub may-more : (o : Order) (k : Knowledge) (acts : List Act) (act : Act) → MayDoAll o k acts → MayDo o (fold known_after k acts) act → MayDoAll o k (acts ++ act ∷ [])
may-more o k [] act all may = (may, tt)
may-more o k (first ∷ acts) act all may = (all.0, may-more o (known_after k first) acts act all.1 may)

-- ---- commands with tickets

abbrev AllTicketed : List Asked → Type 0
AllTicketed pending = AllByRecursion (λ (p : Asked). is_some p.ticket ≡ true) pending

ticketed-at : (ps : List Asked) (place : ℕ) (asked : Asked) → AllTicketed ps → slice_get ps place ≡ Some asked → is_some asked.ticket ≡ true
ticketed-at [] place asked all h = absurd (cc)
ticketed-at (p ∷ ps) zero asked all h = (let same : p ≡ asked = cc in ap (λ (a : Asked). is_some a.ticket) (sym same) ∙ all.0)
ticketed-at (p ∷ ps) (suc place) asked all h = ticketed-at ps place asked all.1 h

ticketed-more : (ps : List Asked) (p : Asked) → is_some p.ticket ≡ true → AllTicketed ps → AllTicketed (ps ++ p ∷ [])
ticketed-more [] p has all = (has, tt)
ticketed-more (q ∷ ps) p has all = (all.0, ticketed-more ps p has all.1)

ticketed-left : (ps : List Asked) (place : ℕ) → AllTicketed ps → AllTicketed (remove ps place)
ticketed-left [] zero all = tt
ticketed-left [] (suc place) all = tt
ticketed-left (p ∷ ps) zero all = all.1
ticketed-left (p ∷ ps) (suc place) all = (all.0, ticketed-left ps place all.1)

alone-left : (ps : List Asked) (place : ℕ) (asked : Asked) → IsSizesAlone ps → slice_get ps place ≡ Some asked → AllTicketed (remove ps place)
alone-left [] place asked alone h = absurd (cc)
alone-left (p ∷ []) zero asked alone h = tt
alone-left (p ∷ []) (suc place) asked alone h = absurd (cc)
alone-left (p ∷ q ∷ ps) place asked alone h = absurd alone

-- ---- before the widths of ids are known, and from then on

abbrev Knows : Option Widths → Knowledge → Type 0
Knows None k = IsSizesAlone k.reading.pending × (heard k.history ≡ [])
Knows (Some w) k = AllTicketed k.reading.pending

abbrev IsSound : Phase → Knowledge → Type 0
IsSound Closed k = Unit {0}
IsSound AwaitingHandshake k = (k.reading.pending ≡ []) × (k.reading.sizes ≡ None) × (heard k.history ≡ [])
IsSound Established k = Knows k.reading.sizes k

no_sizes : (r : Reading) (w : Option Widths) → r.sizes ≡ w → is_some r.sizes ≡ true → is_some w ≡ true
no_sizes r w is some = sym (ap (λ (o : Option Widths). is_some o) is) ∙ some

-- what has a ticket is not what has none
untold : (r : Reading) (id place : ℕ) → AllTicketed r.pending → IsThere r id place None → ⊥
untold r id place all there =
    let some = ticketed-at r.pending place there.asked all there.at in
    absurd (let e : false ≡ true = sym (ap (λ (t : Option code.Ticket). is_some t) there.ticketed) ∙ some in cc)

sound-news : (header : Header) (kind : PacketKind) (sizes : Option Widths) (n : News) (k : Knowledge) → k.reading.sizes ≡ sizes → Backs k.reading header.id kind n → Knows sizes k → IsSound Established (with_news header n k)
sound-news header kind None (Waits bytes) k is b s =
    subst (λ (o : Option Widths). Knows o (with_news header (Waits bytes) k)) (sym is) (s.0, heard-more k.history [] ∙ append-nil (heard k.history) ∙ s.1)
sound-news header kind (Some w) (Waits bytes) k is b s = subst (λ (o : Option Widths). Knows o (with_news header (Waits bytes) k)) (sym is) s
sound-news header kind None (Happens c) k is b s = absurd (let e : false ≡ true = no_sizes k.reading None is b.1 in cc)
sound-news header kind (Some w) (Happens c) k is b s = subst (λ (o : Option Widths). Knows o (with_news header (Happens c) k)) (sym is) s
sound-news header kind None (Answers place ticket answer) k is b s = absurd (unanswerable k.reading header.id place ticket s.0 b.1)
sound-news header kind (Some w) (Answers place ticket answer) k is b s =
    subst (λ (o : Option Widths). Knows o (with_news header (Answers place ticket answer) k)) (sym is) (ticketed-left k.reading.pending place s)
sound-news header kind None (Measures place answer w cs) k is b s = alone-left k.reading.pending place b.1.asked s.0 b.1.at
sound-news header kind (Some v) (Measures place answer w cs) k is b s = absurd (untold k.reading header.id place s b.1)

sound-after : (o : Order) (p : Phase) (ids : List ℕ) (k : Knowledge) (act : Act) → MayCome p ids act → MayDo o k act → IsSound p k → IsSound (phase_after p act) (known_after k act)
sound-after o p ids k Attaches come may s = (refl, refl, refl)
sound-after o p ids k (Greets id) come may s =
    let at = subst (λ (q : Phase). IsSound q k) come s in
    let waits : Asked = record { id = id; ticket = None; command = id_sizes } in
    subst (λ (o : Option Widths). Knows o (with_put id None id_sizes k)) (sym at.1)
    (subst (λ (ps : List Asked). IsSizesAlone (ps ++ waits ∷ [])) (sym at.0) (refl, refl), heard-put k.history None id_sizes ∙ at.2)
sound-after o p ids k (Reads header body) come may s =
    let at = subst (λ (q : Phase). IsSound q k) come.0 s in
    let sound = sound-news header header.kind k.reading.sizes may.news k refl (backs k.reading header.id header.kind body may.news may.said) at in
    subst (λ (said : Result News DebuggerFault). IsSound Established (with_said header said k)) (sym may.said) sound
sound-after o p ids k (Asks w id c) come may s =
    let at = subst (λ (o : Option Widths). Knows o k) may (subst (λ (q : Phase). IsSound q k) come.0 s) in
    subst (λ (o : Option Widths). Knows o (with_asked id c k)) (sym may) (ticketed-more k.reading.pending (record { id = id; ticket = Some (record { 0 = k.tickets + 1 }); command = c }) refl at)
sound-after o p ids k Ends come may s = tt

sound-all : (o : Order) (p : Phase) (ids : List ℕ) (k : Knowledge) (acts : List Act) → InOrder p ids acts → MayDoAll o k acts → IsSound p k → IsSound (fold phase_after p acts) (fold known_after k acts)
sound-all o p ids k [] order may s = s
sound-all o p ids k (act ∷ acts) order may s =
    sound-all o (phase_after p act) (outstanding_after ids act) (known_after k act) acts order.1 may.1 (sound-after o p ids k act order.0 may.0 s)

told-first : (r : Reading) (id : ℕ) (kind : PacketKind) (sizes : Option Widths) (k : Knowledge) (place : ℕ) (answer : Answer) (w : Widths) (cs : List CompositeMeaning) → k.reading ≡ r → Knows sizes k
    → Backs r id kind (Measures place answer w cs) → heard k.history ≡ []
told-first r id kind None k place answer w cs is s b = s.1
told-first r id kind (Some v) k place answer w cs is s b = absurd (untold r id place (subst (λ (x : Reading). AllTicketed x.pending) is s) b.1)

told-unknown : (r : Reading) (id : ℕ) (kind : PacketKind) (sizes : Option Widths) (k : Knowledge) (place : ℕ) (answer : Answer) (w : Widths) (cs : List CompositeMeaning) → k.reading ≡ r → Knows sizes k
    → Backs r id kind (Measures place answer w cs) → sizes ≡ None
told-unknown r id kind None k place answer w cs is s b = refl
told-unknown r id kind (Some v) k place answer w cs is s b = absurd (untold r id place (subst (λ (x : Reading). AllTicketed x.pending) is s) b.1)

-- they are told once
pub measures-unknown : (o : Order) (before : ℕ) (acts : List Act) (header : Header) (place : ℕ) (answer : Answer) (w : Widths) (cs : List CompositeMeaning) → InOrder Closed [] acts → MayDoAll o (nothing o before) acts
    → phase_of acts ≡ Established → Backs (known o before acts).reading header.id header.kind (Measures place answer w cs) → (known o before acts).reading.sizes ≡ None
measures-unknown o before acts header place answer w cs order may phase b =
    let k = known o before acts in
    let sound = subst (λ (p : Phase). IsSound p k) phase (sound-all o Closed [] (nothing o before) acts order may tt) in
    told-unknown k.reading header.id header.kind k.reading.sizes k place answer w cs refl sound b

-- as the widths of ids are told nothing was heard before
pub measures-first : (o : Order) (before : ℕ) (acts : List Act) (header : Header) (place : ℕ) (answer : Answer) (w : Widths) (cs : List CompositeMeaning) → InOrder Closed [] acts → MayDoAll o (nothing o before) acts
    → phase_of acts ≡ Established → Backs (known o before acts).reading header.id header.kind (Measures place answer w cs) → heard (known o before acts).history ≡ []
measures-first o before acts header place answer w cs order may phase b =
    let k = known o before acts in
    let sound = subst (λ (p : Phase). IsSound p k) phase (sound-all o Closed [] (nothing o before) acts order may tt) in
    told-first k.reading header.id header.kind k.reading.sizes k place answer w cs refl sound b

-- ---- the mirror, look-up by look-up

abbrev stands : Mirror → ℕ → Option ℕ × Bool
stands m t = (count_in m.threads t, is_held_in m.threads t)

one-stands : (message : Message) (old new : Mirror) (t : ℕ) → Learned old message new → stands new t ≡ standing_by t (stands old t) message
one-stands message old new t l =
    let count = l.counts t in
    let held = l.held t ∙ ap (held_after message t (is_held_in old.threads t)) count in
    (λ j. (count j, held j))

all-stand : (messages : List Message) (old new : Mirror) (t : ℕ) → LearnedAll One old messages new → stands new t ≡ fold (standing_by t) (stands old t) messages
all-stand [] old new t e = ap (λ (m : Mirror). stands m t) e
all-stand (message ∷ messages) old new t (next, one, others) =
    all-stand messages next new t others ∙ ap (λ (x : Option ℕ × Bool). fold (standing_by t) x messages) (one-stands message old next t one)

all-kept : (messages : List Message) (old new : Mirror) → LearnedAll One old messages new → new.requests ≡ fold requests_by old.requests messages
all-kept [] old new e = ap (λ (m : Mirror). m.requests) e
all-kept (message ∷ messages) old new (next, one, others) = all-kept messages next new others ∙ ap (λ (rs : List Kept). fold requests_by rs messages) one.requests

-- a mirror that learned these messages from the empty one has what they say
mirror-of : (messages : List Message) (m : Mirror) → LearnedAll One empty_mirror messages m → IsMirrorOf messages m
mirror-of messages m l = record {
  counts = λ t. ap (λ (x : Option ℕ × Bool). x.0) (all-stand messages empty_mirror m t l);
  held = λ t. ap (λ (x : Option ℕ × Bool). x.1) (all-stand messages empty_mirror m t l);
  requests = all-kept messages empty_mirror m l;
}

requests-kept : (messages : List Message) (old new : Mirror) → LearnedAll Apart old messages new → new.requests ≡ fold requests_by old.requests messages
requests-kept [] old new e = ap (λ (m : Mirror). m.requests) e
requests-kept (message ∷ messages) old new (next, one, others) =
    requests-kept messages next new others ∙ ap (λ (rs : List Kept). fold requests_by rs messages) one.1

pub mirror-in : (o : Order) (messages : List Message) (m : Mirror) → LearnedAll o empty_mirror messages m → IsMirrorIn o messages m
mirror-in One messages m l = mirror-of messages m l
mirror-in Apart messages m l = record { threads = may-learn Apart messages m l; requests = requests-kept messages empty_mirror m l }
