-- What is read of packets is what they say.
use Rattle.std.proofs.Common.{◌≡◌, ℕ, ◌+◌, ◌<◌, Bool, true, false, List, [], ◌∷◌, ◌++◌, append_assoc, drop, length, get_or, refl, sym, ap, ◌∙◌, Option, Some, None, Ok, Err, if◌then◌else◌}
use Rattle.std.specs.Prelude.{◌==◌}
use Rattle.std.specs.Option.{option_map}
use Rattle.std.proofs.lemmas.List.{at_drop_more}
use Rattle.jdwp_wire.specs.Widths.{Widths}
use Rattle.jdwp_wire.specs.declared.error_code.ErrorCode.{ErrorCode}
use Rattle.jdwp_wire.specs.ErrorCodes.{NONE}
use Rattle.jdwp_layout.specs.CommandTable.{row_at}
use Rattle.jdwp_layout.specs.declared.answer.Answer.{Answer}
use Rattle.jdwp_layout.specs.declared.answer.Answer.TheVariants.{Error}
use Rattle.jdwp_action.specs.RowLayouts.{row_reply}
use Rattle.jdwp_event.specs.Composites.{CompositeMeaning}
use Rattle.jdwp_action.specs.Actions.{Command}
use Rattle.jdwp_debugger.specs.declared.faults.DebuggerFault.{DebuggerFault}
use Rattle.jdwp_debugger.specs.declared.faults.DebuggerFault.TheVariants.{BadReply, BadEvent, NoMemory}
use Rattle.jdwp_debugger.specs.declared.order.Order.{Order}
use Rattle.jdwp_debugger.specs.declared.order.Order.TheVariants.{One, Apart}
use Rattle.jdwp_debugger.specs.declared.pending.Ticket.{Ticket}
use Rattle.jdwp_debugger.specs.Debuggers.{Parked}
use Rattle.jdwp_mirror.specs.Faults.{is_bad_reply}
use Rattle.jdwp_debugger.specs.News.{Fails, answer_by, answer_in, answer_says, data_by, composite_in, composites_in, required, unless_bad, with_composites, with_first}

-- ---- answers

error-either : (b z : Bool) (found : Option Answer) (x answer : Answer) → (if b then found else (if z then Some x else None)) ≡ Some answer → (if b then found else Some x) ≡ Some answer
error-either true z found x answer h = h
error-either false true found x answer h = h
error-either false false found x answer h = absurd (cc)

-- what is read where an error has no data is read in either order
pub read-either : (o : Order) (w : Widths) (c : Command) (e : ErrorCode) (bytes : List ℕ) (answer : Answer) → answer_in w c e bytes ≡ Some answer → answer_by o w c e bytes ≡ Some answer
read-either One w c e bytes answer h = h
read-either Apart w c e bytes answer h = error-either (e.0 == NONE.0) (length bytes == 0) (data_by w (row_reply (row_at c.set c.number)) bytes) (Error e) answer h

pub fails-unless_bad : (f : DebuggerFault) (c : Command) (a : Option Answer) → Fails f (required BadReply a) → Fails f (required BadReply (unless_bad c a))
fails-unless_bad NoMemory c a h = tt
fails-unless_bad f c None h = h
fails-unless_bad f c (Some x) h = absurd (cc)

pub refused-if_bad : (c : Command) (a : Option Answer) (x : Answer) → required BadReply a ≡ Ok x → is_bad_reply c x ≡ true → required BadReply (unless_bad c a) ≡ Err BadReply
refused-if_bad c None x h bad = absurd (cc)
refused-if_bad c (Some y) x h bad =
    let same : y ≡ x = cc in
    ap (λ (b : Bool). required BadReply (if b then None else Some y)) (ap (is_bad_reply c) same ∙ bad)

pub read-if_good : (c : Command) (a : Option Answer) (x : Answer) → required BadReply a ≡ Ok x → is_bad_reply c x ≡ false → required BadReply (unless_bad c a) ≡ Ok x
read-if_good c None x h good = absurd (cc)
read-if_good c (Some y) x h good =
    let same : y ≡ x = cc in
    ap (λ (b : Bool). required BadReply (if b then None else Some y)) (ap (is_bad_reply c) same ∙ good) ∙ ap Ok same

pub fails-answer : (f : DebuggerFault) (parked : List Parked) (place : ℕ) (ticket : Option Ticket) (a : Option Answer) → Fails f (required BadReply a) → Fails f (answer_says parked place ticket a)
fails-answer NoMemory parked place ticket a h = tt
fails-answer f parked place ticket None h = let same : BadReply ≡ f = cc in ap Err same
fails-answer f parked place ticket (Some x) h = absurd (cc)

pub says-answer : (parked : List Parked) (place : ℕ) (ticket : Option Ticket) (a : Option Answer) (x : Answer) → required BadReply a ≡ Ok x → answer_says parked place ticket a ≡ answer_says parked place ticket (Some x)
says-answer parked place ticket None x h = absurd (cc)
says-answer parked place ticket (Some y) x h = let same : y ≡ x = cc in ap (λ (z : Answer). answer_says parked place ticket (Some z)) same

pub fails-waiting : (f : DebuggerFault) (place : ℕ) (answer : Answer) (w : Widths) (found : Option (List CompositeMeaning)) → Fails f (required BadEvent found) → Fails f (with_composites place answer w found)
fails-waiting NoMemory place answer w found h = tt
fails-waiting f place answer w None h = let same : BadEvent ≡ f = cc in ap Err same
fails-waiting f place answer w (Some cs) h = absurd (cc)

-- ---- composites that waited

abbrev pub behind : List CompositeMeaning → List CompositeMeaning → List CompositeMeaning
behind done cs = done ++ cs

pub fails-first : (f : DebuggerFault) (done : List CompositeMeaning) (first : Option CompositeMeaning) (others : Option (List CompositeMeaning))
    → Fails f (required BadEvent first) → Fails f (required BadEvent (option_map (behind done) (with_first first others)))
fails-first NoMemory done first others h = tt
fails-first f done None others h = let same : BadEvent ≡ f = cc in ap Err same
fails-first f done (Some c) others h = absurd (cc)

pub read-first : (done : List CompositeMeaning) (first : Option CompositeMeaning) (others : Option (List CompositeMeaning)) (c : CompositeMeaning)
    → required BadEvent first ≡ Ok c → option_map (behind done) (with_first first others) ≡ option_map (behind (done ++ c ∷ [])) others
read-first done None others c h = absurd (cc)
read-first done (Some d) None c h = refl
read-first done (Some d) (Some cs) c h =
    let same : d ≡ c = cc in
    ap (λ (x : CompositeMeaning). Some (done ++ x ∷ cs)) same ∙ ap Some (sym (append_assoc done (c ∷ []) cs))

-- the composites of what is left, where one is left
pub at-next : (w : Widths) (ps : List Parked) (i : ℕ) (p : Parked) → i < length ps → p ≡ get_or ps i p → composites_in w (drop i ps) ≡ with_first (composite_in w p.body) (composites_in w (drop (i + 1) ps))
at-next w ps i p h e = at_drop_more (composites_in w) ps i p h ∙ ap (λ (q : Parked). with_first (composite_in w q.body) (composites_in w (drop (i + 1) ps))) (sym e)
