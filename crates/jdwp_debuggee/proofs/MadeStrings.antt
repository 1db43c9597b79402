-- A string that is made, as its id is sent.
use Rattle.std.proofs.Common.{◌≡◌, ℕ, ◌+◌, ◌≤◌, ◌==◌, ◌&&◌, Bool, true, length, Some, Result, Ok, Err, refl, sym, ◌∙◌, ap, subst, arith}
use Rattle.std.proofs.lemmas.Bool.{eqb-true}
use Rattle.byteorder.specs.Numbers.{length-bytes_high_first}
use Rattle.std.specs.Prelude.{IfOk, OnOk}
use Rattle.jdwp_value.specs.declared.id.ObjectId.{ObjectId}
use Rattle.jdwp_wire.specs.Limits.{least_packet_limit}
use Rattle.jdwp_layout.specs.CommandNumbers.{is_command, CREATE_STRING}
use Rattle.jdwp_layout.specs.CommandTable.{row_at}
use Rattle.jdwp_machine.specs.Laws.{IsLawful}
use Rattle.jdwp_machine.specs.Meanings.{Meaning}
use Rattle.jdwp_machine.specs.declared.query.Query.{Query}
use Rattle.jdwp_action.specs.Actions as action
use Rattle.jdwp_action.specs.Actions.{Action, Command, action_of}
use Rattle.jdwp_action.specs.AnswerPackets.{EncodesAnswer}
use Rattle.jdwp_action.specs.RowLayouts.{row_reply}
use Rattle.jdwp_debuggee.specs.Answers.{query_of}
use Rattle.jdwp_debuggee.specs.Askings.{Asking, asking_of}
use Rattle.jdwp_debuggee.specs.Debuggees.{Debuggee, at_moment, visiting}
use Rattle.jdwp_debuggee.specs.Effects.{Effect, asks_by, carried, string_made}
use Rattle.jdwp_debuggee.specs.Sending.{Did, IsSent, is_question, sent_bytes}
use Rattle.jdwp_debuggee.specs.Strings.{makes_string, text_in}
use Rattle.jdwp_debuggee.specs.Visits.{visits_carried}
use Rattle.jdwp_debuggee.specs.declared.reply.Sent.{Sent}
use Rattle.jdwp_debuggee.specs.declared.reply.Sent.TheVariants as sent
use Rattle.jdwp_debuggee.proofs.Encoded.{same-row}
use Rattle.jdwp_debuggee.proofs.ReplyShapes.{and_both}
use Rattle.jdwp_debuggee.proofs.Writable.{same-question}

-- an id is short
pub object-fits : {S : Type 0} (m : Meaning S) → IsLawful m → (s : S) (limit : ℕ) (id : ObjectId) → m.is_state s → least_packet_limit ≤ limit → 11 + length (sent_bytes (m.sizes s) (sent.Object id)) ≤ limit
object-fits m law s limit id state h =
    let len = length-bytes_high_first (m.sizes s).object id.0 in
    let wide = (law.sizes_are_widths s state).object_is in
    omega (arith, h, len, wide.1)

-- ---- a command that makes a string

-- the question that was read is the command's
of-command : (c : Command) (q : Query) → record { action = action.Ask; question = Some q } ≡ asking_of c → (action.Ask ≡ action_of c) × (query_of c ≡ q)
of-command c q e =
    let is : action.Ask ≡ action_of c = ap (λ (y : Asking). y.action) e in
    (is, same-question action.Ask (action_of c) q (query_of c) is refl (ap (λ (y : Asking). y.question) e))

-- what it does
made-of : {S : Type 0} (m : Meaning S) (d : Debuggee S) (c : Command) (q : Query) → query_of c ≡ q → makes_string q ≡ true → carried m d.settings d.moment c action.Ask ≡ string_made m d.moment (text_in q.content)
made-of m d c q same on =
    ap (λ (b : Bool). asks_by m d.settings d.moment c b) (ap makes_string same ∙ on) ∙ ap (λ (y : Query). string_made m d.moment (text_in y.content)) same

record Did-so {S : Type 0} (m : Meaning S) (c : Command) (a : Action) (old new : Debuggee S) (x : Sent) : Type 0 where
  pub after : new ≡ visiting (visits_carried old.moment a (carried m old.settings old.moment c a) old.visits) (at_moment (carried m old.settings old.moment c a).after old)
  pub sends : IsSent (m.sizes old.moment.machine) (carried m old.settings old.moment c a).answer x

pub string-did : {S E : Type 0} (m : Meaning S) (old new : Debuggee S) (q : Query) (r : Result Sent E) → makes_string q ≡ true
    → OnOk r (new ≡ at_moment (string_made m old.moment (text_in q.content)).after old)
    → IfOk r (λ x. IsSent (m.sizes old.moment.machine) (string_made m old.moment (text_in q.content)).answer x)
    → IfOk r (λ x. least_packet_limit ≤ old.settings.limits.packet → 11 + length (sent_bytes (m.sizes old.moment.machine) x) ≤ old.settings.limits.packet)
    → IfOk r (λ x. (c : Command) → record { action = action.Ask; question = Some q } ≡ asking_of c → Did m c old new x)
string-did m old new q (Err e) on a v f = tt
string-did {S = S} m old new q (Ok x) on a v f = λ c e.
    let of = of-command c q e in
    let made = made-of m old c q of.1 on in
    let so : Did-so m c action.Ask old new x = record {
      after = a ∙ ap (λ (y : Effect S). at_moment y.after old) (sym made);
      sends = subst (λ (y : Effect S). IsSent (m.sizes old.moment.machine) y.answer x) (sym made) v;
    } in
    let did = subst (λ (b : Action). Did-so m c b old new x) of.0 so in
    record { after = did.after; sends = did.sends; fits = f }

-- it is CreateString
string-command : (set number : ℕ) → is_command CREATE_STRING set number ≡ true → row_reply (row_at CREATE_STRING.set CREATE_STRING.number) ≡ row_reply (row_at set number)
string-command set number h =
    let both = and_both (set == CREATE_STRING.set) (number == CREATE_STRING.number) h in
    rw (eqb-true set CREATE_STRING.set both.0, eqb-true number CREATE_STRING.number both.1) refl

pub string-told : {S X E : Type 0} (m : Meaning S) (d : Debuggee S) (q : Query) (r : Result X E) → makes_string q ≡ true
    → IfOk r (λ _. EncodesAnswer (m.sizes d.moment.machine) CREATE_STRING.set CREATE_STRING.number (string_made m d.moment (text_in q.content)).answer)
    → IfOk r (λ _. (c : Command) → record { action = action.Ask; question = Some q } ≡ asking_of c → is_question (action_of c) ≡ true
    → EncodesAnswer (m.sizes d.moment.machine) c.set c.number (carried m d.settings d.moment c (action_of c)).answer)
string-told m d q (Err e) on h = tt
string-told {S = S} m d q (Ok x) on h = λ c e asks.
    let of = of-command c q e in
    let w = m.sizes d.moment.machine in
    let on-command : is_command CREATE_STRING c.set c.number ≡ true = ap makes_string of.1 ∙ on in
    let told : EncodesAnswer w c.set c.number (string_made m d.moment (text_in q.content)).answer =
    same-row w c.set c.number CREATE_STRING.set CREATE_STRING.number (string_made m d.moment (text_in q.content)).answer (string-command c.set c.number on-command) h in
    let asked : EncodesAnswer w c.set c.number (carried m d.settings d.moment c action.Ask).answer =
    subst (λ (y : Effect S). EncodesAnswer w c.set c.number y.answer) (sym (made-of m d c q of.1 on)) told in
    subst (λ (a : Action). EncodesAnswer w c.set c.number (carried m d.settings d.moment c a).answer) of.0 asked
