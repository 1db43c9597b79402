-- answers to questions, and slots that were written
use Rattle.std.proofs.Common.{◌≡◌, ℕ, Option, Some, None, List, [], ◌∷◌, ◌+◌, ◌≤◌, length, refl, ◌∙◌, ap, sym, subst, arith}
use Rattle.jdwp_layout.specs.declared.answer.Answer.{Answer}
use Rattle.jdwp_layout.specs.declared.answer.Answer.TheVariants.{Data, Error}
use Rattle.jdwp_layout.specs.CommandTable.{row_at}
use Rattle.jdwp_layout.specs.Meanings.{DatumMeaning}
use Rattle.jdwp_layout.specs.Rows.{Row, RowShapes}
use Rattle.jdwp_layout.specs.Writes.{data_refusal}
use Rattle.jdwp_machine.specs.Meanings.{Meaning}
use Rattle.jdwp_machine.specs.Laws.{FitsRow, FitsShapes, MayAnswer}
use Rattle.jdwp_wire.specs.Widths.{Widths}
use Rattle.jdwp_wire.specs.Limits.{least_packet_limit}
use Rattle.std.specs.Prelude.{IfOk, IfErr, OnErr, Result, Ok, Err}
use Rattle.jdwp_layout.specs.CommandNumbers.{SET_SLOTS}
use Rattle.jdwp_debuggee.specs.Answers.{done, query_of}
use Rattle.jdwp_action.specs.Actions as action
use Rattle.jdwp_action.specs.Actions.{Action, Command, action_of}
use Rattle.jdwp_debuggee.specs.Debuggees.{CarriesOut, Debuggee, at_moment, visiting}
use Rattle.jdwp_debuggee.specs.Askings.{Asking, asking_of, question_by}
use Rattle.jdwp_debuggee.specs.Visits.{visits_carried}
use Rattle.jdwp_debuggee.specs.Effects.{answered, carried, does}
use Rattle.jdwp_debuggee.specs.State.{Moment}
use Rattle.jdwp_machine.specs.declared.query.Query.{Query}
use Rattle.jdwp_debuggee.specs.declared.reply.Sent.{Sent}
use Rattle.jdwp_debuggee.specs.Replies.{reply_meaning}
use Rattle.jdwp_action.specs.AnswerPackets.{AreWritable, IsWritable, answer_bytes, error_of}
use Rattle.jdwp_action.specs.RowLayouts.{row_reply, shapes_reply}
use Rattle.jdwp_debuggee.specs.Sending.{Did, IsSent, sent_bytes, sent_short}
use Rattle.jdwp_debuggee.specs.declared.reply.Reply.{Reply}
use Rattle.jdwp_debuggee.specs.declared.reply.Reply.TheVariants as reply
use Rattle.jdwp_debuggee.specs.declared.reply.Sent.TheVariants as sent

by-shapes : {S : Type 0} (m : Meaning S) (s : S) (shapes : Option RowShapes) (content : List DatumMeaning) → FitsShapes m s shapes content → AreWritable (m.sizes s) (shapes_reply shapes) content
by-shapes m s None content h = h
by-shapes m s (Some shapes) content h = h

by-row : {S : Type 0} (m : Meaning S) (s : S) (row : Option Row) (content : List DatumMeaning) → FitsRow m s row content → AreWritable (m.sizes s) (row_reply row) content
by-row m s None content h = absurd h
by-row m s (Some row) content h = by-shapes m s row.shapes content h

-- what a lawful machine answers can be written
pub answer-writable : {S : Type 0} (m : Meaning S) (s : S) (set number : ℕ) (x : Answer) → MayAnswer m s set number x → IsWritable (m.sizes s) set number x
answer-writable m s set number (Data content) h = by-row m s (row_at set number) content h
answer-writable m s set number (Error e) h = let least = h.0 in omega arith

nothing-fits : (w : Widths) (content : List DatumMeaning) → data_refusal w [] content ≡ None → content ≡ []
nothing-fits w [] h = refl
nothing-fits w (x ∷ xs) h = absurd (cc)

-- slots that were written are answered by nothing
pub written-done : {S : Type 0} (m : Meaning S) (s : S) (content : List DatumMeaning) → MayAnswer m s SET_SLOTS.set SET_SLOTS.number (Data content) → Data content ≡ done
written-done m s content h = ap Data (nothing-fits (m.sizes s) content h)

record Did-by {S : Type 0} (m : Meaning S) (c : Command) (a : Action) (old new : Debuggee S) (r : Reply) : Type 0 where
  pub after : new ≡ visiting (visits_carried old.moment a (carried m old.settings old.moment c a) old.visits) (at_moment (carried m old.settings old.moment c a).after old)
  pub answers : reply_meaning r ≡ (carried m old.settings old.moment c a).answer

-- what is answered without memory is short
pub short-length : (w : Widths) (reply : Reply) → length (sent_bytes w (sent.Short reply)) ≤ 20
short-length w reply.Done = omega arith
short-length w (reply.Number n) = omega arith
short-length w (reply.Status n) = omega arith
short-length w (reply.Sizes sizes) = omega arith
short-length w (reply.Refused e) = omega arith

-- a command that was answered without memory was carried out
pub short-did : {S : Type 0} (m : Meaning S) (c : Command) (a : Action) (old new : Debuggee S) (r : Reply) → a ≡ action_of c → CarriesOut m a old new (reply_meaning r) → Did m c old new (sent.Short r)
short-did {S = S} m c a old new r is k =
    let e : (b : Action) → a ≡ b → Did-by m c b old new r = λ b h. subst (λ x. Did-by m c x old new r) h (record { after = k.after c; answers = k.answers c }) in
    let d = e (action_of c) is in
    record {
      after = d.after;
      sends = record { error = ap error_of d.answers; bytes = ap (answer_bytes (m.sizes old.moment.machine)) d.answers };
      fits = λ h. let l = short-length (m.sizes old.moment.machine) r in omega (arith, h, l);
    }

-- the same where memory may have been refused
pub short-sent : {S E : Type 0} (m : Meaning S) (a : Action) (q : Option Query) (old new : Debuggee S) (r : Result Reply E)
    → IfOk r (λ reply. CarriesOut m a old new (reply_meaning reply)) → IfOk (sent_short r) (λ x. (c : Command) → record { action = a; question = q } ≡ asking_of c → Did m c old new x)
short-sent m a q old new (Err e) k = tt
short-sent m a q old new (Ok reply) k = λ c e. short-did m c a old new reply (ap (λ (y : Asking). y.action) e) k

-- what is sent where memory was refused is what was replied
pub short-stays : {E : Type 0} (P : Type 0) (r : Result Reply E) → OnErr r P → OnErr (sent_short r) P
short-stays P (Err e) h = h
short-stays P (Ok reply) h = tt

pub short-fails : {E : Type 0} (P : Type 0) (r : Result Reply E) → P → IfErr (sent_short r) (λ _. P)
short-fails P (Err e) h = h
short-fails P (Ok reply) h = tt

-- ---- questions

-- a question that was answered
pub ask-did : {S : Type 0} (m : Meaning S) (c : Command) (a : Action) (d : Debuggee S) (x : Sent) → a ≡ action_of c → (carried m d.settings d.moment c a).after ≡ d.moment
    → visits_carried d.moment a (carried m d.settings d.moment c a) d.visits ≡ d.visits
    → IsSent (m.sizes d.moment.machine) (carried m d.settings d.moment c a).answer x
    → (least_packet_limit ≤ d.settings.limits.packet → 11 + length (sent_bytes (m.sizes d.moment.machine) x) ≤ d.settings.limits.packet) → Did m c d d x
ask-did {S = S} m c a d x is same stays sends fits =
    let visits : Action → ℕ = λ b. visits_carried d.moment b (carried m d.settings d.moment c b) d.visits in
    let by : (b : Action) → a ≡ b → ((carried m d.settings d.moment c b).after ≡ d.moment) × (visits b ≡ d.visits) × IsSent (m.sizes d.moment.machine) (carried m d.settings d.moment c b).answer x =
    λ b h. subst (λ (y : Action). ((carried m d.settings d.moment c y).after ≡ d.moment) × (visits y ≡ d.visits) × IsSent (m.sizes d.moment.machine) (carried m d.settings d.moment c y).answer x) h (same, stays, sends) in
    let p = by (action_of c) is in
    record {
      after = ap (λ (n : ℕ). visiting n d) (sym p.1) ∙ ap (λ (y : Moment S). visiting (visits (action_of c)) (at_moment y d)) (sym p.0);
      sends = p.2;
      fits = fits;
    }

-- the question that was read is the command's
pub same-question : (a b : Action) (q r : Query) → a ≡ b → question_by a r ≡ Some r → Some q ≡ question_by b r → r ≡ q
same-question a b q r is asks e = let h : Some q ≡ Some r = e ∙ (ap (λ (x : Action). question_by x r) (sym is) ∙ asks) in cc

-- a question about a thread's frames was answered
pub frames-did : {S E : Type 0} (m : Meaning S) (d : Debuggee S) (t : ℕ) (q : Query) (r : Result Sent E)
    → IfOk r (λ x. (c : Command) → query_of c ≡ q → IsSent (m.sizes d.moment.machine) (does m d.settings d.moment c (action.AskFrames t)).answer x)
    → IfOk r (λ x. least_packet_limit ≤ d.settings.limits.packet → 11 + length (sent_bytes (m.sizes d.moment.machine) x) ≤ d.settings.limits.packet)
    → IfOk r (λ x. (c : Command) → record { action = action.AskFrames t; question = Some q } ≡ asking_of c → Did m c d d x)
frames-did m d t q (Err e) v f = tt
frames-did m d t q (Ok x) v f = λ c e.
    let is : action.AskFrames t ≡ action_of c = ap (λ (y : Asking). y.action) e in
    let same = same-question (action.AskFrames t) (action_of c) q (query_of c) is refl (ap (λ (y : Asking). y.question) e) in
    ask-did m c (action.AskFrames t) d x is refl refl (v c same) f

-- another question about a thread was answered
pub thread-did : {S E : Type 0} (m : Meaning S) (d : Debuggee S) (t : ℕ) (q : Query) (r : Result Sent E)
    → IfOk r (λ x. (c : Command) → query_of c ≡ q → IsSent (m.sizes d.moment.machine) (does m d.settings d.moment c (action.AskThread t)).answer x)
    → IfOk r (λ x. least_packet_limit ≤ d.settings.limits.packet → 11 + length (sent_bytes (m.sizes d.moment.machine) x) ≤ d.settings.limits.packet)
    → IfOk r (λ x. (c : Command) → record { action = action.AskThread t; question = Some q } ≡ asking_of c → Did m c d d x)
thread-did m d t q (Err e) v f = tt
thread-did m d t q (Ok x) v f = λ c e.
    let is : action.AskThread t ≡ action_of c = ap (λ (y : Asking). y.action) e in
    let same = same-question (action.AskThread t) (action_of c) q (query_of c) is refl (ap (λ (y : Asking). y.question) e) in
    ask-did m c (action.AskThread t) d x is refl refl (v c same) f
