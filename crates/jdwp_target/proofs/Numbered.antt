-- Composites are numbered over the life of a target.
use Rattle.std.proofs.Common.{◌≡◌, ◌∙◌, ℕ, zero, suc, ◌+◌, ◌%◌, ◌^◌, ◌<◌, ◌==◌, List, [], ◌∷◌, ◌++◌, length, Bool, true, false, Option, Some, None, Result, Ok, Err, sym, ap, refl, subst, arith, append_assoc}
use Rattle.std.specs.Prelude.{slice_index, ⊤}
use Rattle.jdwp_wire.specs.Streams.{Message, Handshake, Packet}
use Rattle.jdwp_wire.specs.Widths.{Widths}
use Rattle.jdwp_wire.specs.declared.error_code.ErrorCode.{ErrorCode}
use Rattle.jdwp_wire.specs.declared.packet.PacketKind.{PacketKind}
use Rattle.jdwp_wire.specs.declared.packet.PacketKind.TheVariants as kind
use Rattle.jdwp_end.specs.declared.phase.Phase.{Phase}
use Rattle.jdwp_end.specs.declared.phase.Phase.TheVariants.{Closed, AwaitingHandshake, Established}
use Rattle.jdwp_event.specs.Composites.{CompositeMeaning, gathered}
use Rattle.jdwp_event.specs.Filters.{all_counted}
use Rattle.jdwp_event.specs.Modifiers.{modifiers_of}
use Rattle.jdwp_event.specs.Occurrences.{HappeningMeaning, started, runs_out}
use Rattle.jdwp_event.specs.Requests.{Request}
use Rattle.jdwp_machine.specs.Meanings.{Meaning}
use Rattle.jdwp_action.specs.Actions
use Rattle.jdwp_debuggee.specs.Strings.{makes_string}
use Rattle.jdwp_debuggee.specs.Answers.{query_of}
use Rattle.jdwp_debuggee.specs.Answering.{is_answered, read_as}
use Rattle.jdwp_action.specs.Actions.{Action, Command, action_of}
use Rattle.jdwp_debuggee.specs.Effects.{Effect, asks_by, does, effect_by, suspend_by, set_by, suspend_thread_by, suspend_thread_at, resume_thread_by, slots_by, slots_at}
use Rattle.jdwp_debuggee.specs.Refusals.{set_refusal}
use Rattle.jdwp_debuggee.specs.Settings.{Settings}
use Rattle.jdwp_debuggee.specs.State.{Thread, State, Moment, at_limit, count_of, is_marked, new_state, next_packet_id, without_thread}
use Rattle.jdwp_debuggee.specs.StepParts.{packet_after}
use Rattle.jdwp_debuggee.specs.Steps.{Step, death_by, ended_by, ends, happens, may_step, occurs, occurs_by, report_by, with_happening, with_started}
use Rattle.jdwp_debuggee.specs.Deferring.{released_at}
use Rattle.jdwp_target.specs.Deeds.{Deed, Does, FullStanding, Performance, Releases, SetsDeferring, defers, handles_where, perform, releases_by, with_none_deferred}
use Rattle.jdwp_target.specs.Lives.{AreNumbered, Begins, Goes, LifeDeed, begun, begun_by, composite_ids, id_if_composite, sent_in_life}
use Rattle.jdwp_target.specs.Standings.{Act, Handles, Loses, Reaction, Standing, Steps, behind, carried_out, established, greets_by, handles_packet, react, replies_by, reports, stands, steps_apart, steps_at, steps_by, steps_in_session}

-- ---- ids that follow one another

-- these ids follow one another from the first number on, and the second is the next
abbrev Follows : ℕ → List ℕ → ℕ → Type 0
Follows from [] to = to ≡ from
Follows from (id ∷ ids) to = (id ≡ from) × Follows (next_packet_id from) ids to

follows-append : (a b c : ℕ) (xs ys : List ℕ) → Follows a xs b → Follows b ys c → Follows a (xs ++ ys) c
follows-append a b c [] ys e f = subst (λ n. Follows n ys c) e f
follows-append a b c (x ∷ xs) ys (e, f) g = (e, follows-append (next_packet_id a) b c xs ys f g)

ids-append : (xs ys : List Message) → composite_ids (xs ++ ys) ≡ composite_ids xs ++ composite_ids ys
ids-append [] ys = refl
ids-append (Handshake ∷ xs) ys = ids-append xs ys
ids-append (Packet header body ∷ xs) ys =
    ap (λ (l : List ℕ). id_if_composite header.id header.kind ++ l) (ids-append xs ys)
    ∙ sym (append_assoc (id_if_composite header.id header.kind) (composite_ids xs) (composite_ids ys))

next-mod : (j : ℕ) → next_packet_id (j % 2 ^ 32) ≡ (j + 1) % 2 ^ 32
next-mod j = omega arith

numbered-from : (j to : ℕ) (ids : List ℕ) → Follows (j % 2 ^ 32) ids to → (k : ℕ) → k < length ids → slice_index ids k ≡ (k + j) % 2 ^ 32
numbered-from j to [] f k less = absurd (omega arith)
numbered-from j to (id ∷ ids) (e, f) zero less = e ∙ ap (λ (n : ℕ). n % 2 ^ 32) (omega arith)
numbered-from j to (id ∷ ids) (e, f) (suc k) less =
    numbered-from (j + 1) to ids (subst (λ n. Follows n ids to) (next-mod j) f) k (omega arith)
    ∙ ap (λ (n : ℕ). n % 2 ^ 32) (omega arith)

-- ---- what one act leaves

-- where no session is established there are no requests
abbrev IdleAt : Phase → List Request → Type 0
IdleAt Established requests = ⊤
IdleAt AwaitingHandshake requests = requests ≡ []
IdleAt Closed requests = requests ≡ []

abbrev Idle : {S : Type 0} → Standing S → Type 0
Idle now = IdleAt now.phase now.moment.state.requests

record Numbers {S : Type 0} (now : Moment S) (r : Reaction S) : Type 0 where
  pub ids : Follows now.state.next_packet (composite_ids r.sends) r.after.moment.state.next_packet
  pub idle : Idle r.after

-- ---- commands

record Keeps {S : Type 0} (now : Moment S) (e : Effect S) : Type 0 where
  pub packet : e.after.state.next_packet ≡ now.state.next_packet
  pub dead : e.dies ≡ true → e.after.state.requests ≡ []
  pub closed : e.closes ≡ true → e.after.state.requests ≡ []

apart-of : (b : Bool) → b ≡ false → b ≡ true → ⊥
apart-of b h k = cc

goes-on : {S : Type 0} (now : Moment S) (e : Effect S) → e.after.state.next_packet ≡ now.state.next_packet → e.dies ≡ false → e.closes ≡ false → Keeps now e
goes-on now e packet dies closes = record { packet = packet; dead = λ h. absurd (apart-of e.dies dies h); closed = λ h. absurd (apart-of e.closes closes h) }

keeps : {S : Type 0} (m : Meaning S) (settings : Settings) (now : Moment S) (c : Command) (a : Action) → Keeps now (does m settings now c a)
keeps m settings now c Actions.Suspend =
    elim (at_limit settings.count_limit now.state) as (λ b. Keeps now (suspend_by now b)) [ true ↦ goes-on now _ refl refl refl | false ↦ goes-on now _ refl refl refl ]
keeps m settings now c Actions.Resume = goes-on now _ refl refl refl
keeps m settings now c Actions.Dispose = record { packet = refl; dead = λ h. refl; closed = λ h. refl }
keeps m settings now c Actions.Exit = record { packet = refl; dead = λ h. refl; closed = λ h. refl }
keeps m settings now c Actions.HoldEvents = goes-on now _ refl refl refl
keeps m settings now c Actions.ReleaseEvents = goes-on now _ refl refl refl
keeps m settings now c (Actions.SetRequest byte policy entries) =
    elim (set_refusal m settings now byte policy (modifiers_of entries)) as (λ v. Keeps now (set_by m now byte policy (modifiers_of entries) v)) [
      | None ↦ goes-on now _ refl refl refl
      | Some e ↦ goes-on now _ refl refl refl
    ]
keeps m settings now c (Actions.ClearRequest byte id) = goes-on now _ refl refl refl
keeps m settings now c Actions.ClearBreakpoints = goes-on now _ refl refl refl
keeps m settings now c (Actions.SuspendThread t) =
    elim (count_of now.state t) as (λ v. Keeps now (suspend_thread_by settings now t v)) [
      | None ↦ goes-on now _ refl refl refl
      | Some n ↦ elim (n == settings.count_limit) as (λ b. Keeps now (suspend_thread_at now t b)) [ true ↦ goes-on now _ refl refl refl | false ↦ goes-on now _ refl refl refl ]
    ]
keeps m settings now c (Actions.ResumeThread t) =
    elim (count_of now.state t) as (λ v. Keeps now (resume_thread_by now t v)) [ None ↦ goes-on now _ refl refl refl | Some n ↦ goes-on now _ refl refl refl ]
keeps m settings now c (Actions.SuspendCount t) = goes-on now _ refl refl refl
keeps m settings now c (Actions.ThreadStatus t) = goes-on now _ refl refl refl
keeps m settings now c (Actions.SetSlots t f values) =
    elim (count_of now.state t) as (λ v. Keeps now (slots_by m now t f values v)) [
      | None ↦ goes-on now _ refl refl refl
      | Some n ↦ elim (n == 0) as (λ b. Keeps now (slots_at m now t f values b)) [ true ↦ goes-on now _ refl refl refl | false ↦ goes-on now _ refl refl refl ]
    ]
keeps m settings now c (Actions.AskFrames t) = goes-on now _ refl refl refl
keeps m settings now c (Actions.AskThread t) = goes-on now _ refl refl refl
keeps m settings now c Actions.AllThreads = goes-on now _ refl refl refl
keeps m settings now c Actions.IdSizes = goes-on now _ refl refl refl
keeps m settings now c Actions.Ask =
    elim (makes_string (query_of c)) as (λ b. Keeps now (asks_by m settings now c b)) [ true ↦ goes-on now _ refl refl refl | false ↦ goes-on now _ refl refl refl ]

keeps-by : {S : Type 0} (m : Meaning S) (settings : Settings) (now : Moment S) (c : Command) (b : Bool) → Keeps now (effect_by m settings now c b)
keeps-by m settings now c true = keeps m settings now c (action_of c)
keeps-by m settings now c false = goes-on now _ refl refl refl

keeps-read : {S : Type 0} (m : Meaning S) (settings : Settings) (now : Moment S) (read : Result Command ErrorCode) → Keeps now (carried_out m settings now read)
keeps-read m settings now (Ok c) = keeps-by m settings now c (is_answered settings.profile c)
keeps-read m settings now (Err e) = goes-on now _ refl refl refl

replied-open : {S : Type 0} (now : Standing S) (w : Widths) (id : ℕ) (e : Effect S) (closes : Bool) → (closes ≡ true → e.after.state.requests ≡ []) → e.after.state.next_packet ≡ now.moment.state.next_packet
    → Numbers now.moment (replies_by now w id (record { after = e.after; answer = e.answer; dies = false; closes = closes }) false)
replied-open now w id e true none packet = record { ids = packet; idle = none refl }
replied-open now w id e false none packet = record { ids = packet; idle = tt }

replied : {S : Type 0} (now : Standing S) (w : Widths) (id : ℕ) (e : Effect S) (dies : Bool) → (dies ≡ true → e.after.state.requests ≡ []) → Keeps now.moment e → Numbers now.moment (replies_by now w id e dies)
replied now w id e true dead k = record { ids = (k.packet, ap next_packet_id k.packet); idle = dead refl }
replied now w id e false dead k = let r = replied-open now w id e e.closes k.closed k.packet in record { ids = r.ids; idle = r.idle }

handled-packet : {S : Type 0} (m : Meaning S) (settings : Settings) (now : Standing S) (id : ℕ) (k : PacketKind) (body : List ℕ) → Numbers now.moment (handles_packet m settings (established now) id k body)
handled-packet m settings now id (kind.Command set number) body =
    let e = keeps-read m settings now.moment (read_as settings.profile (m.sizes now.moment.machine) set number body) in
    replied (established now) (m.sizes now.moment.machine) id _ _ e.dead e
handled-packet m settings now id (kind.Reply error) body = record { ids = refl; idle = tt }

greeted : {S : Type 0} (m : Meaning S) (settings : Settings) (now : Standing S) (b : Bool) → Numbers now.moment (greets_by m settings (established now) b)
greeted m settings now true = record { ids = refl; idle = tt }
greeted m settings now false = record { ids = (refl, refl); idle = tt }

handled-message : {S : Type 0} (m : Meaning S) (settings : Settings) (now : Standing S) (message : Message) → Numbers now.moment (react m settings now (Handles message))
handled-message m settings now Handshake = greeted m settings now now.moment.state.handshaken
handled-message m settings now (Packet header body) = handled-packet m settings now header.id header.kind body

-- ---- steps

record Stepping {S : Type 0} (now : Moment S) (o : Step S) : Type 0 where
  pub packet : o.after.state.next_packet ≡ packet_after o.sends now.state.next_packet
  pub none : now.state.requests ≡ [] → o.sends ≡ None
  pub stay : now.state.requests ≡ [] → o.after.state.requests ≡ []
  pub dead : o.dies ≡ true → o.after.state.requests ≡ []

end-steps : {S : Type 0} (m : Meaning S) (now : Moment S) (t : ℕ) (state : State) (entries : List Thread) → state.next_packet ≡ now.state.next_packet → (now.state.requests ≡ [] → state.requests ≡ [])
    → Stepping now (ends m now.machine t (ended_by entries state))
end-steps m now t state [] packet stay = record { packet = packet; none = λ h. refl; stay = λ h. refl; dead = λ h. refl }
end-steps m now t state (entry ∷ entries) packet stay = record { packet = packet; none = λ h. refl; stay = stay; dead = λ h. absurd cc }

death-steps : {S : Type 0} (m : Meaning S) (now : Moment S) (t : ℕ) (h : HappeningMeaning) (o : Option CompositeMeaning) → gathered h now.state.requests ≡ o → Stepping now (death_by m now.machine t h now.state o)
death-steps m now t h None e = end-steps m now t (without_thread t (with_happening h now.state)) (without_thread t (with_happening h now.state)).threads refl (λ n. ap (all_counted h) n)
death-steps m now t h (Some c) e = record {
  packet = refl;
  none = λ n. let y : gathered h now.state.requests ≡ None = ap (gathered h) n in absurd (cc);
  stay = λ n. ap (all_counted h) n;
  dead = λ d. absurd cc;
}

started-packet : (o : Option ℕ) (state : State) → (with_started o state).next_packet ≡ state.next_packet
started-packet None state = refl
started-packet (Some t) state = refl

started-requests : (o : Option ℕ) (state : State) → (with_started o state).requests ≡ state.requests
started-requests None state = refl
started-requests (Some t) state = refl

report-steps : {S : Type 0} (m : Meaning S) (now : Moment S) (t : ℕ) (h : HappeningMeaning) (o : Option CompositeMeaning) → gathered h now.state.requests ≡ o → Stepping now (report_by m now.machine t h now.state o)
report-steps m now t h None e = record {
  packet = started-packet (started h) (with_happening h now.state);
  none = λ n. refl;
  stay = λ n. started-requests (started h) (with_happening h now.state) ∙ ap (all_counted h) n;
  dead = λ d. absurd cc;
}
report-steps m now t h (Some c) e = record {
  packet = ap next_packet_id (started-packet (started h) (with_happening h now.state));
  none = λ n. let y : gathered h now.state.requests ≡ None = ap (gathered h) n in absurd (cc);
  stay = λ n. started-requests (started h) (with_happening h now.state) ∙ ap (all_counted h) n;
  dead = λ d. absurd cc;
}

happens-steps : {S : Type 0} (m : Meaning S) (now : Moment S) (t : ℕ) (h : HappeningMeaning) (b : Bool) → Stepping now (happens m now t h b)
happens-steps m now t h true = death-steps m now t h (gathered h now.state.requests) refl
happens-steps m now t h false = report-steps m now t h (gathered h now.state.requests) refl

occurs-steps : {S : Type 0} (m : Meaning S) (now : Moment S) (t : ℕ) (b : Bool) → Stepping now (occurs_by m now t b)
occurs-steps m now t true = end-steps m now t (without_thread t now.state) (without_thread t now.state).threads refl (λ n. n)
occurs-steps m now t false = happens-steps m now t (m.next now.machine t) (runs_out (m.next now.machine t))

reports-follow : (w : Widths) (id : ℕ) (sends : Option CompositeMeaning) → Follows id (composite_ids (reports w id sends)) (packet_after sends id)
reports-follow w id None = refl
reports-follow w id (Some c) = (refl, refl)

session-numbers : {S : Type 0} (w : Widths) (now : Standing S) (o : Step S) (dies : Bool) → now.phase ≡ Established → (dies ≡ true → o.after.state.requests ≡ []) → Stepping now.moment o
    → Numbers now.moment (steps_in_session w now.moment.state.next_packet o (behind o now) dies)
session-numbers w now o true is dead k =
    let id = now.moment.state.next_packet in
    let last = o.after.state.next_packet in
    let first : Follows id (composite_ids (reports w id o.sends)) last = subst (λ n. Follows id (composite_ids (reports w id o.sends)) n) (sym k.packet) (reports-follow w id o.sends) in
    record {
      ids = subst (λ l. Follows id l (next_packet_id last)) (sym (ids-append (reports w id o.sends) _)) (follows-append id last (next_packet_id last) (composite_ids (reports w id o.sends)) (last ∷ []) first (refl, refl));
      idle = dead refl;
    }
session-numbers w now o false is dead k =
    let id = now.moment.state.next_packet in
    record {
      ids = subst (λ n. Follows id (composite_ids (reports w id o.sends)) n) (sym k.packet) (reports-follow w id o.sends);
      idle = subst (λ (p : Phase). IdleAt p o.after.state.requests) (sym is) tt;
    }

-- nothing is sent where no session is established, and no request reports
silent-packet : {S : Type 0} (now : Moment S) (o : Step S) → Stepping now o → now.state.requests ≡ [] → o.after.state.next_packet ≡ now.state.next_packet
silent-packet now o k none = k.packet ∙ ap (λ (s : Option CompositeMeaning). packet_after s now.state.next_packet) (k.none none)

apart-numbers : {S : Type 0} (now : Standing S) (o : Step S) (dies : Bool) → Stepping now.moment o → now.moment.state.requests ≡ [] → IdleAt now.phase o.after.state.requests
    → Numbers now.moment (steps_apart (behind o now) dies)
apart-numbers now o true k none idle = record { ids = silent-packet now.moment o k none; idle = k.stay none }
apart-numbers now o false k none idle = record { ids = silent-packet now.moment o k none; idle = idle }

phase-numbers : {S : Type 0} (w : Widths) (now : Standing S) (o : Step S) (phase : Phase) → now.phase ≡ phase → Stepping now.moment o → IdleAt phase now.moment.state.requests
    → Numbers now.moment (steps_at w now.moment.state.next_packet o (behind o now) phase)
phase-numbers w now o Established is k idle = session-numbers w now o o.dies is k.dead k
phase-numbers w now o AwaitingHandshake is k idle = apart-numbers now o o.dies k idle (subst (λ (p : Phase). IdleAt p o.after.state.requests) (sym is) (k.stay idle))
phase-numbers w now o Closed is k idle = apart-numbers now o o.dies k idle (subst (λ (p : Phase). IdleAt p o.after.state.requests) (sym is) (k.stay idle))

stepped-numbers : {S : Type 0} (m : Meaning S) (now : Standing S) (t : ℕ) (may : Bool) → Idle now → Numbers now.moment (steps_by m now t may)
stepped-numbers m now t false idle = record { ids = refl; idle = idle }
stepped-numbers m now t true idle = phase-numbers (m.sizes now.moment.machine) now (occurs m now.moment t) now.phase refl (occurs-steps m now.moment t (is_marked now.moment.state t)) idle

-- ---- a life

acted : {S : Type 0} (m : Meaning S) (settings : Settings) (now : Standing S) (act : Act) → Idle now → Numbers now.moment (react m settings now act)
acted m settings now (Handles message) idle = handled-message m settings now message
acted m settings now (Steps t) idle = stepped-numbers m now t (may_step m settings now.moment t) idle
acted m settings now Loses idle = record { ids = refl; idle = refl }

-- a deed
record NumbersOf {S : Type 0} (now : Moment S) (p : Performance S) : Type 0 where
  pub ids : Follows now.state.next_packet (composite_ids p.sends) p.after.standing.moment.state.next_packet
  pub idle : Idle p.after.standing

where-numbers : {S : Type 0} (m : Meaning S) (settings : Settings) (now : FullStanding S) (message : Message) (b : Bool) → Idle now.standing → NumbersOf now.standing.moment (handles_where m settings now message b)
where-numbers m settings now message true idle = record { ids = refl; idle = idle }
where-numbers m settings now message false idle = let r = acted m settings now.standing (Handles message) idle in record { ids = r.ids; idle = r.idle }

released-numbers : {S : Type 0} (m : Meaning S) (settings : Settings) (now : FullStanding S) (o : Option (Message × List Message)) → Idle now.standing → NumbersOf now.standing.moment (releases_by m settings now o)
released-numbers m settings now None idle = record { ids = refl; idle = idle }
released-numbers m settings now (Some (message, others)) idle = let r = acted m settings now.standing (Handles message) idle in record { ids = r.ids; idle = r.idle }

performed : {S : Type 0} (m : Meaning S) (settings : Settings) (now : FullStanding S) (deed : Deed) → Idle now.standing → NumbersOf now.standing.moment (perform m settings now deed)
performed m settings now (Does (Handles message)) idle = where-numbers m settings now message (defers now message) idle
performed m settings now (Does (Steps t)) idle = let r = acted m settings now.standing (Steps t) idle in record { ids = r.ids; idle = r.idle }
performed m settings now (Does Loses) idle = let r = acted m settings now.standing Loses idle in record { ids = r.ids; idle = r.idle }
performed m settings now (SetsDeferring deferring) idle = record { ids = refl; idle = idle }
performed m settings now (Releases place) idle = released-numbers m settings now (released_at place now.deferred) idle

begun-idle : {S : Type 0} (now : FullStanding S) (phase : Phase) (alive : Bool) → now.standing.phase ≡ phase → Idle now.standing → Idle (begun_by now phase alive).standing
begun-idle now Closed true is idle = subst (λ (p : Phase). IdleAt p now.standing.moment.state.requests) is idle
begun-idle now Closed false is idle = idle
begun-idle now AwaitingHandshake alive is idle = idle
begun-idle now Established alive is idle = idle

begun-packet : {S : Type 0} (now : FullStanding S) (phase : Phase) (alive : Bool) → (begun_by now phase alive).standing.moment.state.next_packet ≡ now.standing.moment.state.next_packet
begun-packet now Closed true = refl
begun-packet now Closed false = refl
begun-packet now AwaitingHandshake alive = refl
begun-packet now Established alive = refl

record Lived (from : ℕ) (ids : List ℕ) : Type 0 where
  pub to : ℕ
  pub follows : Follows from ids to

lived : {S : Type 0} (m : Meaning S) (settings : Settings) (now : FullStanding S) (life : List LifeDeed) → Idle now.standing → Lived now.standing.moment.state.next_packet (composite_ids (sent_in_life m settings now life))
lived m settings now [] idle = record { to = now.standing.moment.state.next_packet; follows = refl }
lived m settings now (Begins ∷ life) idle =
    let phase = now.standing.phase in
    let alive = now.standing.moment.state.alive in
    subst (λ n. Lived n (composite_ids (sent_in_life m settings (begun now) life))) (begun-packet now phase alive) (lived m settings (begun now) life (begun-idle now phase alive refl idle))
lived m settings now (Goes deed ∷ life) idle =
    let p = perform m settings now deed in
    let one = performed m settings now deed idle in
    let rest = lived m settings p.after life one.idle in
    let id = now.standing.moment.state.next_packet in
    record {
      to = rest.to;
      follows = subst (λ l. Follows id l rest.to) (sym (ids-append p.sends (sent_in_life m settings p.after life)))
          (follows-append id p.after.standing.moment.state.next_packet rest.to (composite_ids p.sends) (composite_ids (sent_in_life m settings p.after life)) one.ids rest.follows);
    }

pub life-numbers : {S : Type 0} (m : Meaning S) (settings : Settings) (s : S) (life : List LifeDeed)
    → AreNumbered (composite_ids (sent_in_life m settings (with_none_deferred (stands (record { state = new_state (m.live s); machine = s }) Closed) false) life))
life-numbers m settings s life =
    let l = lived m settings (with_none_deferred (stands (record { state = new_state (m.live s); machine = s }) Closed) false) life refl in
    λ k less. numbered-from 1 l.to _ l.follows k less
