-- what holds of a target behind sessions with anybody: the target's side of the model's invariant, by the events that its acts are where nobody is at
-- the other end
use Rattle.std.proofs.Common.{◌≡◌, ◌≤◌, ◌<◌, ℕ, ◌⊎◌, inl, inr, Bool, true, false, ◌||◌, ◌&&◌, not, cond, Option, Some, None, List, [], ◌∷◌, Ok, Err, Result, refl, sym, ◌∙◌, ap, subst}
use Rattle.std.proofs.lemmas.Bool.{lt-ltb}
use Rattle.jdwp_wire.specs.Streams as streams
use Rattle.jdwp_wire.specs.Streams.{NextMessage, at_handshake}
use Rattle.jdwp_wire.specs.Handshake.{handshake_front}
use Rattle.jdwp_wire.specs.Widths.{Widths}
use Rattle.jdwp_wire.specs.declared.error_code.ErrorCode.{ErrorCode}
use Rattle.jdwp_wire.specs.declared.frame.NextHello.{NextHello}
use Rattle.jdwp_wire.specs.declared.frame.NextHello.TheVariants as hello
use Rattle.jdwp_wire.specs.declared.packet.PacketKind.{PacketKind}
use Rattle.jdwp_wire.specs.declared.packet.PacketKind.TheVariants as kind
use Rattle.jdwp_end.specs.declared.phase.Phase.{Phase}
use Rattle.jdwp_end.specs.declared.phase.Phase.TheVariants.{AwaitingHandshake, Closed, Established}
use Rattle.jdwp_end.specs.Ends.{front_of, is_established, is_established_phase, is_open, is_open_phase, is_paused, next_at}
use Rattle.jdwp_event.specs.Composites.{CompositeMeaning}
use Rattle.jdwp_machine.specs.Meanings.{Meaning}
use Rattle.jdwp_action.specs.Actions.{Command}
use Rattle.jdwp_debuggee.specs.Answering.{read_as}
use Rattle.jdwp_debuggee.specs.Deferring.{released_at}
use Rattle.jdwp_debuggee.specs.Effects.{Effect, effect}
use Rattle.jdwp_debuggee.specs.Settings.{Settings}
use Rattle.jdwp_debuggee.specs.State.{Moment}
use Rattle.jdwp_debuggee.specs.Steps.{Step, may_step, occurs}
use Rattle.jdwp_mirror.specs.Messages.{Call, Greets, Ticket}
use Rattle.jdwp_mirror.specs.Mirror.{COUNT_MOST}
use Rattle.jdwp_target.specs.Deeds.{FullStanding, defers, handles_where, releases_by}
use Rattle.jdwp_target.specs.Standings as standings
use Rattle.jdwp_target.specs.Standings.{Handles, Reaction, Standing, behind, carried_out, handles_packet, react, replies, replies_by, stands, steps_apart, steps_at, steps_by, steps_in_session}
use Rattle.jdwp_target.specs.Targets.{Target, full_standing, lost_target, opened_target, with_handled}
use Rattle.jdwp_target.specs.Turns.{ReleasesAt, StepsWhere, TurnsAt, at_place, deferred_at, is_frozen}
use Rattle.jdwp_target.specs.declared.target.Stepped.{Stepped}
use Rattle.jdwp_target.specs.declared.target.TargetFault.{TargetFault}
use Rattle.jdwp_target.specs.declared.target.Turn.{Turn}
use Rattle.jdwp_debugger.specs.Debuggers.{Debugger, new_debugger}
use Rattle.jdwp_model.specs.Events
use Rattle.jdwp_model.specs.Events.{LinkEvent}
use Rattle.jdwp_model.specs.Next as next
use Rattle.jdwp_model.specs.Next.{answers, carries_out, dies_by, releases_at, step_ends, stepped, target_takes, target_turn_at, whole_call, with_report}
use Rattle.jdwp_model.specs.Rests.{Rests}
use Rattle.jdwp_model.specs.World.{Measure, World}
use Rattle.jdwp_model.proofs.Apart.{apart_none}
use Rattle.jdwp_model.proofs.Keeps.{Inv, TargetSide, closed_side, keeps}
use Rattle.jdwp_model.proofs.Session.{and-left}
use Rattle.jdwp_model.proofs.Theorems.{opening_inv}
use Rattle.jdwp_across.specs.Acting.{both, is_of_target}
use Rattle.jdwp_across.specs.Headline.{MayStart}
use Rattle.jdwp_across.specs.Others.{Accepts, HasServed, NewTarget, TargetActed, TargetTurned}
use Rattle.jdwp_across.specs.Programs.{Act, ComesToDebugger, ComesToTarget, Connects, DebuggerAsks, DebuggerLoses, DebuggerNumbers, DebuggerTurns, Does, LeavesDebugger, LeavesTarget, TargetDefers, TargetLoses, TargetReleases, TargetSteps, TargetTurns}

-- ---- a target alone

-- messages have no length
abbrev unmeasured-alone : Measure
unmeasured-alone = record { call = λ (c : Call). 0; message = λ x. 0; unfit = λ (c : Command). None }

-- with these calls under way to it, and these commands deferred
abbrev alone : {S : Type 0} → Moment S → Phase → Bool → List Call → List (Ticket × Command) → World S
alone now phase lost calls deferred = record {
  now = now;
  target = phase;
  lost = lost;
  to_target = calls;
  to_debugger = [];
  at_target = 0;
  at_debugger = 0;
  deferred = deferred;
  deferring = false;
  debugger = Closed;
  ready = false;
  parked = [];
  read = [];
  asked = 0;
  pending = [];
}

-- the target's side of a world, and as a target stands
abbrev SideOf : {S : Type 0} → Meaning S → Settings → World S → Type 0
SideOf m settings x = TargetSide m settings x.target x.lost x.now

abbrev SideAt : {S : Type 0} → Meaning S → Settings → Bool → Standing S → Type 0
SideAt m settings lost now = TargetSide m settings now.phase lost now.moment

-- what is taken of the settings
pub record AreBounds (settings : Settings) : Type 0 where
  pub least : 1 ≤ settings.count_limit
  pub most : settings.count_limit ≤ COUNT_MOST
  pub packet : 0 < settings.limits.packet

alone-inv : {S : Type 0} (m : Meaning S) (settings : Settings) (now : Moment S) (phase : Phase) (lost : Bool) (calls : List Call) (deferred : List (Ticket × Command)) → TargetSide m settings phase lost now
    → Inv m settings (alone now phase lost calls deferred)
alone-inv m settings now phase lost calls deferred side = record { target = side; debugger = closed_side m [] calls deferred lost now; apart = apart_none Closed 0 }

alone-goes : {S : Type 0} (m : Meaning S) → Rests m → (settings : Settings) → AreBounds settings → (now : Moment S) (phase : Phase) (lost : Bool) (calls : List Call) (deferred : List (Ticket × Command)) (e : LinkEvent) → TargetSide m settings phase lost now
    → SideOf m settings (next.next m settings unmeasured-alone (alone now phase lost calls deferred) e).0
alone-goes m rests settings b now phase lost calls deferred e side =
    (keeps m rests settings b.least b.most unmeasured-alone (alone now phase lost calls deferred) e (alone-inv m settings now phase lost calls deferred side)).target

-- ---- a command

carries-side : {S : Type 0} (m : Meaning S) → Rests m → (settings : Settings) → AreBounds settings → (now : Moment S) (lost : Bool) (c : Command) → TargetSide m settings Established lost now
    → SideOf m settings (carries_out m settings (alone now Established lost [] []) None c)
carries-side m rests settings b now lost c side =
    subst (λ q. SideOf m settings (releases_at m settings (alone now Established lost [] ((None, c) ∷ [])) (cond q (Some ((None, c), [])) None))) (lt-ltb 0 settings.limits.packet b.packet)
    (alone-goes m rests settings b now Established lost [] ((None, c) ∷ []) (Events.Release 0) side)

closes-phase : (b : Bool) → cond b Closed Established ≡ standings.phase_after b
closes-phase true = refl
closes-phase false = refl

replies-side : {S : Type 0} (m : Meaning S) (settings : Settings) (now : Moment S) (lost : Bool) (w : Widths) (id : ℕ) (c : Command) (e : Effect S) (dies : Bool) → SideOf m settings (dies_by (answers (alone now Established lost [] []) None c e) dies)
    → SideAt m settings lost (replies_by (stands now Established) w id e dies).after
replies-side m settings now lost w id c e true h = h
replies-side m settings now lost w id c e false h = subst (λ p. TargetSide m settings p lost e.after) (closes-phase e.closes) h

read-side : {S : Type 0} (m : Meaning S) → Rests m → (settings : Settings) → AreBounds settings → (now : Moment S) (lost : Bool) (w : Widths) (id : ℕ) (r : Result Command ErrorCode) → TargetSide m settings Established lost now
    → SideAt m settings lost (replies (stands now Established) w id (carried_out m settings now r)).after
read-side m rests settings b now lost w id (Ok c) side = replies-side m settings now lost w id c (effect m settings now c) (effect m settings now c).dies (carries-side m rests settings b now lost c side)
read-side m rests settings b now lost w id (Err e) side = side

packet-side : {S : Type 0} (m : Meaning S) → Rests m → (settings : Settings) → AreBounds settings → (now : Moment S) (lost : Bool) (id : ℕ) (k : PacketKind) (body : List ℕ) → TargetSide m settings Established lost now
    → SideAt m settings lost (handles_packet m settings (stands now Established) id k body).after
packet-side m rests settings b now lost id (kind.Command set number) body side = read-side m rests settings b now lost (m.sizes now.machine) id (read_as settings.profile (m.sizes now.machine) set number body) side
packet-side m rests settings b now lost id (kind.Reply error) body side = side

-- ---- a handshake

greets-side : {S : Type 0} (m : Meaning S) (settings : Settings) (now : Moment S) (lost handshaken : Bool) → SideOf m settings (next.greets_by settings (target_takes unmeasured-alone (alone now AwaitingHandshake lost (Greets ∷ []) []) Greets []) handshaken)
    → SideAt m settings lost (standings.greets_by m settings (stands now Established) handshaken).after
greets-side m settings now lost true h = h
greets-side m settings now lost false h = h

greeted-side : {S : Type 0} (m : Meaning S) → Rests m → (settings : Settings) → AreBounds settings → (now : Moment S) (lost : Bool) → TargetSide m settings AwaitingHandshake lost now
    → SideAt m settings lost (standings.greets_by m settings (stands now Established) now.state.handshaken).after
greeted-side m rests settings b now lost side =
    let w = alone now AwaitingHandshake lost (Greets ∷ []) [] in
    greets-side m settings now lost now.state.handshaken
    (subst (λ q. SideOf m settings (target_turn_at m settings unmeasured-alone w (cond q (whole_call unmeasured-alone 0 (Greets ∷ [])) None))) (lt-ltb 0 settings.limits.packet b.packet)
    (alone-goes m rests settings b now AwaitingHandshake lost (Greets ∷ []) [] Events.TargetTurn side))

-- ---- a message

message-side : {S : Type 0} (m : Meaning S) → Rests m → (settings : Settings) → AreBounds settings → (now : Moment S) (lost : Bool) (message : streams.Message) → TargetSide m settings Established lost now
    → SideAt m settings lost (react m settings (stands now Established) (Handles message)).after
message-side m rests settings b now lost streams.Handshake side = subst (λ h. SideAt m settings lost (standings.greets_by m settings (stands now Established) h).after) (sym (side.greeted refl)) side
message-side m rests settings b now lost (streams.Packet header body) side = packet-side m rests settings b now lost header.id header.kind body side

-- Where a message stands in front of an end, the session is established, or it is the handshake that is waited for.
abbrev IsPlaced : Phase → streams.Message → Type 0
IsPlaced phase message = (phase ≡ Established) ⊎ ((phase ≡ AwaitingHandshake) × (message ≡ streams.Handshake))

hello-is : (n : NextHello) (message : streams.Message) (used : ℕ) → at_handshake n ≡ streams.Whole message used → message ≡ streams.Handshake
hello-is hello.Whole message used h = let whole : streams.Whole streams.Handshake 14 ≡ streams.Whole message used = h in let same : streams.Handshake ≡ message = cc in sym same
hello-is hello.More message used h = absurd (cc)
hello-is (hello.Fault fault) message used h = absurd (cc)

front-placed : (paused : Bool) (limit : ℕ) (phase : Phase) (bytes : List ℕ) (message : streams.Message) (used : ℕ) → cond paused streams.More (next_at limit phase bytes) ≡ streams.Whole message used → IsPlaced phase message
front-placed true limit phase bytes message used h = absurd (cc)
front-placed false limit Closed bytes message used h = absurd (cc)
front-placed false limit AwaitingHandshake bytes message used h = inr (refl, hello-is (handshake_front bytes) message used h)
front-placed false limit Established bytes message used h = inl refl

reacts-side : {S : Type 0} (m : Meaning S) → Rests m → (settings : Settings) → AreBounds settings → (now : Moment S) (phase : Phase) (lost : Bool) (message : streams.Message) → IsPlaced phase message → TargetSide m settings phase lost now
    → SideAt m settings lost (react m settings (stands now phase) (Handles message)).after
reacts-side m rests settings b now phase lost message (inl e) side = message-side m rests settings b now lost message (subst (λ p. TargetSide m settings p lost now) e side)
reacts-side m rests settings b now phase lost message (inr (e, f)) side =
    subst (λ q. SideAt m settings lost (react m settings (stands now phase) (Handles q)).after) (sym f)
    (greeted-side m rests settings b now lost (subst (λ p. TargetSide m settings p lost now) e side))

-- it is put off, or handled at once
handles-side : {S : Type 0} (m : Meaning S) → Rests m → (settings : Settings) → AreBounds settings → (full : FullStanding S) (lost : Bool) (message : streams.Message) (off : Bool) → IsPlaced full.standing.phase message → SideAt m settings lost full.standing
    → SideAt m settings lost (handles_where m settings full message off).after.standing
handles-side m rests settings b full lost message true placed side = side
handles-side m rests settings b full lost message false placed side = reacts-side m rests settings b full.standing.moment full.standing.phase lost message placed side

releases-side : {S : Type 0} (m : Meaning S) → Rests m → (settings : Settings) → AreBounds settings → (full : FullStanding S) (lost : Bool) (released : Option (streams.Message × List streams.Message)) → full.standing.phase ≡ Established
    → SideAt m settings lost full.standing → SideAt m settings lost (releases_by m settings full released).after.standing
releases-side m rests settings b full lost None placed side = side
releases-side m rests settings b full lost (Some (message, others)) placed side = reacts-side m rests settings b full.standing.moment full.standing.phase lost message (inl placed) side

-- ---- a step

-- what it leaves, by whether the machine died
abbrev ends_step : {S : Type 0} → Widths → ℕ → Step S → Standing S → Phase → Bool → Reaction S
ends_step w id o now Established dies = steps_in_session w id o now dies
ends_step w id o now AwaitingHandshake dies = steps_apart now dies
ends_step w id o now Closed dies = steps_apart now dies

ends-same : {S : Type 0} (w : Widths) (id : ℕ) (o : Step S) (now : Standing S) (phase : Phase) → ends_step w id o now phase o.dies ≡ steps_at w id o now phase
ends-same w id o now Established = refl
ends-same w id o now AwaitingHandshake = refl
ends-same w id o now Closed = refl

told-side : {S : Type 0} (m : Meaning S) (settings : Settings) (now : Moment S) (lost : Bool) (w : Widths) (id : ℕ) (o : Step S) (phase : Phase) (sends : Option CompositeMeaning) (dies : Bool)
    → SideOf m settings (step_ends (with_report (alone now phase lost [] []) o.after sends) phase dies) → SideAt m settings lost (ends_step w id o (behind o (stands now phase)) phase dies).after
told-side m settings now lost w id o Established None true h = h
told-side m settings now lost w id o Established None false h = h
told-side m settings now lost w id o Established (Some c) true h = h
told-side m settings now lost w id o Established (Some c) false h = h
told-side m settings now lost w id o AwaitingHandshake None true h = h
told-side m settings now lost w id o AwaitingHandshake None false h = h
told-side m settings now lost w id o AwaitingHandshake (Some c) true h = h
told-side m settings now lost w id o AwaitingHandshake (Some c) false h = h
told-side m settings now lost w id o Closed None true h = h
told-side m settings now lost w id o Closed None false h = h
told-side m settings now lost w id o Closed (Some c) true h = h
told-side m settings now lost w id o Closed (Some c) false h = h

steps-now-is : (may lost flows : Bool) → may ≡ true → flows ≡ true → (may && (lost || flows)) ≡ true
steps-now-is may true flows h f = ap (λ b. b && true) h
steps-now-is may false flows h f = ap (λ b. b && flows) h ∙ f

steps-side : {S : Type 0} (m : Meaning S) → Rests m → (settings : Settings) → AreBounds settings → (now : Moment S) (phase : Phase) (lost : Bool) (t : ℕ) → may_step m settings now t ≡ true → TargetSide m settings phase lost now
    → SideAt m settings lost (react m settings (stands now phase) (standings.Steps t)).after
steps-side m rests settings b now phase lost t may side =
    let w = alone now phase lost [] [] in
    let o = occurs m now t in
    let id = now.state.next_packet in
    let sizes = m.sizes now.machine in
    subst (λ q. SideAt m settings lost (steps_by m (stands now phase) t q).after) (sym may)
    (subst (λ (r : Reaction _). SideAt m settings lost r.after) (ends-same sizes id o (behind o (stands now phase)) phase)
    (told-side m settings now lost sizes id o phase o.sends o.dies
    (subst (λ q. SideOf m settings (cond q (stepped w o) w)) (steps-now-is (may_step m settings now t) lost _ may (lt-ltb 0 settings.limits.packet b.packet))
    (alone-goes m rests settings b now phase lost [] [] (Events.Step t) side))))

-- ---- a target

-- what holds of every target that served others
pub record Served {S : Type 0} (m : Meaning S) (settings : Settings) (t : Target S) : Type 0 where
  pub side : TargetSide m t.settings t.end.phase t.end.session.lost t.moment
  pub same_settings : t.settings ≡ settings
  pub limits : t.end.limits ≡ settings.limits

bounds-of : {S : Type 0} (m : Meaning S) (settings : Settings) (t : Target S) → AreBounds settings → Served m settings t → AreBounds t.settings
bounds-of m settings t b h = subst AreBounds (sym h.same_settings) b

lost-served : {S : Type 0} (m : Meaning S) → Rests m → (settings : Settings) (t : Target S) → AreBounds settings → Served m settings t → Served m settings (lost_target t)
lost-served m rests settings t b h = record {
  side = alone-goes m rests t.settings (bounds-of m settings t b h) t.moment t.end.phase t.end.session.lost [] [] Events.TargetLoses h.side;
  same_settings = h.same_settings;
  limits = h.limits;
}

opened-served : {S : Type 0} (m : Meaning S) (settings : Settings) (t : Target S) → is_open t.end ≡ false → t.moment.state.alive ≡ true → Served m settings t → Served m settings (opened_target t)
opened-served m settings t shut lives h = record {
  side = record {
    sound = h.side.sound;
    idle = λ q. h.side.idle (shut-unestablished t.end.phase shut);
    living = λ q. lives;
    unlost = λ q. refl;
    greeted = λ q. absurd (cc);
    unborn = h.side.unborn;
  };
  same_settings = h.same_settings;
  limits = h.limits;
}
  where
    shut-unestablished : (p : Phase) → is_open_phase p ≡ false → is_established_phase p ≡ false
    shut-unestablished Closed q = refl
    shut-unestablished AwaitingHandshake q = refl
    shut-unestablished Established q = absurd (cc)

handled-served : {S : Type 0} (m : Meaning S) → Rests m → (settings : Settings) (t : Target S) (message : streams.Message) (used : ℕ) → AreBounds settings → front_of t.end ≡ streams.Whole message used → Served m settings t
    → Served m settings (with_handled m message used t)
handled-served m rests settings t message used b front h = record {
  side = handles-side m rests t.settings (bounds-of m settings t b h) (full_standing t) t.end.session.lost message (defers (full_standing t) message)
      (front-placed (is_paused t.end) t.end.limits.packet t.end.phase t.end.incoming message used front) h.side;
  same_settings = h.same_settings;
  limits = h.limits;
}

turn-served : {S : Type 0} (m : Meaning S) → Rests m → (settings : Settings) (f : NextMessage) (result : Result Turn TargetFault) (old new : Target S) → AreBounds settings → front_of old.end ≡ f → TurnsAt m f old result new → Served m settings old → Served m settings new
turn-served m rests settings (streams.Whole message used) (Ok turn) old new b front (told, is) h = subst (Served m settings) (sym is) (handled-served m rests settings old message used b front h)
turn-served m rests settings (streams.Whole message used) (Err fault) old new b front (told, needs, is) h = subst (Served m settings) (sym is) h
turn-served m rests settings streams.More result old new b front (told, is) h = subst (Served m settings) (sym is) h
turn-served m rests settings (streams.Fault fault) result old new b front (told, is) h = subst (Served m settings) (sym is) (lost-served m rests settings old b h)

established-is : (p : Phase) → is_established_phase p ≡ true → p ≡ Established
established-is Closed h = absurd (cc)
established-is AwaitingHandshake h = absurd (cc)
established-is Established h = refl

found-at : {S : Type 0} (old : Target S) (found : Option (streams.Message × List streams.Message)) (b : Bool) (some : streams.Message × List streams.Message) → at_place old found b ≡ Some some → b ≡ true
found-at old found true some h = refl
found-at old found false some h = absurd (cc)

release-served : {S : Type 0} (m : Meaning S) → Rests m → (settings : Settings) (place : ℕ) (found : Option (streams.Message × List streams.Message)) (turn : Turn) (old new : Target S) → AreBounds settings → deferred_at place old ≡ found
    → ReleasesAt m place found old (Ok turn) new → Served m settings old → Served m settings new
release-served m rests settings place None turn old new b e (told, is) h = subst (Served m settings) (sym is) h
release-served m rests settings place (Some (message, others)) turn old new b e (told, is) h =
    let unpaused = found-at old (released_at place old.deferred) (is_established old.end && not (is_paused old.end)) (message, others) e in
    subst (Served m settings) (sym is)
    (record {
      side = releases-side m rests old.settings (bounds-of m settings old b h) (full_standing old) old.end.session.lost (released_at place old.deferred)
          (established-is old.end.phase (and-left (is_established old.end) (not (is_paused old.end)) unpaused)) h.side;
      same_settings = h.same_settings;
      limits = h.limits;
    })

unfrozen : (paused may : Bool) → (paused || not may) ≡ false → may ≡ true
unfrozen true may h = absurd (cc)
unfrozen false true h = refl
unfrozen false false h = absurd (cc)

step-served : {S : Type 0} (m : Meaning S) → Rests m → (settings : Settings) (t : ℕ) (stepped : Stepped) (frozen : Bool) (old new : Target S) → AreBounds settings → is_frozen m t old ≡ frozen → StepsWhere m t old stepped new frozen
    → Served m settings old → Served m settings new
step-served m rests settings t stepped true old new b e (told, is) h = subst (Served m settings) (sym is) h
step-served m rests settings t stepped false old new b e (told, is) h =
    subst (Served m settings) (sym is)
    (record {
      side = steps-side m rests old.settings (bounds-of m settings old b h) old.moment old.end.phase old.end.session.lost t (unfrozen (is_paused old.end) (may_step m old.settings old.moment t) e) h.side;
      same_settings = h.same_settings;
      limits = h.limits;
    })

-- an act of its own
act-served : {S : Type 0} (m : Meaning S) → Rests m → (settings : Settings) (act : Act) (old new : Target S) (d : Debugger) → AreBounds settings → is_of_target act ≡ true → Does m act (both old d) (both new d) → Served m settings old → Served m settings new
act-served m rests settings (ComesToTarget bytes) old new d b own is h = subst (λ v. Served m settings v.target) (sym is) (record { side = h.side; same_settings = h.same_settings; limits = h.limits })
act-served m rests settings (LeavesTarget bytes) old new d b own is h = subst (λ v. Served m settings v.target) (sym is) (record { side = h.side; same_settings = h.same_settings; limits = h.limits })
act-served m rests settings (TargetTurns turn) old new d b own (so, encoded, sends, same) h = turn-served m rests settings (front_of old.end) (Ok turn) old new b refl so h
act-served m rests settings (TargetReleases place turn) old new d b own (so, encoded, sends, same) h = release-served m rests settings place (deferred_at place old) turn old new b refl so h
act-served m rests settings (TargetSteps t stepped) old new d b own (so, encoded, sends, same) h = step-served m rests settings t stepped (is_frozen m t old) old new b refl so h
act-served m rests settings (TargetDefers deferring) old new d b own is h = subst (λ v. Served m settings v.target) (sym is) (record { side = h.side; same_settings = h.same_settings; limits = h.limits })
act-served m rests settings TargetLoses old new d b own is h = subst (λ v. Served m settings v.target) (sym is) (lost-served m rests settings old b h)
act-served m rests settings Connects old new d b own does h = absurd (cc)
act-served m rests settings (ComesToDebugger bytes) old new d b own does h = absurd (cc)
act-served m rests settings (LeavesDebugger bytes) old new d b own does h = absurd (cc)
act-served m rests settings (DebuggerAsks c ticket) old new d b own does h = absurd (cc)
act-served m rests settings (DebuggerNumbers id) old new d b own does h = absurd (cc)
act-served m rests settings (DebuggerTurns r lost) old new d b own does h = absurd (cc)
act-served m rests settings (DebuggerLoses lost) old new d b own does h = absurd (cc)

pub served : {S : Type 0} (m : Meaning S) → Rests m → (settings : Settings) (s : S) (id : ℕ) (t : Target S) → MayStart m settings s id → AreBounds settings → HasServed m settings s t → Served m settings t
served m rests settings s id t start b NewTarget = record { side = (opening_inv m settings s start.begins).target; same_settings = refl; limits = refl }
served m rests settings s id t start b (Accepts old before shut lives) = opened-served m settings old shut lives (served m rests settings s id old start b before)
served m rests settings s id t start b (TargetTurned result old new before so) = turn-served m rests settings (front_of old.end) result old new b refl so (served m rests settings s id old start b before)
served m rests settings s id t start b (TargetActed act old new before does) = act-served m rests settings act old new (new_debugger settings.limits id) b does.0 (does.1 (new_debugger settings.limits id)) (served m rests settings s id old start b before)
