-- a link whose buffers are cut elsewhere stands for the same world
use Rattle.std.proofs.Common.{◌≡◌, ℕ, ◌+◌, Bool, false, List, [], ◌++◌, length, take, drop, refl, sym, ◌∙◌, ap, subst, arith}
use Rattle.std.proofs.lemmas.List.{append-nil, append_assoc, drop-append-le, length-append, take-append-drop, take_all}
use Rattle.std.proofs.Math.Seq.{drop-append_seam, take-append_seam}
use Rattle.jdwp_wire.specs.Streams.{stream, IsFront}
use Rattle.jdwp_wire.specs.Widths.{Widths}
use Rattle.jdwp_end.specs.Ends.{End}
use Rattle.jdwp_machine.specs.Meanings.{Meaning}
use Rattle.jdwp_debuggee.specs.Settings.{Settings}
use Rattle.jdwp_model.specs.World.{World, is_closed}
use Rattle.jdwp_link.specs.Links.{Link, way_to_debugger, way_to_target}
use Rattle.jdwp_link.specs.Stands.{AreCut, Parts}
use Rattle.jdwp_link.specs.Wires.{calls_sent, packets_sent}
use Rattle.jdwp_end.specs.Sessions.{Session}
use Rattle.jdwp_target.specs.Targets.{Target}
use Rattle.jdwp_debugger.specs.Debuggers.{Debugger}
use Rattle.jdwp_across.specs.Standing.{buffered, debugger_at, far_from_debugger, far_from_target, joined, target_at, uncounted}

-- ---- bytes

drop-whole : (xs : List ℕ) → drop (length xs) xs ≡ []
drop-whole xs = ap (drop (length xs)) (sym (append-nil xs)) ∙ drop-append_seam xs []

-- all that is under way comes
pub cut-all : (at : ℕ) (bytes way : List ℕ) (to after : End) (closed : Bool) → (closed ≡ false → after.incoming ≡ to.incoming ++ way) → AreCut at bytes way to closed → AreCut (length bytes) bytes [] after closed
cut-all at bytes way to after closed comes c = record {
  number = omega arith;
  there = λ o. comes o ∙ (ap (λ b. b ++ way) (c.there o) ∙ (ap (λ b. take at bytes ++ b) c.left ∙ (take-append-drop at bytes ∙ sym (take_all (length bytes) bytes (omega arith)))));
  left = sym (drop-whole bytes);
}

-- all but these has come
pub cut-some : (at : ℕ) (bytes come far : List ℕ) (to after : End) (closed : Bool) → closed ≡ false → to.incoming ≡ come ++ far → after.incoming ≡ come → AreCut at bytes [] to closed → AreCut (length come) bytes far after closed
cut-some at bytes come far to after closed o split is c =
    let whole : bytes ≡ come ++ far = sym (take-append-drop at bytes) ∙ (ap (λ b. take at bytes ++ b) (sym c.left) ∙ (append-nil (take at bytes) ∙ (sym (c.there o) ∙ split))) in
    record {
      number = let e : length bytes ≡ length come + length far = ap length whole ∙ length-append come far in omega (e, arith);
      there = λ _. is ∙ (sym (take-append_seam come far) ∙ ap (take (length come)) (sym whole));
      left = sym (drop-append_seam come far) ∙ ap (drop (length come)) (sym whole);
    }

-- ---- what is far

-- bytes come that were put
pub far-less : (fed bytes enqueued : List ℕ) → IsFront (fed ++ bytes) enqueued → drop (length fed) enqueued ≡ bytes ++ drop (length (fed ++ bytes)) enqueued
far-less fed bytes enqueued (rest, is) =
    ap (drop (length fed)) is
    ∙ (ap (drop (length fed)) (append_assoc fed bytes rest) ∙ (drop-append_seam fed (bytes ++ rest)
    ∙ ap (λ r. bytes ++ r) (sym (ap (drop (length (fed ++ bytes))) is ∙ drop-append_seam (fed ++ bytes) rest))))

-- more is put
pub far-more : (fed enqueued more : List ℕ) → IsFront fed enqueued → drop (length fed) (enqueued ++ more) ≡ drop (length fed) enqueued ++ more
far-more fed enqueued more (rest, is) =
    drop-append-le (length fed) enqueued more
    (let e : length enqueued ≡ length fed + length rest = ap length is ∙ length-append fed rest in omega (e, arith))

-- ---- a link

abbrev pub target_with : {S : Type 0} → List ℕ → List ℕ → Session → Target S → Target S
target_with come leave told t = record t { end = record t.end { incoming = come; outgoing = leave; session = told } }

abbrev pub debugger_with : List ℕ → List ℕ → Session → Debugger → Debugger
debugger_with come leave told d = record d { end = record d.end { incoming = come; outgoing = leave; session = told } }

abbrev pub link_with : {S : Type 0} → Target S → Debugger → List ℕ → List ℕ → Session → List ℕ → List ℕ → Session → Link S
link_with t d t_in t_out t_told d_in d_out d_told =
    record { target = target_with t_in t_out t_told t; debugger = debugger_with d_in d_out d_told d; to_target = []; to_debugger = []; did = false }

pub cut-again : {S : Type 0} (m : Meaning S) (settings : Settings) (w : Widths) (l : Link S) (x : World S) (a b : ℕ) (t_in t_out : List ℕ) (t_told : Session) (d_in d_out : List ℕ) (d_told : Session) → (s : Parts m settings w l x)
    → t_told.lost ≡ l.target.end.session.lost
    → AreCut a (stream (calls_sent w s.to.wires)) d_out (buffered t_in t_out l.target.end) (is_closed x.target)
    → AreCut b (stream (packets_sent w s.from.wires)) t_out (buffered d_in d_out l.debugger.end) (is_closed x.debugger)
    → Parts m settings w (link_with l.target l.debugger t_in t_out t_told d_in d_out d_told) (record x { at_target = a; at_debugger = b })
cut-again m settings w l x a b t_in t_out t_told d_in d_out d_told s lost to from = record {
  target = record { same_settings = s.target.same_settings; limits = s.target.limits; sizes = s.target.sizes; now = s.target.now; phase = s.target.phase; lost = lost ∙ s.target.lost; deferring = s.target.deferring };
  debugger = record {
    order = s.debugger.order;
    limits = s.debugger.limits;
    phase = s.debugger.phase;
    tickets = s.debugger.tickets;
    mirror = s.debugger.mirror;
    opened = λ o. let d = s.debugger.opened o in record { sizes = d.sizes; parked = d.parked; pending = d.pending; ticketed = d.ticketed };
    none_waits = s.debugger.none_waits;
  };
  to = record { wires = s.to.wires; calls = s.to.calls; sent = s.to.sent; cut = record { number = to.number; there = to.there; left = to.left }; kept = λ o. refl };
  deferred = record { wires = s.deferred.wires; commands = s.deferred.commands; messages = s.deferred.messages; sent = s.deferred.sent };
  from = record { wires = s.from.wires; packets = s.from.packets; sent = s.from.sent; cut = record { number = from.number; there = from.there; left = from.left }; kept = λ o. refl; awaits = s.from.awaits };
}

-- all that is under way comes to both ends
pub all-comes : {S : Type 0} (m : Meaning S) (settings : Settings) (w : Widths) (l : Link S) (x : World S) (t_in : List ℕ) (t_told : Session) (d_in : List ℕ) (d_told : Session) → (s : Parts m settings w l x)
    → t_told.lost ≡ l.target.end.session.lost
    → (is_closed x.target ≡ false → t_in ≡ l.target.end.incoming ++ way_to_target l)
    → (is_closed x.debugger ≡ false → d_in ≡ l.debugger.end.incoming ++ way_to_debugger l)
    → Parts m settings w (link_with l.target l.debugger t_in [] t_told d_in [] d_told)
    (record x { at_target = length (stream (calls_sent w s.to.wires)); at_debugger = length (stream (packets_sent w s.from.wires)) })
all-comes m settings w l x t_in t_told d_in d_told s lost to from =
    cut-again m settings w l x _ _ t_in [] t_told d_in [] d_told s lost
    (cut-all x.at_target (stream (calls_sent w s.to.wires)) (way_to_target l) l.target.end _ (is_closed x.target) to s.to.cut)
    (cut-all x.at_debugger (stream (packets_sent w s.from.wires)) (way_to_debugger l) l.debugger.end _ (is_closed x.debugger) from s.from.cut)

-- what an act at one end leaves
pub record After {S : Type 0} (m : Meaning S) (settings : Settings) (w : Widths) (t : Target S) (d : Debugger) (x : World S) : Type 0 where
  pub world : World S
  pub parts : Parts m settings w (joined t d) world
  pub same : uncounted x ≡ uncounted world

pub target-after : {S : Type 0} (m : Meaning S) (settings : Settings) (w : Widths) (t u new : Target S) (d : Debugger) (d_in d_out kept : List ℕ) (did : Bool) (x : World S)
    → Parts m settings w (record { target = u; debugger = debugger_at d_in d_out d; to_target = []; to_debugger = kept; did = did }) x
    → ((come : List ℕ) → target_with come [] new.end.session u ≡ target_at come [] new)
    → new.end.session.lost ≡ u.end.session.lost
    → (is_closed x.target ≡ false → new.end.incoming ++ far_from_target new d ≡ u.end.incoming ++ d_out)
    → new.end.session.enqueued ≡ t.end.session.enqueued ++ (kept ++ u.end.outgoing)
    → d_in ≡ d.end.incoming ++ far_from_debugger t d
    → IsFront d.end.session.fed t.end.session.enqueued
    → After m settings w new d x
target-after m settings w t u new d d_in d_out kept did x s same lost came put all front =
    let more = kept ++ u.end.outgoing in
    let far : far_from_debugger new d ≡ far_from_debugger t d ++ more = ap (drop (length d.end.session.fed)) put ∙ far-more d.end.session.fed t.end.session.enqueued more front in
    let come : d.end.incoming ++ far_from_debugger new d ≡ d_in ++ more =
    ap (λ b. d.end.incoming ++ b) far ∙ (sym (append_assoc d.end.incoming (far_from_debugger t d) more) ∙ ap (λ b. b ++ more) (sym all)) in
    let l : Link _ = record { target = u; debugger = debugger_at d_in d_out d; to_target = []; to_debugger = kept; did = did } in
    let t_in = new.end.incoming ++ far_from_target new d in
    let d_in_new = d.end.incoming ++ far_from_debugger new d in
    let parts = all-comes m settings w l x t_in new.end.session d_in_new d.end.session s lost came (λ o. come) in
    let y = record x { at_target = length (stream (calls_sent w s.to.wires)); at_debugger = length (stream (packets_sent w s.from.wires)) } in
    record {
      world = y;
      parts = subst (λ q. Parts m settings w (record { target = q; debugger = debugger_at d_in_new [] d; to_target = []; to_debugger = []; did = false }) y) (same t_in) parts;
      same = refl;
    }

pub debugger-after : {S : Type 0} (m : Meaning S) (settings : Settings) (w : Widths) (t : Target S) (d u new : Debugger) (t_in t_out kept : List ℕ) (did : Bool) (x : World S)
    → Parts m settings w (record { target = target_at t_in t_out t; debugger = u; to_target = kept; to_debugger = []; did = did }) x
    → ((come : List ℕ) → debugger_with come [] new.end.session u ≡ debugger_at come [] new)
    → (is_closed x.debugger ≡ false → new.end.incoming ++ far_from_debugger t new ≡ u.end.incoming ++ t_out)
    → new.end.session.enqueued ≡ d.end.session.enqueued ++ (kept ++ u.end.outgoing)
    → t_in ≡ t.end.incoming ++ far_from_target t d
    → IsFront t.end.session.fed d.end.session.enqueued
    → After m settings w t new x
debugger-after m settings w t d u new t_in t_out kept did x s same came put all front =
    let more = kept ++ u.end.outgoing in
    let far : far_from_target t new ≡ far_from_target t d ++ more = ap (drop (length t.end.session.fed)) put ∙ far-more t.end.session.fed d.end.session.enqueued more front in
    let come : t.end.incoming ++ far_from_target t new ≡ t_in ++ more =
    ap (λ b. t.end.incoming ++ b) far ∙ (sym (append_assoc t.end.incoming (far_from_target t d) more) ∙ ap (λ b. b ++ more) (sym all)) in
    let l : Link _ = record { target = target_at t_in t_out t; debugger = u; to_target = kept; to_debugger = []; did = did } in
    let t_in_new = t.end.incoming ++ far_from_target t new in
    let d_in = new.end.incoming ++ far_from_debugger t new in
    let parts = all-comes m settings w l x t_in_new t.end.session d_in new.end.session s refl (λ o. come) came in
    let y = record x { at_target = length (stream (calls_sent w s.to.wires)); at_debugger = length (stream (packets_sent w s.from.wires)) } in
    record {
      world = y;
      parts = subst (λ q. Parts m settings w (record { target = target_at t_in_new [] t; debugger = q; to_target = []; to_debugger = []; did = false }) y) (same d_in) parts;
      same = refl;
    }
