-- what is known of the worlds that are reached
use Rattle.std.proofs.Common.{◌≡◌, true, false, List, [], ◌∷◌, ◌++◌, refl, sym, ◌∙◌, ap, subst}
use Rattle.jdwp_wire.specs.Widths.{AreWidths, Widths}
use Rattle.jdwp_end.specs.Ends.{is_established_phase}
use Rattle.jdwp_machine.specs.Meanings.{Meaning}
use Rattle.jdwp_debuggee.specs.Facts.{Facts, IsSound}
use Rattle.jdwp_debuggee.specs.Settings.{Settings}
use Rattle.jdwp_model.specs.Events.{LinkEvent}
use Rattle.jdwp_model.specs.Deferred.{DefersFew}
use Rattle.jdwp_model.specs.Faultless.{NoPacketIsRefused, NoCallIsRefused, AnswersOneWaiting}
use Rattle.jdwp_model.specs.Headline.{Always}
use Rattle.jdwp_model.specs.Next.{next, run, acts}
use Rattle.jdwp_model.specs.Places.{EachAtOnePlace}
use Rattle.jdwp_model.specs.Soundness.{StandsSoundly}
use Rattle.jdwp_model.specs.World as world
use Rattle.jdwp_model.specs.World.{is_closed, World}
use Rattle.jdwp_model.specs.Measures.{measured}
use Rattle.jdwp_link.specs.declared.events.Outcome.{Outcome}
use Rattle.jdwp_link.specs.Clauses.{Goes, measure_of}
use Rattle.jdwp_link.specs.Laws.{HoldsOfWorlds}
use Rattle.jdwp_link.specs.Links.{Link}
use Rattle.jdwp_link.specs.Stands.{IsReached, Parts, Stands, StandsFor}
use Rattle.jdwp_link.specs.Told.{told_outcomes}

-- ---- a run goes on

run-more : {S : Type 0} (m : Meaning S) (settings : Settings) (measure : world.Measure) (x : World S) (es : List LinkEvent) (e : LinkEvent)
    → run m settings measure x (es ++ e ∷ []) ≡ (next m settings measure (run m settings measure x es) e).0
run-more m settings measure x [] e = refl
run-more m settings measure x (d ∷ es) e = run-more m settings measure (next m settings measure x d).0 es e

pub reached-more : {S : Type 0} (m : Meaning S) (settings : Settings) (w : Widths) (x : World S) (e : LinkEvent) → IsReached m settings w x → IsReached m settings w (next m settings (measured w settings.limits) x e).0
reached-more m settings w x e r = record {
  first = r.first;
  events = r.events ++ e ∷ [];
  begins = r.begins;
  is = run-more m settings (measured w settings.limits) (world.opening m r.first) r.events e ∙ ap (λ y. (next m settings (measured w settings.limits) y e).0) r.is;
}

-- ---- what is known

pub reached-has : {S : Type 0} (m : Meaning S) (settings : Settings) (w : Widths) (x : World S) (P : World S → Type 0) → IsReached m settings w x → Always m P → P x
reached-has m settings w x P r a = subst P r.is (a settings (measured w settings.limits) r.first r.events r.begins)

-- of the debuggee, of both ends as they close, and that neither end refuses what it reads
pub record Known {S : Type 0} (m : Meaning S) (settings : Settings) (x : World S) : Type 0 where
  pub sound : IsSound m settings x.now
  pub facts : Facts m settings
  pub widths : AreWidths (m.sizes x.now.machine).field (m.sizes x.now.machine).method (m.sizes x.now.machine).object (m.sizes x.now.machine).reference (m.sizes x.now.machine).frame
  pub idle : is_established_phase x.target ≡ false → x.now.state.requests ≡ []
  pub unlost : is_closed x.target ≡ false → x.lost ≡ false
  pub shut : is_closed x.debugger ≡ true → x.pending ≡ []
  pub packet : NoPacketIsRefused x
  pub call : NoCallIsRefused x
  pub one : AnswersOneWaiting x
  pub places : EachAtOnePlace x
  pub few : DefersFew x

pub known : {S : Type 0} (m : Meaning S) → HoldsOfWorlds m → (settings : Settings) (w : Widths) (x : World S) → IsReached m settings w x → Known m settings x
known m worlds settings w x r =
    let stands : StandsSoundly m settings x = subst (StandsSoundly m settings) r.is (worlds.soundly settings (measured w settings.limits) r.first r.events r.begins) in
    record {
      sound = stands.sound;
      facts = worlds.facts settings;
      widths = worlds.widths x.now.machine stands.sound.state;
      idle = stands.idle;
      unlost = stands.unlost;
      shut = stands.shut;
      packet = reached-has m settings w x NoPacketIsRefused r worlds.packets;
      call = reached-has m settings w x NoCallIsRefused r worlds.calls;
      one = reached-has m settings w x AnswersOneWaiting r worlds.one;
      places = reached-has m settings w x EachAtOnePlace r worlds.places;
      few = reached-has m settings w x DefersFew r worlds.few;
    }

-- ---- an event goes

pub stands-for : {S : Type 0} (m : Meaning S) (settings : Settings) (w : Widths) (l : Link S) (x : World S) → Stands m settings w l x → StandsFor m l x
stands-for m settings w l x s =
    let e : w ≡ m.sizes l.target.moment.machine = sym s.parts.target.sizes ∙ ap (λ a. m.sizes a.machine) (sym s.parts.target.now) in
    subst (λ v. Stands m l.target.settings v l x) e (subst (λ u. Stands m u w l x) (sym s.parts.target.same_settings) s)

pub goes : {S : Type 0} (m : Meaning S) (e : LinkEvent) (old new : Link S) (os : List Outcome)
    → ((x : World S) → StandsFor m old x → Parts m old.target.settings (m.sizes old.target.moment.machine) new (next m old.target.settings (measure_of m old) x e).0)
    → ((x : World S) → StandsFor m old x → os ≡ told_outcomes (next m old.target.settings (measure_of m old) x e).1)
    → ((x : World S) → StandsFor m old x → new.did ≡ acts m old.target.settings (measure_of m old) x e)
    → Goes m e old new os
goes m e old new os parts tells did = record {
  stands = λ x s.
      let after = (next m old.target.settings (measure_of m old) x e).0 in
      stands-for m old.target.settings (m.sizes old.target.moment.machine) new after
      (record { reached = reached-more m old.target.settings (m.sizes old.target.moment.machine) x e s.reached; parts = parts x s });
  tells = tells;
  did = did;
  settings = λ x s. (parts x s).target.same_settings;
  sizes = λ x s. let p = parts x s in ap (λ a. m.sizes a.machine) p.target.now ∙ p.target.sizes;
}
