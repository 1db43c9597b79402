-- The lines of the threads that were named.
use Rattle.std.proofs.Common.{◌≡◌, ◌∙◌, ◌++◌, ℕ, List, [], ◌∷◌, None, flat_map, map, refl, sym, ap, arith}
use Rattle.std.proofs.lemmas.List.{append-nil}
use Rattle.std.proofs.lemmas.Map.Keys.{sorted_from_strictly_increasing}
use Rattle.jdwp_value.specs.declared.id.ObjectId.{ObjectId}
use Rattle.jdwp_event.specs.Told.{object_id}
use Rattle.jdwp_watch.specs.Naming.{Covers, is_named_in}
use Rattle.jdwp_debugger.specs.Debuggers.{Debugger}
use Rattle.jdwp_debugger.specs.FollowingKept.{following}
use Rattle.jdwp_debugger.specs.Holding.{is_named}
use Rattle.jdwp_attach.specs.Telling.{PutsNamed, named_line}

-- nobody can be told
pub none-named : (d : Debugger) (text : List ℕ) → following d ≡ None → PutsNamed d text text
none-named d text none = record {
  threads = [];
  all = λ thread named. absurd (let e = sym (ap (λ f. is_named_in f thread) none) ∙ named in cc);
  rising = sorted_from_strictly_increasing [] (λ k less. absurd (omega (arith, less)));
  is = sym (append-nil text);
}

lines-of : (d : Debugger) (ids : List ℕ) → flat_map (λ (thread : ObjectId). named_line d thread.0) (map object_id ids) ≡ flat_map (named_line d) ids
lines-of d [] = refl
lines-of d (id ∷ ids) = ap (λ (x : List ℕ). named_line d id ++ x) (lines-of d ids)

pub all-named : (d : Debugger) (old new : List ℕ) (threads : List ObjectId) → Covers (is_named d) threads → new ≡ old ++ flat_map (λ (thread : ObjectId). named_line d thread.0) threads → PutsNamed d old new
all-named d old new threads covers is = record {
  threads = covers.ids;
  all = covers.all;
  rising = covers.rising;
  is = is ∙ ap (λ (x : List ℕ). old ++ x) (ap (λ (ts : List ObjectId). flat_map (λ (thread : ObjectId). named_line d thread.0) ts) covers.are ∙ lines-of d covers.ids);
}
