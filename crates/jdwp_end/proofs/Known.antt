-- Known bytes over calls that were made again.
use Rattle.std.proofs.Common.{◌≡◌, ◌∙◌, ◌+◌, ◌++◌, ℕ, List, [], ◌∷◌, Option, Some, None, Result, Ok, Err, ap, refl, sym, take, arith}
use Rattle.std.proofs.lemmas.Grind.{common_steps}
use Rattle.std.specs.Io.KnownBytes.{Appends, Consumes, Keeps, ReadConsumes, WriteAppends}
use Rattle.trace.specs.declared.History.{History}
use Rattle.jdwp_end.specs.Story.{some_of}
use Rattle.jdwp_end.specs.Streams.{early_in}

pub keeps-same : (a : Option (List ℕ)) → Keeps a a
keeps-same None = tt
keeps-same (Some xs) = refl

pub keeps-again : (a b c : Option (List ℕ)) → Keeps a b → Keeps b c → Keeps a c
keeps-again None b c h k = tt
keeps-again (Some xs) None c h k = absurd h
keeps-again (Some xs) (Some ys) None h k = absurd k
keeps-again (Some xs) (Some ys) (Some zs) h k = k ∙ h

appends-again : (a b c : Option (List ℕ)) (bytes : List ℕ) → Keeps a b → Appends b c bytes → Appends a c bytes
appends-again None b c bytes h k = tt
appends-again (Some xs) None c bytes h k = absurd h
appends-again (Some xs) (Some ys) None bytes h k = absurd k
appends-again (Some xs) (Some ys) (Some zs) bytes h k = k ∙ ap (λ (x : List ℕ). x ++ bytes) h

consumes-again : (a b c : Option (List ℕ)) (bytes : List ℕ) → Keeps a b → Consumes b c bytes → Consumes a c bytes
consumes-again None b c bytes h k = tt
consumes-again (Some xs) None c bytes h k = absurd h
consumes-again (Some xs) (Some ys) None bytes h k = absurd k
consumes-again (Some xs) (Some ys) (Some zs) bytes h k = sym h ∙ k

pub write-again : {E : Type 0} (a b c : Option (List ℕ)) (r : Result ℕ E) (bytes : List ℕ) → Keeps a b → WriteAppends b c r bytes → WriteAppends a c r bytes
write-again a b c (Ok n) bytes h k = appends-again a b c (take n bytes) h k
write-again a b c (Err e) bytes h k = keeps-again a b c h k

pub read-again : {E : Type 0} (a b c : Option (List ℕ)) (r : Result ℕ E) (buffer : List ℕ) → Keeps a b → ReadConsumes b c r buffer → ReadConsumes a c r buffer
read-again a b c (Ok n) buffer h k = (consumes-again a b c (take n buffer) h k.0, k.1)
read-again a b c (Err e) buffer h k = keeps-again a b c h k

-- one read more with room
pub early_push : (xs : List History) (h : History) → early_in (xs ++ h ∷ []) ≡ early_in xs + some_of h.bytes
early_push [] h = grind (arith, common_steps)
early_push (x ∷ xs) h = grind (arith, common_steps, early_push xs h)
