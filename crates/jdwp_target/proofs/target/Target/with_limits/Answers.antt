use Rattle.std.proofs.Common.{◌≡◌, ◌≢◌, ◌∙◌, Err, Ok, Result, ap, arith, length, refl, sym}
use Rattle.std.proofs.lemmas.List.{length-map}
use Rattle.jdwp_value.specs.declared.id.ObjectId.{ObjectId}
use Rattle.jdwp_target.specs.declared.setup.SetupFault.{SetupFault}
use Rattle.jdwp_target.specs.declared.setup.SetupFault.TheVariants.{NoMemory, TooManyThreads}
use Rattle.jdwp_target.proofs.target.Target.with_limits.Goals as goal

made-not : {X E : Type 0} (x : X) (e : E) → Ok x ≢ Err e
made-not x e h = cc

memory-not : {X : Type 0} (r : Result X SetupFault) → r ≡ Err NoMemory → r ≢ Err TooManyThreads
memory-not r is h = cc

pub returns-in-Ok-clause-threads : goal.returns-in-Ok-clause-threads
returns-in-Ok-clause-threads g c =
    let same : length c.live.result.now ≡ length (g.M.Machine.meaning.live c.args.machine) = sym (length-map c.live.result.now (λ (id : ObjectId). id.0)) ∙ ap length c.live.ensures.live in
    (λ e. absurd (made-not _ _ e), λ more. absurd (omega (arith, same)))

pub returns-in-Err-clause-threads : goal.returns-in-Err-clause-threads
returns-in-Err-clause-threads g c =
    let same : length c.live.result.now ≡ length (g.M.Machine.meaning.live c.args.machine) = sym (length-map c.live.result.now (λ (id : ObjectId). id.0)) ∙ ap length c.live.ensures.live in
    (λ e. absurd (memory-not _ refl e), λ more. absurd (omega (arith, same)))

pub returns-then-live-clause-threads : goal.returns-then-live-clause-threads
returns-then-live-clause-threads g c =
    let same : length c.live.result.now ≡ length (g.M.Machine.meaning.live c.args.machine) = sym (length-map c.live.result.now (λ (id : ObjectId). id.0)) ∙ ap length c.live.ensures.live in
    (λ e. omega (arith, same), λ more. refl)
