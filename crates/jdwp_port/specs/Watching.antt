-- What is kept of a reader's or writer's failures.
use Rattle.std.specs.Prelude.{◌≡◌, ◌≢◌, ◌⊎◌, Option, None, Some}
use Rattle.std.specs.IoError.{error_kind}
use Rattle.std.specs.declared.io.Error.{Error}
use Rattle.std.specs.declared.io.ErrorKind.TheVariants.{Interrupted}
use Rattle.jdwp_port.specs.declared.watching.Watched.{Watched}

-- the reader or writer itself
abbrev pub inner_of : {T : Type 0} → Watched T → T
inner_of w = w.inner

-- the error of the first call that failed
abbrev pub failure_of : {T : Type 0} → Watched T → Option Error
failure_of w = w.failure

-- what is kept after a call that failed with this error: the first error stays, and that a call was interrupted is not kept
abbrev pub Notes : Option Error → Error → Option Error → Type 0
Notes (Some first) error new = new ≡ Some first
Notes None error new = ((error_kind error ≡ Interrupted) × (new ≡ None)) ⊎ ((error_kind error ≢ Interrupted) × (new ≡ Some error))
