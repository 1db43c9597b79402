-- What refusals of a debugger are as errors of a client, and which errors a want of room is.
use Rattle.std.specs.Prelude.{◌≡◌, ◌⊎◌, ℕ, true, List}
use Rattle.jdwp_debugger.specs.declared.asking.Refused.{Refused}
use Rattle.jdwp_debugger.specs.declared.asking.Refused.TheVariants as refusal
use Rattle.jdwp_client.specs.declared.errors.Awaited.{Awaited}
use Rattle.jdwp_client.specs.declared.errors.ClientError.{ClientError}
use Rattle.jdwp_client.specs.declared.errors.ClientError.TheVariants as error
use Rattle.jdwp_client.specs.declared.errors.Loss.{Loss}
use Rattle.jdwp_client.specs.Keeping.{is_full}

-- a closed session and want of memory are told as such
abbrev pub error_of_refusal : Refused → ClientError
error_of_refusal refusal.Closed = error.Closed
error_of_refusal refusal.NoMemory = error.NoMemory
error_of_refusal refused = error.Refused refused

-- no room was made for what one turn may tell, where so many composites may be kept
abbrev pub MeetsNoRoom : {X : Type 0} → ℕ → List X → ClientError → Type 0
MeetsNoRoom most events error.NoMemory = Unit {0}
MeetsNoRoom most events error.TooManyEvents = is_full most events ≡ true
MeetsNoRoom most events e = ⊥

-- What is told of a wait that ended so: just that; or where the connection was lost, that what was waited for did not come in time.
abbrev pub IsToldOf : Awaited → ClientError → ClientError → Type 0
IsToldOf awaited e told = (told ≡ e) ⊎ ((loss : Loss) × (e ≡ error.Lost loss) × (told ≡ error.TooLate awaited loss))
