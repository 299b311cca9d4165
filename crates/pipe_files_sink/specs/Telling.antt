-- Of the proofs alone: what a writing tells of how it ended.
use Rattle.std.specs.Prelude.{◌≡◌, ℕ, Option, Some}
use Rattle.pipe_columns.specs.Causes.{HasCause}
use Rattle.pipe_writers.specs.declared.write_error.WriteError.{WriteError}
use Rattle.pipe_writers.specs.declared.write_error.WriteError.TheVariants as write_error

-- it tells of a failed output only where the count of its faults, now so high, rose since it was
-- another
abbrev pub TellsSince : ℕ → ℕ → Option WriteError → Type 0
TellsSince since now fault = HasCause since now (fault ≡ Some write_error.Output)
