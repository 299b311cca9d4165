-- A writing that tells of a failed output only where a count rose goes on so.
use Rattle.std.proofs.Common.{◌≡◌, ℕ, ◌≤◌, Option, Some, None, arith}
use Rattle.pipe_columns.specs.Causes.{HasCause}
use Rattle.pipe_writers.specs.declared.write_error.WriteError.{WriteError}
use Rattle.pipe_writers.specs.declared.write_error.WriteError.TheVariants as write_error
use Rattle.pipe_files_sink.specs.Telling.{TellsSince}

-- one that told of nothing yet
pub tells_fresh : (n a : ℕ) (fault : Option WriteError) → n ≡ a → fault ≡ None → TellsSince n a fault
tells_fresh n a fault e none = record { later = omega (arith, e); cause = λ told. absurd (cc (none, told)) }

-- a count that doesn't fall
pub tells_on : (n a b : ℕ) (fault : Option WriteError) → TellsSince n a fault → a ≤ b → TellsSince n b fault
tells_on n a b fault h le =
    let before = h.later in
    record { later = omega (arith, before, le); cause = λ told. let rose = h.cause told in omega (arith, rose, le) }

-- a call that was refused, by whatever fault
pub tells_fault : (n a b : ℕ) (old : Option WriteError) (fault : WriteError) → TellsSince n a old → HasCause a b (fault ≡ write_error.Output) → TellsSince n b (Some fault)
tells_fault n a b old fault h k =
    let before = h.later in
    let after = k.later in
    record {
      later = omega (arith, before, after);
      cause = λ told. let own : fault ≡ write_error.Output = cc told in let rose = k.cause own in omega (arith, before, rose);
    }
