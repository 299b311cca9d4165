-- Reading no rows gives none.
use Rattle.std.proofs.Common.{ℕ, ap}
use Rattle.pipe_waiting.specs.ReadRows.{read_rows}
use Rattle.pipe_waiting.proofs.laws.no_rows_are_read.Goals as goal

pub returns-clause-waiting : goal.returns-clause-waiting
returns-clause-waiting c = λ inputs w none. ap (λ (n : ℕ). read_rows inputs n w.bytes) none

pub returns-clause-left : goal.returns-clause-left
returns-clause-left c = λ inputs a none. ap (λ (n : ℕ). read_rows inputs n a.bytes) none
