-- How the writing of a sink ended.
use Rattle.std.specs.Prelude.{ℕ, List, Option, None, Some}
use Rattle.pipe_columns.specs.Causes.{Rose}
use Rattle.pipe_columns.specs.declared.schema.Field.{Field}

-- a sink of files: the fields of what it writes, the writer that it was made of, as it was then, and
-- that writer once it has ended
pub record FilesSeen (Writer : Type 0) : Type 0 where
  pub schema : List Field
  pub made_of : Writer
  pub ended : Option Writer

-- a writer came back, and the count of its output's faults has risen since it was handed over
abbrev pub HasFailed : {Writer : Type 0} → (Writer → ℕ) → Writer → Option Writer → Type 0
HasFailed faults made_of None = ⊥
HasFailed faults made_of (Some writer) = Rose (faults made_of) (faults writer)
