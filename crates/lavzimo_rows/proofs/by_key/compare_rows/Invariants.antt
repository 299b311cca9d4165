use Rattle.std.proofs.Common.{◌≡◌}
use Rattle.pipe_columns.specs.Frame.{row_at}
use Rattle.pipe_model.specs.Answer.{tuple_cmp}
use Rattle.lavzimo_rows.proofs.KeyFacts.{compared_from}
use Rattle.lavzimo_rows.proofs.by_key.compare_rows.Given as goal

-- the columns that are left decide
abbrev pub invariant-loop-column : goal.invariant-loop-column
invariant-loop-column l = compared_from l.columns l.column-index l.a l.b ≡ tuple_cmp (row_at l.columns l.a) (row_at l.columns l.b)
