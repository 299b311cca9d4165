use Rattle.std.proofs.Common.{take}
use Rattle.pipe_columns.specs.Frame.{row_at}
use Rattle.lavzimo_rows.specs.Columns.{is_mean, shown_value}
use Rattle.lavzimo_rows.specs.Ranks.{AreRanked}
use Rattle.lavzimo_rows.proofs.by_column.rank_rows.Given as goal

-- the rows so far have their ranks
abbrev pub invariant-loop-row : goal.invariant-loop-row
invariant-loop-row l = AreRanked (is_mean l.shows) (λ i. shown_value l.shows (row_at l.columns i)) (take l.row-index l.rows) l.ranked.items
