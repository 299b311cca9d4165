use Rattle.std.proofs.Common.{arith}
use Rattle.pipe_source.proofs.ColumnLaws.{numbers-fit}
use Rattle.pipe_source.proofs.source_columns.index_column.Goals as goal

pub make_column-requires : goal.make_column-requires
make_column-requires c = rw c.in_ok-row_numbers.ensures (numbers-fit _ c.args.count (omega (arith, c.requires)))
