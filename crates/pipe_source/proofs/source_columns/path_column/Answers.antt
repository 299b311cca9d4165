use Rattle.pipe_source.proofs.ColumnLaws.{names-fit}
use Rattle.pipe_source.proofs.source_columns.path_column.Goals as goal

pub make_column-requires : goal.make_column-requires
make_column-requires c = rw c.in_ok-file_names.ensures.names (names-fit c.args.count c.args.file.now c.in_ok-file_names.ensures.utf8)
