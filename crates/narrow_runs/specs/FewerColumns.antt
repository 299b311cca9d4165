-- A run over fewer columns.
use Rattle.std.specs.Prelude.{Bool, List}
use Rattle.narrow_query.specs.Narrowed.{narrowed_tree}
use Rattle.pipe_plan.specs.Run.{Run}
use Rattle.narrow_columns.specs.Wanted.{narrowed_chunks}

-- the same run over the wanted columns alone
abbrev pub narrowed_run : List Bool → Run → Run
narrowed_run wanted r = record r {
  chunks = narrowed_chunks wanted r.chunks;
  query = narrowed_tree wanted r.query;
}
