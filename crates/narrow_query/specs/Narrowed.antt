-- A query over fewer columns.
use Rattle.std.specs.Prelude.{Bool, List}
use Rattle.pipe_aggs.specs.declared.query.Query.{Query}
use Rattle.pipe_model.specs.Query.{QueryTree}
use Rattle.narrow_columns.specs.Wanted.{chosen}

-- the same query over the wanted columns alone
abbrev pub narrowed_tree : List Bool → QueryTree → QueryTree
narrowed_tree wanted q = record q { schema = chosen wanted q.schema }

-- the same of a query as it is handed on
abbrev pub narrowed_query : List Bool → Query → Query
narrowed_query wanted q = record q { schema = chosen wanted q.schema }
