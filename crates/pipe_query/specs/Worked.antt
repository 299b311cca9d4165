-- What the worked rows are about.
use Rattle.std.specs.Prelude.{ℕ, List, ◌++◌, codes, Option, option_and_then}
use Rattle.serde_json.specs.Read.{read}
use Rattle.pipe_model.specs.Expr.{Expr}
use Rattle.pipe_model.specs.Query.{WrittenQuery}
use Rattle.pipe_query.specs.ExprJson.{expr_of}
use Rattle.pipe_query.specs.QueryJson.{query_of}

-- the query that a text is
abbrev pub asked : List ℕ → Option WrittenQuery
asked text = option_and_then query_of (read text)

-- the expression that a text is
abbrev pub expressed : List ℕ → Option Expr
expressed text = option_and_then expr_of (read text)

-- the text of the sum and the count of v by k, with more members
abbrev pub sum_and_count_with : List ℕ → List ℕ
sum_and_count_with more =
    codes "{\"schema\":[[\"k\",\"Int64\"],[\"v\",\"Int64\"]],\"keys\":[\"k\"],"
    ++ codes "\"aggs\":[{\"alias\":[{\"sum\":\"v\"},\"s\"]},{\"alias\":[{\"count\":\"v\"},\"c\"]}]"
    ++ more ++ codes "}"
