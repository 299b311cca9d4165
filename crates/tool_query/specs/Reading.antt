-- Of the proofs alone: a query that is read.
use Rattle.std.specs.Prelude.{Result}
use Rattle.pipe_aggs.specs.declared.query.Query.{Query}
use Rattle.pipe_aggs.specs.Faults.{first_fault}
use Rattle.pipe_aggs.specs.QueryTrees.{query_tree}
use Rattle.pipe_model.specs.Query.{QueryTree}
use Rattle.tool_query.specs.QueryWord.{unless}
use Rattle.tool_query.specs.declared.no_query.NoQuery.{NoQuery}

-- a query over an arena, if it has no fault
abbrev pub sound_query : Query → Result QueryTree NoQuery
sound_query q = unless (first_fault q) (query_tree q)
