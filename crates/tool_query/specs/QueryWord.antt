-- The query that a word is as JSON, or why it is none.
use Rattle.std.specs.Prelude.{◌≡◌, ℕ, List, Option, Some, None, Result, Ok, Err, ⊤}
use Rattle.serde_json.specs.Data.{Data}
use Rattle.serde_json.specs.Read.{read}
use Rattle.pipe_aggs.specs.declared.query_fault.QueryFault.{QueryFault}
use Rattle.pipe_aggs.specs.Faults.{written_fault}
use Rattle.pipe_model.specs.Query.{QueryTree, WrittenQuery}
use Rattle.pipe_model.specs.WrittenTree.{written_tree}
use Rattle.pipe_query.specs.QueryJson.{query_of}
use Rattle.tool_query.specs.declared.no_query.NoQuery.{NoQuery}
use Rattle.tool_query.specs.declared.no_query.NoQuery.TheVariants as no_query
use Rattle.tool_query.specs.declared.no_query.QueryError.{QueryError}
use Rattle.tool_query.specs.declared.no_query.QueryError.TheVariants as query_error

-- a query whose first fault is this, if it has one
abbrev pub unless : Option QueryFault → QueryTree → Result QueryTree NoQuery
unless (Some f) q = Err (no_query.Faulty f)
unless None q = Ok q

-- a query as it is written, if it has no fault
abbrev pub written_query : Option WrittenQuery → Result QueryTree NoQuery
written_query None = Err no_query.NotAQuery
written_query (Some w) = unless (written_fault w) (written_tree w)

-- the query that a JSON value is
abbrev pub json_query : Option Data → Result QueryTree NoQuery
json_query None = Err no_query.NotJson
json_query (Some d) = written_query (query_of d)

-- the query that a word is
abbrev pub word_query : List ℕ → Result QueryTree NoQuery
word_query word = json_query (read word)

-- there is no query for this; nothing is said of want of memory
abbrev pub IsNoQuery : QueryError → Result QueryTree NoQuery → Type 0
IsNoQuery (query_error.Refused why) q = q ≡ Err why
IsNoQuery query_error.Memory q = ⊤
