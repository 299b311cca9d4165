-- What a request is for.
use Rattle.std.specs.Prelude.{◌≡◌, ◌<◌, ⊤}
use Rattle.pipe_aggs.specs.declared.query.Query.{Query}
use Rattle.pipe_aggs.specs.QueryTrees.{query_tree}
use Rattle.pipe_words.specs.Plans.{plan_seen}
use Rattle.pipe_words.specs.declared.plan.Plan.{Plan}
use Rattle.tool_made.specs.MadeQuery.{made_tree}
use Rattle.tool_words.specs.Asked.{Asked, asks, makes}
use Rattle.tool_words.specs.declared.request.Request.{Request}
use Rattle.tool_words.specs.declared.request.Request.TheVariants as request

-- the plan of a request
abbrev pub request_plan : Request → Plan
request_plan (request.Answer q) = q.plan
request_plan (request.Lines q) = q.plan

-- the query of a request
abbrev pub request_query : Request → Query
request_query (request.Answer q) = q.query
request_query (request.Lines q) = q.query

-- what a request is for: the answer of its query over files, or the lines of a run over generated rows
abbrev pub requested : Request → Asked
requested (request.Answer q) = asks (plan_seen q.plan) (query_tree q.query)
requested (request.Lines q) = makes (plan_seen q.plan) q.rows

-- a run over generated rows has the query that they are asked, and chunks of at least one row
abbrev pub IsOfRows : Request → Type 0
IsOfRows (request.Answer q) = ⊤
IsOfRows (request.Lines q) = (query_tree q.query ≡ made_tree) × (0 < q.rows.chunk)
