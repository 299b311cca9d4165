-- Of the proofs alone: what a request is for, and why there is no query.
use Rattle.std.specs.Prelude.{◌≡◌, Result, Err, ⊤}
use Rattle.pipe_aggs.specs.declared.query.Query.{Query}
use Rattle.pipe_aggs.specs.QueryTrees.{query_tree}
use Rattle.pipe_model.specs.Query.{QueryTree}
use Rattle.summary_words.specs.Asked.{adds, Asked, shows}
use Rattle.summary_words.specs.declared.refusal.AskError.{AskError}
use Rattle.summary_words.specs.declared.refusal.AskError.TheVariants as ask_error
use Rattle.summary_words.specs.declared.refusal.Refusal.{Refusal}
use Rattle.summary_words.specs.declared.request.Request.{Request}
use Rattle.summary_words.specs.declared.request.Request.TheVariants as request

-- the query of a request
abbrev pub request_query : Request → Query
request_query (request.Add a) = a.query
request_query (request.Show q) = q

-- what a request is for
abbrev pub requested : Request → Asked
requested (request.Add a) = adds (query_tree a.query) a.files.items
requested (request.Show q) = shows (query_tree q)

-- there is no query for this; nothing is said of want of memory
abbrev pub IsNoUnordered : AskError → Result QueryTree Refusal → Type 0
IsNoUnordered (ask_error.Refused r) q = q ≡ Err r
IsNoUnordered ask_error.Memory q = ⊤
