-- What a request is for.
use Rattle.std.specs.Prelude.{⊤}
use Rattle.pipe_aggs.specs.declared.query.Query.{Query}
use Rattle.pipe_aggs.specs.QueryTrees.{query_tree}
use Rattle.pipe_states.specs.Together.{AreKept}
use Rattle.rollup_words.specs.Asked.{Asked, rolls, saves}
use Rattle.rollup_words.specs.declared.request.Request.{Request}
use Rattle.rollup_words.specs.declared.request.Request.TheVariants as request

-- the query of a request
abbrev pub request_query : Request → Query
request_query (request.Save s) = s.query
request_query (request.Roll r) = r.query

-- what a request is for
abbrev pub requested : Request → Asked
requested (request.Save s) = saves (query_tree s.query) s.first s.files.items
requested (request.Roll r) = rolls (query_tree r.query) r.keep.items r.files.items

-- the keys that a request keeps can be kept
abbrev pub HasKept : Request → Type 0
HasKept (request.Save s) = ⊤
HasKept (request.Roll r) = AreKept (query_tree r.query) r.keep.items
