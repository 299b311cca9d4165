-- A query that is read.
use Rattle.std.proofs.Common.{◌≡◌, Bool, true, Some, sym, ap}
use Rattle.pipe_aggs.specs.declared.query.Query.{Query}
use Rattle.pipe_aggs.specs.Faults.{faults_of, first_of, has_nodes}
use Rattle.pipe_aggs.specs.QueryTrees.{query_tree, written}
use Rattle.tool_query.specs.QueryWord.{unless, written_query}
use Rattle.tool_query.specs.Reading.{sound_query}

-- a query whose nodes are in its arena is what it is as it is written
pub nodes_sound : (q : Query) → has_nodes q ≡ true → written_query (Some (written q)) ≡ sound_query q
nodes_sound q h = ap (λ (b : Bool). unless (first_of (faults_of b (written q))) (query_tree q)) (sym h)
