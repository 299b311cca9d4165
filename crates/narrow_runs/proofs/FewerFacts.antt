-- A run over the wanted columns alone.
use Rattle.std.proofs.Common.{◌≡◌, ◌+◌, ℕ, Bool, true, List, [], ◌∷◌, length, refl, ap}
use Rattle.std.specs.List.{All, fold, list_all}
use Rattle.std.proofs.lemmas.Bool.{and_parts}
use Rattle.std.proofs.lemmas.List.{length-map}
use Rattle.pipe_columns.specs.declared.data_chunk.DataChunk.{DataChunk}
use Rattle.pipe_columns.specs.Frame.{FitsSchema}
use Rattle.pipe_aggs.specs.CheckedQuery.{input_types}
use Rattle.pipe_model.specs.Output.{input_type}
use Rattle.pipe_model.specs.Query.{AggTree, QueryTree}
use Rattle.pipe_model.specs.Rows.{total_height}
use Rattle.narrow_query.specs.Names.{covers, has_fed, has_named}
use Rattle.narrow_query.specs.Narrowed.{narrowed_tree}
use Rattle.narrow_query.proofs.AnswerFacts.{answer-same, fed-type, keys-same, map-where, rows-same}
use Rattle.pipe_plan.specs.Payloads.{payloads}
use Rattle.pipe_plan.specs.Plan.{plan}
use Rattle.pipe_plan.specs.Run.{Run, StoreSeen}
use Rattle.pipe_run.specs.Answered.{HaveWholeFrames, IsAnswered}
use Rattle.pipe_run.specs.declared.output.GroupByOutput.{GroupByOutput}
use Rattle.narrow_columns.specs.Wanted.{chosen, narrowed_chunk, narrowed_chunks}
use Rattle.narrow_runs.specs.FewerColumns.{narrowed_run}
use Rattle.narrow_runs.proofs.AlikeRuns.{answered-alike, AreAlike, heights, left-alike, payloads-alike, plan-alike}

-- the heights of chunks stay
pub heights-same : (ws : List Bool) (chunks : List DataChunk) → heights (narrowed_chunks ws chunks) ≡ heights chunks
heights-same ws [] = refl
heights-same ws (c ∷ cs) = ap (λ (hs : List ℕ). c.frame.height ∷ hs) (heights-same ws cs)

-- the types of what aggregates are fed
pub inputs-same : (ws : List Bool) (q : QueryTree) → covers ws q ≡ true → input_types (narrowed_tree ws q) ≡ input_types q
inputs-same ws q h =
    let all = and_parts (list_all (has_named ws q.schema) q.keys) (list_all (λ a. has_fed ws q.schema a.input) q.aggs) h in
    map-where (λ (a : AggTree). has_fed ws q.schema a.input) (λ a. input_type (chosen ws q.schema) a.input) (λ a. input_type q.schema a.input) (λ a k. fed-type ws q.schema a.input k) q.aggs all.1

-- all that a run makes of its chunks and its query
fewer-alike : (ws : List Bool) (r : Run) → All (λ c. FitsSchema r.query.schema c.frame) r.chunks → covers ws r.query ≡ true → AreAlike r (narrowed_chunks ws r.chunks) (narrowed_tree ws r.query)
fewer-alike ws r fit h = record {
  rows = rows-same ws r.query r.chunks fit h;
  heights = heights-same ws r.chunks;
  keys = keys-same ws r.query h;
  inputs = inputs-same ws r.query h;
  answer = answer-same ws r.query r.chunks r.limits.partitions fit h;
}

pub fewer-plan : (ws : List Bool) (r : Run) (w p : ℕ) → All (λ c. FitsSchema r.query.schema c.frame) r.chunks → covers ws r.query ≡ true → plan (narrowed_run ws r) w p ≡ plan r w p
fewer-plan ws r w p fit h = plan-alike r (narrowed_chunks ws r.chunks) (narrowed_tree ws r.query) (fewer-alike ws r fit h) w p

pub fewer-payloads : (ws : List Bool) (r : Run) (w p : ℕ) → All (λ c. FitsSchema r.query.schema c.frame) r.chunks → covers ws r.query ≡ true → payloads (narrowed_run ws r) w p ≡ payloads r w p
fewer-payloads ws r w p fit h = payloads-alike r (narrowed_chunks ws r.chunks) (narrowed_tree ws r.query) (fewer-alike ws r fit h) w p

-- a run that was answered over the wanted columns was answered over all
pub fewer-answered : (ws : List Bool) (r : Run) (out : GroupByOutput) (stores : List StoreSeen) → All (λ c. FitsSchema r.query.schema c.frame) r.chunks → covers ws r.query ≡ true → IsAnswered (narrowed_run ws r) out stores → IsAnswered r out stores
fewer-answered ws r out stores fit h is = answered-alike r (narrowed_chunks ws r.chunks) (narrowed_tree ws r.query) (fewer-alike ws r fit h) out stores is

-- and what it left of its stores
pub fewer-left : (ws : List Bool) (r : Run) (stores : List StoreSeen) → All (λ c. FitsSchema r.query.schema c.frame) r.chunks → covers ws r.query ≡ true → HaveWholeFrames (narrowed_run ws r) stores → HaveWholeFrames r stores
fewer-left ws r stores fit h all = left-alike r (narrowed_chunks ws r.chunks) (narrowed_tree ws r.query) (fewer-alike ws r fit h) stores all

-- ---- counts

-- chunks have as many rows, behind others
rows-behind : (ws : List Bool) (before : ℕ) (chunks : List DataChunk) → fold (λ n (c : DataChunk). n + c.frame.height) before (narrowed_chunks ws chunks) ≡ fold (λ n (c : DataChunk). n + c.frame.height) before chunks
rows-behind ws before [] = refl
rows-behind ws before (c ∷ cs) = rows-behind ws (before + c.frame.height) cs

pub rows-as-many : (ws : List Bool) (chunks : List DataChunk) → total_height (narrowed_chunks ws chunks) ≡ total_height chunks
rows-as-many ws chunks = rows-behind ws 0 chunks

-- and are as many
pub chunks-as-many : (ws : List Bool) (chunks : List DataChunk) → length (narrowed_chunks ws chunks) ≡ length chunks
chunks-as-many ws chunks = length-map chunks (narrowed_chunk ws)
