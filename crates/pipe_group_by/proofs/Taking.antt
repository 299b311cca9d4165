-- Further chunks that the sinks of a run take.
use Rattle.std.proofs.Common.{◌≡◌, ◌∙◌, ℕ, List, [], ◌++◌, length, sym, ap}
use Rattle.std.specs.List.{All}
use Rattle.pipe_columns.specs.declared.data_chunk.DataChunk.{DataChunk}
use Rattle.pipe_aggs.specs.declared.query.Query.{Query}
use Rattle.pipe_sinks.specs.Runs.{Run}
use Rattle.pipe_group_by.specs.Positions.{numbered}
use Rattle.pipe_group_by.specs.Taken.{HaveTaken}
use Rattle.pipe_group_by.proofs.Numbering.{numbered-twice, turns-behind}

-- chunks that were given their positions have them
pub have-positions : (i j : ℕ) (cs now : List DataChunk) → i ≡ j → now ≡ numbered j cs → numbered i now ≡ now
have-positions i j cs now same is = ap (numbered i) is ∙ numbered-twice i j cs ∙ ap (λ k. numbered k cs) same ∙ sym is

-- what was taken is what was fed, whatever its indices were
pub taken-behind : (q : Query) (partitions workers : ℕ) (before chunks : List DataChunk) (k : ℕ) (sinks : List Run) → HaveTaken q partitions workers (before ++ numbered k chunks) sinks → HaveTaken q partitions workers (before ++ chunks) sinks
taken-behind q partitions workers before chunks k sinks taken = record {
  count = taken.count;
  each = λ w d lt. taken.each w d lt ∙ ap {B = Run} (λ (l : List DataChunk). record { query = q; partitions = partitions; taken = l }) (turns-behind workers w before chunks k);
}

-- before the first chunk none was taken
pub taken-none : (q : Query) (partitions workers : ℕ) (sinks : List Run) → length sinks ≡ workers → All (λ s. s ≡ record { query = q; partitions = partitions; taken = [] }) sinks → HaveTaken q partitions workers [] sinks
taken-none q partitions workers sinks count all = record { count = count; each = λ w d lt. all w d lt }
