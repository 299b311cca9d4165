-- The chunks of a run at their positions, and those that are a worker's turns.
use Rattle.std.specs.Prelude.{ℕ, Bool, ◌+◌, ◌%◌, ◌==◌, List, [], ◌∷◌}
use Rattle.std.specs.List.{filter}
use Rattle.pipe_columns.specs.declared.data_chunk.DataChunk.{DataChunk}

-- a chunk at a position, whatever its index was
abbrev pub at_position : ℕ → DataChunk → DataChunk
at_position i c = record { chunk_index = i; frame = c.frame }

-- chunks at their positions, from one on
abbrev pub numbered : ℕ → List DataChunk → List DataChunk
numbered i [] = []
numbered i (c ∷ cs) = at_position i c ∷ numbered (i + 1) cs

-- whether a chunk is a worker's: its position modulo the workers is the worker
abbrev pub is_turn : ℕ → ℕ → DataChunk → Bool
is_turn workers w c = c.chunk_index % workers == w

-- a worker's turns of a run's chunks, each at its position
abbrev pub turns_of : ℕ → ℕ → List DataChunk → List DataChunk
turns_of workers w chunks = filter (is_turn workers w) (numbered 0 chunks)
