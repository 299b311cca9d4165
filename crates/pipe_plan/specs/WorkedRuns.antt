-- Worked runs, in short.
use Rattle.std.specs.Prelude.{ℕ, false, true, List, [], ◌∷◌, map, codes, replicate}
use Rattle.pipe_columns.specs.declared.data_chunk.DataChunk.{DataChunk}
use Rattle.pipe_columns.specs.declared.data_type.DataType.TheVariants as dt
use Rattle.pipe_columns.specs.Frame.{frame_of}
use Rattle.pipe_columns.specs.Row.{Row}
use Rattle.pipe_model.specs.Query.{QueryTree}
use Rattle.pipe_model.specs.Worked.{by_key, first_and_last, int, key_value, sum_alone, text}
use Rattle.pipe_plan.specs.declared.event.SpillAction.{SpillAction}
use Rattle.pipe_plan.specs.declared.event.SpillAction.TheVariants as action
use Rattle.pipe_plan.specs.declared.limits.Limits.{Limits}
use Rattle.pipe_plan.specs.declared.limits.SinkKind.TheVariants as sink_kind
use Rattle.pipe_plan.specs.Run.{Run}

-- a chunk of rows k, v of numbers
abbrev pub numbers_chunk : List (ℕ × ℕ) → DataChunk
numbers_chunk rows = record {
  chunk_index = 0;
  frame = frame_of (key_value dt.Int64 dt.Int64) (map (λ x. int x.0 ∷ int x.1 ∷ []) rows);
}

-- a chunk of rows k, v of texts and numbers
abbrev pub texts_chunk : List (List ℕ × ℕ) → DataChunk
texts_chunk rows = record {
  chunk_index = 0;
  frame = frame_of (key_value dt.String dt.Int64) (map (λ x. text x.0 ∷ int x.1 ∷ []) rows);
}

-- the row of a place, a key and the inputs of the aggregates
abbrev pub row_at : ℕ → ℕ → ℕ → List ℕ → Row
row_at chunk row key inputs = record {
  place = record { chunk = chunk; row = row };
  key = int key ∷ [];
  inputs = map int inputs;
}

-- workers, partitions, spill size, buffer size and payload limit, in a generic sink
abbrev pub generic : ℕ → ℕ → ℕ → ℕ → ℕ → Limits
generic workers partitions spill_size buffer_size payload_limit = record {
  sink = sink_kind.Generic;
  workers = workers;
  partitions = partitions;
  spill_size = spill_size;
  buffer_size = buffer_size;
  payload_limit = payload_limit;
}

-- the sum of v by k, which are numbers
abbrev pub sum_by_number : QueryTree
sum_by_number = by_key dt.Int64 dt.Int64 sum_alone

-- the closed run of a query over chunks
abbrev pub run_of : QueryTree → Limits → List (List SpillAction) → List DataChunk → Run
run_of query limits actions chunks = record {
  chunks = chunks;
  query = query;
  limits = limits;
  actions = actions;
  rules = [];
  is_open = false;
  stores = [];
}

-- a run to which more chunks may follow
abbrev pub left_open : Run → Run
left_open r = record r { is_open = true }

-- spill size 0, buffer 1: keys 1, 2, 2 with values 5, 6, 7, then a dump
abbrev pub one_spill : ℕ → Run
one_spill payload_limit =
    run_of sum_by_number (generic 1 1 0 1 payload_limit) ((action.Dump ∷ []) ∷ [])
    (numbers_chunk ((1, 5) ∷ (2, 6) ∷ (2, 7) ∷ []) ∷ [])

-- the same rows in a sink of number keys
abbrev pub typed_keys : Run
typed_keys =
    record (one_spill 0) { limits = record (generic 1 1 0 1 0) { sink = sink_kind.Primitive } }

-- two workers with a chunk each: keys 1, 4 with values 3, 7, and 1, 4 with 5, 9
abbrev pub two_workers : Run
two_workers =
    run_of (by_key dt.Int64 dt.Int64 first_and_last) (generic 2 1 0 1 64) ([] ∷ [] ∷ [])
    (numbers_chunk ((1, 3) ∷ (4, 7) ∷ []) ∷ numbers_chunk ((1, 5) ∷ (4, 9) ∷ []) ∷ [])

-- two partitions: chunks with key 1, no row, and key 1; a dump follows the last two
abbrev pub empty_between : Run
empty_between =
    run_of sum_by_number (generic 1 2 10000 2048 64)
    ((action.None ∷ action.Dump ∷ action.Dump ∷ []) ∷ [])
    (numbers_chunk ((1, 1) ∷ []) ∷ numbers_chunk [] ∷ numbers_chunk ((1, 1) ∷ []) ∷ [])

-- spill size 0, buffer 1: keys 1, 2 and a merge, then key 2
abbrev pub merged_between : Run
merged_between =
    run_of sum_by_number (generic 1 1 0 1 64) ((action.EarlyMerge ∷ []) ∷ [])
    (numbers_chunk ((1, 5) ∷ (2, 6) ∷ []) ∷ numbers_chunk ((2, 7) ∷ []) ∷ [])

-- spill size 0, buffer 2: keys 1, 2 with values 5, 6 in a first round
abbrev pub first_round : List DataChunk
first_round = numbers_chunk ((1, 5) ∷ (2, 6) ∷ []) ∷ []

-- and key 2 with value 7 in a second
abbrev pub both_rounds : List DataChunk
both_rounds = numbers_chunk ((1, 5) ∷ (2, 6) ∷ []) ∷ numbers_chunk ((2, 7) ∷ []) ∷ []

-- the run of these rounds, in which a dump follows each turn
abbrev pub in_rounds : ℕ → List DataChunk → Run
in_rounds buffer_size chunks =
    run_of sum_by_number (generic 1 1 0 buffer_size 0)
    ((action.Dump ∷ action.Dump ∷ []) ∷ []) chunks

-- two partitions, spill size 0, buffer 1: text keys Aa, BB, Aa with values 1, 2, 4
abbrev pub text_keys : Run
text_keys =
    run_of (by_key dt.String dt.Int64 sum_alone) (generic 1 2 0 1 64) ([] ∷ [])
    (texts_chunk ((codes "Aa", 1) ∷ (codes "BB", 2) ∷ (codes "Aa", 4) ∷ []) ∷ [])

-- keys 1, 2, 3 in one chunk, with a spill size and a buffer size
abbrev pub three_keys : ℕ → ℕ → Run
three_keys spill_size buffer_size =
    run_of sum_by_number (generic 1 1 spill_size buffer_size 64) ([] ∷ [])
    (numbers_chunk ((1, 1) ∷ (2, 1) ∷ (3, 1) ∷ []) ∷ [])

-- 256 workers, spill size 0, buffer 1
abbrev pub many_workers : List DataChunk → Run
many_workers chunks = run_of sum_by_number (generic 256 1 0 1 64) (replicate 256 []) chunks

-- three partitions: five chunks with key 1, a merge after each
abbrev pub merges_in_turn : Run
merges_in_turn =
    run_of sum_by_number (generic 1 3 10000 2048 64) (replicate 5 action.EarlyMerge ∷ [])
    (replicate 5 (numbers_chunk ((1, 1) ∷ [])))

-- the same chunks, and a merge after each by the worker's rule
abbrev pub merges_by_rule : Run
merges_by_rule = record merges_in_turn { actions = [] ∷ []; rules = action.EarlyMerge ∷ [] }

-- two workers, whose chunks have key 1: a merge follows each turn of the first, and a dump each turn of
-- the second but its first
abbrev pub two_rules : Run
two_rules = record (run_of sum_by_number (generic 2 1 10000 2048 64)
    ([] ∷ (action.None ∷ []) ∷ []) (replicate 5 (numbers_chunk ((1, 1) ∷ []))))
    { rules = action.EarlyMerge ∷ action.Dump ∷ [] }

-- no aggregate, spill size 0, buffer 1: keys 1, 1, 2, then a dump
abbrev pub keys_alone : Run
keys_alone =
    run_of (by_key dt.Int64 dt.Int64 []) (generic 1 1 0 1 0) ((action.Dump ∷ []) ∷ [])
    (numbers_chunk ((1, 1) ∷ (1, 1) ∷ (2, 1) ∷ []) ∷ [])
