-- Rows that are saved in parts.
use Rattle.std.specs.Prelude.{ℕ, ◌+◌, List, [], ◌∷◌, length, map, All}
use Rattle.std.specs.List.{flat_map, IsDistinct}
use Rattle.pipe_columns.specs.declared.data_chunk.DataChunk.{DataChunk}
use Rattle.pipe_columns.specs.Row.{Row}
use Rattle.pipe_model.specs.Query.{QueryTree}
use Rattle.pipe_model.specs.Rows.{HaveDistinctPlaces, rows_from}
use Rattle.pipe_states.specs.Ranges.{IsWithin, share_number}
use Rattle.pipe_states.specs.Regrouped.{kept}
use Rattle.pipe_states.specs.States.{state, StateSeen}

-- rows that are saved together, and the positions of their chunks, from the first up to but without
-- the end
pub record Part : Type 0 where
  pub first : ℕ
  pub end : ℕ
  pub rows : List Row

-- the part of chunks of a query, of which the first has a position
abbrev pub part_of : QueryTree → ℕ → List DataChunk → Part
part_of q first chunks = record {
  first = first;
  end = first + length chunks;
  rows = rows_from q first chunks;
}

-- parts of chunks, one behind another from a position on
abbrev pub parts_from : QueryTree → ℕ → List (List DataChunk) → List Part
parts_from q first [] = []
parts_from q first (chunks ∷ others) =
    part_of q first chunks ∷ parts_from q (first + length chunks) others

-- the state of a part
abbrev pub saved : QueryTree → Part → StateSeen
saved q p = state q p.rows p.first p.end

-- the rows of parts, in order
abbrev pub rows_of_parts : List Part → List Row
rows_of_parts parts = flat_map (λ p. p.rows) parts

-- the rows of a part stand in its chunks, each at a place of its own
pub record IsInRange (p : Part) : Type 0 where
  pub within : All (λ r. IsWithin p.first p.end r.place) p.rows
  pub distinct : HaveDistinctPlaces p.rows

-- parts whose rows lie in ranges of which no two share a number
pub record LieApart (parts : List Part) : Type 0 where
  pub in_range : All IsInRange parts
  pub apart : IsDistinct (λ p r. share_number p.first p.end r.first r.end) parts

-- a row with a part of its key
abbrev pub kept_row : List ℕ → Row → Row
kept_row keep r = record r { key = kept keep r.key }

-- rows with a part of their keys
abbrev pub kept_rows : List ℕ → List Row → List Row
kept_rows keep rs = map (kept_row keep) rs
