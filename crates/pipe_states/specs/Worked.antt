-- Rows of worked states, and the bytes of one.
use Rattle.std.specs.Prelude.{ℕ, ◌+◌, codes, None, false, List, [], ◌∷◌}
use Rattle.pipe_columns.specs.declared.any_value.AnyValue.{AnyValue}
use Rattle.pipe_columns.specs.declared.any_value.AnyValue.TheVariants as av
use Rattle.pipe_columns.specs.declared.data_type.DataType.TheVariants as dt
use Rattle.pipe_columns.specs.Row.{Row}
use Rattle.pipe_model.specs.Expr.{column}
use Rattle.pipe_model.specs.Kind as kind
use Rattle.pipe_model.specs.Query.{QueryTree}
use Rattle.pipe_model.specs.Worked.{agg_of, by_key, int}
use Rattle.pipe_states.specs.Parts.{Part}
use Rattle.pipe_states.specs.States.{StateSeen}
use Rattle.pipe_states.specs.declared.state_row.StateRow.{StateRow}

-- by k and g, the sum s and the first f of v
abbrev pub by_two : QueryTree
by_two = record {
  schema =
      record { name = codes "k"; dtype = dt.Int64 } ∷ record { name = codes "g"; dtype = dt.Int64 }
      ∷ record { name = codes "v"; dtype = dt.Int64 } ∷ [];
  keys = column (codes "k") ∷ column (codes "g") ∷ [];
  aggs = agg_of (codes "s") kind.sum ∷ agg_of (codes "f") kind.first ∷ [];
  slice = None;
  keeps_order = false;
}

-- row n of a chunk with the values k, g and v
abbrev pub row_at : ℕ → ℕ → ℕ → ℕ → ℕ → Row
row_at chunk n k g v = record {
  place = record { chunk = chunk; row = n };
  key = int k ∷ int g ∷ [];
  inputs = int v ∷ int v ∷ [];
}

-- the rows 1,1,5 and 1,2,6 and 2,1,7, in chunk 0
abbrev pub part_a : Part
part_a = record {
  first = 0;
  end = 1;
  rows = row_at 0 0 1 1 5 ∷ row_at 0 1 1 2 6 ∷ row_at 0 2 2 1 7 ∷ [];
}

-- the row 1,1,9, in chunk 1
abbrev pub part_b : Part
part_b = record { first = 1; end = 2; rows = row_at 1 0 1 1 9 ∷ [] }

-- a state row of k and g: where its rows begin and end, how many they are, s and f
abbrev pub state_of_row : ℕ → ℕ → ℕ → ℕ → ℕ → ℕ → ℕ → ℕ → ℕ → StateRow
state_of_row k g first_chunk first_row last_chunk last_row n s f = record {
  key = int k ∷ int g ∷ [];
  first = record { chunk = first_chunk; row = first_row };
  last = record { chunk = last_chunk; row = last_row };
  rows = n;
  results = int s ∷ int f ∷ [];
}

-- the state of the first three rows
abbrev pub state_a : StateSeen
state_a = record {
  first = 0;
  end = 1;
  rows = state_of_row 1 1 0 0 0 0 1 5 5 ∷ state_of_row 1 2 0 1 0 1 1 6 6
      ∷ state_of_row 2 1 0 2 0 2 1 7 7 ∷ [];
}

-- the state of all four, merged
abbrev pub state_of_both : StateSeen
state_of_both = record {
  first = 0;
  end = 2;
  rows = state_of_row 1 1 0 0 1 0 2 14 5 ∷ state_of_row 1 2 0 1 0 1 1 6 6
      ∷ state_of_row 2 1 0 2 0 2 1 7 7 ∷ [];
}

-- row n of a chunk: of the key 1, with a value that each of eight aggregates is fed
abbrev pub fed_row : ℕ → ℕ → AnyValue → Row
fed_row chunk n v = record {
  place = record { chunk = chunk; row = n };
  key = int 1 ∷ [];
  inputs = v ∷ v ∷ v ∷ v ∷ v ∷ v ∷ v ∷ v ∷ [];
}

-- a part of one chunk of such rows
abbrev pub fed_part : ℕ → List Row → Part
fed_part chunk rows = record { first = chunk; end = chunk + 1; rows = rows }

-- a null and a 5, a 3, and a null alone, in three parts
abbrev pub three_parts : List Part
three_parts =
    fed_part 4 (fed_row 4 0 (int 3) ∷ [])
    ∷ fed_part 0 (fed_row 0 0 av.Null ∷ fed_row 0 1 (int 5) ∷ []) ∷ fed_part 7 (fed_row 7 0 av.Null ∷ []) ∷ []

-- the mean of v by k
abbrev pub mean_by_key : QueryTree
mean_by_key = by_key dt.Int64 dt.Int64 (agg_of (codes "m") kind.mean ∷ [])

-- a state of one row of the key 1, of a value that is fed to the mean
abbrev pub state_of_mean : AnyValue → AnyValue → StateSeen
state_of_mean sum count = record {
  first = 2;
  end = 3;
  rows = record {
    key = int 1 ∷ [];
    first = record { chunk = 2; row = 0 };
    last = record { chunk = 2; row = 0 };
    rows = 1;
    results = sum ∷ count ∷ [];
  } ∷ [];
}

-- the front of its text: the range, the number of rows, the place, the key, the greatest place and
-- the number of rows
abbrev pub front_of_mean : List ℕ
front_of_mean =
    0 ∷ 0 ∷ 0 ∷ 2 ∷ 0 ∷ 0 ∷ 0 ∷ 3 ∷ 0 ∷ 0 ∷ 0 ∷ 0 ∷ 0 ∷ 0 ∷ 0 ∷ 1
    ∷ 0 ∷ 0 ∷ 0 ∷ 2 ∷ 0 ∷ 0 ∷ 0 ∷ 0 ∷ 0 ∷ 0 ∷ 0 ∷ 0 ∷ 0 ∷ 0 ∷ 0 ∷ 9
    ∷ 1 ∷ 128 ∷ 0 ∷ 0 ∷ 0 ∷ 0 ∷ 0 ∷ 0 ∷ 1
    ∷ 1 ∷ 0 ∷ 0 ∷ 0 ∷ 2 ∷ 1 ∷ 0 ∷ 0 ∷ 0 ∷ 0 ∷ 1 ∷ 0 ∷ 0 ∷ 0 ∷ 1 ∷ []
