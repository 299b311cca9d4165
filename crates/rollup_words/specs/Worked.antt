-- Words, and the query in them.
use Rattle.std.specs.Prelude.{ℕ, List, ◌++◌, codes}

-- a query's columns k, g and v, and where its keys begin
abbrev pub columns_text : List ℕ
columns_text = codes "{\"schema\":[[\"k\",\"Int64\"],[\"g\",\"Int64\"],[\"v\",\"Int64\"]],\"keys\":"

-- its aggregates: the sum s and the first f of v
abbrev pub aggs_text : List ℕ
aggs_text =
    codes ",\"aggs\":[{\"alias\":[{\"sum\":\"v\"},\"s\"]},"
    ++ codes "{\"alias\":[{\"first\":\"v\"},\"f\"]}]"

-- by some keys, s and f, and what stands behind them
abbrev pub query_text : List ℕ → List ℕ → List ℕ
query_text keys behind = columns_text ++ keys ++ aggs_text ++ behind

-- by k and g
abbrev pub by_two_text : List ℕ
by_two_text = query_text (codes "[\"k\",\"g\"]") (codes "}")

-- the same, of which one group is kept
abbrev pub sliced_text : List ℕ
sliced_text = query_text (codes "[\"k\",\"g\"]") (codes ",\"slice\":[0,1]}")

-- the same in the order of the first rows
abbrev pub ordered_text : List ℕ
ordered_text = query_text (codes "[\"k\",\"g\"]") (codes ",\"maintain_order\":true}")

-- the same without a key
abbrev pub keyless_text : List ℕ
keyless_text = query_text (codes "[]") (codes "}")
