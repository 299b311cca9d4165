-- Runs that go on from each other.
use Rattle.std.specs.Prelude.{◌≡◌, ℕ, true, List, ◌++◌, take}
use Rattle.pipe_columns.specs.declared.data_chunk.DataChunk.{DataChunk}
use Rattle.pipe_plan.specs.Run.{Run}

-- a list begins with another, its front
pub record IsFront {A : Type 0} (front xs : List A) : Type 0 where
  pub rest : List A
  pub is : xs ≡ front ++ rest

-- a run goes on from another: over its chunks and perhaps more, open or closed, with any stores
pub record GoesOn (r s : Run) : Type 0 where
  pub more : List DataChunk
  pub chunks : s.chunks ≡ r.chunks ++ more
  pub query : s.query ≡ r.query
  pub limits : s.limits ≡ r.limits
  pub actions : s.actions ≡ r.actions
  pub rules : s.rules ≡ r.rules

-- a run as it was when its first n chunks were fed
abbrev pub run_until : Run → ℕ → Run
run_until r n = record r { chunks = take n r.chunks; is_open = true }
