-- What contracts see of a summary.
use Rattle.std.specs.Prelude.{List}
use Rattle.pipe_aggs.specs.declared.query.Query.{Query}
use Rattle.pipe_states.specs.States.{StateSeen}

-- a summary: its query, its store, and the states that the frames of the store were when they were
-- read or put, in order
pub record SummarySeen (Store : Type 0) : Type 0 where
  pub query : Query
  pub store : Store
  pub states : List StateSeen

-- states in turn, and the query that they are of
pub record ReachedSeen : Type 0 where
  pub query : Query
  pub states : List StateSeen
