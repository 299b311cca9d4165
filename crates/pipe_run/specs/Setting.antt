-- How a run that is fed in rounds was begun, and the run over the chunks fed.
use Rattle.std.specs.Prelude.{ℕ, Bool, List, map}
use Rattle.std.specs.List.{zip}
use Rattle.pipe_columns.specs.declared.data_chunk.DataChunk.{DataChunk}
use Rattle.pipe_aggs.specs.declared.query.Query.{Query}
use Rattle.pipe_aggs.specs.QueryTrees.{query_tree}
use Rattle.pipe_plan.specs.declared.event.SpillAction.{SpillAction}
use Rattle.pipe_plan.specs.declared.limits.Limits.{Limits}
use Rattle.pipe_plan.specs.Run.{Run, StoreSeen}

-- its query, its limits, each worker's actions and rule, and the stores as they were when it was
-- begun
pub record Setting : Type 0 where
  pub query : Query
  pub limits : Limits
  pub actions : List (List SpillAction)
  pub rules : List SpillAction
  pub stores : List StoreSeen

-- the run over chunks; while it is open, more may follow
abbrev pub run_over : Setting → Bool → List DataChunk → Run
run_over s is_open chunks = record {
  chunks = chunks;
  query = query_tree s.query;
  limits = s.limits;
  actions = s.actions;
  rules = s.rules;
  is_open = is_open;
  stores = s.stores;
}

-- a store whose count of faults stands elsewhere
abbrev pub with_faults : StoreSeen → ℕ → StoreSeen
with_faults s faults =
    record { held = s.held; told = s.told; faults = faults; sure = s.sure; path = s.path }

-- a run whose stores' counts of faults stand elsewhere
abbrev pub counted_from : Run → List ℕ → Run
counted_from r faults = record r { stores = map (λ e. with_faults e.0 e.1) (zip r.stores faults) }
