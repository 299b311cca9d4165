-- A query as a text and as a tree.
use Rattle.std.specs.Prelude.{ℕ, List, [], ◌∷◌, codes, false, None, Some}
use Rattle.pipe_plan.specs.declared.event.SpillAction.TheVariants as action
use Rattle.pipe_plan.specs.declared.limits.SinkKind.TheVariants as sink_kind
use Rattle.pipe_words.specs.declared.plan.Format.TheVariants as format
use Rattle.pipe_words.specs.Plans.{PlanSeen}
use Rattle.pipe_columns.specs.declared.data_type.DataType.TheVariants as dt
use Rattle.pipe_model.specs.Kind as kind
use Rattle.pipe_model.specs.Expr.{column}
use Rattle.pipe_model.specs.Query.{each, QueryTree}

-- the sum and the count of v by k
abbrev pub sum_and_count_query : QueryTree
sum_and_count_query = record {
  schema = record { name = codes "k"; dtype = dt.Int64 } ∷ record { name = codes "v"; dtype = dt.Int64 } ∷ [];
  keys = column (codes "k") ∷ [];
  aggs = record { name = codes "s"; kind = kind.sum; input = each (column (codes "v")) }
      ∷ record { name = codes "c"; kind = kind.count; input = each (column (codes "v")) } ∷ [];
  slice = None;
  keeps_order = false;
}

-- the sum and the count of v by k, as a text
abbrev pub sum_and_count_text : List ℕ
sum_and_count_text = codes "{\"schema\":[[\"k\",\"Int64\"],[\"v\",\"Int64\"]],\"keys\":[\"k\"],\"aggs\":[{\"alias\":[{\"sum\":\"v\"},\"s\"]},{\"alias\":[{\"count\":\"v\"},\"c\"]}]}"

-- the same without a key, as a text
abbrev pub keyless_text : List ℕ
keyless_text = codes "{\"schema\":[[\"k\",\"Int64\"],[\"v\",\"Int64\"]],\"keys\":[],\"aggs\":[{\"alias\":[{\"sum\":\"v\"},\"s\"]},{\"alias\":[{\"count\":\"v\"},\"c\"]}]}"

-- words that hold no option: one worker, one partition, stores in memory
abbrev pub plain_plan : List (List ℕ) → PlanSeen
plain_plan words = record {
  limits = record {
    sink = sink_kind.Generic;
    workers = 1;
    partitions = 1;
    spill_size = 10000;
    buffer_size = 2048;
    payload_limit = 64;
  };
  chunk = 50000;
  actions = [] ∷ [];
  rules = action.None ∷ [];
  spill_dir = None;
  rows = None;
  format = format.Csv;
  generate = None;
  words = words;
}

-- the same for generated rows, from a seed
abbrev pub made_plan : ℕ → PlanSeen
made_plan seed = record (plain_plan []) { rows = Some 1000; generate = Some seed }
