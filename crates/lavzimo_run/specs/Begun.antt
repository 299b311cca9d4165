-- Of the proofs alone: how the run of a job is begun.
use Rattle.std.specs.Prelude.{ℕ, Bool, List, [], replicate}
use Rattle.pipe_aggs.specs.declared.query.Query.{Query}
use Rattle.pipe_plan.specs.Run.{StoreSeen}
use Rattle.pipe_run.specs.Setting.{Setting}
use Rattle.lavzimo_run.specs.Jobs.{limits_of, rule_of}

-- by so many workers, over so many partitions, spilling or not, and over these stores
abbrev pub setting_of : Query → ℕ → ℕ → Bool → List StoreSeen → Setting
setting_of q workers partitions spills made = record {
  query = q;
  limits = limits_of workers partitions;
  actions = replicate workers [];
  rules = replicate workers (rule_of spills);
  stores = made;
}
