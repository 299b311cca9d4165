-- What the words of a command say.
use Rattle.std.specs.Prelude.{◌≡◌, ◌≤◌, ◌<◌, ℕ, ◌==◌, Bool, not, List, length, map, codes, bytes_eq, Option, Some, None, IfSome, option_and_then, option_map, if◌then◌else◌}
use Rattle.clap.specs.Words.{Row, first_of}
use Rattle.pipe_plan.specs.declared.event.SpillAction.{SpillAction}
use Rattle.pipe_plan.specs.declared.limits.Limits.{Limits}
use Rattle.pipe_plan.specs.declared.limits.SinkKind.{SinkKind}
use Rattle.pipe_plan.specs.declared.limits.SinkKind.TheVariants as sink_kind
use Rattle.pipe_words.specs.Actions.{actions_of, rules_of}
use Rattle.pipe_words.specs.Command.{found_in, words_in}
use Rattle.pipe_words.specs.Numbers.{most, number_or, up_to}
use Rattle.pipe_words.specs.declared.plan.Format.{Format}
use Rattle.pipe_words.specs.declared.plan.Format.TheVariants as format
use Rattle.pipe_words.specs.declared.plan.Plan.{Plan}

-- what the words of a command say: how it runs, and its words that belong to no option
pub record PlanSeen : Type 0 where
  pub limits : Limits
  pub chunk : ℕ
  pub actions : List (List SpillAction)
  pub rules : List SpillAction
  pub spill_dir : Option (List ℕ)
  pub rows : Option ℕ
  pub format : Format
  pub generate : Option ℕ
  pub words : List (List ℕ)

-- a plan, with its lists
abbrev pub plan_seen : Plan → PlanSeen
plan_seen p = record {
  limits = p.limits;
  chunk = p.chunk;
  actions = map (λ l. l.items) p.actions.items;
  rules = p.rules.items;
  spill_dir = p.spill_dir;
  rows = p.rows;
  format = p.format;
  generate = p.generate;
  words = p.words.items;
}

-- the sink of a name
abbrev pub sink_named : Option (List ℕ) → Option SinkKind
sink_named None = Some sink_kind.Generic
sink_named (Some name) =
    if bytes_eq name (codes "generic") then Some sink_kind.Generic
    else (if bytes_eq name (codes "number") then Some sink_kind.Primitive
    else (if bytes_eq name (codes "text") then Some sink_kind.Text
    else None))

-- the format of a name
abbrev pub format_named : Option (List ℕ) → Option Format
format_named None = Some format.Csv
format_named (Some name) =
    if bytes_eq name (codes "csv") then Some format.Csv
    else (if bytes_eq name (codes "json") then Some format.Json
    else None)

-- the sink and the numbers of a run, as options say them
abbrev pub limits_of : List Row → Option Limits
limits_of rows =
    option_and_then (λ sink.
    option_and_then (λ workers.
    option_and_then (λ partitions.
    option_and_then (λ spill_size.
    option_and_then (λ buffer_size.
    option_and_then (λ payload_limit.
    Some (record {
      sink = sink;
      workers = workers;
      partitions = partitions;
      spill_size = spill_size;
      buffer_size = buffer_size;
      payload_limit = payload_limit;
    }))
    (number_or 64 0 most (first_of (codes "payloads") rows)))
    (number_or 2048 1 most (first_of (codes "buffer") rows)))
    (number_or 10000 0 most (first_of (codes "spill-size") rows)))
    (number_or 1 1 4096 (first_of (codes "partitions") rows)))
    (number_or 1 1 256 (first_of (codes "workers") rows)))
    (sink_named (first_of (codes "sink") rows))

-- the seed of generated rows, if an option asks for them
abbrev pub seed_of : Option (List ℕ) → Option (Option ℕ)
seed_of text = up_to 4294967295 text

-- the limit of rows; with a seed, how many rows are generated
abbrev pub limit_of : Option ℕ → Option (List ℕ) → Option (Option ℕ)
limit_of None text = up_to most text
limit_of (Some seed) text = option_map Some (number_or 1000 0 10000000 text)

-- whether words are as they should be: with a seed there are none, and without one a query is there
abbrev pub are_fit : Option ℕ → List (List ℕ) → Bool
are_fit None words = not (length words == 0)
are_fit (Some seed) words = length words == 0

-- what rows of matches say, where each value is one of its option and the words are as they should be
abbrev pub rows_plan : List Row → Option PlanSeen
rows_plan rows =
    option_and_then (λ limits.
    option_and_then (λ chunk.
    option_and_then (λ seed.
    option_and_then (λ limit.
    option_and_then (λ actions.
    option_and_then (λ rules.
    option_and_then (λ format.
    if are_fit seed (words_in rows) then Some (record {
      limits = limits;
      chunk = chunk;
      actions = actions;
      rules = rules;
      spill_dir = first_of (codes "spill-dir") rows;
      rows = limit;
      format = format;
      generate = seed;
      words = words_in rows;
    }) else None)
    (format_named (first_of (codes "format") rows)))
    (rules_of limits.workers (first_of (codes "actions") rows)))
    (actions_of limits.workers (first_of (codes "actions") rows)))
    (limit_of seed (first_of (codes "rows") rows)))
    (seed_of (first_of (codes "generate") rows)))
    (number_or 50000 1 most (first_of (codes "chunk") rows)))
    (limits_of rows)

-- what words say, where they are taken
abbrev pub plan_of : List (List ℕ) → Option PlanSeen
plan_of words = option_and_then rows_plan (found_in words)

-- the numbers of a run are within their ranges
pub record AreWithin (l : Limits) : Type 0 where
  pub some_worker : 1 ≤ l.workers
  pub most_workers : l.workers ≤ 256
  pub some_partition : 1 ≤ l.partitions
  pub most_partitions : l.partitions ≤ 4096
  pub some_buffer : 1 ≤ l.buffer_size

-- a plan can be run: its numbers are within their ranges, each worker has a list of actions and a rule,
-- a chunk has a row, there is a word where no rows are generated, and else there are at most ten million
pub record CanRun (p : PlanSeen) : Type 0 where
  pub limits : AreWithin p.limits
  pub actions : length p.actions ≡ p.limits.workers
  pub rules : length p.rules ≡ p.limits.workers
  pub chunk : 0 < p.chunk
  pub words : p.generate ≡ None → 0 < length p.words
  pub rows : IfSome p.generate (λ seed. IfSome p.rows (λ n. n ≤ 10000000))
