-- Of the proofs alone: what rows of matches say where the numbers of a run are known.
use Rattle.std.specs.Prelude.{ℕ, List, Option, Some, None, codes, if◌then◌else◌, option_and_then}
use Rattle.clap.specs.Words.{Row, first_of}
use Rattle.pipe_plan.specs.declared.limits.Limits.{Limits}
use Rattle.pipe_words.specs.Actions.{actions_of, rules_of}
use Rattle.pipe_words.specs.Command.{words_in}
use Rattle.pipe_words.specs.Plans.{PlanSeen, are_fit, format_named}

-- a plan of numbers that are known
abbrev pub rest_plan : Limits → ℕ → Option ℕ → Option ℕ → List Row → Option PlanSeen
rest_plan limits chunk seed limit rows =
    option_and_then (λ actions.
    option_and_then (λ rules.
    option_and_then (λ format.
    if are_fit seed (words_in rows) then Some (record {
      limits = limits;
      chunk = chunk;
      actions = actions;
      rules = rules;
      spill_dir = first_of (codes "spill-dir") rows;
      rows = limit;
      format = format;
      generate = seed;
      words = words_in rows;
    }) else None)
    (format_named (first_of (codes "format") rows)))
    (rules_of limits.workers (first_of (codes "actions") rows)))
    (actions_of limits.workers (first_of (codes "actions") rows))
