-- The rows so far wait.
use Rattle.std.proofs.Common.{◌≡◌}
use Rattle.pipe_aggs.specs.CheckedQuery.{input_types}
use Rattle.pipe_aggs.specs.QueryTrees.{query_tree}
use Rattle.pipe_model.specs.Output.{key_types}
use Rattle.pipe_spill.specs.SpillRow.{AreRows}
use Rattle.pipe_waiting.specs.Waiting.{AreWaiting, waiting_rows}
use Rattle.merge_times.proofs.waits.push_all.Given as goal

abbrev pub invariant-loop-row : goal.invariant-loop-row
invariant-loop-row l =
    let keys = key_types (query_tree l.query) in
    let types = input_types (query_tree l.query) in
    AreWaiting types l.waiting × AreRows keys types (waiting_rows types l.waiting) × (l.waiting.count ≡ l.row)
