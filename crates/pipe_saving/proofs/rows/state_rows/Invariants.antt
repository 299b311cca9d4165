use Rattle.std.proofs.Common.{◌≡◌, map}
use Rattle.std.specs.List.{range_with_len}
use Rattle.pipe_saving.specs.Lists.{row_in}
use Rattle.pipe_saving.proofs.RowFacts.{SameFrom}
use Rattle.pipe_saving.proofs.rows.state_rows.Given as goal

-- the rows so far, and lists that are as before from the next number on
abbrev pub invariant-loop-number : goal.invariant-loop-number
invariant-loop-number l = record {
  rows : l.rows.items ≡ map (row_in l.fn.keys l.fn.results l.firsts l.extents) (range_with_len 0 l.number);
  keys : SameFrom l.number l.keys l.fn.keys;
  results : SameFrom l.number l.results l.fn.results;
}
