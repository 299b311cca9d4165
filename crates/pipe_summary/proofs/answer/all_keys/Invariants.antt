use Rattle.std.proofs.Common.{◌≡◌}
use Rattle.std.specs.List.{range_with_len}
use Rattle.pipe_summary.proofs.answer.all_keys.Given as goal

-- the positions so far
abbrev pub invariant-loop-index : goal.invariant-loop-index
invariant-loop-index l = l.keep.items ≡ range_with_len 0 l.index
