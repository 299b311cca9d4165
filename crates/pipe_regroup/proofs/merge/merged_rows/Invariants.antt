use Rattle.std.proofs.Common.{length, take}
use Rattle.std.specs.List.{range_with_len}
use Rattle.pipe_aggs.specs.QueryTrees.{query_tree}
use Rattle.pipe_regroup.proofs.QueryGroups.{AreOfStates}
use Rattle.pipe_regroup.proofs.merge.merged_rows.Given as goal

-- the groups are those of the states so far
abbrev pub invariant-loop-file : goal.invariant-loop-file
invariant-loop-file l = let q = query_tree l.query in record { states : AreOfStates q (range_with_len 0 (length q.keys)) (take l.file-index l.files) l.groups }
