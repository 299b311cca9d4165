use Rattle.std.proofs.Common.{map}
use Rattle.pipe_aggs.specs.QueryTrees.{query_tree}
use Rattle.pipe_groups.specs.Shape.{shape_of}
use Rattle.pipe_saving.specs.Extents.{IsFed}
use Rattle.pipe_saving.specs.Taken.{spilled_from}
use Rattle.pipe_saving.proofs.FedFacts.{rows_so_far}
use Rattle.pipe_saving.proofs.saving.feed_chunk.Given as goal

-- the groups are fed the rows of the chunks before, and the first of the chunk
abbrev pub invariant-loop-row : goal.invariant-loop-row
invariant-loop-row l =
    IsFed (shape_of (query_tree l.query))
    (rows_so_far (query_tree l.query) (spilled_from (query_tree l.query) l.first (map (λ s. s.value) l.taken)) l.index l.chunk.frame l.row)
    l.groups.table l.groups.extents.items
