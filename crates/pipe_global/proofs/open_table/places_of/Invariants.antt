use Rattle.std.proofs.Common.{◌≡◌, ◌≤◌, vec_capacity, vec_len}
use Rattle.std.specs.List.{All}
use Rattle.pipe_aggs.specs.QueryTrees.{query_tree}
use Rattle.pipe_global.specs.Opening.{IsEmptyPlace}
use Rattle.pipe_global.proofs.open_table.places_of.Given as goal

abbrev pub invariant-loop-number : goal.invariant-loop-number
invariant-loop-number l =
    (vec_len l.places ≡ l._number)
    × All (IsEmptyPlace (query_tree l.query) l.workers) l.places.items
    × (l.partitions ≤ vec_capacity l.places)
