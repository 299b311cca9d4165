use Rattle.std.proofs.Common.{◌≡◌, take}
use Rattle.pipe_aggs.specs.QueryTrees.{query_tree}
use Rattle.pipe_model.specs.Output.{output_schema}
use Rattle.pipe_asked.specs.Stacking.{all_firsts, all_frames}
use Rattle.pipe_asked.proofs.by_place.joined.Given as goal

-- the groups of the parts so far
abbrev pub invariant-loop-groups : goal.invariant-loop-groups
invariant-loop-groups l =
    (l.frame ≡ all_frames (output_schema (query_tree l.query)) (take l.groups-index l.placed))
    × (l.firsts.items ≡ all_firsts (take l.groups-index l.placed))
