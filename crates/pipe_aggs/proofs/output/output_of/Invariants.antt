use Rattle.std.proofs.Common.{◌≡◌, ◌++◌, take, map}
use Rattle.std.specs.List.{flat_map}
use Rattle.pipe_aggs.specs.KnownArena.{agg_columns, key_field}
use Rattle.pipe_exprs.specs.Trees.{tree}
use Rattle.pipe_aggs.proofs.output.output_of.Given as goal

-- the fields of the keys so far
abbrev pub invariant-loop-key : goal.invariant-loop-key
invariant-loop-key l = l.fields.items
    ≡ map (λ n. key_field l.known.fields (tree l.known.exprs n)) (take l.key-index l.query.keys.items)

-- the fields of the keys, and the columns of the aggregates so far
abbrev pub invariant-loop-agg : goal.invariant-loop-agg
invariant-loop-agg l = l.fields.items
    ≡ map (λ n. key_field l.known.fields (tree l.known.exprs n)) l.query.keys.items
    ++ flat_map (λ n. agg_columns l.known.fields (tree l.known.exprs n)) (take l.agg-index l.query.aggs.items)
