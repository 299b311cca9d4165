use Rattle.std.proofs.Common.{◌≡◌, ◌∙◌, ◌+◌, ◌<◌, ◌++◌, ◌∷◌, [], List, length, map, take, ap, sym, arith}
use Rattle.std.proofs.lemmas.List.{map-append, take_more}
use Rattle.std.proofs.lemmas.Option.{unwrap_or-slice_get}
use Rattle.pipe_columns.specs.declared.data_type.DataType.{DataType}
use Rattle.pipe_columns.specs.Row.{Row}
use Rattle.pipe_inputs.specs.ChunkRows.{no_row, row_at}
use Rattle.pipe_spill.specs.SpillRow.{spilled}
use Rattle.pipe_groups.proofs.eval.owned_rows.Goals as goal

pub loop-row-preserved : goal.loop-row-preserved
loop-row-preserved c =
    let rows : List Row = c.args.rows.now in
    let j = c.loop-row.row in
    let types : List DataType = c.args.types.now in
    let within : j < length rows = omega (arith, c.loop-row-test.true, c.len-row-end.ensures) in
    let whole : take (j + 1) rows ≡ take j rows ++ row_at rows j ∷ [] = take_more rows j no_row within ∙ ap (λ (r : Row). take j rows ++ r ∷ []) (sym (unwrap_or-slice_get rows j no_row)) in
    let more : map (spilled types) (take j rows) ++ spilled types (row_at rows j) ∷ [] ≡ map (spilled types) (take (j + 1) rows) = rw whole (sym (map-append (spilled types) (take j rows) (row_at rows j ∷ []))) in
    rw (c.in_ok-push.ensures.items, c.loop-row.invariant, c.in_ok-owned_row.ensures) more
