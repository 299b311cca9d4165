use Rattle.std.proofs.Common.{◌∙◌, [], map, append-nil, rules}
use Rattle.pipe_columns.specs.Frame.{row_at}
use Rattle.pipe_csv.specs.Texts.{field_of, header_text, line_of}
use Rattle.pipe_csv.proofs.RowsLemmas.{flat_map-range-more}
use Rattle.pipe_csv.proofs.WrittenLemmas.{nothing-written}
use Rattle.pipe_csv.proofs.csv_text.frame_text.Goals as goal

pub loop-row-init : goal.loop-row-init
loop-row-init c =
    let w = c.from_writer-writer.ensures in
    let fresh = nothing-written c.from_writer-writer.result (search rules) w.empty (w.cfg ∙ c.new.ensures) w.fields w.wrote in
    rw (append-nil, ← c.columns.ensures.columns) (c.in_ok-write_header.ensures [] fresh)

pub loop-row-preserved : goal.loop-row-preserved
loop-row-preserved c =
    rw (flat_map-range-more (λ n. line_of (map field_of (row_at c.args.frame.now.columns n))) (header_text c.args.frame.now) c.loop-row.row)
    (c.in_ok-write_row.ensures _ c.loop-row.invariant)
