use Rattle.std.proofs.Common.{◌^◌, ◌-◌, None, arith, length}
use Rattle.pipe_source.specs.ByName.{text_rows_by}
use Rattle.pipe_source.proofs.LaidFacts.{fits-any}
use Rattle.pipe_source.proofs.PieceRows.{pieces-whole, rows-few}
use Rattle.pipe_source.proofs.piece_rows.look_over_pieces.Goals as goal

pub check_pieces-requires-clause-fit : goal.check_pieces-requires-clause-fit
check_pieces-requires-clause-fit g c = λ κs bounds. fits-any c.args.by_name c.args.fields.now c.in-Ok.found.0 c.in-Ok.ensures.fit

pub returns-clause-rows : goal.returns-clause-rows
returns-clause-rows g c =
    pieces-whole c.args.file (2 ^ 64 - 1) c.in-Ok.found.0 c.args.fields.now c.args.text.now c.in-Ok.found.1 c.in_ok-count.count (text_rows_by c.args.by_name c.args.file None c.args.fields.now c.args.text.now) (c.in-Ok.ensures.rows None) c.in_ok-count.ensures.rows (omega (arith, c.requires.small)) c.in-Ok.ensures.within

pub returns-clause-few : goal.returns-clause-few
returns-clause-few g c = omega (arith, c.requires.small, rows-few c.in-Ok.found.0 c.args.fields.now c.args.text.now c.in-Ok.found.1 (length c.args.text.now) c.in_ok-count.count c.in_ok-count.ensures.rows)
