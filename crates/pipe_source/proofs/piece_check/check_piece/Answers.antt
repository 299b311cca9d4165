use Rattle.std.proofs.Common.{◌∙◌, ◌+◌, ◌^◌, ◌-◌, ℕ, get_or, refl, sym, arith}
use Rattle.pipe_scan.specs.Lines.{has_no_quote}
use Rattle.pipe_scan.specs.Records.{between}
use Rattle.pipe_source.proofs.PieceRows.{piece-rows, plain-from}
use Rattle.pipe_source.proofs.piece_check.check_piece.Goals as goal

pub returns-in-Ok : goal.returns-in-Ok
returns-in-Ok c =
    let rows = c.in-Ok.ensures.reads in
    let bounds = c.args.bounds.now in
    let low : ℕ = get_or bounds c.args.n 0 in
    let high : ℕ = get_or bounds (c.args.n + 1) 0 in
    piece-rows c.args.file (2 ^ 64 - 1) c.args.layout.now c.args.fields.now c.args.text.now low high c.args.grain (record { low = low; count = c.in-Ok.count; places = c.in-Ok.places }) rows.0 c.requires.part (plain-from (has_no_quote (between c.args.text.now low high)) (sym c.has_quote.ensures ∙ c.if-has_quote.false)) (omega (arith, c.requires.small)) refl rows.1 rows.2 c.in-Ok.ensures.starts
