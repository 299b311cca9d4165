use Rattle.std.proofs.Common.{◌≡◌, ◌<◌, ◌+◌, ◌*◌, ◌/◌, ◌%◌, ℕ, length, arith, refl, rules}
use Rattle.pipe_scan.proofs.StopFacts.{fresh-marked}
use Rattle.pipe_source.proofs.PieceRows.{noted-before, noted-start, start-skips}
use Rattle.pipe_source.proofs.piece_starts.row_place.Goals as goal

pub returns-in-Done : goal.returns-in-Done
returns-in-Done c =
    let piece = c.args.piece.now in
    let text = c.args.text.now in
    let grain : ℕ = c.args.grain in
    let k : ℕ = c.args.row / grain in
    let few : k < length piece.places.items = noted-before c.args.row grain (length piece.places.items) c.requires.grain (omega (arith, c.requires.places.all, c.requires.row)) in
    let cursor : c.new-stops.result.cursor ≡ piece.low + c.index-noted.result.now = search rules in
    let start = noted-start text grain k c.index-noted.result.now c.new-stops.result.cursor piece c.requires.places few c.index-noted.ensures cursor in
    let skips = rw c.in-Done.is at c.in_ok-skip_rows.ensures.skips in
    let all : k * grain + c.args.row % grain ≡ c.args.row = omega (arith, c.requires.grain) in
    rw c.cursor.ensures (start-skips text piece.low c.new-stops.result.cursor c.skip_rows.new.stops.cursor _ (k * grain) (c.args.row % grain) c.args.row start skips all)

pub skip_rows-requires : goal.skip_rows-requires
skip_rows-requires c =
    let piece = c.args.piece.now in
    let text = c.args.text.now in
    let grain : ℕ = c.args.grain in
    let k : ℕ = c.args.row / grain in
    let few : k < length piece.places.items = noted-before c.args.row grain (length piece.places.items) c.requires.grain (omega (arith, c.requires.places.all, c.requires.row)) in
    let place : ℕ = piece.low + c.index-noted.result.now in
    let start = noted-start text grain k c.index-noted.result.now place piece c.requires.places few c.index-noted.ensures refl in
    rw c.new-stops.ensures (fresh-marked text place start.within)
