use Rattle.std.proofs.Common.{arith, ◌≡◌, ◌∙◌, ◌++◌, [], List, ℕ, ap}
use Rattle.pipe_lines.specs.Rows.{frame_rows}
use Rattle.pipe_lines.proofs.LineFacts.{all_lines, first_piece, length-rows}
use Rattle.pipe_lines.proofs.all_lines.add_all_lines.Goals as goal

pub loop-piece-init : goal.loop-piece-init
loop-piece-init g c =
    let line = (g.L.Lines.shape c.args.lines.now).line in
    let rows = frame_rows c.args.frame.now in
    record {
      within = c.in_ok-piece.ensures.within;
      added = first_piece line rows _ _ _ c.in_ok-piece.ensures.lines;
    }

pub loop-piece-preserved : goal.loop-piece-preserved
loop-piece-preserved g c = record {
  within = c.in_ok-piece-2.ensures.within;
  added = c.in_ok-piece-2.ensures.lines [] c.args.text.items c.loop-piece.invariant.added;
}

pub returns : goal.returns
returns g c =
    let line = (g.L.Lines.shape c.args.lines.now).line in
    let rows = frame_rows c.args.frame.now in
    let long = length-rows c.args.frame.now in
    c.loop-piece.invariant.added
    ∙ ap (λ t. c.args.text.items ++ t) (all_lines line rows c.loop-piece.piece.next (omega (arith, long, c.loop-piece-test.false, c.height.ensures.height)))
