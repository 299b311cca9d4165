use Rattle.std.proofs.Common.{◌≡◌, ◌++◌, ◌-◌, ◌≤◌, flat_map, take}
use Rattle.pipe_lines.specs.Rows.{frame_rows}
use Rattle.pipe_lines.proofs.all_lines.add_all_lines.Given as goal

-- the lines of the rows up to the next stand behind the text
abbrev pub invariant-loop-piece : goal.invariant-loop-piece
invariant-loop-piece g l =
    let line = (g.L.Lines.shape l.lines).line in
    record {
      within : l.piece.next ≤ l.frame.height;
      added : l.piece.text.items ≡ l.fn.text.items ++ flat_map line (take l.piece.next (frame_rows l.frame));
    }

abbrev pub decreases-loop-piece : goal.decreases-loop-piece
decreases-loop-piece g l = l.frame.height - l.piece.next
