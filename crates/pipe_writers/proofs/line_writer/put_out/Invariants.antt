use Rattle.std.proofs.Common.{◌≡◌, ◌++◌, ◌-◌, ◌≤◌, flat_map, is_some, take}
use Rattle.std.specs.Io.KnownBytes.{Appends}
use Rattle.pipe_lines.specs.Rows.{frame_rows}
use Rattle.pipe_writers.proofs.line_writer.put_out.Given as goal

-- the lines of the rows up to the next were sent
abbrev pub invariant-loop-piece : goal.invariant-loop-piece
invariant-loop-piece g l =
    let output = g.O.Output in
    let line = (g.L.Lines.shape l.lines).line in
    record {
      within : l.piece.next ≤ l.frame.height;
      sent : Appends (output.told l.fn.output) (output.told l.output) (l.fn.text.items ++ flat_map line (take l.piece.next (frame_rows l.frame)));
      tells : is_some (output.told l.output) ≡ is_some (output.told l.fn.output);
      later : output.faults l.fn.output ≤ output.faults l.output;
    }

abbrev pub decreases-loop-piece : goal.decreases-loop-piece
decreases-loop-piece g l = l.frame.height - l.piece.next
