use Rattle.std.proofs.Common.{◌≡◌, ◌++◌, ◌≤◌, is_some, take}
use Rattle.std.specs.Io.KnownBytes.{Appends}
use Rattle.pipe_lines.specs.Lines.{joined_texts}
use Rattle.pipe_writers.proofs.text_writer.write_texts.Given as goal

-- the head and the texts up to the place were sent
abbrev pub invariant-loop-place : goal.invariant-loop-place
invariant-loop-place g l =
    let output = g.O.Output in
    record {
      sent : Appends (output.told l.fn.output) (output.told l.output) (l.head ++ joined_texts (take l.place l.texts));
      tells : is_some (output.told l.output) ≡ is_some (output.told l.fn.output);
      later : output.faults l.fn.output ≤ output.faults l.output;
    }
