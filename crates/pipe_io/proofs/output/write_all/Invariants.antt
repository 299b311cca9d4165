use Rattle.std.proofs.Common.{◌≡◌, ◌≤◌, [], is_some, length, take}
use Rattle.std.specs.Io.KnownBytes.{Appends}
use Rattle.pipe_io.proofs.output.write_all.Given as goal

-- the bytes done so far were appended, and whether the output tells is as before
abbrev pub invariant-loop-turn : goal.invariant-loop-turn
invariant-loop-turn g l =
    let output = g.O.Output in
    record {
      within : l.done ≤ length l.bytes;
      turns : l._turn ≤ l.done;
      later : output.faults l.fn.output ≤ output.faults l.output;
      idle : l.bytes ≡ [] → l.output ≡ l.fn.output;
      tells : is_some (output.told l.output) ≡ is_some (output.told l.fn.output);
      wrote : Appends (output.told l.fn.output) (output.told l.output) (take l.done l.bytes);
    }
