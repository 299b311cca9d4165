use Rattle.std.proofs.Common.{◌≡◌, ◌≤◌, length, take, true}
use Rattle.pipe_io.specs.Files.{IsRead}
use Rattle.pipe_io.proofs.whole_file.read_begun.Given as goal

-- the bytes so far were read, and more may be left
abbrev pub invariant-loop-turn : goal.invariant-loop-turn
invariant-loop-turn g l =
    let input = g.I.InputFiles in
    record {
      told : input.told l.input ≡ input.told l.fn.input;
      started : input.begun l.input ≡ true;
      tried : input.tried l.input ≡ input.tried l.fn.input;
      later : input.faults l.fn.input ≤ input.faults l.input;
      within : l.filled ≤ length l.bytes.items;
      read : IsRead (input.told l.fn.input) l.fn.name (input.left l.input) (take l.filled l.bytes.items);
      turns : l._turn ≤ l.filled;
    }
