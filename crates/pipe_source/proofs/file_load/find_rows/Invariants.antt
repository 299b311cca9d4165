use Rattle.std.proofs.Common.{◌≡◌, ◌≤◌, drop}
use Rattle.pipe_io.specs.Tried.{AreTried}
use Rattle.pipe_source.specs.Found.{ArePassed}
use Rattle.pipe_source.proofs.file_load.find_rows.Given as goal

-- the files so far have no wanted rows
abbrev pub invariant-loop-i : goal.invariant-loop-i
invariant-loop-i g l =
    let input = g.I.InputFiles in
    record {
      told : input.told l.input ≡ input.told l.fn.input;
      later : input.faults l.fn.input ≤ input.faults l.input;
      tried : AreTried (input.tried l.fn.input) (input.tried l.input) (drop l.last.file l.names) (drop l.i l.names);
      passed : ArePassed l.by_name l.options l.fields (input.told l.fn.input) l.names l.last l.i;
    }
