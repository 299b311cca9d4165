use Rattle.std.proofs.Common.{◌≡◌, ◌≤◌, drop, take}
use Rattle.pipe_aggs.specs.QueryTrees.{query_tree}
use Rattle.pipe_io.specs.Tried.{AreTried}
use Rattle.rollup_roll.specs.Told.{TellStates}
use Rattle.rollup_roll.proofs.roll.add_files.Given as goal

-- the files so far were read, and their states added
abbrev pub invariant-loop-i : goal.invariant-loop-i
invariant-loop-i g l =
    let input = g.I.InputFiles in
    record {
      told : input.told l.input ≡ input.told l.fn.input;
      later : input.faults l.fn.input ≤ input.faults l.input;
      tried : AreTried (input.tried l.fn.input) (input.tried l.input) l.names (drop l.i l.names);
      query : l.regrouping.query ≡ l.query;
      keep : l.regrouping.keep ≡ l.fn.regrouping.keep;
      tell : TellStates (query_tree l.query) (input.told l.fn.input) (take l.i l.names) l.regrouping.files;
    }
