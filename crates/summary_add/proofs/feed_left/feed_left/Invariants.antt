use Rattle.std.proofs.Common.{◌≡◌, ◌≤◌, length}
use Rattle.pipe_io.specs.Tried.{AreTried}
use Rattle.pipe_source.specs.Reader.{given_fields}
use Rattle.pipe_summary.specs.Additions.{AreFewBehind}
use Rattle.rollup_save.specs.Taken.{WereTaken}
use Rattle.summary_add.proofs.feed_left.feed_left.Given as goal

-- the chunks that were read so far are those that were taken, and each round read one or more
abbrev pub invariant-loop : goal.invariant-loop
invariant-loop g l =
    let input = g.I.InputFiles in
    record {
      told : input.told l.input ≡ input.told l.fn.input;
      later : input.faults l.fn.input ≤ input.faults l.input;
      tried : AreTried (input.tried l.fn.input) (input.tried l.input) l.fn.reader.names l.reader.names;
      query : l.adding.query ≡ l.fn.adding.query;
      rows : l.adding.rows ≡ l.fn.adding.rows;
      first : l.adding.first ≡ l.fn.adding.first;
      fields : given_fields l.reader ≡ l.fn.adding.query.schema;
      few : AreFewBehind l.fn.adding.rows l.fn.adding.first l.adding.taken;
      rounds : l.counter ≤ length l.adding.taken;
      taken : WereTaken (input.told l.fn.input) l.fn.reader l.adding.taken l.reader;
    }
