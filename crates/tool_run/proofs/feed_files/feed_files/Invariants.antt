use Rattle.std.proofs.Common.{◌≡◌, ◌<◌, ◌≤◌, ◌^◌, length}
use Rattle.std.specs.List.{All}
use Rattle.pipe_columns.specs.Frame.{FitsSchema}
use Rattle.pipe_io.specs.Tried.{AreTried}
use Rattle.pipe_model.specs.Rows.{total_height}
use Rattle.pipe_run.specs.Failing.{NoneFailed}
use Rattle.pipe_source.specs.Reader.{given_fields}
use Rattle.tool_run.specs.Rounds.{WereTaken}
use Rattle.tool_run.proofs.feed_files.feed_files.Given as goal

-- the chunks that were read so far are those that the run was fed, and each round read one or more
abbrev pub invariant-loop : goal.invariant-loop
invariant-loop g l =
    let input = g.I.InputFiles in
    record {
      told : input.told l.input ≡ input.told l.fn.input;
      later : input.faults l.fn.input ≤ input.faults l.input;
      tried : AreTried (input.tried l.fn.input) (input.tried l.input) l.fn.reader.names l.reader.names;
      setting : l.run.setting ≡ l.fn.run.setting;
      fields : given_fields l.reader ≡ l.fn.run.setting.query.schema;
      chunks : l.before.chunks ≡ length l.run.chunks;
      rows : l.before.rows ≡ total_height l.run.chunks;
      few_chunks : l.before.chunks < 2 ^ 32;
      few_rows : l.before.rows < 2 ^ 32;
      rounds : l.counter ≤ l.before.chunks;
      fit : All (λ c. FitsSchema l.fn.run.setting.query.schema c.frame) l.run.chunks;
      counted : NoneFailed l.fn.run.stores l.run.stores;
      taken : WereTaken (input.told l.fn.input) l.fn.reader l.run.chunks l.reader;
    }
