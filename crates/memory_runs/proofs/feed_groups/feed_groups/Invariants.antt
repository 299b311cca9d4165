use Rattle.std.proofs.Common.{◌≡◌, ◌≤◌}
use Rattle.pipe_source.specs.Reader.{given_fields}
use Rattle.memory_runs.specs.Counts.{AreCounted, WereTaken}
use Rattle.memory_runs.proofs.feed_groups.feed_groups.Given as goal

-- the chunks that were read so far are those that were taken, one at each turn
abbrev pub invariant-loop : goal.invariant-loop
invariant-loop g l =
    let input = g.I.InputFiles in
    record {
      told : input.told l.input ≡ input.told l.fn.input;
      later : input.faults l.fn.input ≤ input.faults l.input;
      query : l.groups.query ≡ l.fn.groups.query;
      fields : given_fields l.reader ≡ l.fn.groups.query.schema;
      counted : AreCounted l.counted l.groups.taken;
      turns : l.counter ≡ l.counted.chunks;
      taken : WereTaken (input.told l.fn.input) l.fn.reader l.groups.taken l.reader;
    }
