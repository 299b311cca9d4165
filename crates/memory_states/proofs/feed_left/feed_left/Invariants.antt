use Rattle.std.proofs.Common.{◌≡◌, ◌≤◌, length}
use Rattle.pipe_saving.specs.Refusals.{AllFit, AreFew}
use Rattle.pipe_source.specs.Reader.{given_fields}
use Rattle.rollup_save.specs.Taken.{WereTaken}
use Rattle.memory_states.proofs.feed_left.feed_left.Given as goal

-- the chunks that were read so far are those that were taken, one at each turn
abbrev pub invariant-loop : goal.invariant-loop
invariant-loop g l =
    let input = g.I.InputFiles in
    record {
      told : input.told l.input ≡ input.told l.fn.input;
      later : input.faults l.fn.input ≤ input.faults l.input;
      query : l.saving.query ≡ l.fn.saving.query;
      first : l.saving.first ≡ l.fn.saving.first;
      fields : given_fields l.reader ≡ l.fn.saving.query.schema;
      few : AreFew l.fn.saving.first l.saving.taken;
      turns : l.counter ≡ length l.saving.taken;
      fit : AllFit l.fn.saving.query.schema l.saving.taken;
      taken : WereTaken (input.told l.fn.input) l.fn.reader l.saving.taken l.reader;
    }
