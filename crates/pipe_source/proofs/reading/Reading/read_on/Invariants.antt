use Rattle.std.proofs.Common.{◌≡◌, ◌≤◌, ◌<◌, ◌-◌, length}
use Rattle.pipe_io.specs.Tried.{AreTried}
use Rattle.pipe_source.specs.Kept.{IsSourcePlace, state_behind}
use Rattle.pipe_source.specs.ReadOn.{HasReadOn, state_ahead}
use Rattle.pipe_source.proofs.RoundFacts.{StandsAt}
use Rattle.pipe_source.proofs.reading.Reading.read_on.Given as goal

-- chunks of the files so far were read, and where fewer than so many, the others lie behind the last place
abbrev pub invariant-files : goal.invariant-files
invariant-files g l =
    let input = g.I.InputFiles in
    record {
      told : input.told l.input ≡ input.told l.fn.input;
      later : input.faults l.fn.input ≤ input.faults l.input;
      read : HasReadOn l.self (input.told l.fn.input) l.fn.first l.fn.chunks.items l.chunks.items l.ahead;
      tried : AreTried (input.tried l.fn.input) (input.tried l.input) (state_behind l.self l.fn.first).names (state_behind l.self l.last).names;
      names : (state_ahead l.self l.fn.first l.ahead).names ≡ (state_behind l.self l.last).names;
      few : length l.chunks.items ≤ l.count;
      place : IsSourcePlace l.self l.last;
      next : length l.chunks.items < l.count → StandsAt l.self (input.told l.fn.input) l.fn.first l.ahead l.last;
    }

abbrev pub decreases-files : goal.decreases-files
decreases-files g l = l.count - length l.chunks.items
