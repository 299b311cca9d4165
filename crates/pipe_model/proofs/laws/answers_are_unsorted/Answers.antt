use Rattle.std.specs.Prelude.{map}
use Rattle.pipe_columns.specs.Slice.{sliced}
use Rattle.pipe_model.specs.Answer.{answer_row, groups}
use Rattle.pipe_model.specs.Output.{output_schema}
use Rattle.pipe_model.specs.Rows.{rows}
use Rattle.pipe_model.proofs.FlagFacts.{frame-unsorted}
use Rattle.pipe_model.proofs.laws.answers_are_unsorted.Goals as goal

pub returns : goal.returns
returns c = λ chunks q partitions.
    let rs = rows chunks q in
    frame-unsorted (output_schema q) (map (answer_row q rs) (sliced q.slice (groups rs q partitions)))
