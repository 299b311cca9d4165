use Rattle.std.specs.List.{range_with_len}
use Rattle.tool_made.proofs.Heights.{all-rows, chunks-fit, few-chunks}
use Rattle.tool_made.proofs.laws.chunks_of_generated_rows.Goals as goal
use Rattle.tool_made.specs.Made.{chunk_count}

pub returns-clause-fit : goal.returns-clause-fit
returns-clause-fit c m = chunks-fit m (range_with_len 0 (chunk_count m))

pub returns-clause-rows : goal.returns-clause-rows
returns-clause-rows c m some = all-rows m some

pub returns-clause-few : goal.returns-clause-few
returns-clause-few c m some = few-chunks m some
