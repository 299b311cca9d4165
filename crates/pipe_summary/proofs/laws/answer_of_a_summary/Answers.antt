use Rattle.pipe_summary.proofs.laws.answer_of_a_summary.Goals as goal
use Rattle.pipe_summary.proofs.SummedFacts.{frames-answer, runs-answer}

pub returns-clause-runs : goal.returns-clause-runs
returns-clause-runs c = runs-answer

pub returns-clause-frames : goal.returns-clause-frames
returns-clause-frames c = frames-answer
