use Rattle.rollup_roll.proofs.OneEnd.{frame-one, one-end, refusal-one}
use Rattle.rollup_roll.proofs.laws.files_have_one_end.Goals as goal

pub returns-clause-frame : goal.returns-clause-frame
returns-clause-frame c = λ q keep files names f g. frame-one q files names keep f g

pub returns-clause-refusal : goal.returns-clause-refusal
returns-clause-refusal c = refusal-one

pub returns-clause-either : goal.returns-clause-either
returns-clause-either c = λ q keep files names f e. one-end q files names keep f e
