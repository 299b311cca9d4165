use Rattle.rollup_roll.proofs.OneEnd.{states-one}
use Rattle.rollup_roll.proofs.laws.files_tell_one_list.Goals as goal

pub returns : goal.returns
returns c = states-one
