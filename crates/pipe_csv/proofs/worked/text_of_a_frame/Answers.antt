use Rattle.std.proofs.Common.{refl}
use Rattle.csv.specs.Writing.{fields_text, is_blank}
use Rattle.std.specs.Fmt.{digits}
use Rattle.pipe_csv.proofs.worked.text_of_a_frame.Goals as goal

pub returns : goal.returns
unfolding fields_text is_blank digits
returns c = refl
