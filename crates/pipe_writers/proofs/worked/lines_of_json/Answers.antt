use Rattle.std.proofs.Common.{refl}
use Rattle.std.specs.Fmt.{digits}
use Rattle.json.specs.Print.{escape_byte}
use Rattle.pipe_writers.proofs.worked.lines_of_json.Goals as goal

pub returns : goal.returns
unfolding escape_byte digits
returns c = record { row = refl; values = refl; escapes = refl; control = refl; no_column = refl }
