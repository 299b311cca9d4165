use Rattle.std.proofs.Common.{arith}
use Rattle.std.proofs.lemmas.Int.{to_z-of_z}
use Rattle.pipe_csv.proofs.FieldFacts.{int-none, int-some}
use Rattle.pipe_csv.proofs.field.read_integer.Goals as goal

pub returns-in-Some : goal.returns-in-Some
returns-in-Some c = grind (arith, to_z-of_z, int-some c.args.dtype c.args.text.now c.in-Some.number c.in-Some.ensures)

pub returns-in-None : goal.returns-in-None
returns-in-None c = int-none c.args.dtype c.args.text.now c.in-None.ensures
