use Rattle.std.proofs.Common.{refl}
use Rattle.pipe_csv.proofs.FieldFacts.{text-none, text-some}
use Rattle.pipe_csv.proofs.field.read_text.Goals as goal

pub returns-in-Some : goal.returns-in-Some
returns-in-Some c = text-some c.args.text.now c.in_ok-from_slice.field-0.items c.in-Some.text c.in_ok-from_slice.ensures.items c.in-Some.ensures.some c.in-Some.ensures.text

pub returns-in-None : goal.returns-in-None
returns-in-None c = text-none c.args.text.now c.in_ok-from_slice.field-0.items c.in_ok-from_slice.ensures.items (c.in-None.ensures.none refl)
