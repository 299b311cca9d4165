use Rattle.pipe_csv.proofs.FieldFacts.{text-reads}
use Rattle.pipe_csv.proofs.field.is_text.Goals as goal

pub returns-in-Ok : goal.returns-in-Ok
returns-in-Ok c = (text-reads c.args.text.now).0 c.in-Ok.ensures.cases.1

pub returns-in-Err : goal.returns-in-Err
returns-in-Err c = (text-reads c.args.text.now).1 c.in-Err.ensures.cases.0
