use Rattle.std.proofs.Common.{◌∙◌, sym, subst}
use Rattle.pipe_csv.specs.declared.csv_error.CsvError.TheVariants as ce
use Rattle.pipe_scan.specs.Records.{Records}
use Rattle.pipe_source.specs.Rows.{StopsFirst}
use Rattle.pipe_source.proofs.FieldsLeft.{cut-width}
use Rattle.pipe_source.proofs.row_check.check_row.Goals as goal

pub returns-then-count-fields-clause-stop : goal.returns-then-count-fields-clause-stop
returns-then-count-fields-clause-stop c =
    let row = rw c.in-Plain.is at c.in_ok-next_row.ensures.row in
    let P : Records → Type 0 = λ t. StopsFirst (ce.Width c.args.file c.args.row) c.args.file c.args.row c.args.fields.now t in
    subst P (sym row.takes.0) (cut-width c.args.file c.args.row c.args.fields.now c.args.text.now c.in-Plain.start c.in-Plain.count c.next_row.new.ends row.few c.if-count-fields.true)

pub check_fields-requires-clause-ascii : goal.check_fields-requires-clause-ascii
check_fields-requires-clause-ascii c = c.requires.ascii

pub check_fields-requires-clause-width : goal.check_fields-requires-clause-width
check_fields-requires-clause-width c = c.next_row.ensures.room ∙ c.requires.width
