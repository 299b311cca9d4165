use Rattle.std.proofs.Common.{◌∙◌, sym, subst}
use Rattle.pipe_csv.specs.declared.csv_error.CsvError.TheVariants as ce
use Rattle.pipe_scan.specs.Records.{Records}
use Rattle.pipe_source.specs.Rows.{StopsFirst}
use Rattle.pipe_source.proofs.FieldsLeft.{cut-width}
use Rattle.pipe_source.proofs.row_push.push_row.Goals as goal

pub returns-then-count-fields-clause-stop : goal.returns-then-count-fields-clause-stop
returns-then-count-fields-clause-stop c =
    let row = rw c.in-Plain.is at c.in_ok-next_row.ensures.row in
    let P : Records → Type 0 = λ t. StopsFirst (ce.Width 1 c.args.row) 1 c.args.row c.args.fields.now t in
    subst P (sym row.takes.0) (cut-width 1 c.args.row c.args.fields.now c.args.text.now c.in-Plain.start c.in-Plain.count c.next_row.new.ends row.few c.if-count-fields.true)

pub push_fields-requires-clause-columns : goal.push_fields-requires-clause-columns
push_fields-requires-clause-columns c = c.requires.columns

pub push_fields-requires-clause-places : goal.push_fields-requires-clause-places
push_fields-requires-clause-places c = c.requires.places

pub push_fields-requires-clause-width : goal.push_fields-requires-clause-width
push_fields-requires-clause-width c = c.next_row.ensures.room ∙ c.requires.width

pub push_entry-requires-clause-columns : goal.push_entry-requires-clause-columns
push_entry-requires-clause-columns c = c.requires.columns

pub push_entry-requires-clause-reads : goal.push_entry-requires-clause-reads
push_entry-requires-clause-reads c =
    let row = rw c.in-Quoted.is at c.in_ok-next_row.ensures.row in
    rw row.0 at c.requires.reads
