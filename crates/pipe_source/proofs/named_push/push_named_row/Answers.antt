use Rattle.std.proofs.Common.{◌≡◌, ◌∙◌, List, ℕ, length, take, sym, subst}
use Rattle.pipe_csv.specs.declared.csv_error.CsvError.TheVariants as ce
use Rattle.pipe_scan.specs.Records.{Records, cut, records_at}
use Rattle.pipe_source.specs.Rows.{StopsFirst}
use Rattle.pipe_source.proofs.FieldsLeft.{length-cut, length-front}
use Rattle.pipe_source.proofs.LaidFacts.{laid-next, picked-other}
use Rattle.pipe_source.proofs.named_push.push_named_row.Goals as goal

pub returns-then-count-layout-clause-stop : goal.returns-then-count-layout-clause-stop
returns-then-count-layout-clause-stop c =
    let row = rw c.in-Plain.is at c.in_ok-next_row.ensures.row in
    let text : List ℕ = c.args.text.now in
    let first : List ℕ = take c.in-Plain.count c.next_row.new.ends in
    let fields : List (List ℕ) = cut text c.in-Plain.start first in
    let many : length fields ≡ c.in-Plain.count = length-cut text c.in-Plain.start first ∙ length-front c.in-Plain.count c.next_row.new.ends row.few in
    let P : Records → Type 0 = λ t. StopsFirst (ce.Width 1 c.args.row) 1 c.args.row c.args.columns.now t in
    subst P (sym (laid-next c.args.layout.now (records_at text c.args.stops.now.cursor) (records_at text c.next_row.new.stops.cursor) fields row.takes.0))
    (picked-other 1 c.args.row c.args.columns.now c.args.layout.now fields c.requires.fit (λ e. c.if-count-layout.true (sym many ∙ e)))
