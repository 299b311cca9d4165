use Rattle.pipe_csv.proofs.WrittenLemmas.{record-ended}
use Rattle.lavzimo_rows.proofs.csv_rows.end_record.Goals.{in-Ok, in-Err}
use Rattle.lavzimo_rows.proofs.csv_rows.end_record.Goals as goal

pub returns : goal.returns
returns c text fields h =
    elim c.match-end_record.branch [
      | in-Ok w ↦
          let e = w.in-Ok.ensures in
          rw w.result-is (record-ended _ _ text fields h e.bytes e.fields e.wrote e.same)
      | in-Err w ↦ rw w.result-is tt
    ]
