use Rattle.pipe_csv.proofs.WrittenLemmas.{field-written}
use Rattle.lavzimo_rows.proofs.csv_rows.write_field.Goals.{in-Ok, in-Err}
use Rattle.lavzimo_rows.proofs.csv_rows.write_field.Goals as goal

pub returns : goal.returns
returns c text fields small h =
    elim c.match-write_field.branch [
      | in-Ok w ↦
          let e = w.in-Ok.ensures in
          rw w.result-is (field-written _ _ text fields _ h small e.text e.same e.count e.wrote e.stays)
      | in-Err w ↦ rw w.result-is tt
    ]
