use Rattle.std.proofs.Common.{◌∙◌, rules}
use Rattle.pipe_csv.proofs.WrittenLemmas.{nothing-written}
use Rattle.lavzimo_rows.proofs.csv_rows.begin.Goals as goal

pub returns : goal.returns
returns c =
    let w = c.from_writer.ensures in
    nothing-written c.from_writer.result (search rules) w.empty (w.cfg ∙ c.new.ensures) w.fields w.wrote
