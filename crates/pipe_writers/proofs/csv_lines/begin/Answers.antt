use Rattle.std.proofs.Common.{◌∙◌, ap, Vec, ℕ, Global}
use Rattle.pipe_writers.proofs.CsvFacts.{begun}
use Rattle.pipe_writers.proofs.csv_lines.begin.Goals as goal

pub returns : goal.returns
returns c =
    let w = c.from_writer.ensures in
    begun c.from_writer.result c.args.text.items (ap (λ (v : Vec ℕ Global). v.items) w.wtr) w.empty (w.cfg ∙ c.new.ensures) w.fields w.wrote
