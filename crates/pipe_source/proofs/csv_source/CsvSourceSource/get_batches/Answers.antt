use Rattle.std.proofs.Common.{refl}
use Rattle.pipe_io.proofs.TriedFacts.{front-none}
use Rattle.pipe_source.proofs.csv_source.CsvSourceSource.get_batches.Goals as goal

pub returns-in_default-clause-tried : goal.returns-in_default-clause-tried
returns-in_default-clause-tried g c = front-none _ _ c.args.self.now.reader.names refl
