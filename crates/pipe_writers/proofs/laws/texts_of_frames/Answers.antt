use Rattle.pipe_writers.proofs.TextFacts.{csv-of-frame, json-of-frame}
use Rattle.pipe_writers.proofs.laws.texts_of_frames.Goals as goal

pub returns-clause-csv : goal.returns-clause-csv
returns-clause-csv c fields frame fit = csv-of-frame fields frame fit

pub returns-clause-json : goal.returns-clause-json
returns-clause-json c fields frame fit = json-of-frame fields frame fit

pub returns-clause-csv_whole : goal.returns-clause-csv_whole
returns-clause-csv_whole c fields frame fit = csv-of-frame fields frame fit

pub returns-clause-json_whole : goal.returns-clause-json_whole
returns-clause-json_whole c fields frame fit = json-of-frame fields frame fit
