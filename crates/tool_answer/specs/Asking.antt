-- What is read for what is asked, the run that is made over it, and where its stores lie.
use Rattle.std.specs.Prelude.{Bool, false, ℕ, List, [], Option, None, is_some}
use Rattle.pipe_columns.specs.declared.data_chunk.DataChunk.{DataChunk}
use Rattle.pipe_io.specs.Files.{Files}
use Rattle.pipe_model.specs.Query.{QueryTree}
use Rattle.pipe_plan.specs.Run.{Run, StoreSeen}
use Rattle.pipe_source.specs.CsvChunks.{csv_chunks, CsvChunks, Stop}
use Rattle.pipe_source.specs.declared.read_options.CsvReadOptions.{CsvReadOptions}
use Rattle.pipe_words.specs.Plans.{PlanSeen}
use Rattle.tool_run.specs.Reading.{end_of}
use Rattle.tool_stores.specs.StorePath.{store_paths}
use Rattle.tool_words.specs.Asked.{Asked, asks, files_named, makes, refused}

-- how the files of a plan are read
abbrev pub read_options : PlanSeen → CsvReadOptions
read_options p = record {
  chunk_size = p.chunk;
  n_rows = p.rows;
  row_index = None;
  include_file_path = None;
}

-- what the files of a plan give a query
abbrev pub input_chunks : Files → PlanSeen → QueryTree → CsvChunks
input_chunks files p q = csv_chunks files (files_named p.words) q.schema (read_options p)

-- why the reading of what is asked for ends early, if it does
abbrev pub stop_due : Asked → Files → Option Stop
stop_due (refused r) files = None
stop_due (asks p q) files = end_of (input_chunks files p q)
stop_due (makes p m) files = None

-- the names of the files that are read for what is asked, in order
abbrev pub files_asked : Asked → List (List ℕ)
files_asked (refused r) = []
files_asked (asks p q) = files_named p.words
files_asked (makes p m) = []

-- the run of a query by a plan, over chunks and stores; while it is open, more chunks may follow
abbrev pub asked_run : PlanSeen → QueryTree → Bool → List DataChunk → List StoreSeen → Run
asked_run p q is_open chunks made = record {
  chunks = chunks;
  query = q;
  limits = p.limits;
  actions = p.actions;
  rules = p.rules;
  is_open = is_open;
  stores = made;
}

-- whether frames are spilled to a folder
abbrev pub has_folder : Asked → Bool
has_folder (refused r) = false
has_folder (asks p q) = is_some p.spill_dir
has_folder (makes p m) = is_some p.spill_dir

-- the paths of the stores that a run is due: those of its folder, one a partition, and none for refused
-- words
abbrev pub due_paths : Asked → List (Option (List ℕ))
due_paths (refused r) = []
due_paths (asks p q) = store_paths p.spill_dir p.limits.partitions
due_paths (makes p m) = store_paths p.spill_dir p.limits.partitions
