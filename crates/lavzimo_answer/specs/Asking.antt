-- What is read and run for what is asked.
use Rattle.std.specs.Prelude.{◌≡◌, ℕ, ◌++◌, ◌≤◌, max, min, Bool, false, List, [], ◌∷◌, length}
use Rattle.std.specs.Prelude.{if◌then◌else◌, None, Option, is_some, unwrap_or, Result, Ok, Err}
use Rattle.std.specs.Str.{is_utf8}
use Rattle.pipe_io.specs.Files.{Files, IsWhole}
use Rattle.pipe_io.specs.declared.whole_file.TheConstants.{MOST_FILE_BYTES}
use Rattle.pipe_model.specs.Query.{QueryTree}
use Rattle.tool_query.specs.QueryWord.{word_query}
use Rattle.tool_query.specs.declared.no_query.NoQuery.{NoQuery}
use Rattle.tool_query.specs.declared.no_query.NoQuery.TheVariants as no_query
use Rattle.lavzimo_run.specs.Jobs.{JobSeen}
use Rattle.lavzimo_words.specs.Asked.{AskedSeen, QuestionSeen, Words, ask, ended, of_columns, of_file, refused}
use Rattle.lavzimo_words.specs.AskedQuery.{query_of_words}

-- ---- the query

-- the query that the text of a file is
abbrev pub file_query : List ℕ → Result QueryTree NoQuery
file_query text = if is_utf8 text then word_query text else Err no_query.NotJson

-- the file of a name is whole where files are told, and this is what its text is
pub record IsFileQuery (told : Option Files) (name : List ℕ) (result : Result QueryTree NoQuery)
    : Type 0 where
  pub text : List ℕ
  pub whole : IsWhole told name text
  pub small : length text ≤ MOST_FILE_BYTES
  pub is : file_query text ≡ result

-- the query of a question
abbrev pub IsQueryOf : QuestionSeen → Option Files → QueryTree → Type 0
IsQueryOf (of_columns c) told q = q ≡ query_of_words c
IsQueryOf (of_file name) told q = IsFileQuery told name (Ok q)

-- ---- the run

-- a number, or the nearest within bounds
abbrev pub within : ℕ → ℕ → ℕ → ℕ
within low high n = max low (min high n)

-- how many workers there are: as many as processors, where it isn't said
abbrev pub workers_of : ℕ → Option ℕ → ℕ
workers_of processors said = within 1 256 (unwrap_or said processors)

-- how many partitions there are: the answer of a query of a file, as it stands, has one
abbrev pub partitions_of : QuestionSeen → ℕ → ℕ
partitions_of (of_columns c) said = within 1 4096 said
partitions_of (of_file name) said = 1

-- what is run for what is asked, whose query is this
abbrev pub job_of : ℕ → AskedSeen → QueryTree → JobSeen
job_of processors a q = record {
  query = q;
  files = a.files;
  workers = workers_of processors a.workers;
  partitions = partitions_of a.question a.partitions;
  spill_dir = a.spill_dir;
}

-- ---- what words come to

-- the file of a query, if it stands in one
abbrev pub query_files : QuestionSeen → List (List ℕ)
query_files (of_columns c) = []
query_files (of_file name) = name ∷ []

-- the names of the files that are read, in order
abbrev pub files_asked : Words → List (List ℕ)
files_asked (ask a) = query_files a.question ++ a.files
files_asked (refused r) = []
files_asked (ended kinds) = []

-- the folder that rows are spilled to, if one is named
abbrev pub folder_asked : Words → Option (List ℕ)
folder_asked (ask a) = a.spill_dir
folder_asked (refused r) = None
folder_asked (ended kinds) = None

-- whether rows are spilled to a folder
abbrev pub has_folder : Words → Bool
has_folder (ask a) = is_some a.spill_dir
has_folder (refused r) = false
has_folder (ended kinds) = false

-- how many stores a run has
abbrev pub stores_asked : Words → ℕ
stores_asked (ask a) = partitions_of a.question a.partitions
stores_asked (refused r) = 0
stores_asked (ended kinds) = 0
