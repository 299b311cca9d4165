-- The faults of a command on a summary: their statuses, their lines and their causes.
use Rattle.std.specs.Prelude.{◌≡◌, ℕ, List, ◌++◌, codes, Option, IfSome, ⊤}
use Rattle.std.specs.Fmt.{decimal}
use Rattle.pipe_csv.specs.declared.csv_error.CsvError.{CsvError}
use Rattle.pipe_csv.specs.declared.csv_error.CsvError.TheVariants as csv_error
use Rattle.pipe_io.specs.Files.{Files}
use Rattle.pipe_model.specs.Query.{QueryTree}
use Rattle.pipe_states.specs.States.{StateSeen}
use Rattle.pipe_summary.specs.InTurn.{HoldsStates, IsFirstDamaged}
use Rattle.rollup_save.specs.Saves.{Tells}
use Rattle.summary_add.specs.Adds.{end_of_adding}
use Rattle.summary_words.specs.Asked.{adds, Asked, refused, shows}
use Rattle.summary_words.specs.declared.refusal.Refusal.{Refusal}
use Rattle.summary_words.specs.declared.refusal.Refusal.TheVariants as refusal
use Rattle.tool_query.specs.Names.{no_query_name}
use Rattle.tool_shell.specs.declared.status.TheConstants.{INPUT_FAILED, INPUT_REFUSED, NO_MEMORY, OUTPUT_FAILED, QUERY_REFUSED, TOO_LARGE, WORDS_REFUSED}
use Rattle.summary_answer.specs.Opened.{opened, Opened, unopened}
use Rattle.summary_answer.specs.declared.fault.SummaryFault.{SummaryFault}
use Rattle.summary_answer.specs.declared.fault.SummaryFault.TheVariants as fault
use Rattle.summary_answer.specs.declared.status.TheConstants.{FRAME_DAMAGED, STORE_FAILED}

-- ---- statuses

-- the exit status of words that are refused
abbrev pub refusal_status : Refusal → ℕ
refusal_status refusal.Words = WORDS_REFUSED
refusal_status (refusal.Query why) = QUERY_REFUSED
refusal_status refusal.Ordered = QUERY_REFUSED

-- the exit status of files that are not added
abbrev pub read_status : CsvError → ℕ
read_status (csv_error.Missing file) = INPUT_REFUSED
read_status (csv_error.Header file) = INPUT_REFUSED
read_status (csv_error.Width file row) = INPUT_REFUSED
read_status (csv_error.Field file row column) = INPUT_REFUSED
read_status csv_error.Input = INPUT_FAILED
read_status csv_error.TooLarge = TOO_LARGE
read_status csv_error.Memory = NO_MEMORY

-- the exit status of a fault
abbrev pub status_of : SummaryFault → ℕ
status_of (fault.Refused r) = refusal_status r
status_of fault.Store = STORE_FAILED
status_of (fault.Damaged number) = FRAME_DAMAGED
status_of (fault.Read e) = read_status e
status_of fault.OutputFailed = OUTPUT_FAILED
status_of fault.Memory = NO_MEMORY

-- ---- lines

-- how refused words are told
abbrev pub refusal_text : Refusal → List ℕ
refusal_text refusal.Words = codes "words refused"
refusal_text (refusal.Query why) = codes "query refused: " ++ no_query_name why
refusal_text refusal.Ordered = codes "query refused: order"

-- how it is told that files are not added
abbrev pub read_text : CsvError → List ℕ
read_text (csv_error.Missing file) = codes "file " ++ (decimal file ++ codes ": missing")
read_text (csv_error.Header file) = codes "file " ++ (decimal file ++ codes ": header")
read_text (csv_error.Width file row) =
    codes "file " ++ (decimal file ++ (codes " row " ++ (decimal row ++ codes ": width")))
read_text (csv_error.Field file row column) =
    codes "file " ++ (decimal file ++ (codes " row " ++ (decimal row
    ++ (codes " column " ++ (decimal column ++ codes ": field")))))
read_text csv_error.Input = codes "input failed"
read_text csv_error.TooLarge = codes "too large"
read_text csv_error.Memory = codes "out of memory"

-- how a fault is told
abbrev pub fault_text : SummaryFault → List ℕ
fault_text (fault.Refused r) = refusal_text r
fault_text fault.Store = codes "store failed"
fault_text (fault.Damaged number) = codes "frame " ++ (decimal number ++ codes ": no state")
fault_text (fault.Read e) = read_text e
fault_text fault.OutputFailed = codes "output failed"
fault_text fault.Memory = codes "out of memory"

-- the line of a fault
abbrev pub fault_line : SummaryFault → List ℕ
fault_line f = fault_text f ++ codes "\n"

-- ---- causes

-- where the store tells its frames, the one of a number is the first that is damaged
abbrev pub IsDamaged : ℕ → QueryTree → Opened → Type 0
IsDamaged number q (unopened e) = ⊥
IsDamaged number q (opened told held) =
    IfSome told (λ frames. IsFirstDamaged q frames number)

-- so it is for what is asked
abbrev pub MeetsDamage : ℕ → Asked → Opened → Type 0
MeetsDamage number (refused r) o = ⊥
MeetsDamage number (adds q names) o = IsDamaged number q o
MeetsDamage number (shows q) o = IsDamaged number q o

-- the store holds states, and where files are told the error says where adding them behind these ends
pub record EndsBehind
    (e : CsvError) (q : QueryTree) (names : List (List ℕ)) (files : Option Files)
    (told : Option (List (List ℕ))) (held : ℕ) : Type 0 where
  pub states : List StateSeen
  pub holds : HoldsStates q told held states
  pub ends : IfSome files (λ fs. Tells e (end_of_adding states fs names q))

-- so it is for what is asked
abbrev pub EndsAdding : CsvError → Asked → Opened → Option Files → Type 0
EndsAdding e (refused r) o files = ⊥
EndsAdding e (shows q) o files = ⊥
EndsAdding e (adds q names) (unopened s) files = ⊥
EndsAdding e (adds q names) (opened told held) files = EndsBehind e q names files told held

-- what a fault says of what is asked, of the store and of the files, where the input tells them; nothing
-- is said of a store or an output that failed, or of want of memory
abbrev pub IsCaused : SummaryFault → Asked → Opened → Option Files → Type 0
IsCaused (fault.Refused r) a o files = a ≡ refused r
IsCaused fault.Store a o files = ⊤
IsCaused (fault.Damaged number) a o files = MeetsDamage number a o
IsCaused (fault.Read e) a o files = EndsAdding e a o files
IsCaused fault.OutputFailed a o files = ⊤
IsCaused fault.Memory a o files = ⊤
