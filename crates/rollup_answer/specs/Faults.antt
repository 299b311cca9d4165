-- The faults of a command on saved states: their statuses, their lines and their causes.
use Rattle.std.specs.Prelude.{◌≡◌, ℕ, List, ◌++◌, codes, Option, IfSome, ⊤}
use Rattle.std.specs.Fmt.{decimal}
use Rattle.pipe_csv.specs.declared.csv_error.CsvError.{CsvError}
use Rattle.pipe_csv.specs.declared.csv_error.CsvError.TheVariants as csv_error
use Rattle.pipe_io.specs.Files.{Files}
use Rattle.rollup_roll.specs.Rolled.{IsRefusal}
use Rattle.rollup_roll.specs.declared.roll_error.RollError.{RollError}
use Rattle.rollup_roll.specs.declared.roll_error.RollError.TheVariants as roll_error
use Rattle.rollup_save.specs.Saves.{end_of_files, Tells}
use Rattle.rollup_words.specs.Asked.{Asked, refused, rolls, saves}
use Rattle.rollup_words.specs.declared.refusal.Refusal.{Refusal}
use Rattle.rollup_words.specs.declared.refusal.Refusal.TheVariants as refusal
use Rattle.tool_query.specs.Names.{no_query_name}
use Rattle.tool_shell.specs.declared.status.TheConstants.{INPUT_FAILED, INPUT_REFUSED, NO_MEMORY, OUTPUT_FAILED, QUERY_REFUSED, TOO_LARGE, WORDS_REFUSED}
use Rattle.rollup_answer.specs.declared.fault.RollupFault.{RollupFault}
use Rattle.rollup_answer.specs.declared.fault.RollupFault.TheVariants as fault
use Rattle.rollup_answer.specs.declared.status.TheConstants.{KEYS_REFUSED, NOT_A_STATE, OVERLAP}

-- ---- statuses

-- the exit status of words that are refused
abbrev pub refusal_status : Refusal → ℕ
refusal_status refusal.Words = WORDS_REFUSED
refusal_status (refusal.Query why) = QUERY_REFUSED
refusal_status refusal.Sliced = QUERY_REFUSED
refusal_status refusal.Keys = KEYS_REFUSED

-- the exit status of files that are not saved
abbrev pub read_status : CsvError → ℕ
read_status (csv_error.Missing file) = INPUT_REFUSED
read_status (csv_error.Header file) = INPUT_REFUSED
read_status (csv_error.Width file row) = INPUT_REFUSED
read_status (csv_error.Field file row column) = INPUT_REFUSED
read_status csv_error.Input = INPUT_FAILED
read_status csv_error.TooLarge = TOO_LARGE
read_status csv_error.Memory = NO_MEMORY

-- the exit status of states that are not regrouped
abbrev pub roll_status : RollError → ℕ
roll_status (roll_error.Missing file) = INPUT_REFUSED
roll_status roll_error.Input = INPUT_FAILED
roll_status (roll_error.NotAState file) = NOT_A_STATE
roll_status (roll_error.Overlap file) = OVERLAP
roll_status roll_error.TooLarge = TOO_LARGE
roll_status roll_error.Memory = NO_MEMORY

-- the exit status of a fault
abbrev pub status_of : RollupFault → ℕ
status_of (fault.Refused r) = refusal_status r
status_of (fault.Save e) = read_status e
status_of (fault.Roll e) = roll_status e
status_of fault.OutputFailed = OUTPUT_FAILED
status_of fault.Memory = NO_MEMORY

-- ---- lines

-- how refused words are told
abbrev pub refusal_text : Refusal → List ℕ
refusal_text refusal.Words = codes "words refused"
refusal_text (refusal.Query why) = codes "query refused: " ++ no_query_name why
refusal_text refusal.Sliced = codes "query refused: slice"
refusal_text refusal.Keys = codes "keys refused"

-- how it is told that files are not saved
abbrev pub read_text : CsvError → List ℕ
read_text (csv_error.Missing file) = codes "file " ++ (decimal file ++ codes ": missing")
read_text (csv_error.Header file) = codes "file " ++ (decimal file ++ codes ": header")
read_text (csv_error.Width file row) =
    codes "file " ++ (decimal file ++ (codes " row " ++ (decimal row ++ codes ": width")))
read_text (csv_error.Field file row column) =
    codes "file " ++ (decimal file ++ (codes " row " ++ (decimal row
    ++ (codes " column " ++ (decimal column ++ codes ": field")))))
read_text csv_error.Input = codes "input failed"
read_text csv_error.TooLarge = codes "too large"
read_text csv_error.Memory = codes "out of memory"

-- how it is told that states are not regrouped
abbrev pub roll_text : RollError → List ℕ
roll_text (roll_error.Missing file) = codes "file " ++ (decimal file ++ codes ": missing")
roll_text roll_error.Input = codes "input failed"
roll_text (roll_error.NotAState file) = codes "file " ++ (decimal file ++ codes ": no state")
roll_text (roll_error.Overlap file) = codes "file " ++ (decimal file ++ codes ": overlap")
roll_text roll_error.TooLarge = codes "too large"
roll_text roll_error.Memory = codes "out of memory"

-- how a fault is told
abbrev pub fault_text : RollupFault → List ℕ
fault_text (fault.Refused r) = refusal_text r
fault_text (fault.Save e) = read_text e
fault_text (fault.Roll e) = roll_text e
fault_text fault.OutputFailed = codes "output failed"
fault_text fault.Memory = codes "out of memory"

-- the line of a fault
abbrev pub fault_line : RollupFault → List ℕ
fault_line f = fault_text f ++ codes "\n"

-- ---- causes

-- where files are to be saved, and are told, the error says where that ends
abbrev pub EndsSaving : CsvError → Asked → Option Files → Type 0
EndsSaving e (refused r) told = ⊥
EndsSaving e (saves q first names) told =
    IfSome told (λ files. Tells e (end_of_files files names q first))
EndsSaving e (rolls q keep names) told = ⊥

-- where states are to be regrouped, the error says why they are not
abbrev pub EndsRolling : RollError → Asked → Option Files → Type 0
EndsRolling e (refused r) told = ⊥
EndsRolling e (saves q first names) told = ⊥
EndsRolling e (rolls q keep names) told = IsRefusal e q told names

-- what a fault says of what is asked and of the files, where the input tells them; nothing is said
-- of an output that failed, or of want of memory
abbrev pub IsCaused : RollupFault → Asked → Option Files → Type 0
IsCaused (fault.Refused r) a told = a ≡ refused r
IsCaused (fault.Save e) a told = EndsSaving e a told
IsCaused (fault.Roll e) a told = EndsRolling e a told
IsCaused fault.OutputFailed a told = ⊤
IsCaused fault.Memory a told = ⊤
