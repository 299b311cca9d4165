-- The faults of a run: their statuses, their lines and their causes.
use Rattle.std.specs.Prelude.{◌≡◌, ℕ, true, List, ◌++◌, codes, Option, Some, IfSome, ⊤}
use Rattle.std.specs.Fmt.{decimal}
use Rattle.pipe_csv.specs.CsvRows.{field, header, missing, width}
use Rattle.pipe_io.specs.Files.{Files}
use Rattle.pipe_plan.specs.Run.{StoreSeen}
use Rattle.pipe_source.specs.CsvChunks.{Stop, misfit, too_large}
use Rattle.tool_query.specs.Names.{no_query_name}
use Rattle.tool_shell.specs.declared.status.TheConstants.{DAMAGED, INPUT_FAILED, INPUT_REFUSED, NO_MEMORY, OUTPUT_FAILED, QUERY_REFUSED, STORE_FAILED, TOO_LARGE, WORDS_REFUSED}
use Rattle.tool_words.specs.Asked.{Asked, refused}
use Rattle.tool_words.specs.declared.refusal.Refusal.{Refusal}
use Rattle.tool_words.specs.declared.refusal.Refusal.TheVariants as refusal
use Rattle.tool_answer.specs.declared.fault.ToolFault.{ToolFault}
use Rattle.tool_answer.specs.declared.fault.ToolFault.TheVariants as fault
use Rattle.tool_answer.specs.Asking.{has_folder, stop_due}
use Rattle.tool_answer.specs.Ended.{HasFailed, HasUntold, NeverFailed}

-- the exit status of words that are refused
abbrev pub refusal_status : Refusal → ℕ
refusal_status refusal.Words = WORDS_REFUSED
refusal_status (refusal.NoQuery why) = QUERY_REFUSED
refusal_status refusal.UnfitSink = WORDS_REFUSED

-- the exit status of a fault
abbrev pub status_of : ToolFault → ℕ
status_of (fault.Refused r) = refusal_status r
status_of (fault.Missing file) = INPUT_REFUSED
status_of (fault.Header file) = INPUT_REFUSED
status_of (fault.Width file row) = INPUT_REFUSED
status_of (fault.Field file row column) = INPUT_REFUSED
status_of fault.InputFailed = INPUT_FAILED
status_of fault.OutputFailed = OUTPUT_FAILED
status_of fault.TooLarge = TOO_LARGE
status_of (fault.Store partition) = STORE_FAILED
status_of (fault.Damaged partition number) = DAMAGED
status_of fault.Memory = NO_MEMORY

-- ---- lines

-- how refused words are told
abbrev pub refusal_text : Refusal → List ℕ
refusal_text refusal.Words = codes "words refused"
refusal_text (refusal.NoQuery why) = codes "query refused: " ++ no_query_name why
refusal_text refusal.UnfitSink = codes "sink does not fit"

-- how a fault is told
abbrev pub fault_text : ToolFault → List ℕ
fault_text (fault.Refused r) = refusal_text r
fault_text (fault.Missing file) = codes "file " ++ (decimal file ++ codes ": missing")
fault_text (fault.Header file) = codes "file " ++ (decimal file ++ codes ": header")
fault_text (fault.Width file row) =
    codes "file " ++ (decimal file ++ (codes " row " ++ (decimal row ++ codes ": width")))
fault_text (fault.Field file row column) =
    codes "file " ++ (decimal file ++ (codes " row " ++ (decimal row
    ++ (codes " column " ++ (decimal column ++ codes ": field")))))
fault_text fault.InputFailed = codes "input failed"
fault_text fault.OutputFailed = codes "output failed"
fault_text fault.TooLarge = codes "too large"
fault_text (fault.Store partition) = codes "store " ++ (decimal partition ++ codes " failed")
fault_text (fault.Damaged partition number) =
    codes "store " ++ (decimal partition
    ++ (codes " frame " ++ (decimal number ++ codes " damaged")))
fault_text fault.Memory = codes "out of memory"

-- the line of a fault
abbrev pub fault_line : ToolFault → List ℕ
fault_line f = fault_text f ++ codes "\n"

-- ---- causes

-- where the input tells its files, their reading ends for this
abbrev pub EndsFor : Stop → Asked → Option Files → Type 0
EndsFor stop a told = IfSome told (λ files. stop_due a files ≡ Some stop)

-- what a fault says of what is asked, of the files, where the input tells them, and of the stores, none
-- of which has failed where reading ends early; nothing is said of an output that failed, or of want of
-- memory
abbrev pub IsCaused : ToolFault → Asked → Option Files → List StoreSeen → Type 0
IsCaused (fault.Refused r) a told stores = a ≡ refused r
IsCaused (fault.Missing file) a told stores =
    EndsFor (misfit (missing file)) a told × NeverFailed stores
IsCaused (fault.Header file) a told stores =
    EndsFor (misfit (header file)) a told × NeverFailed stores
IsCaused (fault.Width file row) a told stores =
    EndsFor (misfit (width file row)) a told × NeverFailed stores
IsCaused (fault.Field file row column) a told stores =
    EndsFor (misfit (field file row column)) a told × NeverFailed stores
IsCaused fault.InputFailed a told stores = NeverFailed stores
IsCaused fault.OutputFailed a told stores = ⊤
IsCaused fault.TooLarge a told stores = EndsFor too_large a told × NeverFailed stores
IsCaused (fault.Store p) a told stores = (has_folder a ≡ true) × HasFailed stores p
IsCaused (fault.Damaged p n) a told stores = (has_folder a ≡ true) × HasUntold stores p n
IsCaused fault.Memory a told stores = ⊤
