-- How a run ends, by its fault.
use Rattle.std.proofs.Common.{◌≡◌, ◌∙◌, ◌≤◌, ℕ, Bool, true, false, List, length, refl, sym, ap, subst, arith, inl, inr, Option, None, Some, Result, Ok, Err, if◌then◌else◌}
use Rattle.std.specs.Prelude.{◌⊎◌, IsTrue, is_some, nat_lt, unwrap_or}
use Rattle.std.specs.List.{All}
use Rattle.std.proofs.lemmas.Bool.{false≢true, le-ltb, lt-ltb}
use Rattle.std.proofs.lemmas.List.Elements.{All-get_or}
use Rattle.std.proofs.lemmas.Option.{none-some}
use Rattle.pipe_csv.specs.declared.csv_error.CsvError.{CsvError}
use Rattle.pipe_csv.specs.declared.csv_error.CsvError.TheVariants as csv_error
use Rattle.pipe_global.specs.Partition.{no_store}
use Rattle.pipe_io.specs.Files.{Files}
use Rattle.pipe_io.specs.declared.whole_file.FileEnd.{FileEnd}
use Rattle.pipe_io.specs.declared.whole_file.FileEnd.TheVariants as file_end
use Rattle.pipe_io.specs.declared.whole_file.TheConstants.{MOST_FILE_BYTES}
use Rattle.pipe_model.specs.Query.{QueryTree}
use Rattle.pipe_plan.specs.Run.{StoreSeen}
use Rattle.pipe_run.specs.declared.error.PipeError.{PipeError}
use Rattle.pipe_run.specs.declared.error.PipeError.TheVariants as pipe_error
use Rattle.pipe_source.specs.CsvChunks.{Stop}
use Rattle.tool_query.specs.declared.no_query.NoQuery.{NoQuery}
use Rattle.tool_run.specs.Reading.{end_of}
use Rattle.tool_run.specs.declared.error.FileRunError.{FileRunError}
use Rattle.tool_run.specs.declared.error.FileRunError.TheVariants as run_error
use Rattle.tool_shell.specs.declared.status.TheConstants.{DONE, INPUT_FAILED, NO_MEMORY, OUTPUT_FAILED, TOO_LARGE, WORDS_REFUSED}
use Rattle.lavzimo_run.specs.Jobs.{query_chunks}
use Rattle.lavzimo_run.specs.Running.{IsEnd}
use Rattle.lavzimo_run.specs.Stores.{IsSoundStore}
use Rattle.lavzimo_words.specs.Asked.{AskedSeen, QuestionSeen, Words, ask, ended, of_columns, of_file, refused}
use Rattle.lavzimo_answer.specs.Asking.{IsFileQuery, IsQueryOf, file_query, job_of}
use Rattle.lavzimo_answer.specs.Faults.{IsCaused, IsUnread, read_status, refused_status, run_status, status_of, unread_status}
use Rattle.lavzimo_answer.specs.Inside.{FaultUnasked, IsBefore}
use Rattle.lavzimo_answer.specs.Status.{AreRefused, EndsAsDue, EndsUnasked, IsAnswered, IsDue, asked_status, is_failure, is_status, is_unwritten, query_due, query_in, query_or, status_by, stop_status}
use Rattle.lavzimo_answer.specs.declared.fault.Fault.{Fault}
use Rattle.lavzimo_answer.proofs.WordFacts.{ask-refused, ended-refused}
use Rattle.lavzimo_answer.specs.declared.fault.Fault.TheVariants as fault

-- ---- statuses

read-above : (e : CsvError) → 4 ≤ read_status e
read-above (csv_error.Missing file) = omega arith
read-above (csv_error.Header file) = omega arith
read-above (csv_error.Width file row) = omega arith
read-above (csv_error.Field file row column) = omega arith
read-above csv_error.Input = omega arith
read-above csv_error.TooLarge = omega arith
read-above csv_error.Memory = omega arith

refused-above : (e : PipeError) → 7 ≤ refused_status e
refused-above (pipe_error.Store p) = omega arith
refused-above (pipe_error.Damaged p n) = omega arith
refused-above pipe_error.Memory = omega arith
refused-above pipe_error.Limits = omega arith
refused-above (pipe_error.Query f) = omega arith
refused-above pipe_error.Sink = omega arith
refused-above (pipe_error.Schema i) = omega arith
refused-above pipe_error.TooLarge = omega arith

run-above : (e : FileRunError) → 4 ≤ run_status e
run-above (run_error.Read e) = read-above e
run-above (run_error.Run e) = let far = refused-above e in omega (arith, far)

unread-above : (e : FileEnd) → 4 ≤ unread_status e
unread-above file_end.Missing = omega arith
unread-above file_end.Failed = omega arith
unread-above file_end.TooLarge = omega arith
unread-above file_end.Memory = omega arith

fault-above : (f : Fault) → 2 ≤ status_of f
fault-above (fault.Faulty text) = omega arith
fault-above (fault.Refused r) = omega arith
fault-above (fault.Unread name e) = let far = unread-above e in omega (arith, far)
fault-above (fault.NoQuery name why) = omega arith
fault-above (fault.Run names e) = let far = run-above e in omega (arith, far)
fault-above fault.OutputFailed = omega arith
fault-above fault.Memory = omega arith

pub not-done : (f : Fault) (status : ℕ) → (status ≡ status_of f) ⊎ (status ≡ NO_MEMORY) → status ≡ DONE → ⊥
not-done f status (inl is) done = let far = fault-above f in omega (arith, is, done, far)
not-done f status (inr is) done = omega (arith, is, done)

-- ---- the query of a question over files

small-text : (text : List ℕ) → length text ≤ MOST_FILE_BYTES → nat_lt MOST_FILE_BYTES (length text) ≡ false
small-text text few = le-ltb MOST_FILE_BYTES (length text) few

file-in : (files : Files) (name : List ℕ) (r : Result QueryTree NoQuery) (h : IsFileQuery (Some files) name r) → query_due (of_file name) files ≡ query_or r
file-in files name r h =
    ap query_in h.whole
    ∙ ap (λ (b : Bool). if b then Err TOO_LARGE else query_or (file_query h.text)) (small-text h.text h.small)
    ∙ ap query_or h.is

query-in : (s : QuestionSeen) (files : Files) (q : QueryTree) → IsQueryOf s (Some files) q → query_due s files ≡ Ok q
query-in (of_columns c) files q is = ap (λ (t : QueryTree). Ok t) (sym is)
query-in (of_file name) files q is = file-in files name (Ok q) is

-- the status that is due where reading ends so
pub ends-due : (a : AskedSeen) (files : Files) (q : QueryTree) (stop : Option Stop) → IsQueryOf a.question (Some files) q → end_of (query_chunks files a.files q) ≡ stop → asked_status a files ≡ stop_status stop
ends-due a files q stop is ends = ap (status_by a files) (query-in a.question files q is) ∙ ap stop_status ends

-- ---- faults where they are due

unread-due : (a : AskedSeen) (name : List ℕ) (e : FileEnd) (files : Files) → a.question ≡ of_file name → IsUnread e name (Some files) → (unread_status e ≡ asked_status a files) ⊎ (is_failure (unread_status e) ≡ true)
unread-due a name file_end.Missing files is none = inl (sym (ap (λ s. status_by a files (query_due s files)) is ∙ ap (λ o. status_by a files (query_in o)) none))
unread-due a name file_end.Failed files is none = inr refl
unread-due a name file_end.TooLarge files is large =
    inl (sym (ap (λ s. status_by a files (query_due s files)) is ∙ ap (λ o. status_by a files (query_in o)) large.1
    ∙ ap (λ (b : Bool). status_by a files (if b then Err TOO_LARGE else query_or (file_query large.0))) (lt-ltb MOST_FILE_BYTES (length large.0) large.2)))
unread-due a name file_end.Memory files is none = inr refl

read-due : (n : ℕ) (a : AskedSeen) (e : CsvError) (files : Files) (q : QueryTree) (stores : List StoreSeen) → IsQueryOf a.question (Some files) q → IsEnd (run_error.Read e) (job_of n a q) (Some files) stores
    → (read_status e ≡ asked_status a files) ⊎ (is_failure (read_status e) ≡ true)
read-due n a (csv_error.Missing file) files q stores is ends = inl (sym (ends-due a files q _ is ends.0))
read-due n a (csv_error.Header file) files q stores is ends = inl (sym (ends-due a files q _ is ends.0))
read-due n a (csv_error.Width file row) files q stores is ends = inl (sym (ends-due a files q _ is ends.0))
read-due n a (csv_error.Field file row column) files q stores is ends = inl (sym (ends-due a files q _ is ends.0))
read-due n a csv_error.TooLarge files q stores is ends = inl (sym (ends-due a files q _ is ends.0))
read-due n a csv_error.Input files q stores is ends = inr refl
read-due n a csv_error.Memory files q stores is ends = inr refl

run-due : (n : ℕ) (a : AskedSeen) (e : FileRunError) (files : Files) (q : QueryTree) (stores : List StoreSeen) → IsQueryOf a.question (Some files) q → IsEnd e (job_of n a q) (Some files) stores
    → (run_status e ≡ asked_status a files) ⊎ (is_failure (run_status e) ≡ true)
run-due n a (run_error.Read e) files q stores is ends = read-due n a e files q stores is ends
run-due n a (run_error.Run (pipe_error.Store p)) files q stores is ends = inr refl
run-due n a (run_error.Run (pipe_error.Damaged p m)) files q stores is ends = inr refl
run-due n a (run_error.Run pipe_error.Memory) files q stores is ends = inr refl
run-due n a (run_error.Run pipe_error.Limits) files q stores is ends = absurd ends
run-due n a (run_error.Run (pipe_error.Query f)) files q stores is ends = absurd ends
run-due n a (run_error.Run pipe_error.Sink) files q stores is ends = absurd ends
run-due n a (run_error.Run (pipe_error.Schema i)) files q stores is ends = absurd ends
run-due n a (run_error.Run pipe_error.TooLarge) files q stores is ends = absurd ends

-- a fault of what is asked comes where its status is due, or is one of a failure
asked-due : (n : ℕ) (f : Fault) (a : AskedSeen) (files : Files) (stores : List StoreSeen) → IsCaused n f (ask a) (Some files) stores → (status_of f ≡ asked_status a files) ⊎ (is_failure (status_of f) ≡ true)
asked-due n (fault.Faulty text) a files stores cause = absurd cause
asked-due n (fault.Refused r) a files stores cause = absurd (ask-refused a r cause)
asked-due n (fault.Unread name e) a files stores cause = unread-due a name e files cause.0 cause.1
asked-due n (fault.NoQuery name why) a files stores cause = inl (sym (ap (λ s. status_by a files (query_due s files)) cause.0 ∙ ap (status_by a files) (file-in files name (Err why) cause.1)))
asked-due n (fault.Run names e) a files stores cause = run-due n a e files cause.query stores cause.asked cause.ends
asked-due n fault.OutputFailed a files stores cause = inr refl
asked-due n fault.Memory a files stores cause = inr refl

-- ---- what words come to

caused-due : (n : ℕ) (f : Fault) (w : Words) (files : Files) (stores : List StoreSeen) → IsCaused n f w (Some files) stores → IsDue (status_of f) w files ⊎ (is_failure (status_of f) ≡ true)
caused-due n f (ask a) files stores cause = asked-due n f a files stores cause
caused-due n (fault.Faulty text) (refused r) files stores cause = absurd cause
caused-due n (fault.Refused s) (refused r) files stores cause = inl refl
caused-due n (fault.Unread name e) (refused r) files stores cause = absurd cause
caused-due n (fault.NoQuery name why) (refused r) files stores cause = absurd cause
caused-due n (fault.Run names e) (refused r) files stores cause = absurd cause
caused-due n fault.OutputFailed (refused r) files stores cause = inr refl
caused-due n fault.Memory (refused r) files stores cause = inr refl
caused-due n (fault.Faulty text) (ended kinds) files stores cause = inl (inr (refl, cause))
caused-due n (fault.Refused s) (ended kinds) files stores cause = absurd (ended-refused kinds s cause)
caused-due n (fault.Unread name e) (ended kinds) files stores cause = absurd cause
caused-due n (fault.NoQuery name why) (ended kinds) files stores cause = absurd cause
caused-due n (fault.Run names e) (ended kinds) files stores cause = absurd cause
caused-due n fault.OutputFailed (ended kinds) files stores cause = inr refl
caused-due n fault.Memory (ended kinds) files stores cause = inr refl

pub told-due : (n : ℕ) (f : Fault) (w : Words) (told : Option Files) (stores : List StoreSeen) (status : ℕ) → IsCaused n f w told stores → (status ≡ status_of f) ⊎ (status ≡ NO_MEMORY) → EndsAsDue status w told
told-due n f w None stores status cause either = tt
told-due n f w (Some files) stores status cause (inl is) = subst (λ k. IsDue k w files ⊎ (is_failure k ≡ true)) (sym is) (caused-due n f w files stores cause)
told-due n f w (Some files) stores status cause (inr is) = inr (ap is_failure is)

-- ---- words that ask nothing

some-is : (f g : Fault) → Some f ≡ Some g → f ≡ g
some-is f g is = ap (λ (o : Option Fault). unwrap_or o f) is

pub told-unasked : (f : Fault) (w : Words) (status : ℕ) → FaultUnasked w (Some f) → (status ≡ status_of f) ⊎ (status ≡ NO_MEMORY) → EndsUnasked w status
told-unasked f (ask a) status ends either = tt
told-unasked f (refused r) status ends (inr is) = inr is
told-unasked f (refused r) status (inl ends) (inl is) = inl (is ∙ ap status_of (some-is f (fault.Refused r) ends))
told-unasked f (refused r) status (inr ends) (inl is) = inr (is ∙ ap status_of (some-is f fault.Memory ends))
told-unasked f (ended kinds) status ends (inr is) = inr (inr is)
told-unasked (fault.Faulty text) (ended kinds) status ends (inl is) = inl (inr (is, ends))
told-unasked (fault.Refused r) (ended kinds) status ends (inl is) = absurd ends
told-unasked (fault.Unread name e) (ended kinds) status ends (inl is) = absurd ends
told-unasked (fault.NoQuery name why) (ended kinds) status ends (inl is) = absurd ends
told-unasked (fault.Run names e) (ended kinds) status ends (inl is) = absurd ends
told-unasked fault.OutputFailed (ended kinds) status ends (inl is) = inr (inl (is, ends))
told-unasked fault.Memory (ended kinds) status ends (inl is) = inr (inr is)

pub done-unasked : (w : Words) (status : ℕ) → status ≡ DONE → FaultUnasked w None → EndsUnasked w status
done-unasked (ask a) status done ends = tt
done-unasked (refused r) status done (inl ends) = absurd (none-some (fault.Refused r) ends)
done-unasked (refused r) status done (inr ends) = absurd (none-some fault.Memory ends)
done-unasked (ended kinds) status done ends = inl (inl (done, ends))

refused-words : (n : ℕ) (f : Fault) (w : Words) (told : Option Files) (stores : List StoreSeen) → IsCaused n f w told stores → status_of f ≡ WORDS_REFUSED → AreRefused w
refused-words n (fault.Faulty text) (ask a) told stores cause is = absurd cause
refused-words n (fault.Faulty text) (refused r) told stores cause is = tt
refused-words n (fault.Faulty text) (ended kinds) told stores cause is = cause
refused-words n (fault.Refused r) w told stores cause is = subst AreRefused (sym cause) tt
refused-words n (fault.Unread name e) w told stores cause is = absurd (let far = unread-above e in omega (arith, far, is))
refused-words n (fault.NoQuery name why) w told stores cause is = absurd (omega (arith, is))
refused-words n (fault.Run names e) w told stores cause is = absurd (let far = run-above e in omega (arith, far, is))
refused-words n fault.OutputFailed w told stores cause is = absurd (omega (arith, is))
refused-words n fault.Memory w told stores cause is = absurd (omega (arith, is))

pub told-refused : (n : ℕ) (f : Fault) (w : Words) (told : Option Files) (stores : List StoreSeen) (status : ℕ) → IsCaused n f w told stores → (status ≡ status_of f) ⊎ (status ≡ NO_MEMORY) → status ≡ WORDS_REFUSED → AreRefused w
told-refused n f w told stores status cause (inl is) refuses = refused-words n f w told stores cause (sym is ∙ refuses)
told-refused n f w told stores status cause (inr is) refuses = absurd (omega (arith, is, refuses))

-- ---- what a status says

pub before-writing : (f : Fault) (status : ℕ) → (status ≡ status_of f) ⊎ (status ≡ NO_MEMORY) → IsTrue (is_unwritten status) → IsBefore f
before-writing (fault.Faulty text) status either is = tt
before-writing (fault.Refused r) status either is = tt
before-writing (fault.Unread name e) status either is = tt
before-writing (fault.NoQuery name why) status either is = tt
before-writing (fault.Run names e) status either is = tt
before-writing fault.OutputFailed status (inl same) is = absurd (false≢true (subst (λ (k : ℕ). IsTrue (is_unwritten k)) same is))
before-writing fault.OutputFailed status (inr same) is = absurd (false≢true (subst (λ (k : ℕ). IsTrue (is_unwritten k)) same is))
before-writing fault.Memory status (inl same) is = absurd (false≢true (subst (λ (k : ℕ). IsTrue (is_unwritten k)) same is))
before-writing fault.Memory status (inr same) is = absurd (false≢true (subst (λ (k : ℕ). IsTrue (is_unwritten k)) same is))

pub told-input : (f : Fault) (status : ℕ) → (status ≡ status_of f) ⊎ (status ≡ NO_MEMORY) → status ≡ INPUT_FAILED → status_of f ≡ INPUT_FAILED
told-input f status (inl is) failed = sym is ∙ failed
told-input f status (inr is) failed = absurd (omega (arith, is, failed))

read-output : (e : CsvError) → read_status e ≡ OUTPUT_FAILED → ⊥
read-output (csv_error.Missing file) is = omega (arith, is)
read-output (csv_error.Header file) is = omega (arith, is)
read-output (csv_error.Width file row) is = omega (arith, is)
read-output (csv_error.Field file row column) is = omega (arith, is)
read-output csv_error.Input is = omega (arith, is)
read-output csv_error.TooLarge is = omega (arith, is)
read-output csv_error.Memory is = omega (arith, is)

fault-output : (f : Fault) → status_of f ≡ OUTPUT_FAILED → f ≡ fault.OutputFailed
fault-output (fault.Faulty text) is = absurd (omega (arith, is))
fault-output (fault.Refused r) is = absurd (omega (arith, is))
fault-output (fault.Unread name file_end.Missing) is = absurd (omega (arith, is))
fault-output (fault.Unread name file_end.Failed) is = absurd (omega (arith, is))
fault-output (fault.Unread name file_end.TooLarge) is = absurd (omega (arith, is))
fault-output (fault.Unread name file_end.Memory) is = absurd (omega (arith, is))
fault-output (fault.NoQuery name why) is = absurd (omega (arith, is))
fault-output (fault.Run names (run_error.Read e)) is = absurd (read-output e is)
fault-output (fault.Run names (run_error.Run e)) is = absurd (let far = refused-above e in omega (arith, far, is))
fault-output fault.OutputFailed is = refl
fault-output fault.Memory is = absurd (omega (arith, is))

pub told-output : (f : Fault) (status : ℕ) → (status ≡ status_of f) ⊎ (status ≡ NO_MEMORY) → status ≡ OUTPUT_FAILED → f ≡ fault.OutputFailed
told-output f status (inl is) failed = fault-output f (sym is ∙ failed)
told-output f status (inr is) failed = absurd (omega (arith, is, failed))

-- where memory runs out, a front may be written
pub memory-begun : {O B : Type 0} (f : Fault) (old new : O) → (IsBefore f → new ≡ old) → (f ≡ fault.OutputFailed → B) → (f ≡ fault.Memory → (new ≡ old) ⊎ B) → (new ≡ old) ⊎ B
memory-begun (fault.Faulty text) old new before failed memory = inl (before tt)
memory-begun (fault.Refused r) old new before failed memory = inl (before tt)
memory-begun (fault.Unread name e) old new before failed memory = inl (before tt)
memory-begun (fault.NoQuery name why) old new before failed memory = inl (before tt)
memory-begun (fault.Run names e) old new before failed memory = inl (before tt)
memory-begun fault.OutputFailed old new before failed memory = inr (failed refl)
memory-begun fault.Memory old new before failed memory = memory refl

fault-status : (f : Fault) → is_status (status_of f) ≡ true
fault-status (fault.Faulty text) = refl
fault-status (fault.Refused r) = refl
fault-status (fault.Unread name file_end.Missing) = refl
fault-status (fault.Unread name file_end.Failed) = refl
fault-status (fault.Unread name file_end.TooLarge) = refl
fault-status (fault.Unread name file_end.Memory) = refl
fault-status (fault.NoQuery name why) = refl
fault-status (fault.Run names (run_error.Read (csv_error.Missing file))) = refl
fault-status (fault.Run names (run_error.Read (csv_error.Header file))) = refl
fault-status (fault.Run names (run_error.Read (csv_error.Width file row))) = refl
fault-status (fault.Run names (run_error.Read (csv_error.Field file row column))) = refl
fault-status (fault.Run names (run_error.Read csv_error.Input)) = refl
fault-status (fault.Run names (run_error.Read csv_error.TooLarge)) = refl
fault-status (fault.Run names (run_error.Read csv_error.Memory)) = refl
fault-status (fault.Run names (run_error.Run (pipe_error.Store p))) = refl
fault-status (fault.Run names (run_error.Run (pipe_error.Damaged p n))) = refl
fault-status (fault.Run names (run_error.Run pipe_error.Memory)) = refl
fault-status (fault.Run names (run_error.Run pipe_error.Limits)) = refl
fault-status (fault.Run names (run_error.Run (pipe_error.Query f))) = refl
fault-status (fault.Run names (run_error.Run pipe_error.Sink)) = refl
fault-status (fault.Run names (run_error.Run (pipe_error.Schema i))) = refl
fault-status (fault.Run names (run_error.Run pipe_error.TooLarge)) = refl
fault-status fault.OutputFailed = refl
fault-status fault.Memory = refl

pub told-status : (f : Fault) (status : ℕ) → (status ≡ status_of f) ⊎ (status ≡ NO_MEMORY) → IsTrue (is_status status)
told-status f status (inl is) = ap is_status is ∙ fault-status f
told-status f status (inr is) = ap is_status is

-- ---- good questions

-- a fault of a good question comes of something that fails, or of want of memory
module _ (n : ℕ) (a : AskedSeen) (files : Files) (stores : List StoreSeen) (good : asked_status a files ≡ DONE) (sound : All IsSoundStore stores) where
  due-none : (f : Fault) → IsCaused n f (ask a) (Some files) stores → is_failure (status_of f) ≡ false → ⊥
  due-none f cause other = by (asked-due n f a files stores cause) where
    by : (status_of f ≡ asked_status a files) ⊎ (is_failure (status_of f) ≡ true) → ⊥
    by (inl is) = let far = fault-above f in omega (arith, far, is, good)
    by (inr failed) = false≢true (sym other ∙ failed)

  run-fails : (e : FileRunError) (q : QueryTree) → IsQueryOf a.question (Some files) q → IsEnd e (job_of n a q) (Some files) stores → (is_failure (run_status e) ≡ false → ⊥) → (run_status e ≡ INPUT_FAILED) ⊎ (run_status e ≡ NO_MEMORY)
  run-fails (run_error.Read (csv_error.Missing file)) q asked ends none = absurd (none refl)
  run-fails (run_error.Read (csv_error.Header file)) q asked ends none = absurd (none refl)
  run-fails (run_error.Read (csv_error.Width file row)) q asked ends none = absurd (none refl)
  run-fails (run_error.Read (csv_error.Field file row column)) q asked ends none = absurd (none refl)
  run-fails (run_error.Read csv_error.Input) q asked ends none = inl refl
  run-fails (run_error.Read csv_error.TooLarge) q asked ends none = absurd (none refl)
  run-fails (run_error.Read csv_error.Memory) q asked ends none = inr refl
  run-fails (run_error.Run (pipe_error.Store p)) q asked ends none =
      absurd (let calm = (All-get_or IsSoundStore stores p no_store ends.1.within sound).sound in let failed = ends.1.failed in omega (arith, calm, failed))
  run-fails (run_error.Run (pipe_error.Damaged p k)) q asked ends none =
      absurd (false≢true (sym (ap (λ (o : Option (List (List ℕ))). is_some o) ends.1.untold) ∙ (All-get_or IsSoundStore stores p no_store ends.1.within sound).told))
  run-fails (run_error.Run pipe_error.Memory) q asked ends none = inr refl
  run-fails (run_error.Run pipe_error.Limits) q asked ends none = absurd ends
  run-fails (run_error.Run (pipe_error.Query f)) q asked ends none = absurd ends
  run-fails (run_error.Run pipe_error.Sink) q asked ends none = absurd ends
  run-fails (run_error.Run (pipe_error.Schema i)) q asked ends none = absurd ends
  run-fails (run_error.Run pipe_error.TooLarge) q asked ends none = absurd ends

  fails : (f : Fault) → IsCaused n f (ask a) (Some files) stores → (status_of f ≡ INPUT_FAILED → ⊥) → (f ≡ fault.OutputFailed → ⊥) → status_of f ≡ NO_MEMORY
  fails (fault.Faulty text) cause input output = absurd cause
  fails (fault.Refused r) cause input output = absurd (ask-refused a r cause)
  fails (fault.Unread name file_end.Missing) cause input output = absurd (due-none (fault.Unread name file_end.Missing) cause refl)
  fails (fault.Unread name file_end.Failed) cause input output = absurd (input refl)
  fails (fault.Unread name file_end.TooLarge) cause input output = absurd (due-none (fault.Unread name file_end.TooLarge) cause refl)
  fails (fault.Unread name file_end.Memory) cause input output = refl
  fails (fault.NoQuery name why) cause input output = absurd (due-none (fault.NoQuery name why) cause refl)
  fails (fault.Run names e) cause input output = by (run-fails e cause.query cause.asked cause.ends (due-none (fault.Run names e) cause)) where
    by : (run_status e ≡ INPUT_FAILED) ⊎ (run_status e ≡ NO_MEMORY) → run_status e ≡ NO_MEMORY
    by (inl is) = absurd (input is)
    by (inr is) = is
  fails fault.OutputFailed cause input output = absurd (output refl)
  fails fault.Memory cause input output = refl

pub told-complete : (n : ℕ) (f : Fault) (w : Words) (files : Files) (stores : List StoreSeen) (status : ℕ) → IsCaused n f w (Some files) stores → (status ≡ status_of f) ⊎ (status ≡ NO_MEMORY)
    → IsAnswered w files → All IsSoundStore stores → (status_of f ≡ INPUT_FAILED → ⊥) → (f ≡ fault.OutputFailed → ⊥) → status ≡ NO_MEMORY
told-complete n f (ask a) files stores status cause (inr is) good sound input output = is
told-complete n f (ask a) files stores status cause (inl is) good sound input output = is ∙ fails n a files stores good sound f cause input output
told-complete n f (refused r) files stores status cause either good sound input output = absurd good
told-complete n f (ended kinds) files stores status cause either good sound input output = absurd good
