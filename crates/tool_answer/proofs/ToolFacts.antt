-- How a run of the tool ends.
use Rattle.std.proofs.Common.{◌≡◌, ◌≢◌, ◌∙◌, ℕ, Bool, true, false, List, map, refl, sym, ap, subst, arith, inl, inr, Option, None, Some}
use Rattle.std.specs.Prelude.{◌⊎◌, ◌<◌, IfSome, is_some, IsSome, IsTrue, slice_index_or, unwrap_or}
use Rattle.std.specs.Io.KnownBytes.{Appends}
use Rattle.std.specs.List.{All}
use Rattle.std.proofs.lemmas.Bool.{false≢true}
use Rattle.std.proofs.lemmas.List.Elements.{All-get_or}
use Rattle.std.proofs.lemmas.Option.{none-some}
use Rattle.pipe_columns.specs.declared.data_chunk.DataChunk.{DataChunk}
use Rattle.pipe_global.specs.Partition.{no_store}
use Rattle.pipe_io.specs.Files.{Files}
use Rattle.pipe_io.specs.Output.{WroteFront}
use Rattle.pipe_model.specs.Answer.{answer}
use Rattle.pipe_model.specs.Query.{QueryTree}
use Rattle.pipe_plan.specs.declared.event.PartitionEvent.{PartitionEvent}
use Rattle.pipe_plan.specs.Run.{StoreSeen}
use Rattle.pipe_run.specs.declared.output.GroupByOutput.{GroupByOutput}
use Rattle.pipe_source.specs.CsvChunks.{CsvChunks, Stop}
use Rattle.pipe_words.specs.Plans.{PlanSeen}
use Rattle.tool_made.specs.Made.{made}
use Rattle.tool_made.specs.MadeQuery.{made_tree}
use Rattle.tool_made.specs.declared.made.Made.{Made}
use Rattle.tool_words.specs.Asked.{Asked, asks, makes, refused}
use Rattle.tool_words.specs.declared.refusal.Refusal.{Refusal}
use Rattle.tool_words.specs.declared.refusal.Refusal.TheVariants as refusal
use Rattle.tool_answer.specs.declared.fault.ToolFault.{ToolFault}
use Rattle.tool_answer.specs.declared.fault.ToolFault.TheVariants as fault
use Rattle.tool_shell.specs.declared.status.TheConstants.{DAMAGED, DONE, INPUT_REFUSED, NO_MEMORY, QUERY_REFUSED, STORE_FAILED, WORDS_REFUSED}
use Rattle.tool_run.specs.Answering.{AreFedMade}
use Rattle.tool_stores.specs.StorePath.{store_paths}
use Rattle.tool_answer.specs.Asking.{asked_run, due_paths, stop_due}
use Rattle.tool_answer.specs.Formats.{text_in}
use Rattle.tool_answer.specs.Ended.{HasFailed, HasUntold, IsSoundStore, NeverFailed}
use Rattle.tool_answer.specs.Faults.{IsCaused, refusal_status, status_of}
use Rattle.tool_answer.specs.Inside.{EndsMade, EndsRefused, IsLeft, IsUnread}
use Rattle.tool_answer.specs.Headline.{answer_text, AreFedInput, HasAnswer, HasNoRun, HaveFront, HasRun, HasRunTo, HasStopped, IsAnswerWritten, IsBegun, IsWritten}
use Rattle.tool_answer.specs.MadeRun.{HasMadeLines, TellAnswer}
use Rattle.tool_answer.specs.Status.{due_status, EndsAsDue, EndsUnread, FrameDamaged, is_answer, is_read_end, is_unread, IsDue, IsRefusal, stop_status, StoreFailed}
use Rattle.tool_answer.proofs.RunFacts.{paths-kept, replayed-are, told-made, whole-are}

-- ---- a run that was answered

-- a fault of writing leaves it
pub written-left : (o : Option ToolFault) (a : Asked) (told : Option Files) (journals : List (List PartitionEvent)) (stores : List StoreSeen)
    → IfSome o (λ f. (f ≡ fault.OutputFailed) ⊎ (f ≡ fault.Memory)) → HasRun a told journals stores → IfSome o (λ f. IsLeft f a told journals stores)
written-left None a told journals stores is run = tt
written-left (Some f) a told journals stores (inl is) run = rw is run
written-left (Some f) a told journals stores (inr is) run = rw is (inr (inr run))

-- what holds of both faults of writing holds of the one that came
pub written-has : (P : ToolFault → Type 0) (o : Option ToolFault) → IfSome o (λ f. (f ≡ fault.OutputFailed) ⊎ (f ≡ fault.Memory)) → P fault.OutputFailed → P fault.Memory → IfSome o P
written-has P None is failed memory = tt
written-has P (Some f) (inl is) failed memory = rw is failed
written-has P (Some f) (inr is) failed memory = rw is memory

-- what was written of it is a front
pub memory-begun : {O : Type 0} (old new : O) (told : O → Option (List ℕ)) (p : PlanSeen) (q : QueryTree) (files : Option Files) (journals : List (List PartitionEvent)) (stores : List StoreSeen) (text : List ℕ)
    → HasAnswer p q files journals stores text → (new ≡ old) ⊎ WroteFront (told old) (told new) text → (new ≡ old) ⊎ IsBegun (asks p q) files (told old) (told new) journals stores
memory-begun old new told p q files journals stores text has (inl same) = inl same
memory-begun old new told p q files journals stores text has (inr front) = inr (text, has, front)

-- where the stores tell, its text is that of the answer over the files
answer-of : (p : PlanSeen) (q : QueryTree) (told : Option Files) (old new : Option (List ℕ)) (journals : List (List PartitionEvent)) (stores : List StoreSeen) (text : List ℕ)
    → HasAnswer p q told journals stores text → All IsSoundStore stores → Appends old new text → IfSome told (λ files. Appends old new (answer_text files p q))
answer-of p q None old new journals stores text has sound appends = tt
answer-of p q (Some files) old new journals stores text has sound appends =
    let run = has.run in
    let r = asked_run p q false run.chunks run.made in
    let told = told-made p q false run.chunks run.made stores run.are_made run.count (replayed-are r has.out stores run.answered) sound in
    let is : text ≡ answer_text files p q =
    has.text_is ∙ ap (text_in p.format) (run.answered.answer told) ∙ ap (λ (c : CsvChunks). text_in p.format (answer c.chunks q p.limits.partitions)) (sym run.are_input) in
    subst (Appends old new) is appends

-- and its lines tell of the answer over generated rows
tells-answer : (p : PlanSeen) (m : Made) (journals : List (List PartitionEvent)) (stores : List StoreSeen) (text : List ℕ) → HasMadeLines p m journals stores text → All IsSoundStore stores → TellAnswer p m text
tells-answer p m journals stores text has sound =
    let run = has.run in
    let r = asked_run p made_tree false (made m) run.new in
    let told = told-made p made_tree false (made m) run.new stores run.are_made run.count (replayed-are r has.out stores run.answered) sound in
    record { out = has.out; frame_is = run.answered.answer told; text_is = has.text_is }

pub written-answered : (a : Asked) (told : Option Files) (old new : Option (List ℕ)) (journals : List (List PartitionEvent)) (stores : List StoreSeen)
    → IsWritten a told old new journals stores → All IsSoundStore stores → IsAnswerWritten a told old new
written-answered (refused r) told old new journals stores written sound = absurd written
written-answered (asks p q) told old new journals stores written sound = answer-of p q told old new journals stores written.0 written.1 sound written.2
written-answered (makes p m) told old new journals stores written sound = (written.0, tells-answer p m journals stores written.0 written.1 sound, written.2)

-- ---- the status that is due

-- an answered run read its files to their end
run-due : (p : PlanSeen) (q : QueryTree) (told : Option Files) (out : GroupByOutput) (stores : List StoreSeen) → HasRunTo p q told out stores → EndsAsDue DONE (asks p q) told
run-due p q None out stores run = tt
run-due p q (Some files) out stores run = inl (rw run.are_input (rw run.few refl))

pub written-due : (a : Asked) (told : Option Files) (old new : Option (List ℕ)) (journals : List (List PartitionEvent)) (stores : List StoreSeen)
    → IsWritten a told old new journals stores → EndsAsDue DONE a told
written-due (refused r) told old new journals stores written = absurd written
written-due (asks p q) told old new journals stores written = run-due p q told written.1.out stores written.1.run
written-due (makes p m) None old new journals stores written = tt
written-due (makes p m) (Some files) old new journals stores written = inl refl

-- the status of a stop is due where the files stop so
stop-due : (a : Asked) (files : Files) (stop : Stop) → stop_due a files ≡ Some stop → due_status a files ≡ stop_status (Some stop)
stop-due (refused r) files stop is = absurd (none-some stop is)
stop-due (asks p q) files stop is = ap stop_status is
stop-due (makes p m) files stop is = absurd (none-some stop is)

memory-due : (a : Asked) (told : Option Files) → EndsAsDue NO_MEMORY a told
memory-due a None = tt
memory-due a (Some files) = inr refl

-- a fault comes where its status is due, or is one of a failure
caused-due : (f : ToolFault) (a : Asked) (told : Option Files) (stores : List StoreSeen) → IsCaused f a told stores → EndsAsDue (status_of f) a told
caused-due f a None stores cause = tt
caused-due (fault.Refused r) a (Some files) stores cause = inl (rw cause refl)
caused-due fault.InputFailed a (Some files) stores cause = inr refl
caused-due fault.OutputFailed a (Some files) stores cause = inr refl
caused-due (fault.Store p) a (Some files) stores cause = inr refl
caused-due (fault.Damaged p n) a (Some files) stores cause = inr refl
caused-due fault.Memory a (Some files) stores cause = inr refl
caused-due (fault.Missing file) a (Some files) stores cause = inl (sym (stop-due a files _ cause.0))
caused-due (fault.Header file) a (Some files) stores cause = inl (sym (stop-due a files _ cause.0))
caused-due (fault.Width file row) a (Some files) stores cause = inl (sym (stop-due a files _ cause.0))
caused-due (fault.Field file row column) a (Some files) stores cause = inl (sym (stop-due a files _ cause.0))
caused-due fault.TooLarge a (Some files) stores cause = inl (sym (stop-due a files _ cause.0))

pub told-due : (f : ToolFault) (a : Asked) (told : Option Files) (stores : List StoreSeen) (status : ℕ) → IsCaused f a told stores → (status ≡ status_of f) ⊎ (status ≡ NO_MEMORY) → EndsAsDue status a told
told-due f a told stores status cause (inl is) = rw is (caused-due f a told stores cause)
told-due f a told stores status cause (inr is) = rw is (memory-due a told)

-- ---- refused words

some-is : (f g : ToolFault) → Some f ≡ Some g → f ≡ g
some-is f g is = ap (λ (o : Option ToolFault). unwrap_or o f) is

pub told-refusal : (f : ToolFault) (a : Asked) (status : ℕ) → EndsRefused a (Some f) → (status ≡ status_of f) ⊎ (status ≡ NO_MEMORY) → IsRefusal a status
told-refusal f (asks p q) status ends is = tt
told-refusal f (makes p m) status ends is = tt
told-refusal f (refused r) status ends (inr is) = inr is
told-refusal f (refused r) status (inl ends) (inl is) = inl (is ∙ ap status_of (some-is f (fault.Refused r) ends))
told-refusal f (refused r) status (inr ends) (inl is) = inr (is ∙ ap status_of (some-is f fault.Memory ends))

pub done-refusal : (a : Asked) (status : ℕ) → EndsRefused a None → IsRefusal a status
done-refusal (asks p q) status ends = tt
done-refusal (makes p m) status ends = tt
done-refusal (refused r) status (inl ends) = absurd (none-some (fault.Refused r) ends)
done-refusal (refused r) status (inr ends) = absurd (none-some fault.Memory ends)

-- ---- generated rows

unread-status : (f : ToolFault) → IsUnread f → is_unread (status_of f) ≡ true
unread-status fault.OutputFailed is = refl
unread-status (fault.Store p) is = refl
unread-status (fault.Damaged p n) is = refl
unread-status fault.Memory is = refl
unread-status (fault.Refused r) is = absurd is
unread-status (fault.Missing file) is = absurd is
unread-status (fault.Header file) is = absurd is
unread-status (fault.Width file row) is = absurd is
unread-status (fault.Field file row column) is = absurd is
unread-status fault.InputFailed is = absurd is
unread-status fault.TooLarge is = absurd is

pub told-unread : (f : ToolFault) (a : Asked) (status : ℕ) → EndsMade a (Some f) → (status ≡ status_of f) ⊎ (status ≡ NO_MEMORY) → EndsUnread a status
told-unread f (refused r) status ends is = tt
told-unread f (asks p q) status ends is = tt
told-unread f (makes p m) status ends (inl is) = rw is (unread-status f ends)
told-unread f (makes p m) status ends (inr is) = rw is refl

pub done-unread : (a : Asked) → EndsUnread a DONE
done-unread (refused r) = tt
done-unread (asks p q) = tt
done-unread (makes p m) = refl

-- ---- statuses of faults

refusal-not-done : (r : Refusal) → refusal_status r ≡ DONE → ⊥
refusal-not-done refusal.Words is = omega (arith, is)
refusal-not-done (refusal.NoQuery why) is = omega (arith, is)
refusal-not-done refusal.UnfitSink is = omega (arith, is)

fault-not-done : (f : ToolFault) → status_of f ≡ DONE → ⊥
fault-not-done (fault.Refused r) is = refusal-not-done r is
fault-not-done (fault.Missing file) is = omega (arith, is)
fault-not-done (fault.Header file) is = omega (arith, is)
fault-not-done (fault.Width file row) is = omega (arith, is)
fault-not-done (fault.Field file row column) is = omega (arith, is)
fault-not-done fault.InputFailed is = omega (arith, is)
fault-not-done fault.OutputFailed is = omega (arith, is)
fault-not-done fault.TooLarge is = omega (arith, is)
fault-not-done (fault.Store p) is = omega (arith, is)
fault-not-done (fault.Damaged p n) is = omega (arith, is)
fault-not-done fault.Memory is = omega (arith, is)

pub told-not-done : (f : ToolFault) (status : ℕ) → (status ≡ status_of f) ⊎ (status ≡ NO_MEMORY) → status ≡ DONE → ⊥
told-not-done f status (inl is) done = fault-not-done f (sym is ∙ done)
told-not-done f status (inr is) done = omega (arith, is, done)

-- ---- what a status says

refusal-either : (r : Refusal) → (refusal_status r ≡ WORDS_REFUSED) ⊎ (refusal_status r ≡ QUERY_REFUSED)
refusal-either refusal.Words = inl refl
refusal-either (refusal.NoQuery why) = inr refl
refusal-either refusal.UnfitSink = inl refl

-- refused words have no status behind these
refusal-below : (r : Refusal) → refusal_status r < INPUT_REFUSED
refusal-below r = by (refusal-either r) where
  by : (refusal_status r ≡ WORDS_REFUSED) ⊎ (refusal_status r ≡ QUERY_REFUSED) → refusal_status r < INPUT_REFUSED
  by (inl is) = omega (arith, is)
  by (inr is) = omega (arith, is)

-- the fault of a store that failed, and of a damaged frame
store-of : (f : ToolFault) (a : Asked) (told : Option Files) (stores : List StoreSeen) → IsCaused f a told stores → status_of f ≡ STORE_FAILED → StoreFailed a stores
store-of (fault.Refused r) a told stores cause is = absurd (omega (arith, is, refusal-below r))
store-of (fault.Missing file) a told stores cause is = absurd (omega (arith, is))
store-of (fault.Header file) a told stores cause is = absurd (omega (arith, is))
store-of (fault.Width file row) a told stores cause is = absurd (omega (arith, is))
store-of (fault.Field file row column) a told stores cause is = absurd (omega (arith, is))
store-of fault.InputFailed a told stores cause is = absurd (omega (arith, is))
store-of fault.OutputFailed a told stores cause is = absurd (omega (arith, is))
store-of fault.TooLarge a told stores cause is = absurd (omega (arith, is))
store-of (fault.Store p) a told stores cause is = record { folder = cause.0; partition = p; failed = cause.1 }
store-of (fault.Damaged p n) a told stores cause is = absurd (omega (arith, is))
store-of fault.Memory a told stores cause is = absurd (omega (arith, is))

damaged-of : (f : ToolFault) (a : Asked) (told : Option Files) (stores : List StoreSeen) → IsCaused f a told stores → status_of f ≡ DAMAGED → FrameDamaged a stores
damaged-of (fault.Refused r) a told stores cause is = absurd (omega (arith, is, refusal-below r))
damaged-of (fault.Missing file) a told stores cause is = absurd (omega (arith, is))
damaged-of (fault.Header file) a told stores cause is = absurd (omega (arith, is))
damaged-of (fault.Width file row) a told stores cause is = absurd (omega (arith, is))
damaged-of (fault.Field file row column) a told stores cause is = absurd (omega (arith, is))
damaged-of fault.InputFailed a told stores cause is = absurd (omega (arith, is))
damaged-of fault.OutputFailed a told stores cause is = absurd (omega (arith, is))
damaged-of fault.TooLarge a told stores cause is = absurd (omega (arith, is))
damaged-of (fault.Store p) a told stores cause is = absurd (omega (arith, is))
damaged-of (fault.Damaged p n) a told stores cause is = record { folder = cause.0; partition = p; number = n; untold = cause.1 }
damaged-of fault.Memory a told stores cause is = absurd (omega (arith, is))

pub told-store : (f : ToolFault) (a : Asked) (told : Option Files) (stores : List StoreSeen) (status : ℕ) → IsCaused f a told stores → (status ≡ status_of f) ⊎ (status ≡ NO_MEMORY) → status ≡ STORE_FAILED → StoreFailed a stores
told-store f a told stores status cause (inl is) failed = store-of f a told stores cause (sym is ∙ failed)
told-store f a told stores status cause (inr is) failed = absurd (omega (arith, is, failed))

pub told-damaged : (f : ToolFault) (a : Asked) (told : Option Files) (stores : List StoreSeen) (status : ℕ) → IsCaused f a told stores → (status ≡ status_of f) ⊎ (status ≡ NO_MEMORY) → status ≡ DAMAGED → FrameDamaged a stores
told-damaged f a told stores status cause (inl is) damaged = damaged-of f a told stores cause (sym is ∙ damaged)
told-damaged f a told stores status cause (inr is) damaged = absurd (omega (arith, is, damaged))

refusal-no-end : (r : Refusal) → IsTrue (is_read_end (refusal_status r)) → ⊥
refusal-no-end refusal.Words is = false≢true is
refusal-no-end (refusal.NoQuery why) is = false≢true is
refusal-no-end refusal.UnfitSink is = false≢true is

-- where reading ended early no store has failed
unfailed-of : (f : ToolFault) (a : Asked) (told : Option Files) (stores : List StoreSeen) → IsCaused f a told stores → IsTrue (is_read_end (status_of f)) → NeverFailed stores
unfailed-of (fault.Refused r) a told stores cause is = absurd (refusal-no-end r is)
unfailed-of (fault.Missing file) a told stores cause is = cause.1
unfailed-of (fault.Header file) a told stores cause is = cause.1
unfailed-of (fault.Width file row) a told stores cause is = cause.1
unfailed-of (fault.Field file row column) a told stores cause is = cause.1
unfailed-of fault.InputFailed a told stores cause is = cause
unfailed-of fault.OutputFailed a told stores cause is = absurd (false≢true is)
unfailed-of fault.TooLarge a told stores cause is = cause.1
unfailed-of (fault.Store p) a told stores cause is = absurd (false≢true is)
unfailed-of (fault.Damaged p n) a told stores cause is = absurd (false≢true is)
unfailed-of fault.Memory a told stores cause is = absurd (false≢true is)

pub told-unfailed : (f : ToolFault) (a : Asked) (told : Option Files) (stores : List StoreSeen) (status : ℕ) → IsCaused f a told stores → (status ≡ status_of f) ⊎ (status ≡ NO_MEMORY) → IsTrue (is_read_end status) → NeverFailed stores
told-unfailed f a told stores status cause (inl is) end = unfailed-of f a told stores cause (subst (λ (n : ℕ). IsTrue (is_read_end n)) is end)
told-unfailed f a told stores status cause (inr is) end = absurd (false≢true (subst (λ (n : ℕ). IsTrue (is_read_end n)) is end))

-- ---- what is left of the run

pub written-run : (a : Asked) (told : Option Files) (old new : Option (List ℕ)) (journals : List (List PartitionEvent)) (stores : List StoreSeen) → IsWritten a told old new journals stores → HasRun a told journals stores
written-run (refused r) told old new journals stores written = written
written-run (asks p q) told old new journals stores written = (written.0, written.1)
written-run (makes p m) told old new journals stores written = (written.0, written.1)

refusal-no-answer : (r : Refusal) → IsTrue (is_answer (refusal_status r)) → ⊥
refusal-no-answer refusal.Words is = false≢true is
refusal-no-answer (refusal.NoQuery why) is = false≢true is
refusal-no-answer refusal.UnfitSink is = false≢true is

left-ran : (f : ToolFault) (a : Asked) (told : Option Files) (journals : List (List PartitionEvent)) (stores : List StoreSeen) → IsLeft f a told journals stores → IsTrue (is_answer (status_of f)) → HasRun a told journals stores
left-ran (fault.Refused r) a told journals stores left is = absurd (refusal-no-answer r is)
left-ran (fault.Missing file) a told journals stores left is = absurd (false≢true is)
left-ran (fault.Header file) a told journals stores left is = absurd (false≢true is)
left-ran (fault.Width file row) a told journals stores left is = absurd (false≢true is)
left-ran (fault.Field file row column) a told journals stores left is = absurd (false≢true is)
left-ran fault.InputFailed a told journals stores left is = absurd (false≢true is)
left-ran fault.OutputFailed a told journals stores left is = left
left-ran fault.TooLarge a told journals stores left is = absurd (false≢true is)
left-ran (fault.Store p) a told journals stores left is = absurd (false≢true is)
left-ran (fault.Damaged p n) a told journals stores left is = absurd (false≢true is)
left-ran fault.Memory a told journals stores left is = absurd (false≢true is)

pub told-ran : (f : ToolFault) (a : Asked) (told : Option Files) (journals : List (List PartitionEvent)) (stores : List StoreSeen) (status : ℕ) → IsLeft f a told journals stores → (status ≡ status_of f) ⊎ (status ≡ NO_MEMORY)
    → IsTrue (is_answer status) → HasRun a told journals stores
told-ran f a told journals stores status left (inl is) ran = left-ran f a told journals stores left (subst (λ (n : ℕ). IsTrue (is_answer n)) is ran)
told-ran f a told journals stores status left (inr is) ran = absurd (false≢true (subst (λ (n : ℕ). IsTrue (is_answer n)) is ran))

pub left-any : (f : ToolFault) (a : Asked) (told : Option Files) (journals : List (List PartitionEvent)) (stores : List StoreSeen) → IsLeft f a told journals stores
    → HasNoRun journals stores ⊎ HasStopped a told journals stores ⊎ HasRun a told journals stores
left-any (fault.Refused r) a told journals stores left = inl left
left-any (fault.Missing file) a told journals stores left = inr (inl left)
left-any (fault.Header file) a told journals stores left = inr (inl left)
left-any (fault.Width file row) a told journals stores left = inr (inl left)
left-any (fault.Field file row column) a told journals stores left = inr (inl left)
left-any fault.InputFailed a told journals stores left = inr (inl left)
left-any fault.OutputFailed a told journals stores left = inr (inr left)
left-any fault.TooLarge a told journals stores left = inr (inl left)
left-any (fault.Store p) a told journals stores left = inr (inl left)
left-any (fault.Damaged p n) a told journals stores left = inr (inl left)
left-any fault.Memory a told journals stores left = left

-- ---- stores

-- a fault that is told by another status isn't want of memory
pub told-otherwise : (o : Option ToolFault) (f : ToolFault) (status : ℕ) → o ≡ Some f → (status ≢ NO_MEMORY → status ≡ status_of f) → status ≢ NO_MEMORY → o ≡ Some fault.Memory → ⊥
told-otherwise o f status has told other is = other (told other ∙ ap status_of (some-is f fault.Memory (sym has ∙ is)))

-- ---- where nothing fails

-- no sound store has failed
none-failed : (stores : List StoreSeen) (p : ℕ) → All IsSoundStore stores → HasFailed stores p → ⊥
none-failed stores p sound failed =
    let at : IsSoundStore (slice_index_or stores p no_store) = All-get_or IsSoundStore stores p no_store failed.within sound in
    omega (arith, at.sound, failed.failed)

-- each sound store tells
none-untold : (stores : List StoreSeen) (p n : ℕ) → All IsSoundStore stores → HasUntold stores p n → ⊥
none-untold stores p n sound untold =
    let at : IsSoundStore (slice_index_or stores p no_store) = All-get_or IsSoundStore stores p no_store untold.within sound in
    false≢true (sym (ap (λ (o : Option (List (List ℕ))). is_some o) untold.untold) ∙ at.told)

-- where 0 is due and nothing failed, a fault is want of memory
calm-fault : (f : ToolFault) (a : Asked) (files : Files) (stores : List StoreSeen) → IsCaused f a (Some files) stores → due_status a files ≡ DONE → All IsSoundStore stores
    → (f ≡ fault.InputFailed → ⊥) → (f ≡ fault.OutputFailed → ⊥) → status_of f ≡ NO_MEMORY
calm-fault (fault.Refused r) a files stores cause due sound input output = absurd (refusal-not-done r (subst (λ (b : Asked). due_status b files ≡ DONE) cause due))
calm-fault (fault.Missing file) a files stores cause due sound input output = absurd (omega (arith, due, stop-due a files _ cause.0))
calm-fault (fault.Header file) a files stores cause due sound input output = absurd (omega (arith, due, stop-due a files _ cause.0))
calm-fault (fault.Width file row) a files stores cause due sound input output = absurd (omega (arith, due, stop-due a files _ cause.0))
calm-fault (fault.Field file row column) a files stores cause due sound input output = absurd (omega (arith, due, stop-due a files _ cause.0))
calm-fault fault.InputFailed a files stores cause due sound input output = absurd (input refl)
calm-fault fault.OutputFailed a files stores cause due sound input output = absurd (output refl)
calm-fault fault.TooLarge a files stores cause due sound input output = absurd (omega (arith, due, stop-due a files _ cause.0))
calm-fault (fault.Store p) a files stores cause due sound input output = absurd (none-failed stores p sound cause.1)
calm-fault (fault.Damaged p n) a files stores cause due sound input output = absurd (none-untold stores p n sound cause.1)
calm-fault fault.Memory a files stores cause due sound input output = refl

-- and so it is told
pub told-complete : (f : ToolFault) (a : Asked) (told : Option Files) (stores : List StoreSeen) (status : ℕ) → IsCaused f a told stores → (status ≡ status_of f) ⊎ (status ≡ NO_MEMORY)
    → IsSome told → IsDue DONE a told → All IsSoundStore stores → (f ≡ fault.InputFailed → ⊥) → (f ≡ fault.OutputFailed → ⊥) → status ≡ NO_MEMORY
told-complete f a told stores status cause (inr is) known due sound input output = is
told-complete f a None stores status cause (inl is) known due sound input output = absurd (false≢true known)
told-complete f a (Some files) stores status cause (inl is) known due sound input output = is ∙ calm-fault f a files stores cause due sound input output

-- ---- where the stores lie

front-paths : (p : PlanSeen) (q : QueryTree) (Fed : Bool → List DataChunk → Type 0) (stores : List StoreSeen) → HaveFront p q Fed stores
    → map (λ (s : StoreSeen). s.path) stores ≡ store_paths p.spill_dir p.limits.partitions
front-paths p q Fed stores front =
    let r = asked_run p q front.is_open front.chunks front.made in
    paths-kept r stores front.count (whole-are r stores front.frames) ∙ front.paths

-- whatever is left of a run, its stores lie where they are due
pub left-paths : (a : Asked) (told : Option Files) (journals : List (List PartitionEvent)) (stores : List StoreSeen)
    → HasNoRun journals stores ⊎ HasStopped a told journals stores ⊎ HasRun a told journals stores
    → HasNoRun journals stores ⊎ (map (λ (s : StoreSeen). s.path) stores ≡ due_paths a)
left-paths a told journals stores (inl none) = inl none
left-paths (refused r) told journals stores (inr (inl stopped)) = absurd stopped
left-paths (refused r) told journals stores (inr (inr run)) = absurd run
left-paths (asks p q) told journals stores (inr (inl stopped)) = inr (front-paths p q (AreFedInput p q told) stores stopped.1)
left-paths (asks p q) told journals stores (inr (inr run)) =
    let has = run.1.run in
    let r = asked_run p q false has.chunks has.made in
    inr (paths-kept r stores has.count (replayed-are r run.1.out stores has.answered) ∙ has.paths)
left-paths (makes p m) told journals stores (inr (inl stopped)) = inr (front-paths p made_tree (AreFedMade m) stores stopped.1)
left-paths (makes p m) told journals stores (inr (inr run)) =
    let has = run.1.run in
    let r = asked_run p made_tree false (made m) has.new in
    inr (paths-kept r stores has.count (replayed-are r run.1.out stores has.answered) ∙ has.paths)
