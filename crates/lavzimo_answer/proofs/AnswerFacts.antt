-- What a run that was answered owes.
use Rattle.std.proofs.Common.{◌≡◌, ◌∙◌, ℕ, false, List, refl, sym, ap, subst, inl, inr, Option, None, Some}
use Rattle.std.specs.Prelude.{◌⊎◌, IfSome}
use Rattle.std.specs.Io.KnownBytes.{Appends}
use Rattle.std.specs.List.{All}
use Rattle.pipe_columns.specs.declared.data_chunk.DataChunk.{DataChunk}
use Rattle.pipe_columns.specs.Frame.{FrameData}
use Rattle.pipe_io.specs.Files.{Files}
use Rattle.pipe_model.specs.Answer.{answer}
use Rattle.pipe_model.specs.Query.{QueryTree}
use Rattle.pipe_plan.specs.declared.event.PartitionEvent.{PartitionEvent}
use Rattle.pipe_plan.specs.Run.{StoreSeen}
use Rattle.pipe_source.specs.CsvChunks.{CsvChunks}
use Rattle.pipe_words.specs.declared.plan.Format.{Format}
use Rattle.tool_run.specs.Reading.{end_of}
use Rattle.tool_shell.specs.declared.status.TheConstants.{DONE, INPUT_FAILED, NO_MEMORY}
use Rattle.lavzimo_run.specs.Jobs.{job_run, query_chunks}
use Rattle.lavzimo_run.specs.Stores.{IsSoundStore}
use Rattle.lavzimo_run.proofs.StoreFacts.{replayed-are, told-made}
use Rattle.lavzimo_shown.specs.Showing.{shown_of, shown_text}
use Rattle.lavzimo_shown.proofs.PartitionLaws.{shown-same}
use Rattle.lavzimo_words.specs.Asked.{AskedSeen, QuestionSeen, Words, ask, ended, of_columns, of_file, refused}
use Rattle.lavzimo_answer.specs.Asking.{IsQueryOf, job_of, partitions_of, within}
use Rattle.lavzimo_answer.specs.Faults.{IsCaused, status_of}
use Rattle.lavzimo_answer.specs.Headline.{HasAnswer, IsAnswerWritten, IsOwed, IsWritten, owed_text}
use Rattle.lavzimo_answer.specs.Status.{EndsAsDue, IsAnswered}
use Rattle.lavzimo_answer.specs.declared.fault.Fault.{Fault}
use Rattle.lavzimo_answer.specs.declared.fault.Fault.TheVariants as fault
use Rattle.lavzimo_answer.proofs.EndFacts.{ends-due, told-complete}

pub some-at : {A : Type 0} (o : Option A) (x : A) (P : A → Type 0) → o ≡ Some x → IfSome o P → P x
some-at o x P is h = subst (λ o'. IfSome o' P) is h

pub told-same : (f : Fault) (status : ℕ) → (status ≡ status_of f) ⊎ (status ≡ NO_MEMORY) → (status ≡ NO_MEMORY → ⊥) → status ≡ status_of f
told-same f status (inl is) other = is
told-same f status (inr is) other = absurd (other is)

-- ---- one partition

-- what is shown of an answer depends on no number of partitions
one-partition : (s : QuestionSeen) (told : Option Files) (q : QueryTree) (f : Format) (chunks : List DataChunk) (n : ℕ) → IsQueryOf s told q
    → shown_text f (shown_of s q) (answer chunks q (partitions_of s n)) ≡ shown_text f (shown_of s q) (answer chunks q 1)
one-partition (of_columns c) told q f chunks n is =
    subst (λ (t : QueryTree). shown_text f (shown_of (of_columns c) t) (answer chunks t (within 1 4096 n)) ≡ shown_text f (shown_of (of_columns c) t) (answer chunks t 1)) (sym is) (shown-same c f chunks (within 1 4096 n) 1)
one-partition (of_file name) told q f chunks n is = refl

owed-of : (n : ℕ) (a : AskedSeen) (files : Files) (old new : Option (List ℕ)) (journals : List (List PartitionEvent)) (stores : List StoreSeen) (text : List ℕ)
    → HasAnswer n a (Some files) journals stores text → All IsSoundStore stores → Appends old new text → IsOwed a files old new
owed-of n a files old new journals stores text has sound appends =
    let q = has.query in
    let j = job_of n a q in
    let run = has.answered.answered in
    let shown : FrameData → List ℕ = shown_text a.format (shown_of a.question q) in
    let told = told-made j.spill_dir (job_run j false run.chunks run.made) stores run.are_made (replayed-are (job_run j false run.chunks run.made) has.answered.out stores run.answered) sound in
    let is : text ≡ owed_text a q files =
    has.answered.text_is ∙ ap shown (run.answered.answer told) ∙ one-partition a.question (Some files) q a.format run.chunks a.partitions has.asked
    ∙ ap (λ (c : CsvChunks). shown (answer c.chunks q 1)) (sym run.all) in
    record { query = q; asked = has.asked; grew = subst (Appends old new) is appends }

pub written-answered : (n : ℕ) (w : Words) (told : Option Files) (old new : Option (List ℕ)) (journals : List (List PartitionEvent)) (stores : List StoreSeen)
    → IsWritten n w told old new journals stores → All IsSoundStore stores → IsAnswerWritten w told old new
written-answered n (ask a) None old new journals stores written sound = tt
written-answered n (ask a) (Some files) old new journals stores written sound = owed-of n a files old new journals stores written.0 written.1 sound written.2
written-answered n (refused r) told old new journals stores written sound = absurd written.1
written-answered n (ended kinds) told old new journals stores written sound = written.1.0

-- ---- the status that is due

pub written-due : (n : ℕ) (w : Words) (told : Option Files) (old new : Option (List ℕ)) (journals : List (List PartitionEvent)) (stores : List StoreSeen)
    → IsWritten n w told old new journals stores → EndsAsDue DONE w told
written-due n w None old new journals stores written = tt
written-due n (ask a) (Some files) old new journals stores written =
    let has = written.1 in
    let run = has.answered.answered in
    let ends : end_of (query_chunks files a.files has.query) ≡ None = rw run.all (rw run.few refl) in
    inl (sym (ends-due a files has.query None has.asked ends))
written-due n (refused r) (Some files) old new journals stores written = absurd written.1
written-due n (ended kinds) (Some files) old new journals stores written = inl (inl (refl, written.1.0))

-- ---- good questions

pub if-told : (told : Option Files) (P : Files → Type 0) → ((files : Files) → P files) → IfSome told P
if-told None P h = tt
if-told (Some files) P h = h files

pub complete-told : (told : Option Files) (n : ℕ) (f : Fault) (w : Words) (stores : List StoreSeen) (status : ℕ) {S : Type 0} (Input Output : Type 0) → (S → All IsSoundStore stores) → IsCaused n f w told stores
    → (status ≡ status_of f) ⊎ (status ≡ NO_MEMORY) → (status_of f ≡ INPUT_FAILED → Input) → (f ≡ fault.OutputFailed → Output)
    → IfSome told (λ files. IsAnswered w files → S → (Input → ⊥) → (Output → ⊥) → (status ≡ DONE) ⊎ (status ≡ NO_MEMORY))
complete-told None n f w stores status Input Output sound cause either input output = tt
complete-told (Some files) n f w stores status Input Output sound cause either input output =
    λ good whole calm heard. inr (told-complete n f w files stores status cause either good (sound whole) (λ is. calm (input is)) (λ is. heard (output is)))
