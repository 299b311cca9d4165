-- What is asked of files has one result.
use Rattle.std.proofs.Common.{◌≡◌, ◌∙◌, ℕ, Bool, true, false, List, Option, Some, None, Result, Ok, Err, refl, sym, ap}
use Rattle.std.proofs.lemmas.Bool.{false≢true}
use Rattle.memory_runs.specs.TextRuns.{stop_error}
use Rattle.memory_states.specs.Results.{IsResult}
use Rattle.pipe_columns.specs.Frame.{FrameData}
use Rattle.pipe_csv.specs.Texts.{csv_text}
use Rattle.pipe_csv.specs.declared.csv_error.CsvError.{CsvError}
use Rattle.pipe_csv.specs.declared.csv_error.CsvError.TheVariants as csv_error
use Rattle.pipe_io.specs.Files.{Files}
use Rattle.pipe_source.specs.CsvChunks.{Stop}
use Rattle.rollup_answer.specs.Faults.{EndsRolling, EndsSaving, IsCaused, read_status, roll_status, status_of}
use Rattle.rollup_answer.specs.Headline.{IsOwed}
use Rattle.rollup_answer.specs.Status.{is_failure}
use Rattle.rollup_answer.specs.declared.fault.RollupFault.{RollupFault}
use Rattle.rollup_answer.specs.declared.fault.RollupFault.TheVariants as fault
use Rattle.rollup_answer.proofs.CauseFacts.{owed-none}
use Rattle.rollup_roll.specs.Rolled.{is_of_files}
use Rattle.rollup_roll.specs.declared.roll_error.RollError.{RollError}
use Rattle.rollup_roll.specs.declared.roll_error.RollError.TheVariants as roll_error
use Rattle.rollup_roll.proofs.OneEnd.{frame-one, refusal-one}
use Rattle.rollup_save.specs.Saves.{Tells}
use Rattle.rollup_words.specs.Asked.{Asked, is_refused, refused, rolls, saves}
use Rattle.rollup_words.specs.declared.refusal.Refusal.{Refusal}

-- a failure is no fault of words or files
loud : {A : Type 0} → true ≡ false → A
loud is = absurd (false≢true (sym is))

-- ---- a text that isn't saved

-- the error that tells where saving ends
abbrev error_at : Option Stop → CsvError
error_at None = csv_error.Memory
error_at (Some stop) = stop_error stop

tells-at : (e : CsvError) (stop : Option Stop) → is_failure (read_status e) ≡ false → Tells e stop → e ≡ error_at stop
tells-at (csv_error.Missing file) stop calm is = sym (ap error_at is)
tells-at (csv_error.Header file) stop calm is = sym (ap error_at is)
tells-at (csv_error.Width file row) stop calm is = sym (ap error_at is)
tells-at (csv_error.Field file row column) stop calm is = sym (ap error_at is)
tells-at csv_error.TooLarge stop calm is = sym (ap error_at is)
tells-at csv_error.Input stop calm is = loud calm
tells-at csv_error.Memory stop calm is = loud calm

save-one : (a : Asked) (files : Files) (d e : CsvError) → is_failure (read_status d) ≡ false → is_failure (read_status e) ≡ false → EndsSaving d a (Some files) → EndsSaving e a (Some files) → d ≡ e
save-one (refused r) files d e calm still one two = absurd one
save-one (saves q first names) files d e calm still one two = tells-at d _ calm one ∙ sym (tells-at e _ still two)
save-one (rolls q keep names) files d e calm still one two = absurd one

-- ---- states that aren't rolled up

of-files : (e : RollError) → is_failure (roll_status e) ≡ false → is_of_files e ≡ true
of-files (roll_error.Missing file) calm = refl
of-files roll_error.Input calm = loud calm
of-files (roll_error.NotAState file) calm = refl
of-files (roll_error.Overlap file) calm = refl
of-files roll_error.TooLarge calm = refl
of-files roll_error.Memory calm = loud calm

roll-one : (a : Asked) (files : Files) (d e : RollError) → is_failure (roll_status d) ≡ false → is_failure (roll_status e) ≡ false → EndsRolling d a (Some files) → EndsRolling e a (Some files) → d ≡ e
roll-one (refused r) files d e calm still one two = absurd one
roll-one (saves q first names) files d e calm still one two = absurd one
roll-one (rolls q keep names) files d e calm still one two = refusal-one q files names d e (of-files d calm) one (of-files e still) two

-- ---- faults

-- the refusal of refused words
abbrev refusal_in : Refusal → Asked → Refusal
refusal_in r (refused s) = s
refusal_in r (saves q first names) = r
refusal_in r (rolls q keep names) = r

-- refused words save nothing, and roll nothing up
no-save : (r : Refusal) (e : CsvError) (a : Asked) (files : Files) → a ≡ refused r → EndsSaving e a (Some files) → ⊥
no-save r e (refused s) files is ends = ends
no-save r e (saves q first names) files is ends = false≢true (ap is_refused is)
no-save r e (rolls q keep names) files is ends = ends

no-roll : (r : Refusal) (e : RollError) (a : Asked) (files : Files) → a ≡ refused r → EndsRolling e a (Some files) → ⊥
no-roll r e (refused s) files is ends = ends
no-roll r e (saves q first names) files is ends = ends
no-roll r e (rolls q keep names) files is ends = false≢true (ap is_refused is)

-- what is asked either saves or rolls up
not-both : (d : CsvError) (e : RollError) (a : Asked) (files : Files) → EndsSaving d a (Some files) → EndsRolling e a (Some files) → ⊥
not-both d e (refused r) files one two = one
not-both d e (saves q first names) files one two = two
not-both d e (rolls q keep names) files one two = one

-- there is one fault of words or files
fault-one : (f g : RollupFault) (a : Asked) (files : Files) → is_failure (status_of f) ≡ false → is_failure (status_of g) ≡ false → IsCaused f a (Some files) → IsCaused g a (Some files) → f ≡ g
fault-one fault.OutputFailed g a files calm still one two = loud calm
fault-one fault.Memory g a files calm still one two = loud calm
fault-one f fault.OutputFailed a files calm still one two = loud still
fault-one f fault.Memory a files calm still one two = loud still
fault-one (fault.Refused r) (fault.Refused s) a files calm still one two = ap (λ b. fault.Refused (refusal_in r b)) (sym one ∙ two)
fault-one (fault.Refused r) (fault.Save e) a files calm still one two = absurd (no-save r e a files one two)
fault-one (fault.Refused r) (fault.Roll e) a files calm still one two = absurd (no-roll r e a files one two)
fault-one (fault.Save d) (fault.Refused r) a files calm still one two = absurd (no-save r d a files two one)
fault-one (fault.Save d) (fault.Save e) a files calm still one two = ap fault.Save (save-one a files d e calm still one two)
fault-one (fault.Save d) (fault.Roll e) a files calm still one two = absurd (not-both d e a files one two)
fault-one (fault.Roll d) (fault.Refused r) a files calm still one two = absurd (no-roll r d a files two one)
fault-one (fault.Roll d) (fault.Save e) a files calm still one two = absurd (not-both e d a files two one)
fault-one (fault.Roll d) (fault.Roll e) a files calm still one two = ap fault.Roll (roll-one a files d e calm still one two)

-- ---- texts

-- there is one text
text-one : (a : Asked) (files : Files) (t u : List ℕ) → IsOwed a (Some files) t → IsOwed a (Some files) u → t ≡ u
text-one (refused r) files t u one two = absurd one
text-one (saves q first names) files t u one two = one.text_is ∙ sym two.text_is
text-one (rolls q keep names) files t u one two =
    one.text_is ∙ ap (λ (f : FrameData). csv_text f) (frame-one q files names keep one.frame two.frame one.rolled two.rolled) ∙ sym two.text_is

pub result-one : (a : Asked) (files : Files) (r s : Result (List ℕ) RollupFault) → IsResult a files r → IsResult a files s → r ≡ s
result-one a files (Ok t) (Ok u) one two = ap Ok (text-one a files t u one two)
result-one a files (Ok t) (Err f) one two = loud (sym (owed-none f a files t one two.1) ∙ two.0)
result-one a files (Err f) (Ok t) one two = loud (sym (owed-none f a files t two one.1) ∙ one.0)
result-one a files (Err f) (Err g) one two = ap Err (fault-one f g a files one.0 two.0 one.1 two.1)
