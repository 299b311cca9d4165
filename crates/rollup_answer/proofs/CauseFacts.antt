-- Causes of faults of words and files exclude one another, and what is owed where there is none.
use Rattle.std.proofs.Common.{◌≡◌, ◌∙◌, ℕ, true, false, List, Option, Some, None, refl, sym, ap, subst, arith, inl, inr}
use Rattle.std.specs.Prelude.{◌⊎◌}
use Rattle.std.proofs.lemmas.Bool.{false≢true}
use Rattle.std.proofs.lemmas.Option.{none-some}
use Rattle.pipe_csv.specs.declared.csv_error.CsvError.{CsvError}
use Rattle.pipe_csv.specs.declared.csv_error.CsvError.TheVariants as csv_error
use Rattle.pipe_csv.specs.CsvRows.{field, header, missing, width}
use Rattle.pipe_columns.specs.Frame.{FrameData}
use Rattle.pipe_io.specs.Files.{Files, HasNoFile, IsLarger}
use Rattle.pipe_io.specs.declared.whole_file.TheConstants.{MOST_FILE_BYTES}
use Rattle.pipe_model.specs.Query.{QueryTree}
use Rattle.pipe_source.specs.CsvChunks.{misfit, Stop, too_large}
use Rattle.pipe_states.specs.States.{StateSeen}
use Rattle.pipe_states.specs.Together.{NoneOverlap, total_rows}
use Rattle.rollup_roll.specs.Rolled.{AreRolled, AreTooMany, IsRefusal, OverlapAt}
use Rattle.rollup_roll.specs.Told.{TellsNone, TellStates, TellUpTo}
use Rattle.rollup_roll.specs.declared.roll_error.RollError.{RollError}
use Rattle.rollup_roll.specs.declared.roll_error.RollError.TheVariants as roll_error
use Rattle.rollup_save.specs.Saves.{Tells}
use Rattle.rollup_words.specs.Asked.{Asked, refused, rolls, saves}
use Rattle.rollup_words.specs.declared.refusal.Refusal.{Refusal}
use Rattle.tool_shell.specs.declared.status.TheConstants.{DONE, INPUT_REFUSED, TOO_LARGE}
use Rattle.rollup_answer.specs.Faults.{EndsRolling, EndsSaving, IsCaused, read_status, roll_status, status_of}
use Rattle.rollup_answer.specs.Headline.{IsOwed}
use Rattle.rollup_answer.specs.Status.{is_failure}
use Rattle.rollup_answer.specs.declared.fault.RollupFault.{RollupFault}
use Rattle.rollup_answer.specs.declared.fault.RollupFault.TheVariants as fault
use Rattle.rollup_answer.proofs.TellFacts.{both-at, large-some, missing-small, missing-some, none-bad, none-first, same-states, told-small, told-some, told-there}

-- a status is another, or that of a failure
abbrev pub IsOrFails : ℕ → ℕ → Type 0
IsOrFails other status = (other ≡ status) ⊎ (is_failure other ≡ true)

-- ---- files that are saved

-- the status of where saving ends
abbrev stop_status : Option Stop → ℕ
stop_status None = DONE
stop_status (Some (misfit m)) = INPUT_REFUSED
stop_status (Some too_large) = TOO_LARGE

tells-status : (e : CsvError) (stop : Option Stop) → Tells e stop → IsOrFails (read_status e) (stop_status stop)
tells-status (csv_error.Missing file) stop is = rw is (inl refl)
tells-status (csv_error.Header file) stop is = rw is (inl refl)
tells-status (csv_error.Width file row) stop is = rw is (inl refl)
tells-status (csv_error.Field file row column) stop is = rw is (inl refl)
tells-status csv_error.TooLarge stop is = rw is (inl refl)
tells-status csv_error.Input stop is = inr refl
tells-status csv_error.Memory stop is = inr refl

both-status : (m n status : ℕ) → IsOrFails m status → IsOrFails n status → is_failure m ≡ false → IsOrFails n m
both-status m n status (inr fails) two calm = absurd (false≢true (sym calm ∙ fails))
both-status m n status (inl is) (inr fails) calm = inr fails
both-status m n status (inl is) (inl so) calm = inl (so ∙ sym is)

-- where saving doesn't end early no error tells where it does
tells-none : (e : CsvError) → Tells e None → is_failure (read_status e) ≡ true
tells-none (csv_error.Missing file) is = absurd (none-some (misfit (missing file)) is)
tells-none (csv_error.Header file) is = absurd (none-some (misfit (header file)) is)
tells-none (csv_error.Width file row) is = absurd (none-some (misfit (width file row)) is)
tells-none (csv_error.Field file row column) is = absurd (none-some (misfit (field file row column)) is)
tells-none csv_error.TooLarge is = absurd (none-some too_large is)
tells-none csv_error.Input is = refl
tells-none csv_error.Memory is = refl

-- ---- states that are regrouped

module _ (q : QueryTree) (files : Files) (names : List (List ℕ)) where
  -- up to a file that is missing, tells no state, or is too large
  abbrev Missing : ℕ → Type 0
  Missing i = TellUpTo (HasNoFile (Some files)) q (Some files) names i

  abbrev NotAState : ℕ → Type 0
  NotAState i = TellUpTo (TellsNone q (Some files)) q (Some files) names i

  abbrev Large : ℕ → Type 0
  Large i = TellUpTo (λ name. IsLarger (Some files) name MOST_FILE_BYTES) q (Some files) names i

  missing-not : (i j : ℕ) → Missing i → NotAState j → ⊥
  missing-not i j one two =
      let at = both-at q files (HasNoFile (Some files)) (TellsNone q (Some files)) (told-there q files) (told-some q files) names i j one two in
      missing-some q files at.0 at.1 at.2

  missing-large : (i j : ℕ) → Missing i → Large j → ⊥
  missing-large i j one two =
      let at = both-at q files (HasNoFile (Some files)) (λ name. IsLarger (Some files) name MOST_FILE_BYTES) (told-there q files) (told-small q files) names i j one two in
      missing-small q files at.0 at.1 at.2

  large-not : (i j : ℕ) → Large i → NotAState j → ⊥
  large-not i j one two =
      let at = both-at q files (λ name. IsLarger (Some files) name MOST_FILE_BYTES) (TellsNone q (Some files)) (told-small q files) (told-some q files) names i j one two in
      large-some q files at.0 at.1 at.2

  -- where all files tell states
  module _ (states : List StateSeen) (tell : TellStates q (Some files) names states) where
    none-missing : (i : ℕ) → Missing i → ⊥
    none-missing i up = none-bad q files (HasNoFile (Some files)) (told-there q files) names states i tell up

    none-not : (i : ℕ) → NotAState i → ⊥
    none-not i up = none-bad q files (TellsNone q (Some files)) (told-some q files) names states i tell up

    none-large : (i : ℕ) → Large i → ⊥
    none-large i up = none-bad q files (λ name. IsLarger (Some files) name MOST_FILE_BYTES) (told-small q files) names states i tell up

    none-over : (file : ℕ) → NoneOverlap states → OverlapAt q (Some files) names file → ⊥
    none-over file apart over = none-first over.states over.place (subst NoneOverlap (same-states q files names states over.states tell over.tell) apart) over.overlap

  over-many : (file : ℕ) → OverlapAt q (Some files) names file → AreTooMany q (Some files) names → ⊥
  over-many file over many = none-over many.states many.tell file many.large.apart over

  few-many : (keep : List ℕ) (frame : FrameData) → AreRolled q keep (Some files) names frame → AreTooMany q (Some files) names → ⊥
  few-many keep frame rolled many =
      omega (arith, rolled.few, many.large.many, ap total_rows (same-states q files names rolled.states many.states rolled.tell many.tell))

  -- two causes are of one status, or one is a failure
  rolls-same : (e g : RollError) → IsRefusal e q (Some files) names → IsRefusal g q (Some files) names → is_failure (roll_status e) ≡ false → IsOrFails (roll_status g) (roll_status e)
  rolls-same roll_error.Input g one two calm = absurd (false≢true (sym calm))
  rolls-same roll_error.Memory g one two calm = absurd (false≢true (sym calm))
  rolls-same e roll_error.Input one two calm = inr refl
  rolls-same e roll_error.Memory one two calm = inr refl
  rolls-same (roll_error.Missing i) (roll_error.Missing j) one two calm = inl refl
  rolls-same (roll_error.NotAState i) (roll_error.NotAState j) one two calm = inl refl
  rolls-same (roll_error.Overlap i) (roll_error.Overlap j) one two calm = inl refl
  rolls-same roll_error.TooLarge roll_error.TooLarge one two calm = inl refl
  rolls-same (roll_error.Missing i) (roll_error.NotAState j) one two calm = absurd (missing-not i j one two)
  rolls-same (roll_error.Missing i) (roll_error.Overlap j) one two calm = absurd (none-missing two.states two.tell i one)
  rolls-same (roll_error.Missing i) roll_error.TooLarge one (inl two) calm = absurd (missing-large i two.0 one two.1)
  rolls-same (roll_error.Missing i) roll_error.TooLarge one (inr two) calm = absurd (none-missing two.states two.tell i one)
  rolls-same (roll_error.NotAState i) (roll_error.Missing j) one two calm = absurd (missing-not j i two one)
  rolls-same (roll_error.NotAState i) (roll_error.Overlap j) one two calm = absurd (none-not two.states two.tell i one)
  rolls-same (roll_error.NotAState i) roll_error.TooLarge one (inl two) calm = absurd (large-not two.0 i two.1 one)
  rolls-same (roll_error.NotAState i) roll_error.TooLarge one (inr two) calm = absurd (none-not two.states two.tell i one)
  rolls-same (roll_error.Overlap i) (roll_error.Missing j) one two calm = absurd (none-missing one.states one.tell j two)
  rolls-same (roll_error.Overlap i) (roll_error.NotAState j) one two calm = absurd (none-not one.states one.tell j two)
  rolls-same (roll_error.Overlap i) roll_error.TooLarge one (inl two) calm = absurd (none-large one.states one.tell two.0 two.1)
  rolls-same (roll_error.Overlap i) roll_error.TooLarge one (inr two) calm = absurd (over-many i one two)
  rolls-same roll_error.TooLarge (roll_error.Missing j) (inl one) two calm = absurd (missing-large j one.0 two one.1)
  rolls-same roll_error.TooLarge (roll_error.Missing j) (inr one) two calm = absurd (none-missing one.states one.tell j two)
  rolls-same roll_error.TooLarge (roll_error.NotAState j) (inl one) two calm = absurd (large-not one.0 j one.1 two)
  rolls-same roll_error.TooLarge (roll_error.NotAState j) (inr one) two calm = absurd (none-not one.states one.tell j two)
  rolls-same roll_error.TooLarge (roll_error.Overlap j) (inl one) two calm = absurd (none-large two.states two.tell one.0 one.1)
  rolls-same roll_error.TooLarge (roll_error.Overlap j) (inr one) two calm = absurd (over-many j two one)

  -- where states are rolled up there is no cause
  rolls-none : (keep : List ℕ) (frame : FrameData) (e : RollError) → AreRolled q keep (Some files) names frame → IsRefusal e q (Some files) names → is_failure (roll_status e) ≡ true
  rolls-none keep frame roll_error.Input rolled is = refl
  rolls-none keep frame roll_error.Memory rolled is = refl
  rolls-none keep frame (roll_error.Missing i) rolled is = absurd (none-missing rolled.states rolled.tell i is)
  rolls-none keep frame (roll_error.NotAState i) rolled is = absurd (none-not rolled.states rolled.tell i is)
  rolls-none keep frame (roll_error.Overlap i) rolled is = absurd (none-over rolled.states rolled.tell i rolled.apart is)
  rolls-none keep frame roll_error.TooLarge rolled (inl is) = absurd (none-large rolled.states rolled.tell is.0 is.1)
  rolls-none keep frame roll_error.TooLarge rolled (inr is) = absurd (few-many keep frame rolled is)

-- ---- faults

-- the refusal of refused words, if they are
abbrev refusal_in : Refusal → Asked → Refusal
refusal_in r (refused s) = s
refusal_in r (saves q first names) = r
refusal_in r (rolls q keep names) = r

saves-same : (e g : CsvError) (a : Asked) (files : Files) → EndsSaving e a (Some files) → EndsSaving g a (Some files) → is_failure (read_status e) ≡ false → IsOrFails (read_status g) (read_status e)
saves-same e g (refused r) files one two calm = absurd one
saves-same e g (rolls q keep names) files one two calm = absurd one
saves-same e g (saves q first names) files one two calm = both-status (read_status e) (read_status g) _ (tells-status e _ one) (tells-status g _ two) calm

asked-rolls : (e g : RollError) (a : Asked) (files : Files) → EndsRolling e a (Some files) → EndsRolling g a (Some files) → is_failure (roll_status e) ≡ false → IsOrFails (roll_status g) (roll_status e)
asked-rolls e g (refused r) files one two calm = absurd one
asked-rolls e g (saves q first names) files one two calm = absurd one
asked-rolls e g (rolls q keep names) files one two calm = rolls-same q files names e g one two calm

not-both : (e : CsvError) (g : RollError) (a : Asked) (told : Option Files) → EndsSaving e a told → EndsRolling g a told → ⊥
not-both e g (refused r) told one two = one
not-both e g (saves q first names) told one two = two
not-both e g (rolls q keep names) told one two = one

-- two causes are of one status, or one is a failure
pub causes-same : (f g : RollupFault) (a : Asked) (files : Files) → IsCaused f a (Some files) → IsCaused g a (Some files) → is_failure (status_of f) ≡ false → IsOrFails (status_of g) (status_of f)
causes-same fault.OutputFailed g a files one two calm = absurd (false≢true (sym calm))
causes-same fault.Memory g a files one two calm = absurd (false≢true (sym calm))
causes-same f fault.OutputFailed a files one two calm = inr refl
causes-same f fault.Memory a files one two calm = inr refl
causes-same (fault.Refused r) (fault.Refused s) a files one two calm = inl (ap (λ b. status_of (fault.Refused (refusal_in r b))) (sym two ∙ one))
causes-same (fault.Refused r) (fault.Save e) a files one two calm = absurd (subst (λ b. EndsSaving e b (Some files)) one two)
causes-same (fault.Refused r) (fault.Roll e) a files one two calm = absurd (subst (λ b. EndsRolling e b (Some files)) one two)
causes-same (fault.Save e) (fault.Refused s) a files one two calm = absurd (subst (λ b. EndsSaving e b (Some files)) two one)
causes-same (fault.Save e) (fault.Save g) a files one two calm = saves-same e g a files one two calm
causes-same (fault.Save e) (fault.Roll g) a files one two calm = absurd (not-both e g a (Some files) one two)
causes-same (fault.Roll e) (fault.Refused s) a files one two calm = absurd (subst (λ b. EndsRolling e b (Some files)) two one)
causes-same (fault.Roll e) (fault.Save g) a files one two calm = absurd (not-both g e a (Some files) two one)
causes-same (fault.Roll e) (fault.Roll g) a files one two calm = asked-rolls e g a files one two calm

-- where a text is owed there is no cause but of a failure
pub owed-none : (f : RollupFault) (a : Asked) (files : Files) (text : List ℕ) → IsOwed a (Some files) text → IsCaused f a (Some files) → is_failure (status_of f) ≡ true
owed-none fault.OutputFailed a files text owed is = refl
owed-none fault.Memory a files text owed is = refl
owed-none (fault.Refused r) a files text owed is = absurd (subst (λ b. IsOwed b (Some files) text) is owed)
owed-none (fault.Save e) (refused r) files text owed is = absurd owed
owed-none (fault.Save e) (rolls q keep names) files text owed is = absurd is
owed-none (fault.Save e) (saves q first names) files text owed is = tells-none e (subst (Tells e) owed.whole is)
owed-none (fault.Roll e) (refused r) files text owed is = absurd owed
owed-none (fault.Roll e) (saves q first names) files text owed is = absurd is
owed-none (fault.Roll e) (rolls q keep names) files text owed is = rolls-none q files names keep owed.frame e owed.rolled is
