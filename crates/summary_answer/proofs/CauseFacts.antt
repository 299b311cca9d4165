-- Causes of faults of words, frames and files exclude one another, and what is owed where there is none.
use Rattle.std.proofs.Common.{◌≡◌, ◌∙◌, ℕ, true, false, List, Option, Some, None, refl, sym, ap, subst, arith, inl, inr}
use Rattle.std.specs.Prelude.{◌⊎◌, IsTrue}
use Rattle.std.proofs.lemmas.Bool.{false≢true}
use Rattle.std.proofs.lemmas.Option.{none-some}
use Rattle.pipe_csv.specs.declared.csv_error.CsvError.{CsvError}
use Rattle.pipe_csv.specs.declared.csv_error.CsvError.TheVariants as csv_error
use Rattle.pipe_csv.specs.CsvRows.{field, header, missing, width}
use Rattle.pipe_io.specs.Files.{Files}
use Rattle.pipe_model.specs.Query.{QueryTree}
use Rattle.pipe_source.specs.CsvChunks.{misfit, Stop, too_large}
use Rattle.pipe_states.specs.Regrouped.{end_of}
use Rattle.pipe_states.specs.States.{StateSeen}
use Rattle.pipe_states.specs.Together.{total_rows}
use Rattle.pipe_summary.specs.InTurn.{HoldsStates, IsFirstDamaged}
use Rattle.rollup_save.specs.Saves.{Tells}
use Rattle.summary_add.specs.Adds.{end_behind, end_of_adding}
use Rattle.summary_add.proofs.EndFacts.{end-few}
use Rattle.summary_words.specs.Asked.{adds, Asked, refused, shows}
use Rattle.summary_words.specs.declared.refusal.Refusal.{Refusal}
use Rattle.tool_shell.specs.declared.status.TheConstants.{DONE, INPUT_REFUSED, TOO_LARGE}
use Rattle.summary_answer.specs.Faults.{EndsAdding, EndsBehind, IsCaused, MeetsDamage, read_status, status_of}
use Rattle.summary_answer.specs.Headline.{HasAdded, IsOwed}
use Rattle.summary_answer.specs.Opened.{is_known, opened, Opened, unopened}
use Rattle.summary_answer.specs.Status.{is_failure}
use Rattle.summary_answer.specs.declared.fault.SummaryFault.{SummaryFault}
use Rattle.summary_answer.specs.declared.fault.SummaryFault.TheVariants as fault
use Rattle.pipe_summary.proofs.TextLists.{none-damaged, one_list}

-- a status is another, or that of a failure
abbrev pub IsOrFails : ℕ → ℕ → Type 0
IsOrFails other status = (other ≡ status) ⊎ (is_failure other ≡ true)

-- ---- files that are added

-- the status of where adding ends
abbrev pub stop_status : Option Stop → ℕ
stop_status None = DONE
stop_status (Some (misfit m)) = INPUT_REFUSED
stop_status (Some too_large) = TOO_LARGE

tells-status : (e : CsvError) (stop : Option Stop) → Tells e stop → IsOrFails (read_status e) (stop_status stop)
tells-status (csv_error.Missing file) stop is = rw is (inl refl)
tells-status (csv_error.Header file) stop is = rw is (inl refl)
tells-status (csv_error.Width file row) stop is = rw is (inl refl)
tells-status (csv_error.Field file row column) stop is = rw is (inl refl)
tells-status csv_error.TooLarge stop is = rw is (inl refl)
tells-status csv_error.Input stop is = inr refl
tells-status csv_error.Memory stop is = inr refl

both-status : (m n status : ℕ) → IsOrFails m status → IsOrFails n status → is_failure m ≡ false → IsOrFails n m
both-status m n status (inr fails) two calm = absurd (false≢true (sym calm ∙ fails))
both-status m n status (inl is) (inr fails) calm = inr fails
both-status m n status (inl is) (inl so) calm = inl (so ∙ sym is)

-- where adding doesn't end early no error tells where it does
tells-none : (e : CsvError) → Tells e None → is_failure (read_status e) ≡ true
tells-none (csv_error.Missing file) is = absurd (none-some (misfit (missing file)) is)
tells-none (csv_error.Header file) is = absurd (none-some (misfit (header file)) is)
tells-none (csv_error.Width file row) is = absurd (none-some (misfit (width file row)) is)
tells-none (csv_error.Field file row column) is = absurd (none-some (misfit (field file row column)) is)
tells-none csv_error.TooLarge is = absurd (none-some too_large is)
tells-none csv_error.Input is = refl
tells-none csv_error.Memory is = refl

-- ---- a store that tells its frames

module _ (q : QueryTree) (frames : List (List ℕ)) (held : ℕ) where
  -- it holds one list of states
  same-states : (s t : List StateSeen) → HoldsStates q (Some frames) held s → HoldsStates q (Some frames) held t → s ≡ t
  same-states s t one two = one_list q s t one.in_turn.fair two.in_turn.fair (sym one.texts ∙ two.texts)

  -- and then no frame is damaged
  none-is : (s : List StateSeen) (n : ℕ) → HoldsStates q (Some frames) held s → IsFirstDamaged q frames n → ⊥
  none-is s n holds damaged = none-damaged q s n holds.in_turn (subst (λ f. IsFirstDamaged q f n) holds.texts damaged)

  module _ (names : List (List ℕ)) (files : Files) where
    -- where adding ends it does so in one way
    ends-same : (e g : CsvError) → EndsBehind e q names (Some files) (Some frames) held → EndsBehind g q names (Some files) (Some frames) held → is_failure (read_status e) ≡ false → IsOrFails (read_status g) (read_status e)
    ends-same e g one two calm =
        let same : two.states ≡ one.states = same-states two.states one.states two.holds one.holds in
        both-status (read_status e) (read_status g) (stop_status (end_of_adding one.states files names q)) (tells-status e (end_of_adding one.states files names q) one.ends)
        (tells-status g (end_of_adding one.states files names q) (subst (λ s. Tells g (end_of_adding s files names q)) same two.ends)) calm

    -- where files were added it doesn't
    added-none : (e : CsvError) (now : Option (List (List ℕ))) (text : List ℕ) → HasAdded q names (Some files) (Some frames) held now text → EndsBehind e q names (Some files) (Some frames) held → is_failure (read_status e) ≡ true
    added-none e now text done ends =
        let same : ends.states ≡ done.states = same-states ends.states done.states ends.holds done.holds in
        let rows = total_rows done.states in
        let first = end_of done.states in
        let none : end_of_adding done.states files names q ≡ None = ap (end_behind rows first) done.added.all ∙ end-few rows first done.added.chunks None done.added.can.few in
        tells-none e (subst (Tells e) none (subst (λ s. Tells e (end_of_adding s files names q)) same ends.ends))

-- ---- faults

damaged-ends : (n : ℕ) (e : CsvError) (a : Asked) (o : Opened) (files : Option Files) → IsTrue (is_known o) → MeetsDamage n a o → EndsAdding e a o files → ⊥
damaged-ends n e (refused r) o files known damaged ends = ends
damaged-ends n e (shows q) o files known damaged ends = ends
damaged-ends n e (adds q names) (unopened s) files known damaged ends = ends
damaged-ends n e (adds q names) (opened None held) files known damaged ends = absurd (false≢true known)
damaged-ends n e (adds q names) (opened (Some frames) held) files known damaged ends = none-is q frames held ends.states n ends.holds damaged

both-end : (e g : CsvError) (a : Asked) (o : Opened) (files : Files) → IsTrue (is_known o) → EndsAdding e a o (Some files) → EndsAdding g a o (Some files) → is_failure (read_status e) ≡ false → IsOrFails (read_status g) (read_status e)
both-end e g (refused r) o files known one two calm = absurd one
both-end e g (shows q) o files known one two calm = absurd one
both-end e g (adds q names) (unopened s) files known one two calm = absurd one
both-end e g (adds q names) (opened None held) files known one two calm = absurd (false≢true known)
both-end e g (adds q names) (opened (Some frames) held) files known one two calm = ends-same q frames held names files e g one two calm

-- the refusal of refused words, if they are
abbrev refusal_in : Refusal → Asked → Refusal
refusal_in r (refused s) = s
refusal_in r (adds q names) = r
refusal_in r (shows q) = r

-- two causes are of one status, or one is a failure
pub causes-same : (f g : SummaryFault) (a : Asked) (o : Opened) (files : Files) → IsTrue (is_known o) → IsCaused f a o (Some files) → IsCaused g a o (Some files) → is_failure (status_of f) ≡ false → IsOrFails (status_of g) (status_of f)
causes-same fault.Store g a o files known one two calm = absurd (false≢true (sym calm))
causes-same fault.OutputFailed g a o files known one two calm = absurd (false≢true (sym calm))
causes-same fault.Memory g a o files known one two calm = absurd (false≢true (sym calm))
causes-same f fault.Store a o files known one two calm = inr refl
causes-same f fault.OutputFailed a o files known one two calm = inr refl
causes-same f fault.Memory a o files known one two calm = inr refl
causes-same (fault.Refused r) (fault.Refused s) a o files known one two calm = inl (ap (λ b. status_of (fault.Refused (refusal_in r b))) (sym two ∙ one))
causes-same (fault.Refused r) (fault.Damaged n) a o files known one two calm = absurd (subst (λ b. MeetsDamage n b o) one two)
causes-same (fault.Refused r) (fault.Read e) a o files known one two calm = absurd (subst (λ b. EndsAdding e b o (Some files)) one two)
causes-same (fault.Damaged n) (fault.Refused s) a o files known one two calm = absurd (subst (λ b. MeetsDamage n b o) two one)
causes-same (fault.Damaged n) (fault.Damaged m) a o files known one two calm = inl refl
causes-same (fault.Damaged n) (fault.Read e) a o files known one two calm = absurd (damaged-ends n e a o (Some files) known one two)
causes-same (fault.Read e) (fault.Refused s) a o files known one two calm = absurd (subst (λ b. EndsAdding e b o (Some files)) two one)
causes-same (fault.Read e) (fault.Damaged n) a o files known one two calm = absurd (damaged-ends n e a o (Some files) known two one)
causes-same (fault.Read e) (fault.Read g) a o files known one two calm = both-end e g a o files known one two calm

-- where something was done there is no cause but of a failure
pub owed-none : (f : SummaryFault) (a : Asked) (files : Files) (frames : List (List ℕ)) (held : ℕ) (now : Option (List (List ℕ))) (text : List ℕ) → IsOwed a (Some files) (Some frames) held now text → IsCaused f a (opened (Some frames) held) (Some files) → is_failure (status_of f) ≡ true
owed-none fault.Store a files frames held now text owed is = refl
owed-none fault.OutputFailed a files frames held now text owed is = refl
owed-none fault.Memory a files frames held now text owed is = refl
owed-none (fault.Refused r) a files frames held now text owed is = absurd (subst (λ b. IsOwed b (Some files) (Some frames) held now text) is owed)
owed-none (fault.Damaged n) (refused r) files frames held now text owed is = absurd owed
owed-none (fault.Damaged n) (adds q names) files frames held now text owed is = absurd (none-is q frames held owed.states n owed.holds is)
owed-none (fault.Damaged n) (shows q) files frames held now text owed is = absurd (none-is q frames held owed.shown.states n owed.shown.holds is)
owed-none (fault.Read e) (refused r) files frames held now text owed is = absurd owed
owed-none (fault.Read e) (shows q) files frames held now text owed is = absurd is
owed-none (fault.Read e) (adds q names) files frames held now text owed is = added-none q frames held names files e now text owed is
