-- The faults of calls, of what is known of the errors that they come from.
use Rattle.std.proofs.Common.{◌≡◌, ◌∙◌, ℕ, true, false, List, Option, Some, None, Result, Ok, Err, refl, ap, inl, inr, if◌then◌else◌, Bool, subst, sym}
use Rattle.std.specs.Prelude.{◌⊎◌}
use Rattle.memory_answer.specs.Giving.{IsPut}
use Rattle.memory_states.specs.Calls.{bytes_kept, keys_asked, number_names}
use Rattle.memory_states.specs.Results.{IsFaultOf, IsResultGiven}
use Rattle.pipe_csv.specs.declared.csv_error.CsvError.{CsvError}
use Rattle.pipe_csv.specs.declared.csv_error.CsvError.TheVariants as csv_error
use Rattle.pipe_io.specs.Files.{Files}
use Rattle.pipe_model.specs.Query.{QueryTree}
use Rattle.rollup_answer.specs.Faults.{fault_line, IsCaused, status_of}
use Rattle.rollup_answer.specs.Inside.{ask_fault}
use Rattle.rollup_answer.specs.declared.fault.RollupFault.{RollupFault}
use Rattle.rollup_answer.specs.declared.fault.RollupFault.TheVariants as fault
use Rattle.rollup_roll.specs.Rolled.{IsRefusal}
use Rattle.rollup_roll.specs.declared.roll_error.RollError.{RollError}
use Rattle.rollup_roll.specs.declared.roll_error.RollError.TheVariants as roll_error
use Rattle.rollup_save.specs.Saves.{end_of_files, Tells}
use Rattle.rollup_words.specs.Asked.{Asked, IsRefusedFor, refused, rolls, rolls_by, saves, saves_of}
use Rattle.rollup_words.specs.Reading.{AreNoKeys, IsNoWhole}
use Rattle.rollup_words.specs.declared.refusal.AskError.{AskError}
use Rattle.rollup_words.specs.declared.refusal.AskError.TheVariants as ask_error
use Rattle.rollup_words.specs.declared.refusal.Refusal.{Refusal}
use Rattle.rollup_words.specs.declared.refusal.Refusal.TheVariants as refusal
use Rattle.tool_shell.specs.Reports.{memory_line}
use Rattle.tool_shell.specs.declared.status.TheConstants.{NO_MEMORY}

-- ---- what is asked

-- why there is no query is why nothing is asked
pub no-save : (e : AskError) (first : ℕ) (names : List (List ℕ)) (q : Result QueryTree Refusal) → IsNoWhole e q → IsRefusedFor e (saves_of first names q)
no-save (ask_error.Refused r) first names q is = ap (saves_of first names) is
no-save ask_error.Memory first names q is = tt

pub no-roll : (e : AskError) (keys : List ℕ) (count : ℕ) (q : Result QueryTree Refusal) → IsNoWhole e q → IsRefusedFor e (keys_asked keys count q)
no-roll (ask_error.Refused r) keys count q is = ap (keys_asked keys count) is
no-roll ask_error.Memory keys count q is = tt

-- and so is why there are no keys
pub no-keys : (e : AskError) (q : QueryTree) (names : List (List ℕ)) (kept : Option (List ℕ)) → AreNoKeys e kept → IsRefusedFor e (rolls_by q names kept)
no-keys (ask_error.Refused r) q names kept is = ap (rolls_by q names) is.1 ∙ ap refused (sym is.0)
no-keys ask_error.Memory q names kept is = tt

-- ---- faults

-- words that are refused
calm-refused : (r : Refusal) (a : Asked) (files : Files) → a ≡ refused r → IsFaultOf (fault.Refused r) a files
calm-refused refusal.Words a files is = inl (refl, is)
calm-refused (refusal.Query why) a files is = inl (refl, is)
calm-refused refusal.Sliced a files is = inl (refl, is)
calm-refused refusal.Keys a files is = inl (refl, is)

pub ask-fault : (e : AskError) (a : Asked) (files : Files) → IsRefusedFor e a → IsFaultOf (ask_fault e) a files
ask-fault (ask_error.Refused r) a files is = calm-refused r a files is
ask-fault ask_error.Memory a files is = inr refl

-- a text that isn't saved
pub save-fault : (e : CsvError) (q : QueryTree) (first : ℕ) (names : List (List ℕ)) (files : Files) → ¬ (e ≡ csv_error.Input) → Tells e (end_of_files files names q first)
    → IsFaultOf (fault.Save e) (saves q first names) files
save-fault (csv_error.Missing file) q first names files read is = inl (refl, is)
save-fault (csv_error.Header file) q first names files read is = inl (refl, is)
save-fault (csv_error.Width file row) q first names files read is = inl (refl, is)
save-fault (csv_error.Field file row column) q first names files read is = inl (refl, is)
save-fault csv_error.Input q first names files read is = absurd (read refl)
save-fault csv_error.TooLarge q first names files read is = inl (refl, is)
save-fault csv_error.Memory q first names files read is = inr refl

-- states that aren't rolled up
pub roll-fault : (e : RollError) (q : QueryTree) (keep : List ℕ) (names : List (List ℕ)) (files : Files) → ¬ (e ≡ roll_error.Input) → IsRefusal e q (Some files) names
    → IsFaultOf (fault.Roll e) (rolls q keep names) files
roll-fault (roll_error.Missing file) q keep names files read is = inl (refl, is)
roll-fault roll_error.Input q keep names files read is = absurd (read refl)
roll-fault (roll_error.NotAState file) q keep names files read is = inl (refl, is)
roll-fault (roll_error.Overlap file) q keep names files read is = inl (refl, is)
roll-fault roll_error.TooLarge q keep names files read is = inl (refl, is)
roll-fault roll_error.Memory q keep names files read is = inr refl

-- ---- what is given

-- the line of want of memory, whatever wants it
line-memory : (f : RollupFault) → status_of f ≡ NO_MEMORY → fault_line f ≡ memory_line
line-memory (fault.Refused refusal.Words) is = cc is
line-memory (fault.Refused (refusal.Query why)) is = cc is
line-memory (fault.Refused refusal.Sliced) is = cc is
line-memory (fault.Refused refusal.Keys) is = cc is
line-memory (fault.Save (csv_error.Missing file)) is = cc is
line-memory (fault.Save (csv_error.Header file)) is = cc is
line-memory (fault.Save (csv_error.Width file row)) is = cc is
line-memory (fault.Save (csv_error.Field file row column)) is = cc is
line-memory (fault.Save csv_error.Input) is = cc is
line-memory (fault.Save csv_error.TooLarge) is = cc is
line-memory (fault.Save csv_error.Memory) is = refl
line-memory (fault.Roll (roll_error.Missing file)) is = cc is
line-memory (fault.Roll roll_error.Input) is = cc is
line-memory (fault.Roll (roll_error.NotAState file)) is = cc is
line-memory (fault.Roll (roll_error.Overlap file)) is = cc is
line-memory (fault.Roll roll_error.TooLarge) is = cc is
line-memory (fault.Roll roll_error.Memory) is = refl
line-memory fault.OutputFailed is = cc is
line-memory fault.Memory is = refl

pub fault-given : (f : RollupFault) (a : Asked) (files : Files) (old new : List ℕ) (need answered : ℕ) → IsFaultOf f a files
    → IsPut (status_of f) (fault_line f) old new need answered ⊎ IsPut NO_MEMORY memory_line old new need answered → IsResultGiven a files old new need answered
fault-given f a files old new need answered is (inr put) = inr put
fault-given f a files old new need answered (inl is) (inl put) = inl (record { result = Err f; is = is }, put)
fault-given f a files old new need answered (inr is) (inl put) =
    inr (subst (λ (s : ℕ). IsPut s memory_line old new need answered) is (subst (λ (l : List ℕ). IsPut (status_of f) l old new need answered) (line-memory f is) put))
