-- How a command on a summary ends.
use Rattle.std.proofs.Common.{◌≡◌, ◌∙◌, ◌<◌, ℕ, true, false, List, Option, Some, None, Result, Ok, Err, refl, sym, ap, subst, arith, inl, inr}
use Rattle.std.specs.Prelude.{◌⊎◌, IfSome, IsSome, IsTrue, unwrap_or}
use Rattle.std.proofs.lemmas.Bool.{false≢true}
use Rattle.pipe_csv.specs.declared.csv_error.CsvError.{CsvError}
use Rattle.pipe_csv.specs.declared.csv_error.CsvError.TheVariants as csv_error
use Rattle.pipe_io.specs.Files.{Files}
use Rattle.pipe_spill.specs.declared.store.StoreError.{StoreError}
use Rattle.pipe_spill.specs.declared.store.StoreError.TheVariants as store_error
use Rattle.summary_words.specs.Asked.{adds, Asked, refused, shows}
use Rattle.summary_words.specs.declared.refusal.AskError.{AskError}
use Rattle.summary_words.specs.declared.refusal.AskError.TheVariants as ask_error
use Rattle.summary_words.specs.declared.refusal.Refusal.{Refusal}
use Rattle.summary_words.specs.declared.refusal.Refusal.TheVariants as refusal
use Rattle.tool_shell.specs.declared.status.TheConstants.{DONE, INPUT_FAILED, NO_MEMORY, OUTPUT_FAILED}
use Rattle.summary_answer.specs.Faults.{IsCaused, read_status, refusal_status, status_of}
use Rattle.summary_answer.specs.Headline.{IsDone}
use Rattle.summary_answer.specs.Inside.{ask_fault, EndsRefused, IsUnopened, LeavesOutput}
use Rattle.summary_answer.specs.Opened.{HasRisen, IsBack, is_known, opened, Opened, opened_of, unopened}
use Rattle.summary_answer.specs.Status.{ComesFor, HasNoFault, is_failure, IsRefusalOf}
use Rattle.summary_answer.specs.declared.fault.SummaryFault.{SummaryFault}
use Rattle.summary_answer.specs.declared.fault.SummaryFault.TheVariants as fault
use Rattle.summary_answer.specs.declared.status.TheConstants.{STORE_FAILED}
use Rattle.summary_answer.proofs.CauseFacts.{causes-same, IsOrFails, owed-none}

pub some-at : {X : Type 0} (o : Option X) (x : X) (P : X → Type 0) → o ≡ Some x → IfSome o P → P x
some-at o x P is has = subst (λ r. IfSome r P) is has

some-is : (f g : SummaryFault) → Some f ≡ Some g → f ≡ g
some-is f g is = ap (λ (o : Option SummaryFault). unwrap_or o f) is

-- ---- each fault comes where it has its cause

module _ {S : Type 0} (told : S → Option (List (List ℕ))) (held : S → ℕ) where
  pub done-exact : (f : SummaryFault) (a : Asked) (files : Option Files) (old new : Option (List ℕ)) (r : Result S StoreError) (o : Option S)
      → IsBack (λ s t. IsDone a files (told s) (held s) (told t) old new) r o → IsSome o → IsSome files → IsTrue (is_known (opened_of told held r)) → IsCaused f a (opened_of told held r) files → ComesFor f DONE
  done-exact f a None old new r o done back has known is = absurd (false≢true has)
  done-exact f a (Some files) old new (Err e) None done back has known is = absurd (false≢true back)
  done-exact f a (Some files) old new (Err e) (Some t) done back has known is = absurd done
  done-exact f a (Some files) old new (Ok s) None done back has known is = absurd done
  done-exact f a (Some files) old new (Ok s) (Some t) done back has known is =
      known-exact (told s) known done is where
        known-exact : (tells : Option (List (List ℕ))) → IsTrue (is_known (opened tells (held s))) → IsDone a (Some files) tells (held s) (told t) old new → IsCaused f a (opened tells (held s)) (Some files) → ComesFor f DONE
        known-exact None known done is = absurd (false≢true known)
        known-exact (Some frames) known done is = λ calm. absurd (false≢true (sym calm ∙ owed-none f a files frames (held s) (told t) done.text done.owed is))

after : (m n status : ℕ) → IsOrFails n m → (status ≡ n) ⊎ (status ≡ NO_MEMORY) → (status ≡ m) ⊎ (is_failure status ≡ true)
after m n status same (inr is) = rw is (inr refl)
after m n status (inl same) (inl is) = inl (is ∙ same)
after m n status (inr fails) (inl is) = inr (ap is_failure is ∙ fails)

pub told-exact : (f g : SummaryFault) (a : Asked) (o : Opened) (files : Option Files) (status : ℕ) → IsCaused g a o files → (status ≡ status_of g) ⊎ (status ≡ NO_MEMORY) → IsSome files → IsTrue (is_known o) → IsCaused f a o files → ComesFor f status
told-exact f g a o None status cause ends has known is = absurd (false≢true has)
told-exact f g a o (Some files) status cause ends has known is = λ calm. after (status_of f) (status_of g) status (causes-same f g a o files known is cause calm) ends

-- ---- where nothing has a cause

refusal-calm : (r : Refusal) → is_failure (refusal_status r) ≡ false
refusal-calm refusal.Words = refl
refusal-calm (refusal.Query why) = refl
refusal-calm refusal.Ordered = refl

pub told-complete : (f : SummaryFault) (a : Asked) (o : Opened) (files : Option Files) (status : ℕ) → IsCaused f a o files → HasNoFault a o files
    → (f ≡ fault.Read csv_error.Input → ⊥) → (f ≡ fault.OutputFailed → ⊥) → (f ≡ fault.Store → ⊥) → (status ≡ status_of f) ⊎ (status ≡ NO_MEMORY) → (status ≡ DONE) ⊎ (status ≡ NO_MEMORY)
told-complete f a o files status cause none input output store (inr is) = inr is
told-complete (fault.Refused r) a o files status cause none input output store (inl is) = absurd (none (fault.Refused r) (refusal-calm r) cause)
told-complete fault.Store a o files status cause none input output store (inl is) = absurd (store refl)
told-complete (fault.Damaged n) a o files status cause none input output store (inl is) = absurd (none (fault.Damaged n) refl cause)
told-complete (fault.Read (csv_error.Missing file)) a o files status cause none input output store (inl is) = absurd (none (fault.Read (csv_error.Missing file)) refl cause)
told-complete (fault.Read (csv_error.Header file)) a o files status cause none input output store (inl is) = absurd (none (fault.Read (csv_error.Header file)) refl cause)
told-complete (fault.Read (csv_error.Width file row)) a o files status cause none input output store (inl is) = absurd (none (fault.Read (csv_error.Width file row)) refl cause)
told-complete (fault.Read (csv_error.Field file row column)) a o files status cause none input output store (inl is) = absurd (none (fault.Read (csv_error.Field file row column)) refl cause)
told-complete (fault.Read csv_error.TooLarge) a o files status cause none input output store (inl is) = absurd (none (fault.Read csv_error.TooLarge) refl cause)
told-complete (fault.Read csv_error.Input) a o files status cause none input output store (inl is) = absurd (input refl)
told-complete (fault.Read csv_error.Memory) a o files status cause none input output store (inl is) = inr is
told-complete fault.OutputFailed a o files status cause none input output store (inl is) = absurd (output refl)
told-complete fault.Memory a o files status cause none input output store (inl is) = inr is

-- a store that is given back was opened
pub back-opened : {S : Type 0} (Are : S → S → Type 0) (r : Result S StoreError) (o : Option S) → IsBack Are r o → IsSome o → r ≡ Err store_error.Failed → ⊥
back-opened Are (Err e) None back has is = false≢true has
back-opened Are (Err e) (Some t) back has is = back
back-opened Are (Ok s) o back has is = cc

-- ---- refused words

pub told-refusal : (f : SummaryFault) (a : Asked) (status : ℕ) → EndsRefused a (Some f) → (status ≡ status_of f) ⊎ (status ≡ NO_MEMORY) → IsRefusalOf a status
told-refusal f (adds q names) status ends is = tt
told-refusal f (shows q) status ends is = tt
told-refusal f (refused r) status ends (inr is) = inr is
told-refusal f (refused r) status (inl ends) (inl is) = inl (is ∙ ap status_of (some-is f (fault.Refused r) ends))
told-refusal f (refused r) status (inr ends) (inl is) = inr (is ∙ ap status_of (some-is f fault.Memory ends))

-- ---- which fault has a status

refusal-not : (r : Refusal) (n : ℕ) → 4 < n → refusal_status r ≡ n → ⊥
refusal-not refusal.Words n high is = omega (arith, is, high)
refusal-not (refusal.Query why) n high is = omega (arith, is, high)
refusal-not refusal.Ordered n high is = omega (arith, is, high)

-- one fault alone tells that an output failed
output-alone : (f : SummaryFault) → status_of f ≡ OUTPUT_FAILED → f ≡ fault.OutputFailed
output-alone (fault.Refused r) is = absurd (refusal-not r OUTPUT_FAILED (omega arith) is)
output-alone fault.Store is = absurd (omega (arith, is))
output-alone (fault.Damaged n) is = absurd (omega (arith, is))
output-alone (fault.Read e) is = absurd (read-not e is) where
  read-not : (e : CsvError) → read_status e ≡ OUTPUT_FAILED → ⊥
  read-not (csv_error.Missing file) is = omega (arith, is)
  read-not (csv_error.Header file) is = omega (arith, is)
  read-not (csv_error.Width file row) is = omega (arith, is)
  read-not (csv_error.Field file row column) is = omega (arith, is)
  read-not csv_error.TooLarge is = omega (arith, is)
  read-not csv_error.Input is = omega (arith, is)
  read-not csv_error.Memory is = omega (arith, is)
output-alone fault.OutputFailed is = refl
output-alone fault.Memory is = absurd (omega (arith, is))

pub told-output : (f : SummaryFault) (status : ℕ) → (status ≡ status_of f) ⊎ (status ≡ NO_MEMORY) → status ≡ OUTPUT_FAILED → f ≡ fault.OutputFailed
told-output f status (inl is) failed = output-alone f (sym is ∙ failed)
told-output f status (inr is) failed = absurd (omega (arith, is, failed))

-- one alone that a store failed
store-alone : (f : SummaryFault) → status_of f ≡ STORE_FAILED → f ≡ fault.Store
store-alone (fault.Refused r) is = absurd (refusal-not r STORE_FAILED (omega arith) is)
store-alone fault.Store is = refl
store-alone (fault.Damaged n) is = absurd (omega (arith, is))
store-alone (fault.Read e) is = absurd (read-not e is) where
  read-not : (e : CsvError) → read_status e ≡ STORE_FAILED → ⊥
  read-not (csv_error.Missing file) is = omega (arith, is)
  read-not (csv_error.Header file) is = omega (arith, is)
  read-not (csv_error.Width file row) is = omega (arith, is)
  read-not (csv_error.Field file row column) is = omega (arith, is)
  read-not csv_error.TooLarge is = omega (arith, is)
  read-not csv_error.Input is = omega (arith, is)
  read-not csv_error.Memory is = omega (arith, is)
store-alone fault.OutputFailed is = absurd (omega (arith, is))
store-alone fault.Memory is = absurd (omega (arith, is))

pub told-store : (f : SummaryFault) (status : ℕ) → (status ≡ status_of f) ⊎ (status ≡ NO_MEMORY) → status ≡ STORE_FAILED → f ≡ fault.Store
told-store f status (inl is) failed = store-alone f (sym is ∙ failed)
told-store f status (inr is) failed = absurd (omega (arith, is, failed))

-- one alone that an input did
input-alone : (f : SummaryFault) → status_of f ≡ INPUT_FAILED → f ≡ fault.Read csv_error.Input
input-alone (fault.Refused r) is = absurd (refusal-not r INPUT_FAILED (omega arith) is)
input-alone fault.Store is = absurd (omega (arith, is))
input-alone (fault.Damaged n) is = absurd (omega (arith, is))
input-alone (fault.Read (csv_error.Missing file)) is = absurd (omega (arith, is))
input-alone (fault.Read (csv_error.Header file)) is = absurd (omega (arith, is))
input-alone (fault.Read (csv_error.Width file row)) is = absurd (omega (arith, is))
input-alone (fault.Read (csv_error.Field file row column)) is = absurd (omega (arith, is))
input-alone (fault.Read csv_error.TooLarge) is = absurd (omega (arith, is))
input-alone (fault.Read csv_error.Input) is = refl
input-alone (fault.Read csv_error.Memory) is = absurd (omega (arith, is))
input-alone fault.OutputFailed is = absurd (omega (arith, is))
input-alone fault.Memory is = absurd (omega (arith, is))

pub told-input : (f : SummaryFault) (status : ℕ) → (status ≡ status_of f) ⊎ (status ≡ NO_MEMORY) → status ≡ INPUT_FAILED → f ≡ fault.Read csv_error.Input
told-input f status (inl is) failed = input-alone f (sym is ∙ failed)
told-input f status (inr is) failed = absurd (omega (arith, is, failed))

-- ---- what was written

-- with any status
pub begun-after : (f : SummaryFault) (Same Begun : Type 0) → LeavesOutput f Same Begun → Same ⊎ Begun
begun-after (fault.Refused r) Same Begun is = inl is
begun-after fault.Store Same Begun is = inl is
begun-after (fault.Damaged n) Same Begun is = inl is
begun-after (fault.Read e) Same Begun is = inl is
begun-after fault.OutputFailed Same Begun is = inr is
begun-after fault.Memory Same Begun is = is

-- unless an output failed or memory ran out
pub same-after : (f : SummaryFault) (Same Begun : Type 0) → (f ≡ fault.OutputFailed → ⊥) → (f ≡ fault.Memory → ⊥) → LeavesOutput f Same Begun → Same
same-after (fault.Refused r) Same Begun output memory is = is
same-after fault.Store Same Begun output memory is = is
same-after (fault.Damaged n) Same Begun output memory is = is
same-after (fault.Read e) Same Begun output memory is = is
same-after fault.OutputFailed Same Begun output memory is = absurd (output refl)
same-after fault.Memory Same Begun output memory is = absurd (memory refl)

-- ---- words and stores that weren't opened

pub ask-leaves : (e : AskError) (Same Begun : Type 0) → Same → LeavesOutput (ask_fault e) Same Begun
ask-leaves (ask_error.Refused r) Same Begun same = same
ask-leaves ask_error.Memory Same Begun same = inl same

pub unopened-leaves : (f : SummaryFault) (Same Begun : Type 0) → IsUnopened f → Same → LeavesOutput f Same Begun
unopened-leaves (fault.Refused r) Same Begun is same = same
unopened-leaves fault.Store Same Begun is same = same
unopened-leaves (fault.Damaged n) Same Begun is same = absurd is
unopened-leaves (fault.Read e) Same Begun is same = absurd is
unopened-leaves fault.OutputFailed Same Begun is same = absurd is
unopened-leaves fault.Memory Same Begun is same = inl same

-- such a fault is neither of reading nor of an output, and its cause is none of files
pub unopened-caused : (f : SummaryFault) (a : Asked) (e : StoreError) (files : Option Files) → IsUnopened f → IsCaused f a (unopened e) None → IsCaused f a (unopened e) files
unopened-caused (fault.Refused r) a e files is cause = cause
unopened-caused fault.Store a e files is cause = tt
unopened-caused (fault.Damaged n) a e files is cause = absurd is
unopened-caused (fault.Read x) a e files is cause = absurd is
unopened-caused fault.OutputFailed a e files is cause = absurd is
unopened-caused fault.Memory a e files is cause = tt

pub unopened-not : (f g : SummaryFault) → IsUnopened f → (IsUnopened g → ⊥) → Some f ≡ Some g → ⊥
unopened-not f g is none same = none (subst IsUnopened (some-is f g same) is)
