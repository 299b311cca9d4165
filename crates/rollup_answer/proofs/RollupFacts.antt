-- How a command on saved states ends.
use Rattle.std.proofs.Common.{◌≡◌, ◌∙◌, ℕ, true, List, Option, Some, None, refl, sym, ap, subst, arith, inl, inr}
use Rattle.std.specs.Prelude.{◌⊎◌, IfSome, IsSome, unwrap_or}
use Rattle.std.proofs.lemmas.Bool.{false≢true}
use Rattle.pipe_csv.specs.declared.csv_error.CsvError.{CsvError}
use Rattle.pipe_csv.specs.declared.csv_error.CsvError.TheVariants as csv_error
use Rattle.pipe_io.specs.Files.{Files}
use Rattle.rollup_roll.specs.declared.roll_error.RollError.{RollError}
use Rattle.rollup_roll.specs.declared.roll_error.RollError.TheVariants as roll_error
use Rattle.rollup_words.specs.Asked.{Asked, refused, rolls, saves}
use Rattle.rollup_words.specs.declared.refusal.AskError.{AskError}
use Rattle.rollup_words.specs.declared.refusal.AskError.TheVariants as ask_error
use Rattle.rollup_words.specs.declared.refusal.Refusal.{Refusal}
use Rattle.rollup_words.specs.declared.refusal.Refusal.TheVariants as refusal
use Rattle.tool_shell.specs.declared.status.TheConstants.{DONE, NO_MEMORY, OUTPUT_FAILED}
use Rattle.rollup_answer.specs.Faults.{IsCaused, read_status, refusal_status, roll_status, status_of}
use Rattle.rollup_answer.specs.Headline.{IsWritten}
use Rattle.rollup_answer.specs.Inside.{ask_fault, EndsRefused, IsBefore, IsOfOutput}
use Rattle.rollup_answer.specs.Status.{ComesFor, is_failure, IsRefusalOf}
use Rattle.rollup_answer.specs.declared.fault.RollupFault.{RollupFault}
use Rattle.rollup_answer.specs.declared.fault.RollupFault.TheVariants as fault
use Rattle.rollup_answer.proofs.CauseFacts.{causes-same, IsOrFails, owed-none}

pub some-at : {X : Type 0} (o : Option X) (x : X) (P : X → Type 0) → o ≡ Some x → IfSome o P → P x
some-at o x P is has = subst (λ r. IfSome r P) is has

some-is : (f g : RollupFault) → Some f ≡ Some g → f ≡ g
some-is f g is = ap (λ (o : Option RollupFault). unwrap_or o f) is

-- ---- each fault comes where it has its cause

pub written-exact : (f : RollupFault) (a : Asked) (told : Option Files) (old new : Option (List ℕ)) → IsWritten a told old new → IsSome told → IsCaused f a told → ComesFor f DONE
written-exact f a None old new written known is = absurd (false≢true known)
written-exact f a (Some files) old new written known is = λ calm. absurd (false≢true (sym calm ∙ owed-none f a files written.0 written.1 is))

after : (m n status : ℕ) → IsOrFails n m → (status ≡ n) ⊎ (status ≡ NO_MEMORY) → (status ≡ m) ⊎ (is_failure status ≡ true)
after m n status same (inr is) = rw is (inr refl)
after m n status (inl same) (inl is) = inl (is ∙ same)
after m n status (inr fails) (inl is) = inr (ap is_failure is ∙ fails)

pub told-exact : (f g : RollupFault) (a : Asked) (told : Option Files) (status : ℕ) → IsCaused g a told → (status ≡ status_of g) ⊎ (status ≡ NO_MEMORY) → IsSome told → IsCaused f a told → ComesFor f status
told-exact f g a None status cause ends known is = absurd (false≢true known)
told-exact f g a (Some files) status cause ends known is = λ calm. after (status_of f) (status_of g) status (causes-same f g a files is cause calm) ends

-- ---- refused words

pub told-refusal : (f : RollupFault) (a : Asked) (status : ℕ) → EndsRefused a (Some f) → (status ≡ status_of f) ⊎ (status ≡ NO_MEMORY) → IsRefusalOf a status
told-refusal f (saves q first names) status ends is = tt
told-refusal f (rolls q keep names) status ends is = tt
told-refusal f (refused r) status ends (inr is) = inr is
told-refusal f (refused r) status (inl ends) (inl is) = inl (is ∙ ap status_of (some-is f (fault.Refused r) ends))
told-refusal f (refused r) status (inr ends) (inl is) = inr (is ∙ ap status_of (some-is f fault.Memory ends))

-- ---- what was written

-- before a fault nothing was, or a front
pub begun-before : {O : Type 0} (f : RollupFault) (old new : O) (Begun : Type 0) → (IsBefore f → new ≡ old) → (f ≡ fault.OutputFailed → Begun) → (f ≡ fault.Memory → (new ≡ old) ⊎ Begun) → (new ≡ old) ⊎ Begun
begun-before (fault.Refused r) old new Begun same failed wanting = inl (same tt)
begun-before (fault.Save e) old new Begun same failed wanting = inl (same tt)
begun-before (fault.Roll e) old new Begun same failed wanting = inl (same tt)
begun-before fault.OutputFailed old new Begun same failed wanting = inr (failed refl)
begun-before fault.Memory old new Begun same failed wanting = wanting refl

-- words never fail an output
pub ask-never : (e : AskError) (f : RollupFault) → f ≡ ask_fault e → Some f ≡ Some fault.OutputFailed → ⊥
ask-never (ask_error.Refused r) f is failed = subst IsOfOutput (sym (some-is f fault.OutputFailed failed) ∙ is) tt
ask-never ask_error.Memory f is failed = omega (arith, ap status_of (sym (some-is f fault.OutputFailed failed) ∙ is))

refusal-not : (r : Refusal) → refusal_status r ≡ OUTPUT_FAILED → ⊥
refusal-not refusal.Words is = omega (arith, is)
refusal-not (refusal.Query why) is = omega (arith, is)
refusal-not refusal.Sliced is = omega (arith, is)
refusal-not refusal.Keys is = omega (arith, is)

read-not : (e : CsvError) → read_status e ≡ OUTPUT_FAILED → ⊥
read-not (csv_error.Missing file) is = omega (arith, is)
read-not (csv_error.Header file) is = omega (arith, is)
read-not (csv_error.Width file row) is = omega (arith, is)
read-not (csv_error.Field file row column) is = omega (arith, is)
read-not csv_error.TooLarge is = omega (arith, is)
read-not csv_error.Input is = omega (arith, is)
read-not csv_error.Memory is = omega (arith, is)

roll-not : (e : RollError) → roll_status e ≡ OUTPUT_FAILED → ⊥
roll-not (roll_error.Missing file) is = omega (arith, is)
roll-not roll_error.Input is = omega (arith, is)
roll-not (roll_error.NotAState file) is = omega (arith, is)
roll-not (roll_error.Overlap file) is = omega (arith, is)
roll-not roll_error.TooLarge is = omega (arith, is)
roll-not roll_error.Memory is = omega (arith, is)

-- one fault alone tells that an output failed
output-alone : (f : RollupFault) → status_of f ≡ OUTPUT_FAILED → f ≡ fault.OutputFailed
output-alone (fault.Refused r) is = absurd (refusal-not r is)
output-alone (fault.Save e) is = absurd (read-not e is)
output-alone (fault.Roll e) is = absurd (roll-not e is)
output-alone fault.OutputFailed is = refl
output-alone fault.Memory is = absurd (omega (arith, is))

pub told-output : (f : RollupFault) (status : ℕ) → (status ≡ status_of f) ⊎ (status ≡ NO_MEMORY) → status ≡ OUTPUT_FAILED → f ≡ fault.OutputFailed
told-output f status (inl is) failed = output-alone f (sym is ∙ failed)
told-output f status (inr is) failed = absurd (omega (arith, is, failed))
