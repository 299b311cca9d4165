-- How additions and answers end.
use Rattle.std.proofs.Common.{◌≡◌, ◌∙◌, ◌++◌, ℕ, List, [], rules, Option, Some, None, Result, Ok, Err, OnOk, OnErr, refl, sym, ap, subst, inl, inr, append-nil}
use Rattle.std.specs.Prelude.{◌⊎◌, IfErr, IfSome, IsErrOf}
use Rattle.std.specs.Io.KnownBytes.{Appends}
use Rattle.std.proofs.lemmas.Option.{none-some}
use Rattle.pipe_columns.specs.declared.data_chunk.DataChunk.{DataChunk}
use Rattle.pipe_columns.specs.Frame.{FrameData}
use Rattle.pipe_csv.specs.declared.csv_error.CsvError.{CsvError}
use Rattle.pipe_csv.specs.Texts.{csv_text}
use Rattle.pipe_io.specs.Files.{Files}
use Rattle.pipe_io.specs.Output.{WroteFront}
use Rattle.pipe_model.specs.Answer.{answer}
use Rattle.pipe_model.specs.Query.{QueryTree}
use Rattle.pipe_states.specs.States.{StateSeen}
use Rattle.pipe_summary.specs.InTurn.{HoldsStates, IsFirstDamaged}
use Rattle.pipe_summary.specs.Summed.{IsSummed}
use Rattle.pipe_summary.specs.Sums.{StandsFor}
use Rattle.pipe_summary.specs.declared.read_error.ReadError.{ReadError}
use Rattle.pipe_summary.specs.declared.read_error.ReadError.TheVariants as read_error
use Rattle.summary_add.specs.Adds.{end_of_adding, FilesAdded, TellsFault}
use Rattle.summary_add.specs.declared.add_fault.AddFault.{AddFault}
use Rattle.summary_add.specs.declared.add_fault.AddFault.TheVariants as adding
use Rattle.summary_words.specs.Asked.{adds, shows}
use Rattle.summary_answer.specs.Faults.{EndsBehind, IsCaused}
use Rattle.summary_answer.specs.Headline.{HasAdded, HasBegun, IsShown}
use Rattle.summary_answer.specs.Inside.{add_fault, added_fault, IsOfOutput, LeavesOutput, read_fault}
use Rattle.summary_answer.specs.Opened.{opened}
use Rattle.summary_answer.specs.declared.fault.SummaryFault.{SummaryFault}
use Rattle.summary_answer.specs.declared.fault.SummaryFault.TheVariants as fault

-- three equal things in the place of others
pub three : {A B C : Type 0} (P : A → B → C → Type 0) {a x : A} {b y : B} {c z : C} → a ≡ x → b ≡ y → c ≡ z → P a b c → P x y z
three P {a} {x} {b} {y} {c} {z} p q r h = subst (λ k. P x y k) r (subst (λ k. P x k c) q (subst (λ k. P k b c) p h))

-- ---- frames that weren't read

-- where files are to be added
pub read-adds : (e : ReadError) (q : QueryTree) (names : List (List ℕ)) (files : Option Files) (told : Option (List (List ℕ))) (held : ℕ)
    → ((n : ℕ) → e ≡ read_error.Damaged n → IfSome told (λ frames. IsFirstDamaged q frames n)) → IsCaused (read_fault e) (adds q names) (opened told held) files
read-adds read_error.Store q names files told held damaged = tt
read-adds (read_error.Damaged n) q names files told held damaged = damaged n refl
read-adds read_error.Memory q names files told held damaged = tt

-- where the answer is to be shown
pub read-shows : (e : ReadError) (q : QueryTree) (files : Option Files) (told : Option (List (List ℕ))) (held : ℕ)
    → ((n : ℕ) → e ≡ read_error.Damaged n → IfSome told (λ frames. IsFirstDamaged q frames n)) → IsCaused (read_fault e) (shows q) (opened told held) files
read-shows read_error.Store q files told held damaged = tt
read-shows (read_error.Damaged n) q files told held damaged = damaged n refl
read-shows read_error.Memory q files told held damaged = tt

-- of a store that tells none of its frames nothing is said
pub none-told : (told : Option (List (List ℕ))) (P : List (List ℕ) → Type 0) → told ≡ None → IfSome told P
none-told told P none = subst (λ t. IfSome t P) (sym none) tt

pub read-store : (e : ReadError) → Some (read_fault e) ≡ Some fault.Store → e ≡ read_error.Store
read-store read_error.Store is = refl
read-store (read_error.Damaged n) is = cc
read-store read_error.Memory is = cc

-- what they leave of the output
pub read-leaves : (e : ReadError) (Same Begun : Type 0) → Same → LeavesOutput (read_fault e) Same Begun
read-leaves read_error.Store Same Begun same = same
read-leaves (read_error.Damaged n) Same Begun same = same
read-leaves read_error.Memory Same Begun same = inl same

-- ---- an addition

module _ (q : QueryTree) (names : List (List ℕ)) (files : Option Files) where
  -- what is added
  pub has-added : (p : QueryTree) (told before now after : Option (List (List ℕ))) (held : ℕ) (states : List StateSeen) (r : Result Unit AddFault)
      → p ≡ q → before ≡ told → after ≡ now → HoldsStates q told held states → OnOk r (FilesAdded p names files states before after)
      → added_fault r ≡ None → HasAdded q names files told held now []
  has-added p told before now after held states (Err e) same first last holds added done = absurd (none-some (add_fault e) (sym done))
  has-added p told before now after held states (Ok is) same first last holds added done = record {
    states = states;
    holds = holds;
    added = three (λ q b a. FilesAdded q names files states b a) same first last added;
    nothing = refl;
  }

  -- why nothing is
  pub add-caused : (p : QueryTree) (told : Option (List (List ℕ))) (held : ℕ) (states : List StateSeen) (r : Result Unit AddFault)
      → p ≡ q → HoldsStates q told held states → IfErr r (λ e. IfSome files (λ fs. TellsFault e (end_of_adding states fs names p)))
      → IfSome (added_fault r) (λ f. IsCaused f (adds q names) (opened told held) files)
  add-caused p told held states (Ok is) same holds ends = tt
  add-caused p told held states (Err adding.Store) same holds ends = tt
  add-caused p told held states (Err (adding.Read e)) same holds ends = record {
    states = states;
    holds = holds;
    ends = subst (λ q. IfSome files (λ fs. TellsFault (adding.Read e) (end_of_adding states fs names q))) same ends;
  }

pub add-kept : (r : Result Unit AddFault) (P : Type 0) → OnErr r P → IfSome (added_fault r) (λ _. P)
add-kept (Ok is) P p = tt
add-kept (Err e) P p = p

pub add-read : (r : Result Unit AddFault) (e : CsvError) → added_fault r ≡ Some (fault.Read e) → r ≡ Err (adding.Read e)
add-read (Ok is) e same = absurd (none-some (fault.Read e) same)
add-read (Err (adding.Read d)) e same = cc
add-read (Err adding.Store) e same = cc

pub add-store : (r : Result Unit AddFault) → added_fault r ≡ Some fault.Store → IsErrOf r adding.Store
add-store (Ok is) same = absurd (none-some fault.Store same)
add-store (Err adding.Store) same = search rules
add-store (Err (adding.Read e)) same = cc

pub add-never : (r : Result Unit AddFault) → added_fault r ≡ Some fault.OutputFailed → ⊥
add-never (Ok is) same = none-some fault.OutputFailed same
add-never (Err adding.Store) same = cc
add-never (Err (adding.Read e)) same = cc

-- ---- an answer

-- it is shown as its text
pub answer-shown : (q : QueryTree) (told : Option (List (List ℕ))) (held : ℕ) (frame : FrameData) → IsSummed q told held frame
    → ((chunks : List DataChunk) → StandsFor q told chunks → frame ≡ answer chunks q 1) → IsShown q told held (csv_text frame)
answer-shown q told held frame s answers = record { states = s.states; holds = s.holds; frame = frame; sums = s.frame_is; answers = answers; text_is = refl }

-- a write that failed has begun
pub wrote-leaves : (o : Option SummaryFault) (q : QueryTree) (told : Option (List (List ℕ))) (held : ℕ) (old new : Option (List ℕ)) (text : List ℕ) (Same : Type 0)
    → IsShown q told held text → IfSome o IsOfOutput → IfSome o (λ _. WroteFront old new text) → IfSome o (λ f. LeavesOutput f Same (HasBegun q told held old new))
wrote-leaves None q told held old new text Same shown of front = tt
wrote-leaves (Some fault.OutputFailed) q told held old new text Same shown of front = record { text = text; shown = shown; front = front }
wrote-leaves (Some fault.Memory) q told held old new text Same shown of front = inr (record { text = text; shown = shown; front = front })
wrote-leaves (Some (fault.Refused r)) q told held old new text Same shown of front = absurd of
wrote-leaves (Some fault.Store) q told held old new text Same shown of front = absurd of
wrote-leaves (Some (fault.Damaged n)) q told held old new text Same shown of front = absurd of
wrote-leaves (Some (fault.Read e)) q told held old new text Same shown of front = absurd of

pub wrote-caused : (o : Option SummaryFault) (q : QueryTree) (told : Option (List (List ℕ))) (held : ℕ) (files : Option Files) → IfSome o IsOfOutput → IfSome o (λ f. IsCaused f (shows q) (opened told held) files)
wrote-caused None q told held files of = tt
wrote-caused (Some fault.OutputFailed) q told held files of = tt
wrote-caused (Some fault.Memory) q told held files of = tt
wrote-caused (Some (fault.Refused r)) q told held files of = absurd of
wrote-caused (Some fault.Store) q told held files of = absurd of
wrote-caused (Some (fault.Damaged n)) q told held files of = absurd of
wrote-caused (Some (fault.Read e)) q told held files of = absurd of

-- it is neither that of a store nor of reading
pub wrote-store : (o : Option SummaryFault) → IfSome o IsOfOutput → o ≡ Some fault.Store → ⊥
wrote-store o of is = subst (λ p. IfSome p IsOfOutput) is of

pub wrote-read : (o : Option SummaryFault) (e : CsvError) → IfSome o IsOfOutput → o ≡ Some (fault.Read e) → ⊥
wrote-read o e of is = subst (λ p. IfSome p IsOfOutput) is of

-- ---- what was written

-- nothing
pub appends-none : (o : Option (List ℕ)) → Appends o o []
appends-none None = tt
appends-none (Some bytes) = sym (append-nil bytes)

-- where no output failed it may be as it was
pub leaves-same : (o : Option SummaryFault) (Same Begun : Type 0) → Same → (o ≡ Some fault.OutputFailed → ⊥) → IfSome o (λ f. LeavesOutput f Same Begun)
leaves-same None Same Begun same never = tt
leaves-same (Some (fault.Refused r)) Same Begun same never = same
leaves-same (Some fault.Store) Same Begun same never = same
leaves-same (Some (fault.Damaged n)) Same Begun same never = same
leaves-same (Some (fault.Read e)) Same Begun same never = same
leaves-same (Some fault.OutputFailed) Same Begun same never = absurd (never refl)
leaves-same (Some fault.Memory) Same Begun same never = inl same
