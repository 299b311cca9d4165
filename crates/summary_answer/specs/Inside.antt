-- Of the proofs alone: where faults come from.
use Rattle.std.specs.Prelude.{◌≡◌, ◌⊎◌, ℕ, List, Option, Some, None, Result, Ok, Err, ⊤}
use Rattle.std.specs.Io.KnownBytes.{Appends}
use Rattle.pipe_model.specs.Query.{QueryTree}
use Rattle.pipe_spill.specs.declared.store.StoreError.{StoreError}
use Rattle.pipe_spill.specs.declared.store.StoreError.TheVariants as store_error
use Rattle.pipe_summary.specs.declared.read_error.ReadError.{ReadError}
use Rattle.pipe_summary.specs.declared.read_error.ReadError.TheVariants as read_error
use Rattle.summary_add.specs.declared.add_fault.AddFault.{AddFault}
use Rattle.summary_add.specs.declared.add_fault.AddFault.TheVariants as adding
use Rattle.summary_answer.specs.Headline.{IsShown}
use Rattle.summary_words.specs.Asked.{adds, Asked, refused, shows}
use Rattle.summary_words.specs.declared.refusal.AskError.{AskError}
use Rattle.summary_words.specs.declared.refusal.AskError.TheVariants as ask_error
use Rattle.summary_answer.specs.declared.fault.SummaryFault.{SummaryFault}
use Rattle.summary_answer.specs.declared.fault.SummaryFault.TheVariants as fault

-- the fault of words
abbrev pub ask_fault : AskError → SummaryFault
ask_fault (ask_error.Refused r) = fault.Refused r
ask_fault ask_error.Memory = fault.Memory

-- the fault of a store that wasn't opened
abbrev pub store_fault : StoreError → SummaryFault
store_fault store_error.Failed = fault.Store
store_fault store_error.Memory = fault.Memory

-- the fault of frames that weren't read
abbrev pub read_fault : ReadError → SummaryFault
read_fault read_error.Store = fault.Store
read_fault (read_error.Damaged number) = fault.Damaged number
read_fault read_error.Memory = fault.Memory

-- the fault of files that weren't added
abbrev pub add_fault : AddFault → SummaryFault
add_fault (adding.Read e) = fault.Read e
add_fault adding.Store = fault.Store

-- how an addition ended
abbrev pub added_fault : Result Unit AddFault → Option SummaryFault
added_fault (Ok done) = None
added_fault (Err e) = Some (add_fault e)

-- what a fault says of the output: it is as it was, or has begun; of want of memory it may be either
abbrev pub LeavesOutput : SummaryFault → Type 0 → Type 0 → Type 0
LeavesOutput (fault.Refused r) Same Begun = Same
LeavesOutput fault.Store Same Begun = Same
LeavesOutput (fault.Damaged number) Same Begun = Same
LeavesOutput (fault.Read e) Same Begun = Same
LeavesOutput fault.OutputFailed Same Begun = Begun
LeavesOutput fault.Memory Same Begun = Same ⊎ Begun

-- a fault of an output, or want of memory
abbrev pub IsOfOutput : SummaryFault → Type 0
IsOfOutput (fault.Refused r) = ⊥
IsOfOutput fault.Store = ⊥
IsOfOutput (fault.Damaged number) = ⊥
IsOfOutput (fault.Read e) = ⊥
IsOfOutput fault.OutputFailed = ⊤
IsOfOutput fault.Memory = ⊤

-- a text is shown, and the output grew by it
pub record HasPrinted
    (q : QueryTree) (told : Option (List (List ℕ))) (held : ℕ) (old new : Option (List ℕ))
    : Type 0 where
  pub text : List ℕ
  pub shown : IsShown q told held text
  pub written : Appends old new text

-- a fault that comes where the store wasn't opened: of words or of the store, or want of memory
abbrev pub IsUnopened : SummaryFault → Type 0
IsUnopened (fault.Refused r) = ⊤
IsUnopened fault.Store = ⊤
IsUnopened (fault.Damaged number) = ⊥
IsUnopened (fault.Read e) = ⊥
IsUnopened fault.OutputFailed = ⊥
IsUnopened fault.Memory = ⊤

-- words that are refused end so, or memory runs out
abbrev pub EndsRefused : Asked → Option SummaryFault → Type 0
EndsRefused (refused r) ended = (ended ≡ Some (fault.Refused r)) ⊎ (ended ≡ Some fault.Memory)
EndsRefused (adds q names) ended = ⊤
EndsRefused (shows q) ended = ⊤
