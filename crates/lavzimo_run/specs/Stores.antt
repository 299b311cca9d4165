-- What is seen of the stores of a run.
use Rattle.std.specs.Prelude.{◌≡◌, ◌<◌, ◌++◌, ℕ, true, All, IsTrue, List, [], length, replicate}
use Rattle.std.specs.Prelude.{Option, Some, None, slice_index_or}
use Rattle.pipe_global.specs.Partition.{no_store}
use Rattle.pipe_plan.specs.Run.{StoreSeen, tells}

-- a store as it is made: without a folder it tells that it has no frame, and is sure
pub record IsMade (folder : Option (List ℕ)) (s : StoreSeen) : Type 0 where
  pub held : s.held ≡ 0
  pub faults : s.faults ≡ 0
  pub tells : folder ≡ None → s.told ≡ Some []
  pub sure : folder ≡ None → IsTrue s.sure

-- as many stores as they are made
pub record AreMade (folder : Option (List ℕ)) (count : ℕ) (stores : List StoreSeen) : Type 0 where
  pub each : All (IsMade folder) stores
  pub number : length stores ≡ count

-- some stores more were made, each in this folder or, where there is none, in memory, and no others
abbrev pub WereMadeIn :
    Option (List ℕ) → List (Option (List ℕ)) → List (Option (List ℕ)) → Type 0
WereMadeIn folder before now = (count : ℕ) × (now ≡ before ++ replicate count folder)

-- a store tells, and never failed
pub record IsSoundStore (s : StoreSeen) : Type 0 where
  pub told : tells s ≡ true
  pub sound : s.faults ≡ 0

-- no store has ever failed
abbrev pub NeverFailed : List StoreSeen → Type 0
NeverFailed stores = All (λ s. s.faults ≡ 0) stores

-- the store of a partition failed
pub record HasFailed (stores : List StoreSeen) (p : ℕ) : Type 0 where
  pub within : p < length stores
  pub failed : 0 < (slice_index_or stores p no_store).faults

-- the store of a partition doesn't tell, and has a frame of a number
pub record HasUntold (stores : List StoreSeen) (p n : ℕ) : Type 0 where
  pub within : p < length stores
  pub untold : (slice_index_or stores p no_store).told ≡ None
  pub has : n < (slice_index_or stores p no_store).held
