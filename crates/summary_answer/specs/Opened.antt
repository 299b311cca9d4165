-- The store that a command is given, and that it gives back.
use Rattle.std.specs.Prelude.{◌≡◌, ◌+◌, ℕ, Bool, true, false, List, Option, Some, None, is_some, Result, Ok, Err, ⊤}
use Rattle.pipe_columns.specs.Causes.{Rose}
use Rattle.pipe_spill.specs.declared.store.StoreError.{StoreError}

-- the store that a command is given
pub data Opened : Type 0 where
  -- it wasn't opened
  unopened : StoreError → Opened
  -- the frames that it tells, if it does, and how many it holds
  opened : Option (List (List ℕ)) → ℕ → Opened

-- what a store tells and holds, if it was opened
abbrev pub opened_of :
    {S : Type 0} → (S → Option (List (List ℕ))) → (S → ℕ) → Result S StoreError → Opened
opened_of told held (Err e) = unopened e
opened_of told held (Ok s) = opened (told s) (held s)

-- whether a store tells its frames; of one that wasn't opened there is nothing to tell
abbrev pub is_known : Opened → Bool
is_known (unopened e) = true
is_known (opened told held) = is_some told

-- a store is given back exactly where it was opened, and before and after are so
abbrev pub IsBack : {S : Type 0} → (S → S → Type 0) → Result S StoreError → Option S → Type 0
IsBack Are (Err e) None = ⊤
IsBack Are (Err e) (Some now) = ⊥
IsBack Are (Ok before) None = ⊥
IsBack Are (Ok before) (Some now) = Are before now

-- the count of faults of a store that was opened rose
abbrev pub HasRisen : {S : Type 0} → (S → ℕ) → Result S StoreError → Option S → Type 0
HasRisen faults (Err e) now = ⊥
HasRisen faults (Ok before) None = ⊥
HasRisen faults (Ok before) (Some now) = Rose (faults before) (faults now)
