-- Of the proofs alone: how the ends of entries are found in a file.
use Rattle.std.specs.Prelude.{◌≡◌, ◌+◌, ◌≤◌, ℕ, List, ◌++◌, length, drop, Option, Some, None, IfSome, ⊤}
use Rattle.pipe_spill.specs.FileStore.{next_start}
use Rattle.summary_log.specs.Ends.{ends_of}
use Rattle.summary_log.specs.Log.{BeginsNone, entry, log}

-- told bytes are so many
abbrev pub IsSize : Option (List ℕ) → ℕ → Type 0
IsSize told size = IfSome told (λ bytes. length bytes ≡ size)

-- an entry begins at a place and ends at another
pub record IsEntryTo (bytes : List ℕ) (start end : ℕ) : Type 0 where
  pub frame : List ℕ
  pub rest : List ℕ
  pub begins : drop start bytes ≡ entry frame ++ rest
  pub end_is : end ≡ start + length (entry frame)

-- where the entry ends that begins at a place, if one does
abbrev pub EndsEntry : List ℕ → ℕ → Option ℕ → Type 0
EndsEntry bytes start None = BeginsNone (drop start bytes)
EndsEntry bytes start (Some end) = IsEntryTo bytes start end

-- bytes begin with the entries that end here, the last one at a place
pub record HasFound (bytes ends : List ℕ) (start : ℕ) : Type 0 where
  pub frames : List (List ℕ)
  pub front : bytes ≡ log frames ++ drop start bytes
  pub ends_are : ends ≡ ends_of frames
  pub start_is : start ≡ length (log frames)
