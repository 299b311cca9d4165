-- What contracts see of files in memory.
use Rattle.std.specs.Prelude.{ℕ, List, Bool, map, Option, Some, is_some, Vec}
use Rattle.std.specs.declared.alloc.Global.{Global}
use Rattle.pipe_columns.specs.Calls.{Calls}
use Rattle.pipe_io.specs.Files.{Files}

-- named files, what is left of the one that is begun, the calls of begin and read together, and the
-- names that were tried
pub record HeldFiles : Type 0 where
  pub files : Files
  pub left : Option (List ℕ)
  pub calls : Calls
  pub tried : List (List ℕ)

-- the names and bytes of a list of files
abbrev pub entries : List (List ℕ × Vec ℕ Global) → Files
entries files = map (λ f. (f.0, f.1.items)) files

-- all files, which are always told
abbrev pub held_files : HeldFiles → Option Files
held_files s = Some s.files

-- what is left of the begun file
abbrev pub held_rest : HeldFiles → Option (List ℕ)
held_rest s = s.left

-- whether a file is begun
abbrev pub begun_of : HeldFiles → Bool
begun_of s = is_some s.left

-- how many calls failed
abbrev pub held_faults : HeldFiles → ℕ
held_faults s = s.calls.faults

-- the names that were tried
abbrev pub tried_of : HeldFiles → List (List ℕ)
tried_of s = s.tried
