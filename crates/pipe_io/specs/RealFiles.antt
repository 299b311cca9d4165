-- What contracts see of the real files and standard input.
use Rattle.std.specs.Prelude.{ℕ, Bool, List}

-- whether a file or standard input is begun, how many calls failed, and the names that were tried
pub record SystemFiles : Type 0 where
  pub begun : Bool
  pub faults : ℕ
  pub tried : List (List ℕ)

-- whether a file or standard input is begun
abbrev pub begun_of : SystemFiles → Bool
begun_of s = s.begun

-- how many calls failed
abbrev pub held_faults : SystemFiles → ℕ
held_faults s = s.faults

-- the names that were tried
abbrev pub tried_of : SystemFiles → List (List ℕ)
tried_of s = s.tried
