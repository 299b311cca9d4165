-- Of the proofs alone: a place in a file of a list.
use Rattle.std.specs.Prelude.{ℕ, List, drop, Option, option_map, slice_get, Vec}
use Rattle.std.specs.declared.alloc.Global.{Global}

-- the bytes of the file at a place of a list, from an offset on
abbrev pub file_rest : List (List ℕ × Vec ℕ Global) → ℕ → ℕ → Option (List ℕ)
file_rest files at place = option_map (λ f. drop at f.1.items) (slice_get files place)
