-- Of the proofs alone: bytes that a JSON string has as they are.
use Rattle.std.specs.Prelude.{◌==◌, ◌||◌, ℕ, List, Bool, nat_lt, not}
use Rattle.std.specs.List.{list_all}

-- a byte that stands in a string as an escape
abbrev pub has_escape : ℕ → Bool
has_escape x = (x == 34) || (x == 92) || nat_lt x 32

-- no byte has an escape
abbrev pub are_plain : List ℕ → Bool
are_plain s = list_all (λ x. not (has_escape x)) s
