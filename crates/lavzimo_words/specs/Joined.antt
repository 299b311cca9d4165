-- The words as `clap` reads them: an order downwards begins with a sign, as an option does.
use Rattle.std.specs.Prelude.{ℕ, ◌==◌, ◌++◌, ◌&&◌, Bool, not, List, [], ◌∷◌, codes, bytes_eq, nat_lt, length, slice_index_or, if◌then◌else◌, Option, Some, None}

-- whether a word is a sign before something else than a sign
abbrev pub is_downwards : List ℕ → Bool
is_downwards word =
    nat_lt 1 (length word) && slice_index_or word 0 0 == 45 && not (slice_index_or word 1 0 == 45)

-- whether two words are an order downwards
abbrev pub is_order : List ℕ → List ℕ → Bool
is_order word value = bytes_eq word (codes "--order") && is_downwards value

-- words of which an order downwards is joined to its option by `=`, up to one of two signs alone
abbrev pub joined : List (List ℕ) → List (List ℕ)
joined [] = []
joined (w ∷ []) = w ∷ []
joined (w ∷ v ∷ rest) =
    if bytes_eq w (codes "--") then w ∷ v ∷ rest
    else (if is_order w v then (codes "--order=" ++ v) ∷ joined rest else w ∷ joined (v ∷ rest))

-- the next word before another one and before one of two signs alone, and the words behind it
abbrev pub next_word : List (List ℕ) → Option (List ℕ × List (List ℕ))
next_word [] = None
next_word (w ∷ []) = None
next_word (w ∷ v ∷ rest) =
    if bytes_eq w (codes "--") then None
    else (if is_order w v then Some (codes "--order=" ++ v, rest) else Some (w, v ∷ rest))
