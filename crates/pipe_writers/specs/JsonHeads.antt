-- Of the proofs alone: the heads of the members of a line, made once for many lines.
use Rattle.std.specs.Prelude.{◌≡◌, ℕ, List, [], get_or, length, map, nat_lt, Vec}
use Rattle.std.specs.List.{range_with_len}
use Rattle.std.specs.declared.alloc.Global.{Global}
use Rattle.pipe_writers.specs.JsonText.{member_head}

-- the head of the member at a place
abbrev pub head_at : List (List ℕ) → ℕ → List ℕ
head_at names k = member_head (nat_lt 0 k) (get_or names k [])

-- so many heads of the members under names
abbrev pub heads_to : List (List ℕ) → ℕ → List (List ℕ)
heads_to names n = map (head_at names) (range_with_len 0 n)

-- texts are the heads of the members under names
abbrev pub AreHeads : List (List ℕ) → List (Vec ℕ Global) → Type 0
AreHeads names heads = map (λ h. h.items) heads ≡ heads_to names (length names)
