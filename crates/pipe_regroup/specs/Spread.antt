-- Of the proofs alone: ranges of positions in order, and the numbers that they have.
use Rattle.std.specs.Prelude.{◌≡◌, ◌≤◌, ◌<◌, ◌||◌, ℕ, Bool, List, [], ◌∷◌}
use Rattle.std.specs.List.{list_any}
use Rattle.pipe_states.specs.Ranges.{share_number}
use Rattle.pipe_regroup.specs.declared.ranges.Range.{Range}

-- ranges in order from a number on: none is empty, and each begins at the end of the one before or
-- behind it
abbrev pub AreSpread : ℕ → List Range → Type 0
AreSpread from [] = Unit {0}
AreSpread from (r ∷ ranges) = (from ≤ r.first) × (r.first < r.end) × AreSpread r.end ranges

-- whether one of some ranges shares a number with another
abbrev pub meets : List Range → ℕ → ℕ → Bool
meets ranges first end = list_any (λ r. share_number r.first r.end first end) ranges

-- ranges have the numbers of others and of one more
abbrev pub HaveNumbersOf : List Range → ℕ → ℕ → List Range → Type 0
HaveNumbersOf old first end new =
    (f e : ℕ) → meets new f e ≡ (share_number first end f e || meets old f e)
