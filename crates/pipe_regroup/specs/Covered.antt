-- Of the proofs alone: what is found of the ranges of states, and of how many rows they are.
use Rattle.std.specs.Prelude.{◌≡◌, ◌&&◌, ℕ, Bool, is_some, not, List, Option, Some, None}
use Rattle.std.specs.List.{list_any}
use Rattle.pipe_states.specs.Ranges.{share_number}
use Rattle.pipe_states.specs.States.{StateSeen}
use Rattle.pipe_states.specs.Together.{IsFirstOverlap, NoneOverlap, total_rows}
use Rattle.pipe_regroup.specs.declared.coverage.Coverage.{Coverage}
use Rattle.pipe_regroup.specs.declared.ranges.Range.{Range}
use Rattle.pipe_regroup.specs.Regrouping.{held_count}
use Rattle.pipe_regroup.specs.Spread.{meets}

-- ranges have the numbers of states
abbrev pub HaveNumbers : List StateSeen → List Range → Type 0
HaveNumbers states ranges =
    (f e : ℕ) → list_any (λ s. share_number s.first s.end f e) states ≡ meets ranges f e

-- no state shares a number with an earlier one, and ranges have their numbers; or one is the first
-- that does
abbrev pub IsToldBy : List StateSeen → List Range → Option ℕ → Type 0
IsToldBy states ranges None = NoneOverlap states × HaveNumbers states ranges
IsToldBy states ranges (Some i) = IsFirstOverlap states i

-- what is found of states
pub record IsCoverageOf (states : List StateSeen) (c : Coverage) : Type 0 where
  pub overlap : IsToldBy states c.ranges c.overlap
  pub rows : c.rows ≡ held_count (total_rows states)

-- whether nothing is found that forbids to regroup them
abbrev pub is_sound : Coverage → Bool
is_sound c = not (is_some c.overlap) && is_some c.rows
