-- What the definitions of means and orders come to.
use Rattle.std.specs.Prelude.{◌≡◌, ◌+◌, ◌*◌, ◌%◌, ◌≤◌, ℕ, List}
use Rattle.std.specs.List.{IsDistinct}
use Rattle.std.specs.Ordering.{eq_by_cmp}
use Rattle.pipe_lines.specs.Rows.{Row}
use Rattle.lavzimo_rows.specs.Shown.{key_cmp}

-- a whole number is one that is nearest to a quotient: it is no further than a half, and even where
-- it is as far as that
pub record IsNearest (n divisor whole : ℕ) : Type 0 where
  pub above : 2 * (whole * divisor) ≤ 2 * n + divisor
  pub below : 2 * n ≤ 2 * (whole * divisor) + divisor
  pub even_above : 2 * (whole * divisor) ≡ 2 * n + divisor → whole % 2 ≡ 0
  pub even_below : 2 * n ≡ 2 * (whole * divisor) + divisor → whole % 2 ≡ 0

-- no two rows have the same keys, as those of an answer
abbrev pub HaveDistinctKeys : ℕ → List Row → Type 0
HaveDistinctKeys keys rows = IsDistinct (eq_by_cmp (key_cmp keys)) rows
