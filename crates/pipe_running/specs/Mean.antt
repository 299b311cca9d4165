-- A running mean: an exact sum and a count.
use Rattle.std.specs.Prelude.{ℕ, ◌*◌, ◌^◌, ◌||◌, ℤ, pos, ◌+ℤ◌, ◌≤ℤ◌, Bool, true}
use Rattle.pipe_columns.specs.declared.any_value.AnyValue.{AnyValue}
use Rattle.pipe_columns.specs.declared.any_value.AnyValue.TheVariants as av
use Rattle.pipe_columns.specs.AnyValue.{is_signed, is_unsigned}

-- the exact sum of the values that are no null, and their number
pub record MeanState : Type 0 where
  pub sum : ℤ
  pub count : ℕ

-- the sum lies between -2^63 and 2^64 times the count
pub record IsExact (sum : ℤ) (count : ℕ) : Type 0 where
  pub above : pos 0 ≤ℤ (sum +ℤ pos (2 ^ 63 * count))
  pub below : sum ≤ℤ pos (2 ^ 64 * count)

-- whether a value is none of a number past 64 bits
abbrev pub is_short : AnyValue → Bool
is_short av.Null = true
is_short (av.Boolean b) = true
is_short (av.Int n) = is_signed 63 n || is_unsigned 64 n
is_short (av.Text s) = true
