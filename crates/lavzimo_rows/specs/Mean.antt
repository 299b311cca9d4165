-- Means of whole numbers, in millionths.
use Rattle.std.specs.Prelude.{ℕ, suc, ◌+◌, ◌*◌, ◌/◌, ◌%◌, ◌^◌, ◌&&◌, ℤ, pos, negsuc, neg_ℤ, Bool, nat_lt, if◌then◌else◌}
use Rattle.pipe_columns.specs.declared.any_value.AnyValue.{AnyValue}
use Rattle.pipe_columns.specs.declared.any_value.AnyValue.TheVariants as av

-- a quotient and what is left, rounded to the nearest whole number, a half to the even one
abbrev pub rounded_by : ℕ → ℕ → ℕ → ℕ
rounded_by quotient left divisor =
    if nat_lt (2 * left) divisor then quotient
    else if nat_lt divisor (2 * left) then quotient + 1
    else quotient + quotient % 2

-- the nearest whole number to a quotient, of two that are as near the even one
abbrev pub rounded : ℕ → ℕ → ℕ
rounded n divisor = rounded_by (n / divisor) (n % divisor) divisor

-- the nearest whole number of millionths to the mean of so many numbers of a sum, of two that are
-- as near the even one
abbrev pub mean_micros : ℤ → ℕ → ℤ
mean_micros (pos sum) count = pos (rounded (sum * 1000000) count)
mean_micros (negsuc n) count = neg_ℤ (pos (rounded (suc n * 1000000) count))

-- whether a number counts some values: a count has 32 bits
abbrev pub is_count : ℕ → Bool
is_count n = nat_lt 0 n && nat_lt n (2 ^ 32)

-- the millionths of a mean, by the values of its exact sum and its count; null where it has none
abbrev pub mean_value : AnyValue → AnyValue → AnyValue
mean_value (av.Int sum) (av.Int (pos count)) =
    if is_count count then av.Int (mean_micros sum count) else av.Null
mean_value sum count = av.Null
