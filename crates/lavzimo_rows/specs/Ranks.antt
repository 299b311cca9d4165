-- Of the proofs alone: what rows are put in order by.
use Rattle.std.specs.Prelude.{◌≡◌, ℕ, ℤ, List, Bool, true, false, map}
use Rattle.std.specs.List.{All}
use Rattle.std.specs.declared.cmp.Ordering.{Ordering}
use Rattle.std.specs.Ordering.{ordering_then, nat_cmp}
use Rattle.pipe_columns.specs.declared.any_value.AnyValue.{AnyValue}
use Rattle.pipe_columns.specs.declared.any_value.AnyValue.TheVariants as av
use Rattle.pipe_columns.specs.AnyValue.{value_cmp}
use Rattle.lavzimo_rows.specs.declared.by_column.Rank.{Rank}
use Rattle.lavzimo_rows.specs.declared.by_column.Rank.TheVariants as rank
use Rattle.lavzimo_rows.specs.declared.by_column.RankedRow.{RankedRow}
use Rattle.lavzimo_rows.specs.declared.mean.Millionths.{Millionths}
use Rattle.lavzimo_rows.specs.Cells.{IsMillionths}

-- a rank as a value, of which a number is rounded downwards, and the millionths above that
abbrev pub rank_parts : Rank → AnyValue × ℕ
rank_parts rank.Nothing = (av.Null, 0)
rank_parts (rank.Truth b) = (av.Boolean b, 0)
rank_parts (rank.Number m) = (av.Int m.whole, m.rest)
rank_parts (rank.Text s) = (av.Text s.now, 0)

-- the order of ranks
abbrev pub rank_cmp : Rank → Rank → Ordering
rank_cmp r s =
    ordering_then (value_cmp (rank_parts r).0 (rank_parts s).0)
    (nat_cmp (rank_parts r).1 (rank_parts s).1)

-- a number's rank is the number itself, or where it is a mean its millionths
abbrev pub IsNumberRank : Bool → ℤ → Millionths → Type 0
IsNumberRank false n m = (m.whole ≡ n) × (m.rest ≡ 0)
IsNumberRank true n m = IsMillionths n m

-- a rank is that of a value, which may be a mean
abbrev pub IsRankOf : Bool → AnyValue → Rank → Type 0
IsRankOf mean value rank.Nothing = value ≡ av.Null
IsRankOf mean value (rank.Truth b) = value ≡ av.Boolean b
IsRankOf mean value (rank.Number m) = (n : ℤ) × (value ≡ av.Int n) × IsNumberRank mean n m
IsRankOf mean value (rank.Text s) = value ≡ av.Text s.now

-- rows of which each has the rank of its value
pub record AreRanked (mean : Bool) (value : ℕ → AnyValue) (rows : List ℕ) (ranked : List RankedRow)
    : Type 0 where
  pub numbers : map (λ r. r.row) ranked ≡ rows
  pub each : All (λ r. IsRankOf mean (value r.row) r.rank) ranked
