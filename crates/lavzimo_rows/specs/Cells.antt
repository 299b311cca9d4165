-- Of the proofs alone: what the code's values stand for.
use Rattle.std.specs.Prelude.{◌≡◌, ◌<◌, ℤ, pos, ◌+ℤ◌, ◌*ℤ◌, Bool, true, false, Option, Some, None}
use Rattle.std.specs.Borrow.{Bor}
use Rattle.pipe_columns.specs.declared.any_value.AnyValue.{AnyValue}
use Rattle.pipe_columns.specs.declared.any_value.AnyValue.TheVariants as av
use Rattle.lavzimo_rows.specs.declared.cell.Cell.{Cell}
use Rattle.lavzimo_rows.specs.declared.cell.Cell.TheVariants as cell
use Rattle.lavzimo_rows.specs.declared.mean.Millionths.{Millionths}

-- the number of millionths
abbrev pub number_of : Millionths → ℤ
number_of m = (m.whole *ℤ pos 1000000) +ℤ pos m.rest

-- it is this number, and less than one is apart
pub record IsMillionths (n : ℤ) (m : Millionths) : Type 0 where
  pub number : number_of m ≡ n
  pub rest : m.rest < 1000000

-- a value that is lent, null where there is none
abbrev pub value_lent : Option (Bor AnyValue) → AnyValue
value_lent None = av.Null
value_lent (Some value) = value.now

-- a cell shows a value; that of a mean is a number of millionths
abbrev pub IsCell : Bool → AnyValue → Cell → Type 0
IsCell mean value cell.Nothing = value ≡ av.Null
IsCell mean value (cell.Value lent) = (mean ≡ false) × (value ≡ lent.now)
IsCell mean value (cell.Mean m) =
    (mean ≡ true) × (value ≡ av.Int (number_of m)) × (m.rest < 1000000)
