-- Fields that write short numbers.
use Rattle.std.proofs.Common.{◌≡◌, ◌∙◌, ℕ, ℤ, List, [], ◌∷◌, true, Some, refl, sym}
use Rattle.pipe_columns.specs.declared.data_type.DataType.{DataType}
use Rattle.pipe_columns.specs.declared.data_type.DataType.TheVariants as dt
use Rattle.pipe_columns.specs.declared.any_value.AnyValue.TheVariants as av
use Rattle.pipe_columns.specs.AnyValue.{fits_number}
use Rattle.pipe_csv.specs.Fields.{read_field}
use Rattle.pipe_csv.specs.Fields as field
use Rattle.pipe_scan.specs.Numbers.{read_short_number}
use Rattle.pipe_scan.specs.Numbers as scan
use Rattle.pipe_scan.proofs.NumberFacts.{short-number}

-- a scan reads digits as any field does
same_digits : (ds : List ℕ) → scan.read_digits ds ≡ field.read_digits ds
same_digits [] = refl
same_digits (d ∷ ds) = refl

-- and numbers
same_number : (bs : List ℕ) → scan.read_number bs ≡ field.read_number bs
same_number [] = refl
same_number (b ∷ bs) = rw (same_digits bs) refl

-- a number that is in the range of a type is the value of its field
number-value : (t : DataType) (b : ℕ) (bs : List ℕ) (n : ℤ) → fits_number n t ≡ true → field.read_number (b ∷ bs) ≡ Some n → read_field t (b ∷ bs) ≡ Some (av.Int n)
number-value dt.Boolean b bs n f e = cc
number-value dt.Int8 b bs n f e = rw (e, f) refl
number-value dt.Int16 b bs n f e = rw (e, f) refl
number-value dt.Int32 b bs n f e = rw (e, f) refl
number-value dt.Int64 b bs n f e = rw (e, f) refl
number-value dt.UInt8 b bs n f e = rw (e, f) refl
number-value dt.UInt16 b bs n f e = rw (e, f) refl
number-value dt.UInt32 b bs n f e = rw (e, f) refl
number-value dt.UInt64 b bs n f e = rw (e, f) refl
number-value dt.Int128 b bs n f e = rw (e, f) refl
number-value dt.Date b bs n f e = rw (e, f) refl
number-value dt.String b bs n f e = cc

-- so is a short one
pub short-value : (t : DataType) (bs : List ℕ) (n : ℤ) → read_short_number bs ≡ Some n → fits_number n t ≡ true → read_field t bs ≡ Some (av.Int n)
short-value t [] n e f = cc
short-value t (b ∷ bs) n e f = number-value t b bs n f (sym (same_number (b ∷ bs)) ∙ short-number (b ∷ bs) n e)
