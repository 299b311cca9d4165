-- The values that fields of CSV read as.
use Rattle.std.specs.Prelude.{ℕ, ◌+◌, ◌*◌, ◌-◌, ◌==◌, ℤ, pos, neg_ℤ, true, false, List, [], ◌∷◌, fold, codes, Option, Some, None, option_map, option_and_then, if◌then◌else◌}
use Rattle.std.specs.List.{list_all}
use Rattle.std.specs.Char.{is_ascii_digit}
use Rattle.std.specs.Str.{bytes_eq, is_utf8}
use Rattle.pipe_columns.specs.declared.data_type.DataType.{DataType}
use Rattle.pipe_columns.specs.declared.data_type.DataType.TheVariants as dt
use Rattle.pipe_columns.specs.declared.any_value.AnyValue.{AnyValue}
use Rattle.pipe_columns.specs.declared.any_value.AnyValue.TheVariants as av
use Rattle.pipe_columns.specs.AnyValue.{fits_number}

-- the number that digits write
abbrev pub number_of : List ℕ → ℕ
number_of digits = fold (λ n d. n * 10 + (d - 48)) 0 digits

-- one or more digits, as their number
abbrev pub read_digits : List ℕ → Option ℕ
read_digits [] = None
read_digits (d ∷ ds) =
    if list_all is_ascii_digit (d ∷ ds) then Some (number_of (d ∷ ds)) else None

-- digits after one `+` or `-` at most
abbrev pub read_number : List ℕ → Option ℤ
read_number [] = None
read_number (b ∷ bs) =
    if b == 43 then option_map pos (read_digits bs)
    else (if b == 45 then option_map (λ n. neg_ℤ (pos n)) (read_digits bs)
    else option_map pos (read_digits (b ∷ bs)))

-- a number in the range of a type
abbrev pub read_int : DataType → List ℕ → Option AnyValue
read_int t text =
    option_and_then (λ n. if fits_number n t then Some (av.Int n) else None) (read_number text)

-- the text of a truth value
abbrev pub read_boolean : List ℕ → Option AnyValue
read_boolean text =
    if bytes_eq text (codes "true") then Some (av.Boolean true)
    else (if bytes_eq text (codes "false") then Some (av.Boolean false) else None)

-- a text in UTF-8
abbrev pub read_text : List ℕ → Option AnyValue
read_text text = if is_utf8 text then Some (av.Text text) else None

-- a text that isn't empty, as a value of a type
abbrev pub read_some : DataType → List ℕ → Option AnyValue
read_some dt.Boolean text = read_boolean text
read_some dt.Int8 text = read_int dt.Int8 text
read_some dt.Int16 text = read_int dt.Int16 text
read_some dt.Int32 text = read_int dt.Int32 text
read_some dt.Int64 text = read_int dt.Int64 text
read_some dt.UInt8 text = read_int dt.UInt8 text
read_some dt.UInt16 text = read_int dt.UInt16 text
read_some dt.UInt32 text = read_int dt.UInt32 text
read_some dt.UInt64 text = read_int dt.UInt64 text
read_some dt.Int128 text = read_int dt.Int128 text
read_some dt.Date text = read_int dt.Date text
read_some dt.String text = read_text text

-- the value of a field of a type, where it reads: the empty field is null
abbrev pub read_field : DataType → List ℕ → Option AnyValue
read_field t [] = Some av.Null
read_field t (b ∷ bs) = read_some t (b ∷ bs)
