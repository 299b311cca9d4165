-- Where shown columns stand in the answer of their query.
use Rattle.std.specs.Prelude.{ℕ, ◌++◌, List, [], ◌∷◌, codes, take, drop, if◌then◌else◌}
use Rattle.pipe_columns.specs.declared.data_type.DataType.{DataType}
use Rattle.pipe_columns.specs.declared.data_type.DataType.TheVariants as dt
use Rattle.pipe_columns.specs.declared.schema.Field.{Field}
use Rattle.pipe_columns.specs.DataType.{is_date}
use Rattle.lavzimo_words.specs.Roles.{has_halves, is_key, is_mean}
use Rattle.lavzimo_words.specs.declared.asked_column.AskedColumn.{AskedColumn}
use Rattle.lavzimo_words.specs.declared.role.Role.{Role}
use Rattle.lavzimo_words.specs.declared.role.Role.TheVariants as role
use Rattle.lavzimo_words.specs.declared.source.Source.{Source}
use Rattle.lavzimo_words.specs.declared.source.Source.TheVariants as source

-- the type of what is shown of a column of a type: counts have 32 bits, sums are exact, and days
-- that are compared are numbers
abbrev pub shown_type : Role → DataType → DataType
shown_type role.Key t = t
shown_type role.Rows t = dt.UInt32
shown_type role.Values t = dt.UInt32
shown_type role.Sum t = dt.Int128
shown_type role.Mean t = dt.Int128
shown_type role.Least t = if is_date t then dt.Int32 else t
shown_type role.Greatest t = if is_date t then dt.Int32 else t
shown_type role.First t = t
shown_type role.Last t = t

-- how names of the answer's columns end
abbrev pub ending_of : Role → List ℕ
ending_of r =
    if is_key r then codes "_key" else (if has_halves r then codes "_sum" else codes "_value")

-- the answer's column of a shown one: its value, or the exact sum of its mean
abbrev pub value_field : AskedColumn → Field
value_field c = record { name = c.name ++ ending_of c.role; dtype = shown_type c.role c.dtype }

-- the answer's column with the count of a mean or a sum
abbrev pub count_field : AskedColumn → Field
count_field c = record { name = c.name ++ codes "_count"; dtype = dt.UInt32 }

-- the answer's columns that are shown as one
abbrev pub shown_fields : AskedColumn → List Field
shown_fields c = if is_mean c.role then value_field c ∷ count_field c ∷ [] else value_field c ∷ []

-- the columns of an answer at a source
abbrev pub fields_at : List Field → Source → List Field
fields_at answer (source.Value place) = take 1 (drop place answer)
fields_at answer (source.Mean place) = take 2 (drop place answer)
