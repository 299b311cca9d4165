-- The code of a tuple of keys, and the partition that it falls in.
use Rattle.std.specs.Prelude.{◌+◌, ◌*◌, ◌%◌, ◌^◌, ◌-◌, ◌==◌, ℕ, ℤ, pos, negsuc, ◌+ℤ◌, List, [], ◌∷◌, ◌++◌, fold, if◌then◌else◌}
use Rattle.std.specs.Int.{bytes_high_first}
use Rattle.pipe_columns.specs.declared.data_type.DataType.{DataType}
use Rattle.pipe_columns.specs.declared.data_type.DataType.TheVariants as dt
use Rattle.pipe_columns.specs.declared.any_value.AnyValue.{AnyValue}
use Rattle.pipe_columns.specs.declared.any_value.AnyValue.TheVariants as av

-- a number of that many bytes, most significant first
abbrev pub unsigned_code : ℕ → ℤ → List ℕ
unsigned_code width (pos n) = bytes_high_first width n
unsigned_code width (negsuc n) = []

-- a signed number in two's complement with the top bit flipped: it is counted from the least one
abbrev pub signed_code : ℕ → ℤ → List ℕ
signed_code width n = unsigned_code width (n +ℤ pos (2 ^ (8 * width - 1)))

-- the bytes of a number of a type
abbrev pub number_code : DataType → ℤ → List ℕ
number_code dt.Boolean n = []
number_code dt.Int8 n = signed_code 1 n
number_code dt.Int16 n = signed_code 2 n
number_code dt.Int32 n = signed_code 4 n
number_code dt.Int64 n = signed_code 8 n
number_code dt.UInt8 n = unsigned_code 1 n
number_code dt.UInt16 n = unsigned_code 2 n
number_code dt.UInt32 n = unsigned_code 4 n
number_code dt.UInt64 n = unsigned_code 8 n
number_code dt.Int128 n = signed_code 16 n
number_code dt.Date n = signed_code 4 n
number_code dt.String n = []

-- the bytes of a text, each 0 written 0 1, then 0 0
abbrev pub text_code : List ℕ → List ℕ
text_code [] = 0 ∷ 0 ∷ []
text_code (b ∷ bs) = if b == 0 then 0 ∷ 1 ∷ text_code bs else b ∷ text_code bs

-- null is 0; else 1 and the body
abbrev pub value_code : DataType → AnyValue → List ℕ
value_code t av.Null = 0 ∷ []
value_code t (av.Boolean b) = 1 ∷ (if b then 1 else 0) ∷ []
value_code t (av.Int n) = 1 ∷ number_code t n
value_code t (av.Text s) = 1 ∷ text_code s

-- the codes of a tuple's values, joined
abbrev pub code : List DataType → List AnyValue → List ℕ
code [] values = []
code (t ∷ types) [] = []
code (t ∷ types) (v ∷ values) = value_code t v ++ code types values

-- the number of some bytes
abbrev pub fold_bytes : List ℕ → ℕ
fold_bytes bytes = fold (λ h b. (h * 31 + b) % 2 ^ 64) 0 bytes

-- the partition of a tuple, out of so many
abbrev pub partition : ℕ → List DataType → List AnyValue → ℕ
partition partitions types key = fold_bytes (code types key) % partitions
