-- Which values stand in a tuple of given types, and which bytes are the code of none.
use Rattle.std.specs.Prelude.{◌≡◌, ◌≢◌, ◌++◌, ℕ, List, true, All}
use Rattle.std.specs.List.{AllZip}
use Rattle.pipe_columns.specs.declared.data_type.DataType.{DataType}
use Rattle.pipe_columns.specs.declared.any_value.AnyValue.{AnyValue}
use Rattle.pipe_columns.specs.AnyValue.{fits, HasUtf8}
use Rattle.pipe_columns.specs.Key.{code, value_code}

-- as many values as types, and each fits its type
abbrev pub AreOfTypes : List DataType → List AnyValue → Type 0
AreOfTypes types values = AllZip (λ t v. fits v t ≡ true) types values

-- a value that a program can hold in a column of a type
pub record IsValue (t : DataType) (v : AnyValue) : Type 0 where
  pub fits : fits v t ≡ true
  pub utf8 : HasUtf8 v

-- a tuple that a program can hold in columns of these types
pub record IsTuple (types : List DataType) (values : List AnyValue) : Type 0 where
  pub of_types : AreOfTypes types values
  pub utf8 : All HasUtf8 values

-- no tuple of the types has these bytes as its code
abbrev pub IsCodeOfNone : List DataType → List ℕ → Type 0
IsCodeOfNone types bytes = (values : List AnyValue) → IsTuple types values → code types values ≢ bytes

-- the bytes begin with the code of no value of the type
abbrev pub BeginsNoValue : DataType → List ℕ → Type 0
BeginsNoValue t bytes =
    (v : AnyValue) (rest : List ℕ) → IsValue t v → value_code t v ++ rest ≢ bytes
