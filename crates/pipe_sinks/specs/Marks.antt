-- Of the proofs alone: keys of one value, and the marks that they are found by.
use Rattle.std.specs.Prelude.{◌≡◌, ◌-◌, ◌^◌, ◌==◌, ℕ, ℤ, pos, negsuc, nat_lt, Bool, false, if◌then◌else◌, List, [], ◌∷◌}
use Rattle.pipe_chains.specs.Hash.{hash_of}
use Rattle.pipe_columns.specs.declared.any_value.AnyValue.{AnyValue}
use Rattle.pipe_columns.specs.declared.any_value.AnyValue.TheVariants as av
use Rattle.pipe_columns.specs.declared.data_type.DataType.{DataType}
use Rattle.pipe_columns.specs.declared.data_type.DataType.TheVariants as dt
use Rattle.pipe_columns.specs.Key.{code}
use Rattle.pipe_spill.specs.KeyTypes.{AreOfTypes}
pub use Rattle.pipe_sinks.specs.SoleKeys.{is_wide, IsSole}

-- whether a number lies between -2^64 and 2^64
abbrev pub is_narrow : ℤ → Bool
is_narrow (pos n) = nat_lt n (2 ^ 64)
is_narrow (negsuc n) = nat_lt n (2 ^ 64)

-- the mark of a number: itself, or, below 0, what it is more than -2^64
abbrev pub number_mark : ℤ → ℕ
number_mark (pos n) = n
number_mark (negsuc n) = 2 ^ 64 - 1 - n

-- the mark of a value: of a text a hash
abbrev pub mark_of : AnyValue → ℕ
mark_of av.Null = 0
mark_of (av.Boolean b) = if b then 1 else 0
mark_of (av.Int n) = number_mark n
mark_of (av.Text s) = hash_of s

-- the code of a key of one value
abbrev pub sole_code : List DataType → AnyValue → List ℕ
sole_code types v = code types (v ∷ [])

-- a value that may be that key
abbrev pub IsSoleValue : List DataType → AnyValue → Type 0
IsSoleValue types v = AreOfTypes types (v ∷ [])

-- the code of a value that may be the one key, and its mark
pub record IsMarkedKey (types : List DataType) (key : List ℕ) (mark : ℕ) : Type 0 where
  pub sole : IsSole types
  pub value : AnyValue
  pub fit : IsSoleValue types value
  pub key_is : key ≡ sole_code types value
  pub mark_is : mark ≡ mark_of value

-- a value that may be the one key is looked for by its mark
pub record IsSought (types : List DataType) (value : AnyValue) (mark : ℕ) : Type 0 where
  pub sole : IsSole types
  pub fit : IsSoleValue types value
  pub mark_is : mark ≡ mark_of value

-- the one key is one of texts
abbrev pub IsTextKey : List DataType → Type 0
IsTextKey types = types ≡ dt.String ∷ []

-- whether bytes begin with one
abbrev pub begins : ℕ → List ℕ → Bool
begins byte [] = false
begins byte (b ∷ bs) = b == byte
