-- What an aggregate makes of placed values.
use Rattle.std.specs.Prelude.{ℕ, ℤ, pos, ◌+ℤ◌, Bool, true, false, List, [], ◌∷◌, length, map, filter, fold, not, Option, Some, None, if◌then◌else◌}
use Rattle.std.specs.Ordering.{match_ordering}
use Rattle.pipe_columns.specs.declared.data_type.DataType.{DataType}
use Rattle.pipe_columns.specs.declared.data_type.DataType.TheVariants as dt
use Rattle.pipe_columns.specs.declared.any_value.AnyValue.{AnyValue}
use Rattle.pipe_columns.specs.declared.any_value.AnyValue.TheVariants as av
use Rattle.pipe_columns.specs.declared.place.Place.{Place}
use Rattle.pipe_columns.specs.AnyValue.{is_null, value_cmp}
use Rattle.pipe_columns.specs.Place.{first_entry, last_entry}
use Rattle.pipe_columns.specs.DataType.{sum_type, wrapped}
use Rattle.pipe_model.specs.Kind.{Kind}
use Rattle.pipe_model.specs.Kind as kind

-- the number that a value adds to a sum: true adds 1
abbrev pub addend : AnyValue → ℤ
addend av.Null = pos 0
addend (av.Boolean b) = if b then pos 1 else pos 0
addend (av.Int n) = n
addend (av.Text s) = pos 0

-- the exact sum
abbrev pub exact_sum : List AnyValue → ℤ
exact_sum values = fold (λ sum v. sum +ℤ addend v) (pos 0) values

-- the values that are no null
abbrev pub present : List AnyValue → List AnyValue
present values = filter (λ v. not (is_null v)) values

-- the lesser of two values, the first on a tie
abbrev pub lesser : AnyValue → AnyValue → AnyValue
lesser a b = match_ordering (value_cmp b a) b a a

-- the greater of two values, the first on a tie
abbrev pub greater : AnyValue → AnyValue → AnyValue
greater a b = match_ordering (value_cmp b a) a a b

-- the extreme of some values, null for none
abbrev pub extreme : (AnyValue → AnyValue → AnyValue) → List AnyValue → AnyValue
extreme choose [] = av.Null
extreme choose (v ∷ vs) = fold choose v vs

-- a count as a value
abbrev pub counted : ℕ → AnyValue
counted n = av.Int (pos n)

-- the exact sum of some values, null for none
abbrev pub sum_if_any : List AnyValue → AnyValue
sum_if_any [] = av.Null
sum_if_any (v ∷ vs) = av.Int (exact_sum (v ∷ vs))

-- the value of an entry, null for none
abbrev pub entry_value : Option (Place × AnyValue) → AnyValue
entry_value None = av.Null
entry_value (Some e) = e.1

-- a sum of values of a type: of texts there is none
abbrev pub total : DataType → List AnyValue → AnyValue
total dt.String values = av.Null
total t values = av.Int (wrapped (sum_type t) (exact_sum values))

-- a mean of values of a type, as its two halves: of texts there is none
abbrev pub halves : DataType → List AnyValue → List AnyValue
halves dt.String values = av.Null ∷ []
halves t values = sum_if_any (present values) ∷ counted (length (present values)) ∷ []

-- the values of entries
abbrev pub values_in : List (Place × AnyValue) → List AnyValue
values_in entries = map (λ e. e.1) entries

-- whether an aggregate looks at places: the others look at values alone
abbrev pub reads_places : Kind → Bool
reads_places kind.sum = false
reads_places kind.mean = false
reads_places kind.min = false
reads_places kind.max = false
reads_places kind.first = true
reads_places kind.last = true
reads_places kind.count = false
reads_places kind.len = false

-- what an aggregate over values of a type gives, a value for each of its output columns
abbrev pub agg : Kind → DataType → List (Place × AnyValue) → List AnyValue
agg kind.sum t entries = total t (values_in entries) ∷ []
agg kind.mean t entries = halves t (values_in entries)
agg kind.min t entries = extreme lesser (present (values_in entries)) ∷ []
agg kind.max t entries = extreme greater (present (values_in entries)) ∷ []
agg kind.first t entries = entry_value (first_entry entries) ∷ []
agg kind.last t entries = entry_value (last_entry entries) ∷ []
agg kind.count t entries = counted (length (present (values_in entries))) ∷ []
agg kind.len t entries = counted (length entries) ∷ []
