-- What an aggregate gives of two joined lists, by what it gives of each.
use Rattle.std.specs.Prelude.{List, [], ◌∷◌, ◌++◌}
use Rattle.pipe_columns.specs.declared.data_type.DataType.{DataType}
use Rattle.pipe_columns.specs.declared.data_type.DataType.TheVariants as dt
use Rattle.pipe_columns.specs.declared.any_value.AnyValue.{AnyValue}
use Rattle.pipe_columns.specs.declared.any_value.AnyValue.TheVariants as av
use Rattle.pipe_columns.specs.DataType.{sum_type}
use Rattle.pipe_columns.specs.Frame.{value_at}
use Rattle.pipe_model.specs.Aggregate.{exact_sum, extreme, greater, lesser, present, sum_if_any, total}
use Rattle.pipe_model.specs.Kind.{Kind}
use Rattle.pipe_model.specs.Kind as kind

-- the halves of a mean, by those of two: a sum that is null adds nothing, and counts add
abbrev pub merged_halves : DataType → List AnyValue → List AnyValue → List AnyValue
merged_halves dt.String a b = av.Null ∷ []
merged_halves t a b =
    sum_if_any (present (value_at a 0 ∷ value_at b 0 ∷ []))
    ∷ av.Int (exact_sum (value_at a 1 ∷ value_at b 1 ∷ [])) ∷ []

-- what an aggregate over values of a type gives of two joined lists, by what it gives of each: a
-- first and a last need places, and have nothing here
abbrev pub merged : Kind → DataType → List AnyValue → List AnyValue → List AnyValue
merged kind.sum t a b = total (sum_type t) (a ++ b) ∷ []
merged kind.mean t a b = merged_halves t a b
merged kind.min t a b = extreme lesser (present (a ++ b)) ∷ []
merged kind.max t a b = extreme greater (present (a ++ b)) ∷ []
merged kind.first t a b = []
merged kind.last t a b = []
merged kind.count t a b = av.Int (exact_sum (a ++ b)) ∷ []
merged kind.len t a b = av.Int (exact_sum (a ++ b)) ∷ []
