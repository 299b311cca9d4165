-- The roles of columns.
use Rattle.std.specs.Prelude.{ℕ, ◌||◌, Bool, true, false, List, [], ◌∷◌, codes, Option}
use Rattle.pipe_columns.specs.declared.data_type.DataType.{DataType}
use Rattle.pipe_columns.specs.DataType.{has_mean, is_date, is_integer}
use Rattle.pipe_model.specs.Expr.{Aggregation}
use Rattle.pipe_model.specs.Expr as expr
use Rattle.pipe_query.specs.JsonNames.{named}
use Rattle.lavzimo_words.specs.declared.role.Role.{Role}
use Rattle.lavzimo_words.specs.declared.role.Role.TheVariants as role

-- the option of a role
abbrev pub option_of : Role → List ℕ
option_of role.Key = codes "by"
option_of role.Rows = codes "count"
option_of role.Values = codes "count-of"
option_of role.Sum = codes "sum"
option_of role.Mean = codes "mean"
option_of role.Least = codes "min"
option_of role.Greatest = codes "max"
option_of role.First = codes "first"
option_of role.Last = codes "last"

-- the role of an option that gives shown columns beside the keys
abbrev pub role_named : List ℕ → Option Role
role_named = named (
    (codes "count", role.Rows) ∷ (codes "count-of", role.Values) ∷ (codes "sum", role.Sum)
    ∷ (codes "mean", role.Mean) ∷ (codes "min", role.Least) ∷ (codes "max", role.Greatest)
    ∷ (codes "first", role.First) ∷ (codes "last", role.Last) ∷ [])

-- what stands before a column's name in the name of what is shown, where no other is given
abbrev pub prefix_of : Role → List ℕ
prefix_of role.Key = []
prefix_of role.Rows = codes "count"
prefix_of role.Values = codes "count_of_"
prefix_of role.Sum = codes "sum_"
prefix_of role.Mean = codes "mean_"
prefix_of role.Least = codes "min_"
prefix_of role.Greatest = codes "max_"
prefix_of role.First = codes "first_"
prefix_of role.Last = codes "last_"

-- whether a column is a key
abbrev pub is_key : Role → Bool
is_key role.Key = true
is_key role.Rows = false
is_key role.Values = false
is_key role.Sum = false
is_key role.Mean = false
is_key role.Least = false
is_key role.Greatest = false
is_key role.First = false
is_key role.Last = false

-- whether rows are counted
abbrev pub is_rows : Role → Bool
is_rows role.Key = false
is_rows role.Rows = true
is_rows role.Values = false
is_rows role.Sum = false
is_rows role.Mean = false
is_rows role.Least = false
is_rows role.Greatest = false
is_rows role.First = false
is_rows role.Last = false

-- whether a role is a mean
abbrev pub is_mean : Role → Bool
is_mean role.Key = false
is_mean role.Rows = false
is_mean role.Values = false
is_mean role.Sum = false
is_mean role.Mean = true
is_mean role.Least = false
is_mean role.Greatest = false
is_mean role.First = false
is_mean role.Last = false

-- whether a role has two columns in the answer, a sum and a count
abbrev pub has_halves : Role → Bool
has_halves role.Key = false
has_halves role.Rows = false
has_halves role.Values = false
has_halves role.Sum = true
has_halves role.Mean = true
has_halves role.Least = false
has_halves role.Greatest = false
has_halves role.First = false
has_halves role.Last = false

-- whether a role compares values
abbrev pub is_compared : Role → Bool
is_compared role.Key = false
is_compared role.Rows = false
is_compared role.Values = false
is_compared role.Sum = false
is_compared role.Mean = false
is_compared role.Least = true
is_compared role.Greatest = true
is_compared role.First = false
is_compared role.Last = false

-- whether a role is one of numbers, which are added or compared
abbrev pub is_of_numbers : Role → Bool
is_of_numbers r = has_halves r || is_compared r

-- whether a column of a type may have a role: texts and days aren't added up, and only whole numbers
-- and days are compared
abbrev pub suits : Role → DataType → Bool
suits role.Key t = true
suits role.Rows t = true
suits role.Values t = true
suits role.Sum t = has_mean t
suits role.Mean t = has_mean t
suits role.Least t = is_integer t || is_date t
suits role.Greatest t = is_integer t || is_date t
suits role.First t = true
suits role.Last t = true

-- how the values of a column are summed up: sums and means are halves of a mean, which are exact;
-- neither keys nor rows are summed up
abbrev pub aggregation_of : Role → Aggregation
aggregation_of role.Key = expr.first
aggregation_of role.Rows = expr.first
aggregation_of role.Values = expr.count false
aggregation_of role.Sum = expr.mean
aggregation_of role.Mean = expr.mean
aggregation_of role.Least = expr.min false
aggregation_of role.Greatest = expr.max false
aggregation_of role.First = expr.first
aggregation_of role.Last = expr.last
