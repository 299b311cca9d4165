-- Of the proofs alone: how the results of state rows join, output column by output column.
use Rattle.std.specs.Prelude.{ℕ, ◌+◌, ◌+ℤ◌, ◌||◌, pos, Bool, true, false, if◌then◌else◌, List, [], ◌∷◌}
use Rattle.std.specs.List.{flat_map}
use Rattle.std.specs.Ordering.{int_eq, is_gt, is_lt}
use Rattle.pipe_columns.specs.declared.any_value.AnyValue.{AnyValue}
use Rattle.pipe_columns.specs.declared.any_value.AnyValue.TheVariants as av
use Rattle.pipe_columns.specs.declared.data_type.DataType.{DataType}
use Rattle.pipe_columns.specs.declared.data_type.DataType.TheVariants as dt
use Rattle.pipe_columns.specs.AnyValue.{is_null, value_cmp}
use Rattle.pipe_columns.specs.DataType.{wrapped}
use Rattle.pipe_columns.specs.Frame.{value_at}
use Rattle.pipe_columns.specs.Place.{first_entry, last_entry}
use Rattle.pipe_model.specs.Aggregate.{addend, entry_value, exact_sum, extreme, greater, lesser, present, sum_if_any}
use Rattle.pipe_running.specs.declared.interface.Finalized.{Finalized}
use Rattle.pipe_running.specs.declared.interface.Finalized.TheVariants as finalized
use Rattle.pipe_running.specs.declared.min_max.Direction.{Direction}
use Rattle.pipe_running.specs.declared.min_max.Direction.TheVariants as direction
use Rattle.pipe_running.specs.declared.function.AggregateFunction.{AggregateFunction}
use Rattle.pipe_running.specs.declared.function.AggregateFunction.TheVariants as function
use Rattle.pipe_states.specs.Regrouped.{first_results, last_results, results_at}
use Rattle.pipe_states.specs.declared.state_row.StateRow.{StateRow}
use Rattle.pipe_regroup.specs.declared.rule.Rule.{Rule}
use Rattle.pipe_regroup.specs.declared.rule.Rule.TheVariants as rule

-- ---- rules of aggregates

-- the rule of a least or a greatest value
abbrev pub extreme_rule : Direction → Rule
extreme_rule direction.Min = rule.Least
extreme_rule direction.Max = rule.Greatest

-- the rules of the output columns of a running aggregate
abbrev pub rules_of : AggregateFunction → List Rule
rules_of (function.First a) = rule.First ∷ []
rules_of (function.Last a) = rule.Last ∷ []
rules_of (function.Count a) = rule.SumU32 ∷ []
rules_of (function.Len a) = rule.SumU32 ∷ []
rules_of (function.SumU32 a) = rule.SumU32 ∷ []
rules_of (function.SumU64 a) = rule.SumU64 ∷ []
rules_of (function.SumI32 a) = rule.SumI32 ∷ []
rules_of (function.SumI64 a) = rule.SumI64 ∷ []
rules_of (function.Mean a) = rule.MeanSum ∷ rule.SumU32 ∷ []
rules_of (function.Null a) = rule.Null ∷ []
rules_of (function.MinMaxU8 a) = extreme_rule a.direction ∷ []
rules_of (function.MinMaxU16 a) = extreme_rule a.direction ∷ []
rules_of (function.MinMaxU32 a) = extreme_rule a.direction ∷ []
rules_of (function.MinMaxU64 a) = extreme_rule a.direction ∷ []
rules_of (function.MinMaxI8 a) = extreme_rule a.direction ∷ []
rules_of (function.MinMaxI16 a) = extreme_rule a.direction ∷ []
rules_of (function.MinMaxI32 a) = extreme_rule a.direction ∷ []
rules_of (function.MinMaxI64 a) = extreme_rule a.direction ∷ []

-- whether a running aggregate is a least or a greatest value
abbrev pub is_extreme : AggregateFunction → Bool
is_extreme (function.MinMaxU8 a) = true
is_extreme (function.MinMaxU16 a) = true
is_extreme (function.MinMaxU32 a) = true
is_extreme (function.MinMaxU64 a) = true
is_extreme (function.MinMaxI8 a) = true
is_extreme (function.MinMaxI16 a) = true
is_extreme (function.MinMaxI32 a) = true
is_extreme (function.MinMaxI64 a) = true
is_extreme f = false

-- whether the number 0 was given
abbrev pub is_zero : Finalized → Bool
is_zero (finalized.One (av.Int n)) = int_eq n (pos 0)
is_zero given = false

-- the rules of some
abbrev pub all_rules : List AggregateFunction → List Rule
all_rules fs = flat_map rules_of fs

-- ---- what many state rows come to

-- what a rule makes of the results in the output column at position j
abbrev pub by_rule : Rule → ℕ → List StateRow → AnyValue
by_rule rule.SumU32 j rows = av.Int (wrapped dt.UInt32 (exact_sum (results_at j rows)))
by_rule rule.SumU64 j rows = av.Int (wrapped dt.UInt64 (exact_sum (results_at j rows)))
by_rule rule.SumI32 j rows = av.Int (wrapped dt.Int32 (exact_sum (results_at j rows)))
by_rule rule.SumI64 j rows = av.Int (wrapped dt.Int64 (exact_sum (results_at j rows)))
by_rule rule.MeanSum j rows = sum_if_any (present (results_at j rows))
by_rule rule.Null j rows = av.Null
by_rule rule.Least j rows = extreme lesser (present (results_at j rows))
by_rule rule.Greatest j rows = extreme greater (present (results_at j rows))
by_rule rule.First j rows = entry_value (first_entry (first_results j rows))
by_rule rule.Last j rows = entry_value (last_entry (last_results j rows))

-- what rules make of the output columns from position j on
abbrev pub by_rules : ℕ → List Rule → List StateRow → List AnyValue
by_rules j [] rows = []
by_rules j (r ∷ rules) rows = by_rule r j rows ∷ by_rules (j + 1) rules rows

-- ---- what one more state row makes of a result

-- two numbers added, wrapped into a type
abbrev pub added : DataType → AnyValue → AnyValue → AnyValue
added t a b = av.Int (wrapped t (addend a +ℤ addend b))

-- one of two values, or the other where it is null
abbrev pub chosen : Bool → AnyValue → AnyValue → AnyValue
chosen takes_over a b = if is_null b then a else if is_null a || takes_over then b else a

-- what a rule makes of a result and that of one more state row, whose least place may be earlier,
-- and its greatest later
abbrev pub joined : Rule → Bool → Bool → AnyValue → AnyValue → AnyValue
joined rule.SumU32 earlier later a b = added dt.UInt32 a b
joined rule.SumU64 earlier later a b = added dt.UInt64 a b
joined rule.SumI32 earlier later a b = added dt.Int32 a b
joined rule.SumI64 earlier later a b = added dt.Int64 a b
joined rule.MeanSum earlier later a b = if is_null b then a else added dt.Int128 a b
joined rule.Null earlier later a b = a
joined rule.Least earlier later a b = chosen (is_lt (value_cmp b a)) a b
joined rule.Greatest earlier later a b = chosen (is_gt (value_cmp b a)) a b
joined rule.First earlier later a b = if earlier then b else a
joined rule.Last earlier later a b = if later then b else a

-- what rules make of results, with those of one more state row from position j on
abbrev pub joined_from : Bool → Bool → ℕ → List Rule → List AnyValue → List AnyValue → List AnyValue
joined_from earlier later j [] more held = []
joined_from earlier later j (r ∷ rules) more held =
    joined r earlier later (value_at held j) (value_at more j)
    ∷ joined_from earlier later (j + 1) rules more held
